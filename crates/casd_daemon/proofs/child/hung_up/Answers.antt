use Rattle.std.proofs.Common.{false, sym, subst}
use Rattle.blob_store.specs.Doors.{door_view}
use Rattle.casd_connection.specs.Linked.{Linked}
use Rattle.casd_connection.specs.Written.{Serves}
use Rattle.casd_daemon.specs.Hosting.{tellers}
use Rattle.casd_daemon.proofs.child.hung_up.Goals as goal

pub returns : goal.returns
returns g c seat conn is =
    let tell = tellers g.K.Shelf.shelved g.L.Link.left g.L.Link.written g.L.Link.read_faults g.L.Link.write_faults g.L.Link.sent g.L.Link.at_end in
    let served = c.args.served in
    record {
      at_lock = is.at_lock;
      idle = is.idle;
      start = is.start;
      grant = is.grant;
      made = is.made;
      gone = is.gone;
      is_own = is.is_own;
      seen = is.seen;
      turns = is.turns;
      room = is.room;
      serves = subst (λ (x : Linked). Serves served.report (door_view seat false) (door_view served.seat false) (tell.shelved conn.shelf) (tell.shelved served.conn.shelf) (tell.linked conn.link) x) (sym c.hang_up.ensures) is.serves;
    }
