use Rattle.casd_daemon.specs.Hosting.{tellers}
use Rattle.casd_daemon.proofs.OneConn.{served_seat}
use Rattle.casd_daemon.proofs.child.serve_seat.Goals as goal

pub returns : goal.returns
returns g c =
    served_seat (tellers g.K.Shelf.shelved g.L.Link.left g.L.Link.written g.L.Link.read_faults g.L.Link.write_faults g.L.Link.sent g.L.Link.at_end) c.args.lock.now c.args.seat c.into_seat-seat.result c.args.conn
    (record { link = c.serve_connection-report.new.link; shelf = c.serve_connection-report.new.shelf }) c.serve_connection-report.result c.new-door.result.view c.serve_connection-report.new.door.view
    c.requires.given c.new-door.ensures.view c.into_seat-seat.ensures.seat c.into_seat-seat.ensures.idle c.left-turns.ensures.budget c.left-turns.ensures.own c.serve_connection-report.ensures
