use Rattle.std.proofs.Common.{◌^◌, true, None, []}
use Rattle.live_calls.specs.Turns.{begun}
use Rattle.casd_connection.specs.Exchange.{go}
use Rattle.casd_connection.specs.Steps.{at}
use Rattle.casd_connection.proofs.CourseLaws.{moves_none}
use Rattle.casd_connection.proofs.TurnLaws.{always_err, at_once_broken, moved_turned, go_free}
use Rattle.casd_connection.proofs.connection.Connection.on_event.Goals as goal

pub returns-in-Begun-clause-err : goal.returns-in-Begun-clause-err
returns-in-Begun-clause-err g c =
    rw c.in-Begun.is
    (always_err c.begin.result
    (at_once_broken (g.D.Door.view c.args.door.now) (g.K.Shelf.shelved c.args.shelf.now) (2 ^ 22) (go (begun c.in-Begun.path) c.in-Begun.stream None (at c.args.self.now.calls c.args.self.now.live.items c.args.self.now.over []))
    c.requires.is_in (c.left-turns.ensures.seated c.requires.is_in)
    (go_free (begun c.in-Begun.path) c.in-Begun.stream None c.args.self.now.calls.session.part c.args.self.now.calls.calls c.args.self.now.calls.pending c.args.self.now.live.items c.args.self.now.over)))

pub returns-in-Ended-clause-ok : goal.returns-in-Ended-clause-ok
returns-in-Ended-clause-ok g c =
    rw c.in-Ended.is
    (moved_turned (g.D.Door.view c.args.door.now) (g.K.Shelf.shelved c.args.shelf.now) (2 ^ 22) (at c.args.self.now.calls c.args.self.now.live.items c.args.self.now.over []) (at c.args.self.now.calls c.args.self.now.live.items c.args.self.now.over [])
    c.args.self.now.calls.session.output c.args.self.now.calls.session.output c.requires.is_in (c.left-turns.ensures.seated c.requires.is_in)
    (moves_none (at c.args.self.now.calls c.args.self.now.live.items c.args.self.now.over []) c.args.self.now.calls.session.output))

pub returns-clause-ok : goal.returns-clause-ok
returns-clause-ok g c =
    rw c.in-GoAway.is
    (moved_turned (g.D.Door.view c.args.door.now) (g.K.Shelf.shelved c.args.shelf.now) (2 ^ 22) (at c.args.self.now.calls c.args.self.now.live.items true []) (at c.args.self.now.calls c.args.self.now.live.items true [])
    c.args.self.now.calls.session.output c.args.self.now.calls.session.output c.requires.is_in (c.left-turns.ensures.seated c.requires.is_in)
    (moves_none (at c.args.self.now.calls c.args.self.now.live.items true []) c.args.self.now.calls.session.output))
