use Rattle.std.proofs.Common.{◌^◌, ◌≡◌, ◌<◌, true, Option, subst, sym}
use Rattle.std.specs.Prelude.{IfSome}
use Rattle.live_calls.specs.Places.{is_giving}
use Rattle.casd_connection.specs.Waiters.{Waiter}
use Rattle.casd_connection.specs.Steps.{due_in}
use Rattle.casd_connection.proofs.TurnLaws.{on_ok, always_ok, always_err, row_turned, row_broken, nearer}
use Rattle.casd_connection.proofs.connection.Connection.resume_row.Goals as goal

pub returns-clause-ok : goal.returns-clause-ok
returns-clause-ok g c =
    on_ok c.apply.result
    (λ moves. row_turned c.args.happening c.args.row c.take_row-stream.result c.args.self.now.calls c.take_row-stream.new.self.calls c.apply.new.self.calls c.args.self.now.live.items c.take_row-stream.new.self.live.items c.apply.new.self.live.items
    c.args.self.now.over c.take_row-stream.new.self.over c.apply.new.self.over
    (g.D.Door.view c.args.door.now) (g.D.Door.view c.resume-outcome.new.door) (g.K.Shelf.shelved c.args.shelf.now) (g.K.Shelf.shelved c.resume-outcome.new.shelf) (2 ^ 22) c.resume-outcome.result
    c.take_row-stream.ensures.call c.take_row-stream.ensures.live c.take_row-stream.ensures.rest.0 c.take_row-stream.ensures.rest.1 c.resume-outcome.ensures.plays moves)
    c.apply.ensures.ok

pub returns-clause-err : goal.returns-clause-err
returns-clause-err g c =
    always_err c.apply.result
    (row_broken c.args.happening c.args.row c.take_row-stream.result c.args.self.now.calls c.args.self.now.live.items c.args.self.now.over
    (g.D.Door.view c.args.door.now) (g.D.Door.view c.resume-outcome.new.door) (g.K.Shelf.shelved c.args.shelf.now) (g.K.Shelf.shelved c.resume-outcome.new.shelf) (2 ^ 22) c.resume-outcome.result
    c.take_row-stream.ensures.call c.resume-outcome.ensures.plays)

pub returns-clause-less : goal.returns-clause-less
returns-clause-less g c =
    always_ok c.apply.result (λ woken.
    subst (λ (o : Option Waiter). IfSome o (λ l. is_giving l.place ≡ true → due_in c.apply.new.self.live.items < due_in c.args.self.now.live.items)) (sym c.take_row-stream.ensures.call)
    (λ giving. nearer c.resume-outcome.result c.args.row c.take_row-stream.result c.take_row-stream.new.self.calls c.args.self.now.live.items c.take_row-stream.new.self.live.items c.apply.new.self.live.items c.take_row-stream.new.self.over
    c.take_row-stream.ensures.call c.take_row-stream.ensures.live c.apply.ensures.table (c.resume-outcome.ensures.less woken giving)))
