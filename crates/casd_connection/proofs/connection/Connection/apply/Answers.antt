use Rattle.std.proofs.Common.{ℕ, List, [], ◌∷◌, subst}
use Rattle.casd_connection.specs.Exchange.{Reply}
use Rattle.casd_connection.specs.Steps.{Speaks}
use Rattle.casd_connection.proofs.TurnLaws.{on_ok, rested, vanished, finishes_moves, gives_moves}
use Rattle.casd_connection.proofs.connection.Connection.apply.Goals as goal

pub returns-in-Finishes-clause-ok : goal.returns-in-Finishes-clause-ok
returns-in-Finishes-clause-ok g c =
    rw c.in-Finishes.is
    (on_ok c.answer.result
    (λ speaks. finishes_moves c.args.stream c.args.row c.in-Finishes.message c.in-Finishes.status c.args.self.now.calls c.remove_row.new.self.calls c.answer.new.calls c.args.self.now.live.items c.remove_row.new.self.live.items c.args.self.now.over c.remove_row.new.self.over
    c.remove_row.ensures.rest.0 c.remove_row.ensures.rest.1 c.remove_row.ensures.live speaks)
    c.answer.ensures)

pub returns-in-Gives-clause-ok : goal.returns-in-Gives-clause-ok
returns-in-Gives-clause-ok g c =
    rw c.in-Gives.is
    (on_ok c.give.result
    (λ speaks. gives_moves c.args.stream c.args.row c.in-Gives.message c.in-Gives.place c.args.self.now.calls c.put_row-in-Gives.new.self.calls c.give.new.calls c.args.self.now.live.items c.put_row-in-Gives.new.self.live.items c.args.self.now.over c.put_row-in-Gives.new.self.over
    c.put_row-in-Gives.ensures.rest.0 c.put_row-in-Gives.ensures.rest.1 c.put_row-in-Gives.ensures.live (subst (λ (m : List ℕ). Speaks c.put_row-in-Gives.new.self.calls c.give.new.calls (Reply c.args.stream m ∷ [])) c.as_slice.ensures speaks))
    c.give.ensures)

pub returns-in-Rests-clause-ok : goal.returns-in-Rests-clause-ok
returns-in-Rests-clause-ok g c =
    rw c.in-Rests.is
    (rested c.args.stream c.args.row c.in-Rests.place c.args.self.now.calls c.put_row.new.self.calls c.args.self.now.live.items c.put_row.new.self.live.items c.args.self.now.over c.put_row.new.self.over c.put_row.ensures.rest.0 c.put_row.ensures.rest.1 c.put_row.ensures.live)

pub returns-in-Vanishes-clause-ok : goal.returns-in-Vanishes-clause-ok
returns-in-Vanishes-clause-ok g c =
    rw c.in-Vanishes.is
    (vanished c.args.stream c.args.row c.args.self.now.calls c.remove_row-in-Vanishes.new.self.calls c.args.self.now.live.items c.remove_row-in-Vanishes.new.self.live.items c.args.self.now.over c.remove_row-in-Vanishes.new.self.over
    c.remove_row-in-Vanishes.ensures.rest.0 c.remove_row-in-Vanishes.ensures.rest.1 c.remove_row-in-Vanishes.ensures.live)
