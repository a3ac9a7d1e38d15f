use Rattle.std.proofs.Common.{rules, ◌≡◌, Some, ap, ◌∙◌}
use Rattle.store_core.specs.State.{State}
use Rattle.store_core.specs.declared.event.Event.TheVariants as events
use Rattle.store_core.specs.Step.{step}
use Rattle.turn_lock.specs.Views.{state_of}
use Rattle.blob_store.specs.Kept.{Stocked}
use Rattle.blob_store.proofs.DoorSteps.{pass_turn, pass_turn_reply, pass_turn_adds}
use Rattle.blob_store.proofs.turns.pass_in_turn.Goals as goal

pub give-requires-clause-may : goal.give-requires-clause-may
give-requires-clause-may g c =
    let taken = c.take-turn.new.seat in
    let is : taken.view.owner ≡ Some c.unwrap-owner.result = search rules in
    let value : c.value.result.now.state ≡ state_of taken.view = ap (λ (x : Stocked). x.state) c.value.ensures.value ∙ c.take-turn.ensures.value in
    (pass_turn c.args.seat.now taken c.take-turn.result.ticket c.unwrap-owner.result c.requires.door c.take-turn.ensures.taken is).gives c.pass-reply.result c.pass-reply.new.self.state
    (c.pass-reply.ensures.step ∙ ap (λ (s : State). step s c.unwrap-owner.result events.Pass) value)

pub returns-clause-door : goal.returns-clause-door
returns-clause-door g c =
    (pass_turn_adds c.args.seat.now c.take-turn.new.seat c.give.new.seat c.take-turn.result.ticket c.pass-reply.result c.requires.door c.take-turn.ensures.taken c.give.ensures.given).door

pub returns-clause-made : goal.returns-clause-made
returns-clause-made g c =
    (pass_turn_adds c.args.seat.now c.take-turn.new.seat c.give.new.seat c.take-turn.result.ticket c.pass-reply.result c.requires.door c.take-turn.ensures.taken c.give.ensures.given).makes

pub returns-clause-answer : goal.returns-clause-answer
returns-clause-answer g c =
    let taken = c.take-turn.new.seat in
    let is : taken.view.owner ≡ Some c.unwrap-owner.result = search rules in
    let value : c.value.result.now.state ≡ state_of taken.view = ap (λ (x : Stocked). x.state) c.value.ensures.value ∙ c.take-turn.ensures.value in
    pass_turn_reply c.args.seat.now taken c.take-turn.result.ticket c.unwrap-owner.result c.pass-reply.result c.pass-reply.new.self.state c.requires.door c.take-turn.ensures.taken is
    (c.pass-reply.ensures.step ∙ ap (λ (s : State). step s c.unwrap-owner.result events.Pass) value)
