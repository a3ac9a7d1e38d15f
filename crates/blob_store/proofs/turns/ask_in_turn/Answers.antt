use Rattle.std.proofs.Common.{rules, ◌≡◌, ◌-◌, ◌^◌, ◌<◌, Some, sym, ap, ◌∙◌, subst}
use Rattle.store_core.specs.State.{State}
use Rattle.store_core.specs.declared.event.Reply.{Reply}
use Rattle.store_core.specs.Step.{step}
use Rattle.turn_lock.specs.Views.{state_of}
use Rattle.blob_store.specs.Asked.{IsAnswer}
use Rattle.blob_store.specs.Kept.{Stocked}
use Rattle.blob_store.proofs.DoorSteps.{asked_in_turn, turn_makes}
use Rattle.blob_store.proofs.turns.ask_in_turn.Goals as goal

pub step-requires-clause-owners : goal.step-requires-clause-owners
step-requires-clause-owners g c =
    let taken = c.take-turn.new.seat in
    let is : taken.view.owner ≡ Some c.unwrap-owner.result = search rules in
    let it = asked_in_turn c.args.seat.now taken c.take-turn.result.ticket c.unwrap-owner.result c.args.event.now c.requires.door c.take-turn.ensures.taken is c.requires.may in
    let value : c.value.result.now.state ≡ state_of taken.view = ap (λ (x : Stocked). x.state) c.value.ensures.value ∙ c.take-turn.ensures.value in
    subst (λ (s : State). s.next_owner < 2 ^ 64 - 1) (sym value) it.owners

pub step-requires-clause-leases : goal.step-requires-clause-leases
step-requires-clause-leases g c =
    let taken = c.take-turn.new.seat in
    let is : taken.view.owner ≡ Some c.unwrap-owner.result = search rules in
    let it = asked_in_turn c.args.seat.now taken c.take-turn.result.ticket c.unwrap-owner.result c.args.event.now c.requires.door c.take-turn.ensures.taken is c.requires.may in
    let value : c.value.result.now.state ≡ state_of taken.view = ap (λ (x : Stocked). x.state) c.value.ensures.value ∙ c.take-turn.ensures.value in
    subst (λ (s : State). s.next_lease < 2 ^ 64 - 1) (sym value) it.leases

pub give-requires-clause-may : goal.give-requires-clause-may
give-requires-clause-may g c =
    let taken = c.take-turn.new.seat in
    let is : taken.view.owner ≡ Some c.unwrap-owner.result = search rules in
    let it = asked_in_turn c.args.seat.now taken c.take-turn.result.ticket c.unwrap-owner.result c.args.event.now c.requires.door c.take-turn.ensures.taken is c.requires.may in
    let value : c.value.result.now.state ≡ state_of taken.view = ap (λ (x : Stocked). x.state) c.value.ensures.value ∙ c.take-turn.ensures.value in
    it.gives c.in-Ok.reply c.step.new.self.state (c.in-Ok.ensures.ok ∙ ap (λ (s : State). step s c.unwrap-owner.result c.args.event.now) value)

pub returns-in-Ok-clause-door : goal.returns-in-Ok-clause-door
returns-in-Ok-clause-door g c =
    (turn_makes c.args.seat.now c.take-turn.new.seat c.give.new.seat c.take-turn.result.ticket c.args.event.now c.in-Ok.reply c.requires.door c.take-turn.ensures.taken c.give.ensures.given c.requires.may).door

pub returns-in-Ok-clause-made : goal.returns-in-Ok-clause-made
returns-in-Ok-clause-made g c =
    (turn_makes c.args.seat.now c.take-turn.new.seat c.give.new.seat c.take-turn.result.ticket c.args.event.now c.in-Ok.reply c.requires.door c.take-turn.ensures.taken c.give.ensures.given c.requires.may).makes

pub returns-in-Ok-clause-answer : goal.returns-in-Ok-clause-answer
returns-in-Ok-clause-answer g c =
    let taken = c.take-turn.new.seat in
    let is : taken.view.owner ≡ Some c.unwrap-owner.result = search rules in
    let it = asked_in_turn c.args.seat.now taken c.take-turn.result.ticket c.unwrap-owner.result c.args.event.now c.requires.door c.take-turn.ensures.taken is c.requires.may in
    let value : c.value.result.now.state ≡ state_of taken.view = ap (λ (x : Stocked). x.state) c.value.ensures.value ∙ c.take-turn.ensures.value in
    let first = ap (λ (r : Reply × State). r.0) (c.in-Ok.ensures.ok ∙ ap (λ (s : State). step s c.unwrap-owner.result c.args.event.now) value) in
    (state_of taken.view, subst (IsAnswer (state_of taken.view) c.args.event.now) (sym first) it.answer)
