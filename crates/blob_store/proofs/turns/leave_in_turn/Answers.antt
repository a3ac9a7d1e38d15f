use Rattle.std.proofs.Common.{rules, ◌≡◌, ◌-◌, ◌^◌, ◌<◌, Some, sym, ap, ◌∙◌, subst}
use Rattle.store_core.specs.State.{State}
use Rattle.store_core.specs.declared.event.Event.TheVariants as events
use Rattle.store_core.specs.Step.{step}
use Rattle.turn_lock.specs.Views.{state_of}
use Rattle.blob_store.specs.Kept.{Stocked}
use Rattle.blob_store.proofs.DoorSteps.{may_close, turn_leaves}
use Rattle.blob_store.proofs.turns.leave_in_turn.Goals as goal

pub step-requires-clause-owners : goal.step-requires-clause-owners
step-requires-clause-owners g c =
    let taken = c.take-turn.new.seat in
    let is : taken.view.owner ≡ Some c.unwrap-owner.result = search rules in
    let value : c.value.result.now.state ≡ state_of taken.view = ap (λ (x : Stocked). x.state) c.value.ensures.value ∙ c.take-turn.ensures.value in
    subst (λ (s : State). s.next_owner < 2 ^ 64 - 1) (sym value) (may_close c.args.seat.now taken c.take-turn.result.ticket c.unwrap-owner.result c.requires.door c.take-turn.ensures.taken is c.requires.none).owners

pub step-requires-clause-leases : goal.step-requires-clause-leases
step-requires-clause-leases g c =
    let taken = c.take-turn.new.seat in
    let is : taken.view.owner ≡ Some c.unwrap-owner.result = search rules in
    let value : c.value.result.now.state ≡ state_of taken.view = ap (λ (x : Stocked). x.state) c.value.ensures.value ∙ c.take-turn.ensures.value in
    subst (λ (s : State). s.next_lease < 2 ^ 64 - 1) (sym value) (may_close c.args.seat.now taken c.take-turn.result.ticket c.unwrap-owner.result c.requires.door c.take-turn.ensures.taken is c.requires.none).leases

pub give-requires-clause-may : goal.give-requires-clause-may
give-requires-clause-may g c =
    let taken = c.take-turn.new.seat in
    let is : taken.view.owner ≡ Some c.unwrap-owner.result = search rules in
    let value : c.value.result.now.state ≡ state_of taken.view = ap (λ (x : Stocked). x.state) c.value.ensures.value ∙ c.take-turn.ensures.value in
    (may_close c.args.seat.now taken c.take-turn.result.ticket c.unwrap-owner.result c.requires.door c.take-turn.ensures.taken is c.requires.none).gives c.in-Ok.reply c.step.new.self.state
    (c.in-Ok.ensures.ok ∙ ap (λ (s : State). step s c.unwrap-owner.result events.Close) value)

pub returns-clause-left : goal.returns-clause-left
returns-clause-left g c =
    let taken = c.take-turn.new.seat in
    let is : taken.view.owner ≡ Some c.unwrap-owner.result = search rules in
    let value : c.value.result.now.state ≡ state_of taken.view = ap (λ (x : Stocked). x.state) c.value.ensures.value ∙ c.take-turn.ensures.value in
    (turn_leaves c.args.seat.now taken c.give.new.seat c.take-turn.result.ticket c.unwrap-owner.result c.in-Ok.reply c.step.new.self.state c.requires.door c.take-turn.ensures.taken is c.requires.none
    (c.in-Ok.ensures.ok ∙ ap (λ (s : State). step s c.unwrap-owner.result events.Close) value) c.give.ensures.given).leaves
