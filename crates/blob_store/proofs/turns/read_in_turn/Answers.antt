use Rattle.std.proofs.Common.{rules, ◌≡◌, ◌-◌, ◌^◌, ◌<◌, Some, sym, ap, ◌∙◌, subst}
use Rattle.store_core.specs.State.{State}
use Rattle.store_core.specs.declared.event.Event.TheVariants as events
use Rattle.store_core.specs.Step.{step, is_here}
use Rattle.turn_lock.specs.Views.{state_of}
use Rattle.blob_store.specs.Kept.{Stocked}
use Rattle.blob_store.proofs.DoorSteps.{read_turn, read_turn_adds}
use Rattle.blob_store.proofs.turns.read_in_turn.Goals as goal

pub step-requires-clause-owners : goal.step-requires-clause-owners
step-requires-clause-owners g c =
    let taken = c.take-turn.new.seat in
    let is : taken.view.owner ≡ Some c.unwrap-owner.result = search rules in
    let value : c.value-2.result.now.state ≡ state_of taken.view = ap (λ (x : Stocked). x.state) (c.value-2.ensures.value ∙ c.value.ensures.value) ∙ c.take-turn.ensures.value in
    subst (λ (s : State). s.next_owner < 2 ^ 64 - 1) (sym value) (read_turn c.args.seat.now taken c.take-turn.result.ticket c.unwrap-owner.result c.args.digest.now c.requires.door c.take-turn.ensures.taken is).owners

pub step-requires-clause-leases : goal.step-requires-clause-leases
step-requires-clause-leases g c =
    let taken = c.take-turn.new.seat in
    let is : taken.view.owner ≡ Some c.unwrap-owner.result = search rules in
    let value : c.value-2.result.now.state ≡ state_of taken.view = ap (λ (x : Stocked). x.state) (c.value-2.ensures.value ∙ c.value.ensures.value) ∙ c.take-turn.ensures.value in
    subst (λ (s : State). s.next_lease < 2 ^ 64 - 1) (sym value) (read_turn c.args.seat.now taken c.take-turn.result.ticket c.unwrap-owner.result c.args.digest.now c.requires.door c.take-turn.ensures.taken is).leases

pub give-requires-clause-may : goal.give-requires-clause-may
give-requires-clause-may g c =
    let taken = c.take-turn.new.seat in
    let is : taken.view.owner ≡ Some c.unwrap-owner.result = search rules in
    let value : c.value-2.result.now.state ≡ state_of taken.view = ap (λ (x : Stocked). x.state) (c.value-2.ensures.value ∙ c.value.ensures.value) ∙ c.take-turn.ensures.value in
    (read_turn c.args.seat.now taken c.take-turn.result.ticket c.unwrap-owner.result c.args.digest.now c.requires.door c.take-turn.ensures.taken is).gives c.in-Ok-step.reply c.step.new.self.state
    (c.in-Ok-step.ensures.ok ∙ ap (λ (s : State). step s c.unwrap-owner.result (events.Read c.args.digest.now)) value)

pub returns-in-Ok-step-clause-door : goal.returns-in-Ok-step-clause-door
returns-in-Ok-step-clause-door g c =
    let taken = c.take-turn.new.seat in
    let is : taken.view.owner ≡ Some c.unwrap-owner.result = search rules in
    let first : c.value.result.now.state ≡ state_of taken.view = ap (λ (x : Stocked). x.state) c.value.ensures.value ∙ c.take-turn.ensures.value in
    let value : c.value-2.result.now.state ≡ state_of taken.view = ap (λ (x : Stocked). x.state) c.value-2.ensures.value ∙ first in
    (read_turn_adds c.args.seat.now taken c.give.new.seat c.take-turn.result.ticket c.unwrap-owner.result c.args.digest.now c.in-Ok.reading c.in-Ok-step.reply c.step.new.self.state c.requires.door c.take-turn.ensures.taken is
    (c.in-Ok.ensures.there ∙ ap (λ (s : State). is_here s.rows c.args.digest.now) first)
    (c.in-Ok-step.ensures.ok ∙ ap (λ (s : State). step s c.unwrap-owner.result (events.Read c.args.digest.now)) value)
    c.give.ensures.given).door

pub returns-in-Ok-step-clause-made : goal.returns-in-Ok-step-clause-made
returns-in-Ok-step-clause-made g c =
    let taken = c.take-turn.new.seat in
    let is : taken.view.owner ≡ Some c.unwrap-owner.result = search rules in
    let first : c.value.result.now.state ≡ state_of taken.view = ap (λ (x : Stocked). x.state) c.value.ensures.value ∙ c.take-turn.ensures.value in
    let value : c.value-2.result.now.state ≡ state_of taken.view = ap (λ (x : Stocked). x.state) c.value-2.ensures.value ∙ first in
    (read_turn_adds c.args.seat.now taken c.give.new.seat c.take-turn.result.ticket c.unwrap-owner.result c.args.digest.now c.in-Ok.reading c.in-Ok-step.reply c.step.new.self.state c.requires.door c.take-turn.ensures.taken is
    (c.in-Ok.ensures.there ∙ ap (λ (s : State). is_here s.rows c.args.digest.now) first)
    (c.in-Ok-step.ensures.ok ∙ ap (λ (s : State). step s c.unwrap-owner.result (events.Read c.args.digest.now)) value)
    c.give.ensures.given).makes
