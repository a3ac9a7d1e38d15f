use Rattle.std.proofs.Common.{◌≡◌, ◌-◌, ◌^◌, ◌<◌, sym, ap, ◌∙◌, subst}
use Rattle.store_core.specs.State.{State}
use Rattle.store_core.specs.declared.event.Event.TheVariants as events
use Rattle.store_core.specs.Step.{step}
use Rattle.turn_lock.specs.Views.{state_of}
use Rattle.blob_store.specs.Kept.{Stocked}
use Rattle.blob_store.proofs.DoorSteps.{may_open, turn_enters}
use Rattle.blob_store.proofs.turns.enter_in_turn.Goals as goal

pub step-requires-clause-owners : goal.step-requires-clause-owners
step-requires-clause-owners g c =
    let taken = c.take-turn.new.seat in
    let next : c.next_owner-owner.result ≡ (state_of taken.view).next_owner = c.next_owner-owner.ensures ∙ ap (λ (s : State). s.next_owner) (ap (λ (x : Stocked). x.state) c.value.ensures.value ∙ c.take-turn.ensures.value) in
    let value : c.value-2.result.now.state ≡ state_of taken.view = ap (λ (x : Stocked). x.state) (c.value-2.ensures.value ∙ c.value.ensures.value) ∙ c.take-turn.ensures.value in
    subst (λ (s : State). s.next_owner < 2 ^ 64 - 1) (sym value) (may_open c.args.seat.now taken c.take-turn.result.ticket c.next_owner-owner.result c.requires.door c.take-turn.ensures.taken next).owners

pub step-requires-clause-leases : goal.step-requires-clause-leases
step-requires-clause-leases g c =
    let taken = c.take-turn.new.seat in
    let next : c.next_owner-owner.result ≡ (state_of taken.view).next_owner = c.next_owner-owner.ensures ∙ ap (λ (s : State). s.next_owner) (ap (λ (x : Stocked). x.state) c.value.ensures.value ∙ c.take-turn.ensures.value) in
    let value : c.value-2.result.now.state ≡ state_of taken.view = ap (λ (x : Stocked). x.state) (c.value-2.ensures.value ∙ c.value.ensures.value) ∙ c.take-turn.ensures.value in
    subst (λ (s : State). s.next_lease < 2 ^ 64 - 1) (sym value) (may_open c.args.seat.now taken c.take-turn.result.ticket c.next_owner-owner.result c.requires.door c.take-turn.ensures.taken next).leases

pub give-requires-clause-may : goal.give-requires-clause-may
give-requires-clause-may g c =
    let taken = c.take-turn.new.seat in
    let next : c.next_owner-owner.result ≡ (state_of taken.view).next_owner = c.next_owner-owner.ensures ∙ ap (λ (s : State). s.next_owner) (ap (λ (x : Stocked). x.state) c.value.ensures.value ∙ c.take-turn.ensures.value) in
    let value : c.value-2.result.now.state ≡ state_of taken.view = ap (λ (x : Stocked). x.state) (c.value-2.ensures.value ∙ c.value.ensures.value) ∙ c.take-turn.ensures.value in
    (may_open c.args.seat.now taken c.take-turn.result.ticket c.next_owner-owner.result c.requires.door c.take-turn.ensures.taken next).gives c.in-Ok.reply c.step.new.self.state
    (c.in-Ok.ensures.ok ∙ ap (λ (s : State). step s c.next_owner-owner.result events.Open) value)

pub returns-in-Ok-clause-ok : goal.returns-in-Ok-clause-ok
returns-in-Ok-clause-ok g c =
    let taken = c.take-turn.new.seat in
    let value : c.value-2.result.now.state ≡ state_of taken.view = ap (λ (x : Stocked). x.state) (c.value-2.ensures.value ∙ c.value.ensures.value) ∙ c.take-turn.ensures.value in
    (turn_enters c.args.seat.now taken c.give.new.seat c.take-turn.result.ticket c.next_owner-owner.result c.in-Ok.reply c.step.new.self.state c.requires.door c.take-turn.ensures.taken
    (c.in-Ok.ensures.ok ∙ ap (λ (s : State). step s c.next_owner-owner.result events.Open) value) c.give.ensures.given).enters

pub returns-in-Ok-clause-door : goal.returns-in-Ok-clause-door
returns-in-Ok-clause-door g c =
    let taken = c.take-turn.new.seat in
    let value : c.value-2.result.now.state ≡ state_of taken.view = ap (λ (x : Stocked). x.state) (c.value-2.ensures.value ∙ c.value.ensures.value) ∙ c.take-turn.ensures.value in
    (turn_enters c.args.seat.now taken c.give.new.seat c.take-turn.result.ticket c.next_owner-owner.result c.in-Ok.reply c.step.new.self.state c.requires.door c.take-turn.ensures.taken
    (c.in-Ok.ensures.ok ∙ ap (λ (s : State). step s c.next_owner-owner.result events.Open) value) c.give.ensures.given).door
