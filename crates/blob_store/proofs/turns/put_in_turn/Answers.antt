use Rattle.std.proofs.Common.{rules, ◌≡◌, Some, sym, ap, ◌∙◌, subst}
use Rattle.store_core.specs.State.{State}
use Rattle.store_core.specs.declared.event.Event.{Event}
use Rattle.store_core.specs.declared.event.Event.TheVariants as events
use Rattle.store_core.specs.Step.{step}
use Rattle.turn_lock.specs.Views.{state_of}
use Rattle.turn_lock.specs.Seats.{MayGive, Gives}
use Rattle.blob_store.specs.Kept.{Stocked}
use Rattle.blob_store.proofs.DoorSteps.{put_turn, put_turn_reply, put_turn_adds}
use Rattle.blob_store.specs.Rings.{ring_mark}
use Rattle.blob_store.proofs.RingLaws.{mark_stays}
use Rattle.blob_store.proofs.turns.put_in_turn.Goals as goal

pub give-requires-clause-may : goal.give-requires-clause-may
give-requires-clause-may g c =
    let taken = c.take-turn.new.seat in
    let blob = c.args.blob in
    let is : taken.view.owner ≡ Some c.unwrap-owner.result = search rules in
    let value : c.value-store.result.now.state ≡ state_of taken.view = ap (λ (x : Stocked). x.state) c.value-store.ensures.value ∙ c.take-turn.ensures.value in
    subst (λ (e : Event). MayGive taken.view e c.in-Ok.reply c.put.new.self.state) (sym c.requires.event)
    ((put_turn c.args.seat.now taken c.take-turn.result.ticket c.unwrap-owner.result blob.digest blob.edges c.requires.door c.take-turn.ensures.taken is).gives c.in-Ok.reply c.put.new.self.state
    (c.in-Ok.ensures.ok ∙ ap (λ (s : State). step s c.unwrap-owner.result (events.Put blob.digest blob.edges)) value))

pub returns-in-Ok-clause-door : goal.returns-in-Ok-clause-door
returns-in-Ok-clause-door g c =
    (put_turn_adds c.args.seat.now c.take-turn.new.seat c.give.new.seat c.take-turn.result.ticket c.args.blob.digest c.args.blob.edges c.in-Ok.reply c.requires.door c.take-turn.ensures.taken
    (subst (λ (e : Event). Gives c.take-turn.new.seat c.give.new.seat e c.in-Ok.reply) c.requires.event c.give.ensures.given)).door

pub returns-in-Ok-clause-made : goal.returns-in-Ok-clause-made
returns-in-Ok-clause-made g c =
    (put_turn_adds c.args.seat.now c.take-turn.new.seat c.give.new.seat c.take-turn.result.ticket c.args.blob.digest c.args.blob.edges c.in-Ok.reply c.requires.door c.take-turn.ensures.taken
    (subst (λ (e : Event). Gives c.take-turn.new.seat c.give.new.seat e c.in-Ok.reply) c.requires.event c.give.ensures.given)).makes

pub returns-in-Ok-clause-answer : goal.returns-in-Ok-clause-answer
returns-in-Ok-clause-answer g c =
    let taken = c.take-turn.new.seat in
    let blob = c.args.blob in
    let is : taken.view.owner ≡ Some c.unwrap-owner.result = search rules in
    let value : c.value-store.result.now.state ≡ state_of taken.view = ap (λ (x : Stocked). x.state) c.value-store.ensures.value ∙ c.take-turn.ensures.value in
    put_turn_reply c.args.seat.now taken c.take-turn.result.ticket c.unwrap-owner.result blob.digest blob.edges c.in-Ok.reply c.put.new.self.state c.requires.door c.take-turn.ensures.taken is
    (c.in-Ok.ensures.ok ∙ ap (λ (s : State). step s c.unwrap-owner.result (events.Put blob.digest blob.edges)) value)

pub returns-in-Ok-clause-mark : goal.returns-in-Ok-clause-mark
returns-in-Ok-clause-mark g c =
    let taken = c.take-turn.new.seat in
    let value : c.value-store.result.now.state ≡ state_of taken.view = ap (λ (x : Stocked). x.state) c.value-store.ensures.value ∙ c.take-turn.ensures.value in
    c.ring_mark-mark.ensures ∙ ap ring_mark value ∙ mark_stays taken.view.start taken.view.seen ∙ ap ring_mark c.take-turn.ensures.taken.start
