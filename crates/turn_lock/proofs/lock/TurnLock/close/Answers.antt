use Rattle.std.proofs.Common.{rules, ◌≡◌, length, ap, ◌∙◌, sym, Some}
use mathlib.Core.Option.{some-injective}
use Rattle.turn_lock.specs.Views.{state_of}
use Rattle.turn_lock.specs.Seats.{AtLock}
use Rattle.turn_lock.proofs.LockSteps.{alone}
use Rattle.turn_lock.proofs.lock.TurnLock.close.Goals as goal

pub unwrap-requires : goal.unwrap-requires
unwrap-requires g c =
    let last = c.close_with-closed.ensures.values.2 in
    let it = alone g.S.Stands.state last.0 _ _ last.1 (ap (λ (h : AtLock). h.view.phase) c.seat.view_is ∙ c.requires.idle) (ap (λ (h : AtLock). h.view.grant) c.seat.view_is ∙ c.requires.all) in
    let is : c.take-value.result ≡ Some it.0 = some-injective _ _ (sym c.take-value.ensures.value ∙ last.4 0 (Some it.0) it.1) in
    rw is (search rules)

pub returns-clause-value : goal.returns-clause-value
returns-clause-value g c =
    let last = c.close_with-closed.ensures.values.2 in
    let it = alone g.S.Stands.state last.0 _ _ last.1 (ap (λ (h : AtLock). h.view.phase) c.seat.view_is ∙ c.requires.idle) (ap (λ (h : AtLock). h.view.grant) c.seat.view_is ∙ c.requires.all) in
    let is : c.take-value.result ≡ Some it.0 = some-injective _ _ (sym c.take-value.ensures.value ∙ last.4 0 (Some it.0) it.1) in
    let same : c.unwrap.result ≡ it.0 = search rules in
    ap g.S.Stands.state same ∙ it.2 ∙ ap (λ (h : AtLock). state_of h.view) c.seat.view_is

pub returns-clause-made : goal.returns-clause-made
returns-clause-made g c =
    let last = c.close_with-closed.ensures.values.2 in
    let it = alone g.S.Stands.state last.0 _ _ last.1 (ap (λ (h : AtLock). h.view.phase) c.seat.view_is ∙ c.requires.idle) (ap (λ (h : AtLock). h.view.grant) c.seat.view_is ∙ c.requires.all) in
    ap (λ (h : AtLock). h.view.made) (sym c.seat.view_is) ∙ it.3 ∙ ap (λ (h : AtLock). length h.view.seen) c.seat.view_is
