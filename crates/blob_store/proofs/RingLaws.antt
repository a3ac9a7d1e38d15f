-- The marks of a store never change, and so does the one at which it rings.
use Rattle.std.proofs.Common.{◌≡◌, ◌+◌, ◌-◌, List, [], ◌∷◌, refl, ◌∙◌}
use Rattle.std.specs.Prelude.{◌/◌}
use Rattle.store_core.specs.State.{State}
use Rattle.store_core.specs.Step.{step}
use Rattle.store_core.specs.History.{Entry, state}
use Rattle.store_core.proofs.Kept.{follows_step}
use Rattle.blob_store.specs.Rings.{ring_mark}

marks_after : (s : State) (entries : List Entry) → ((state s entries).low ≡ s.low) × ((state s entries).high ≡ s.high)
unfolding state
marks_after s [] = (refl, refl)
marks_after s (e ∷ entries) =
    let one = follows_step s e.owner e.event in
    let rest = marks_after (step s e.owner e.event).1 entries in
    (rest.0 ∙ one.low, rest.1 ∙ one.high)

pub mark_stays : (s : State) (entries : List Entry) → ring_mark (state s entries) ≡ ring_mark s
mark_stays s entries = let marks = marks_after s entries in λ i. marks.0 i + (marks.1 i - marks.0 i) / 2
