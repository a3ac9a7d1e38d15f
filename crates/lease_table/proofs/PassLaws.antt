-- A pass that goes on from where it stopped.
use Rattle.std.proofs.Common.{◌≡◌, ◌≢◌, Bool, true, false, cond, not, List, [], ◌∷◌, Option, Some, None, refl, sym, ap, subst, ◌∙◌}
use Rattle.std.specs.Prelude.{slice_get, Contains}
use Rattle.std.specs.List.{AllByRecursion}
use Rattle.std.proofs.lemmas.Option.{same_Some}
use Rattle.digest_types.specs.Name.{HashAndSize}
use Rattle.store_core.specs.State.{same}
use Rattle.store_core.proofs.Same.{same_itself, not_same_from_other}
use Rattle.store_core.proofs.Elements.{every_contains, has_first, has_later}
use Rattle.lease_table.specs.Table.{Table, is_guarded, unguarded, other_digests, from_digest, from_on, behind, IsPassed, DistinctDigests}
use Rattle.lease_table.proofs.OrderLaws.{all_others}

-- a table that guards the same leaves a pass where it is
pub passed_alike : (t u : Table) (order : List HashAndSize) (from : Option HashAndSize) → ((d : HashAndSize) → is_guarded t d ≡ is_guarded u d) → IsPassed t order from → IsPassed u order from
passed_alike t u order from e h = sym (alike (from_on from order)) ∙ h ∙ alike order
  where
    alike : (ds : List HashAndSize) → unguarded t ds ≡ unguarded u ds
    alike [] = refl
    alike (d ∷ ds) = (λ i. cond (not (e d i)) (d ∷ alike ds i) (alike ds i))

here : (b : Bool) (ds more : List HashAndSize) → b ≡ true → cond b ds more ≡ ds
here true ds more e = refl
here false ds more e = absurd cc

there : (b : Bool) (ds more : List HashAndSize) → b ≡ false → cond b ds more ≡ more
there true ds more e = absurd cc
there false ds more e = refl

-- all of the digests are from the first one on
from_first : (ds : List HashAndSize) → from_on (slice_get ds 0) ds ≡ ds
from_first [] = refl
from_first (d ∷ ds) = here (same d d) (d ∷ ds) (from_digest d ds) (same_itself d)

-- what is behind a digest is one of them
behind_has : (d q : HashAndSize) (ds : List HashAndSize) → behind d ds ≡ Some q → Contains ds q
behind_has d q [] e = absurd cc
behind_has d q (x ∷ ds) e = by (same d x) (behind_has d q ds) e
  where
    second : (x q : HashAndSize) (ds : List HashAndSize) → slice_get (x ∷ ds) 1 ≡ Some q → Contains (x ∷ ds) q
    second x q [] e = absurd cc
    second x q (y ∷ ds) e = has_later x q (y ∷ ds) (subst (Contains (y ∷ ds)) (same_Some y q e) (has_first y ds))

    by : (b : Bool) → (behind d ds ≡ Some q → Contains ds q) → slice_get (cond b (x ∷ ds) (from_digest d ds)) 1 ≡ Some q → Contains (x ∷ ds) q
    by true h e = second x q ds e
    by false h e = has_later x q ds (h e)

-- what isn't guarded is one of them
unguarded_has : (t : Table) (q : HashAndSize) (ds : List HashAndSize) → slice_get (unguarded t ds) 0 ≡ Some q → Contains ds q
unguarded_has t q [] e = absurd cc
unguarded_has t q (x ∷ ds) e = by (is_guarded t x) (unguarded_has t q ds) e
  where
    by : (b : Bool) → (slice_get (unguarded t ds) 0 ≡ Some q → Contains ds q) → slice_get (cond (not b) (x ∷ unguarded t ds) (unguarded t ds)) 0 ≡ Some q → Contains (x ∷ ds) q
    by true h e = has_later x q ds (h e)
    by false h e = subst (Contains (x ∷ ds)) (same_Some x q e) (has_first x ds)

-- a guarded digest in front of those that a pass goes on with
passed_front : (t : Table) (x : HashAndSize) (ds : List HashAndSize) (from : Option HashAndSize) → is_guarded t x ≡ true → ((q : HashAndSize) → from ≡ Some q → q ≢ x) → IsPassed t ds from → IsPassed t (x ∷ ds) from
passed_front t x ds None guarded other h = refl
passed_front t x ds (Some q) guarded other h =
    ap (unguarded t) (there (same q x) (x ∷ ds) (from_digest q ds) (not_same_from_other q x (other q refl)))
    ∙ h
    ∙ sym (there (not (is_guarded t x)) (x ∷ unguarded t ds) (unguarded t ds) (ap not guarded))

-- once the first digest that isn't guarded goes, a pass goes on with the one behind it
pub passed_next : (t : Table) (d : HashAndSize) (ds : List HashAndSize) → DistinctDigests ds → slice_get (unguarded t ds) 0 ≡ Some d → IsPassed t (other_digests d ds) (behind d ds)
passed_next t d [] distinct e = absurd cc
passed_next t d (x ∷ ds) distinct e = by (is_guarded t x) refl (passed_next t d ds distinct.1) e
  where
    by : (b : Bool) → is_guarded t x ≡ b → (slice_get (unguarded t ds) 0 ≡ Some d → IsPassed t (other_digests d ds) (behind d ds)) → slice_get (cond (not b) (x ∷ unguarded t ds) (unguarded t ds)) 0 ≡ Some d → IsPassed t (other_digests d (x ∷ ds)) (behind d (x ∷ ds))
    by false g h first =
        let is : x ≡ d = same_Some x d first in
        let apart : AllByRecursion (λ other. other ≢ d) ds = subst (λ (y : HashAndSize). AllByRecursion (λ other. other ≢ y) ds) is distinct.0 in
        let left : other_digests d (x ∷ ds) ≡ ds = there (not (same x d)) (x ∷ other_digests d ds) (other_digests d ds) (ap (λ (y : HashAndSize). not (same y d)) is ∙ ap not (same_itself d)) ∙ all_others d ds apart in
        let next : behind d (x ∷ ds) ≡ slice_get ds 0 = ap (λ (ys : List HashAndSize). slice_get ys 1) (here (same d x) (x ∷ ds) (from_digest d ds) (ap (same d) is ∙ same_itself d)) in
        subst (λ (ys : List HashAndSize). IsPassed t ys (behind d (x ∷ ds))) (sym left)
        (subst (IsPassed t ds) (sym next) (ap (unguarded t) (from_first ds)))
    by true g h first =
        let other : d ≢ x = every_contains (λ y. y ≢ x) ds d distinct.0 (unguarded_has t d ds first) in
        let left : other_digests d (x ∷ ds) ≡ x ∷ other_digests d ds = here (not (same x d)) (x ∷ other_digests d ds) (other_digests d ds) (ap not (not_same_from_other x d (λ q. other (sym q)))) in
        let next : behind d (x ∷ ds) ≡ behind d ds = ap (λ (ys : List HashAndSize). slice_get ys 1) (there (same d x) (x ∷ ds) (from_digest d ds) (not_same_from_other d x other)) in
        subst (λ (ys : List HashAndSize). IsPassed t ys (behind d (x ∷ ds))) (sym left)
        (subst (IsPassed t (x ∷ other_digests d ds)) (sym next)
        (passed_front t x (other_digests d ds) (behind d ds) g (λ q f. every_contains (λ y. y ≢ x) ds q distinct.0 (behind_has d q ds f)) (h first)))
