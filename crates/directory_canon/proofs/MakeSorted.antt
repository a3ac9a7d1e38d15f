-- Sorted lists without equal elements.
use Rattle.std.proofs.Common.{◌≡◌, refl, ◌∙◌, ap, subst, false, cond, List, [], ◌∷◌}
use Rattle.std.specs.Ordering.{eq_by_cmp}
use Rattle.std.specs.declared.cmp.Ordering.{Ordering}
use Rattle.std.specs.Cmp.{IsTotalOrder, eq_by_cmp_equiv}
use Rattle.std.specs.List.{dedup, dedup_from, IsDistinct, AllByRecursion}
use Rattle.std.specs.List.Sorted.{IsSorted, IsStrictlySortedBy}
use Rattle.std.proofs.lemmas.List.Kept.{IsStrictlySortedBy-dedup}

module _ {X : Type 0} {R : X → X → Ordering} (o : IsTotalOrder R) where
  stays : (x : X) (xs : List X) → AllByRecursion (λ y. eq_by_cmp R x y ≡ false) xs → IsDistinct (eq_by_cmp R) xs → dedup_from (eq_by_cmp R) x xs ≡ x ∷ xs
  unfolding IsDistinct
  stays x [] h d = refl
  stays x (y ∷ ys) h d =
      ap (λ b. cond b (dedup_from (eq_by_cmp R) x ys) (x ∷ dedup_from (eq_by_cmp R) y ys)) ((eq_by_cmp_equiv o).symm y x ∙ h.0)
      ∙ ap (λ (zs : List X). x ∷ zs) (stays y ys d.0 d.1)

  all_stay : (xs : List X) → IsDistinct (eq_by_cmp R) xs → dedup (eq_by_cmp R) xs ≡ xs
  unfolding IsDistinct
  all_stay [] d = refl
  all_stay (x ∷ xs) d = stays x xs d.0 d.1

  -- a sorted list whose elements differ ascends
  pub strict_from_sorted : (xs : List X) → IsSorted R xs → IsDistinct (eq_by_cmp R) xs → IsStrictlySortedBy R xs
  strict_from_sorted xs s d = subst (IsStrictlySortedBy R) (all_stay xs d) (IsStrictlySortedBy-dedup o (λ x y. refl) xs s)

-- what follows of each element
pub each : {X : Type 0} {P Q : X → Type 0} → ((x : X) → P x → Q x) → (xs : List X) → AllByRecursion P xs → AllByRecursion Q xs
each f [] h = h
each f (x ∷ xs) h = (f x h.0, each f xs h.1)
