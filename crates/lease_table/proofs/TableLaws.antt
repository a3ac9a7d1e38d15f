-- Rows that go.
use Rattle.std.proofs.Common.{◌≡◌, ◌∙◌, ◌≤◌, not, Bool, true, false, List, [], ◌∷◌, refl, ap, inl, inr, arith}
use Rattle.std.specs.Prelude.{filter}
use Rattle.std.proofs.lemmas.List.Filters.{sum_by-filter_both}
use Rattle.std.specs.List.{list_any}
use Rattle.std.proofs.lemmas.Bool.{or_cases, or_parts}
use Rattle.digest_types.specs.Name.{HashAndSize}
use Rattle.store_core.specs.Reach.{Linked}
use Rattle.store_core.specs.State.{same, is_among}
use Rattle.store_core.proofs.Same.{equal_from_same}
use Rattle.lease_table.specs.Table.{Table, is_guarded, sizes}

-- what is left has no more bytes
pub smaller : (keep : Linked → Bool) (rows : List Linked) → sizes (filter keep rows) ≤ sizes rows
smaller keep rows =
    let parts = sum_by-filter_both keep (λ (row : Linked). not (keep row)) (λ _. refl) (λ (row : Linked). row.digest.size) rows in
    omega arith

-- where none of some digests is guarded, each of them isn't
pub all_loose : (t : Table) (ds : List HashAndSize) (d : HashAndSize) → list_any (is_guarded t) ds ≡ false → is_among ds d ≡ true → is_guarded t d ≡ false
all_loose t [] d none among = absurd cc
all_loose t (x ∷ ds) d none among =
    let h = or_parts (is_guarded t x) (list_any (is_guarded t) ds) none in
    elim (or_cases (same d x) (is_among ds d) among) [
      | inl here ↦ ap (is_guarded t) (equal_from_same d x here) ∙ h.0
      | inr later ↦ all_loose t ds d h.1 later
    ]
