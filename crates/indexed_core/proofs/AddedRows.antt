-- Rows that are added to an index that has none, one after the other, and a core of these rows.
use Rattle.std.proofs.Common.{◌≡◌, ◌≢◌, ℕ, ◌+◌, ◌^◌, ◌<◌, ◌≤◌, zero, suc, Bool, true, false, List, [], ◌∷◌, ◌++◌, length, take, get_or, refl, sym, ap, subst, ◌∙◌, arith}
use Rattle.std.specs.Prelude.{◌||◌}
use Rattle.std.specs.List.{AllByRecursion}
use Rattle.std.proofs.lemmas.List.{take_more}
use Rattle.std.proofs.lemmas.List.Sums.{sum_by_more_le}
use Rattle.digest_types.specs.Name.{HashAndSize}
use Rattle.digest_types.specs.Digest.{digest_of}
use Rattle.store_core.specs.declared.state.Guard.{Guard}
use Rattle.store_core.specs.declared.state.Row.{Row}
use Rattle.store_core.specs.State.{State, IsKept, Distinct, new_state, has_row, sizes}
use Rattle.store_core.specs.Pass.{without}
use Rattle.store_core.specs.Step.{touched_all}
use Rattle.store_core.proofs.Changes.{kept_follows, new_row}
use Rattle.store_core.proofs.Kept.{follows_turned}
use Rattle.store_core.proofs.RowLaws.{Differs, turned_touched_all}
use Rattle.store_core.proofs.Same.{not_same_from_other}

-- where no digests are left out, all rows are left
pub without_none : (rows : List Row) → without [] rows ≡ rows
without_none [] = refl
without_none (row ∷ rows) = ap (λ (xs : List Row). row ∷ xs) (without_none rows)

at_place : (P : Row → Type 0) (rows : List Row) (i : ℕ) (row : Row) → AllByRecursion P rows → i < length rows → row ≡ get_or rows i row → P row
at_place P [] i row h lt here = absurd (omega arith)
at_place P (x ∷ rows) zero row h lt here = subst P (sym here) h.0
at_place P (x ∷ rows) (suc i) row h lt here = at_place P rows i row h.1 (omega arith) here

-- the digest of a row has none before it
pub not_yet : (rows : List Row) (i : ℕ) (row : Row) → Distinct rows → i < length rows → row ≡ get_or rows i row → has_row (take i rows) row.digest ≡ false
not_yet [] i row v lt here = absurd (omega (arith, lt))
not_yet (x ∷ rows) zero row v lt here = refl
not_yet (x ∷ rows) (suc i) row v lt here =
    let later : i < length rows = omega arith in
    ap (λ (b : Bool). b || has_row (take i rows) row.digest) (not_same_from_other x.digest row.digest (λ e. at_place (Differs x) rows i row v.0 later here (sym e)))
    ∙ not_yet rows i row v.1 later here

-- it fits
pub fits_yet : (rows : List Row) (i : ℕ) (row : Row) → i < length rows → row ≡ get_or rows i row → sizes (take i rows) + row.digest.size ≤ sizes rows
fits_yet rows i row lt here = let sum = sum_by_more_le (λ (r : Row). r.digest.size) rows i row lt in let is = ap (λ (r : Row). r.digest.size) here in omega arith

-- with it, the first rows are one more
pub one_more : (rows : List Row) (i : ℕ) (row : Row) → AllByRecursion (λ r. r.sound ≡ true) rows → i < length rows → row ≡ get_or rows i row → without [] (take i rows) ++ new_row row.digest row.edges ∷ [] ≡ take (i + 1) rows
one_more rows i row sound lt here =
    let is_sound = at_place (λ r. r.sound ≡ true) rows i row sound lt here in
    ap (λ (xs : List Row). xs ++ new_row row.digest row.edges ∷ []) (without_none (take i rows))
    ∙ ap (λ (r : Row). take i rows ++ r ∷ []) ((λ i. record row { sound = sym is_sound i }) ∙ here)
    ∙ sym (take_more rows i row lt)

-- rows that are used one after the other in a new store
pub kept_rows : (rows : List Row) (saved : List HashAndSize) (low high : ℕ) (guard : Guard) → Distinct rows → AllByRecursion (λ row. row.digest ≢ digest_of []) rows → sizes rows ≤ 2 ^ 60
    → IsKept (record (new_state low high guard) { rows = touched_all saved rows })
kept_rows rows saved low high guard distinct filled small =
    let s : State = record (new_state low high guard) { rows = rows } in
    kept_follows s (record s { rows = touched_all saved rows }) (follows_turned s (touched_all saved rows) (turned_touched_all saved rows)) (record {
      valid = record {
        distinct = distinct;
        filled = filled;
        lease_ids = tt;
        lease_numbers = tt;
        lease_owners = tt;
        holds = tt;
        hold_owners = tt;
        hold_rows = λ d e. absurd cc;
        unheld = λ _. refl;
        owners = tt;
      };
      within = omega (arith, small);
    })
