-- The rows of the bodies that are found, and their order.
use Rattle.std.proofs.Common.{◌≡◌, ◌≢◌, ◌+◌, ◌<◌, ◌≤◌, ◌^◌, ℕ, Bool, true, false, not, ◌&&◌, ◌||◌, List, [], ◌∷◌, ◌++◌, length, Option, Some, None, IfSome, is_some, refl, sym, ap, ◌∙◌, arith}
use Rattle.std.specs.Prelude.{nat_le, nat_lt, if◌then◌else◌}
use Rattle.std.proofs.lemmas.Bool.{cond-false, leb-true, lt-leb, ltb-true}
use Rattle.std.proofs.lemmas.List.Folds.{list_any-append}
use Rattle.std.proofs.lemmas.List.Sums.{sum_by_push}
use Rattle.digest_types.specs.Name.{HashAndSize}
use Rattle.digest_types.specs.Digest.{digest_of}
use Rattle.directory_canon.specs.declared.node.Edge.{Edge}
use Rattle.directory_canon.specs.Links.{links}
use Rattle.store_core.specs.declared.state.Row.{Row}
use Rattle.store_core.specs.State.{same, is_of, has_row, sizes}
use Rattle.store_core.proofs.Elements.{every_push}
use Rattle.store_core.proofs.RowLaws.{absent, distinct_push}
use Rattle.store_core.proofs.Same.{equal_from_same}
use Rattle.indexed_core.proofs.MachinePuts.{no_row}
use Rattle.blob_store.specs.Kept.{Told, told_in}
use Rattle.blob_store.specs.Restored.{row_with, is_taken, taken}
use Rattle.blob_store.specs.Loading.{is_new_row, with_found, IsGathered}
use Rattle.blob_store.proofs.RestoredLaws.{size_is}

-- ---- one row more

-- the row of a blob
abbrev pub row_for : HashAndSize → Option (List Edge) → Row
row_for d edges = record { digest = d; edges = edges; sound = true }

-- what is tested of a new row
record IsNew (rows : List Row) (d : HashAndSize) : Type 0 where
  some : 0 < d.size
  none : has_row rows d ≡ false
  fits : sizes rows + d.size ≤ 2 ^ 60

new_by : (a b c : Bool) → (a && (not b && c)) ≡ true → (a ≡ true) × (b ≡ false) × (c ≡ true)
new_by true false true e = (refl, refl, refl)
new_by true false false e = absurd cc
new_by true true c e = absurd cc
new_by false b c e = absurd cc

is_new : (rows : List Row) (d : HashAndSize) → is_new_row rows d ≡ true → IsNew rows d
is_new rows d e =
    let t = new_by (nat_lt 0 d.size) (has_row rows d) (nat_le (sizes rows + d.size) (2 ^ 60)) e in
    record { some = ltb-true 0 d.size t.0; none = t.1; fits = leb-true (sizes rows + d.size) (2 ^ 60) t.2 }

pub gathered_none : IsGathered [] 0 []
gathered_none = record {
  distinct = tt;
  filled = tt;
  sound = tt;
  sum_is = refl;
  within = omega arith;
  bodies_are = λ d. refl;
  own = λ d bytes is. absurd cc;
}

filled_by : (d : HashAndSize) → 0 < d.size → d ≢ digest_of []
filled_by d some is = let size = ap (λ (e : HashAndSize). e.size) is in let none = size_is [] in absurd (omega (arith, some, size, none))

has_by : (b : Bool) (told : Option (List ℕ)) (old : Option (Option (List ℕ))) (has : Bool) → is_some old ≡ has → is_some (if b then Some told else old) ≡ (has || (b || false))
has_by true told old true e = refl
has_by true told old false e = refl
has_by false told old true e = e
has_by false told old false e = e

own_by : (b : Bool) (told : Option (List ℕ)) (old : Option (Option (List ℕ))) (d e : HashAndSize) (bytes : List ℕ) → (b ≡ true → d ≡ e) → IfSome told (λ all. d ≡ digest_of all) → (old ≡ Some (Some bytes) → digest_of bytes ≡ e)
    → (if b then Some told else old) ≡ Some (Some bytes) → digest_of bytes ≡ e
own_by true None old d e bytes same_is of rest is = absurd cc
own_by true (Some all) old d e bytes same_is of rest is = let one : all ≡ bytes = cc in sym (sym (same_is refl) ∙ of ∙ ap digest_of one)
own_by false told old d e bytes same_is of rest is = rest is

pub told_digest : (told : Option (List ℕ)) (d : HashAndSize) (edges : Option (List Edge)) → IfSome told (λ bytes. (d ≡ digest_of bytes) × (edges ≡ links bytes)) → IfSome told (λ bytes. d ≡ digest_of bytes)
told_digest None d edges are = tt
told_digest (Some bytes) d edges are = are.0

-- a row and its body are added
pub gathered_more : (rows : List Row) (sum sum_now : ℕ) (bodies now : Told) (d : HashAndSize) (edges : Option (List Edge)) (told : Option (List ℕ)) → IsGathered rows sum bodies → is_new_row rows d ≡ true → IfSome told (λ all. d ≡ digest_of all)
    → sum_now ≡ sum + d.size → ((e : HashAndSize) → told_in now e ≡ (if same d e then Some told else told_in bodies e)) → IsGathered (rows ++ row_for d edges ∷ []) sum_now now
gathered_more rows sum sum_now bodies now d edges told g new of adds added =
    let n = is_new rows d new in
    let size = sum_by_push (λ (row : Row). row.digest.size) rows (row_for d edges) in record {
      distinct = distinct_push rows (row_for d edges) g.distinct (absent d rows (no_row d rows n.none));
      filled = every_push (λ (row : Row). row.digest ≢ digest_of []) rows (row_for d edges) g.filled (filled_by d n.some);
      sound = every_push (λ (row : Row). row.sound ≡ true) rows (row_for d edges) g.sound refl;
      sum_is = omega (arith, adds, g.sum_is, size);
      within = omega (arith, adds, g.sum_is, n.fits);
      bodies_are = λ e. ap is_some (added e) ∙ has_by (same d e) told (told_in bodies e) (has_row rows e) (g.bodies_are e) ∙ sym (list_any-append (is_of e) rows (row_for d edges ∷ []));
      own = λ e bytes is. own_by (same d e) told (told_in bodies e) d e bytes (equal_from_same d e) of (g.own e bytes) (sym (added e) ∙ is);
    }

-- ---- a body that tells its bytes

taken_is : (rows : List Row) (bytes : List ℕ) → is_taken rows bytes ≡ is_new_row rows (digest_of bytes)
taken_is rows bytes = ap (λ (n : ℕ). nat_lt 0 n && (not (has_row rows (digest_of bytes)) && nat_le (sizes rows + n) (2 ^ 60))) (sym (size_is bytes))

-- it becomes a row where its blob does
pub takes_row : (rows : List Row) (bytes : List ℕ) (d : HashAndSize) (edges : Option (List Edge)) → d ≡ digest_of bytes → edges ≡ links bytes → with_found rows d edges ≡ taken rows (bytes ∷ [])
takes_row rows bytes d edges digest links_are =
    (λ i. with_found rows (digest i) (links_are i)) ∙ ap (λ (b : Bool). if b then rows ++ row_with bytes ∷ [] else rows) (sym (taken_is rows bytes))

-- and one that is too long doesn't
pub takes_none : (rows : List Row) (bytes : List ℕ) (sum room : ℕ) → sum ≡ sizes rows → room + sum ≡ 2 ^ 60 → room < length bytes → rows ≡ taken rows (bytes ∷ [])
takes_none rows bytes sum room sum_is room_is long =
    let many : nat_le (sizes rows + length bytes) (2 ^ 60) ≡ false = lt-leb (sizes rows + length bytes) (2 ^ 60) (omega (arith, sum_is, room_is, long)) in
    sym (ap (λ (b : Bool). if nat_lt 0 (length bytes) && (not (has_row rows (digest_of bytes)) && b) then rows ++ row_with bytes ∷ [] else rows) many
    ∙ cond-false (nat_lt 0 (length bytes) && (not (has_row rows (digest_of bytes)) && false)) (rows ++ row_with bytes ∷ []) rows (none_both (nat_lt 0 (length bytes)) (not (has_row rows (digest_of bytes)))))
  where
    none_both : (a b : Bool) → (a && (b && false)) ≡ false
    none_both true true = refl
    none_both true false = refl
    none_both false b = refl

-- the rows of one body, and then those of the rest
pub taken_more : (rows now : List Row) (bytes : List ℕ) (rest : List (List ℕ)) → now ≡ taken rows (bytes ∷ []) → taken now rest ≡ taken rows (bytes ∷ rest)
taken_more rows now bytes rest is = ap (λ (rs : List Row). taken rs rest) is
