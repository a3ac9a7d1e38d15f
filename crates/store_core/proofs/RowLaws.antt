-- Rows of different digests, and the changes that keep them so.
use Rattle.std.proofs.Common.{◌≡◌, ◌≢◌, ◌+◌, ◌≤◌, Bool, true, false, cond, not, List, [], ◌∷◌, ◌++◌, map, Option, Some, None, inl, inr, refl, sym, ap, subst, ◌∙◌, arith}
use Rattle.std.specs.Prelude.{filter, Contains, if◌then◌else◌}
use Rattle.std.specs.List.{AllByRecursion}
use Rattle.std.specs.Option.{option_or, option_map}
use Rattle.std.proofs.lemmas.Bool.{cond_both, cond-true, cases_Bool, not_from_false, not-true}
use Rattle.std.proofs.lemmas.List.Elements.{Contains-append_left, Contains-append_right, Contains-append_cases}
use Rattle.std.proofs.lemmas.List.Filters.{sum_by-filter_both}
use Rattle.std.proofs.lemmas.List.Folds.{find-append}
use Rattle.std.proofs.lemmas.List.Sums.{sum_by-cons, sum_by-append}
use Rattle.digest_types.specs.Name.{HashAndSize}
use Rattle.digest_types.specs.Digest.{digest_of}
use Rattle.store_core.specs.declared.state.Row.{Row}
use Rattle.store_core.specs.State.{same, is_of, row_of, others, is_sound, sizes, Distinct}
use Rattle.store_core.specs.Step.{touched, touched_all, damaged}
use Rattle.store_core.proofs.Elements.{every_filter, every_push, every_append, every_map, every_weaker, every_contains, every_has, has_cases, has_filter, has_from_filter, find_has, find_missed, find_none, find_kept, find_of_map}
use Rattle.store_core.proofs.Same.{equal_from_same, same_from_equal, not_same_from_other, other_from_not_same}

-- no row is that of the empty blob
abbrev pub Filled : List Row → Type 0
Filled rows = AllByRecursion (λ row. row.digest ≢ digest_of []) rows

-- ---- no digest has two rows

-- another digest than that of the row
abbrev pub Differs : Row → Row → Type 0
Differs row other = other.digest ≢ row.digest

keep : (b : Bool) (x : Row) (xs : List Row) → AllByRecursion (Differs x) xs → Distinct xs → Distinct (cond b (x ∷ xs) xs)
keep true x xs h d = (h, d)
keep false x xs h d = d

pub distinct_filter : (p : Row → Bool) (rows : List Row) → Distinct rows → Distinct (filter p rows)
distinct_filter p [] d = tt
distinct_filter p (row ∷ rows) d = keep (p row) row (filter p rows) (every_filter (Differs row) p rows d.0) (distinct_filter p rows d.1)

pub distinct_push : (rows : List Row) (row : Row) → Distinct rows → AllByRecursion (λ other. other.digest ≢ row.digest) rows → Distinct (rows ++ row ∷ [])
distinct_push [] row d h = (tt, tt)
distinct_push (first ∷ rows) row d h = (every_push (Differs first) rows row d.0 (λ e. h.0 (sym e)), distinct_push rows row d.1 h.1)

-- rows of other digests, and then those of this one
pub distinct_apart : (d : HashAndSize) (xs ys : List Row) → Distinct xs → Distinct ys → AllByRecursion (λ row. row.digest ≢ d) xs → AllByRecursion (λ row. row.digest ≡ d) ys → Distinct (xs ++ ys)
distinct_apart d [] ys dx dy h q = dy
distinct_apart d (x ∷ xs) ys dx dy h q = (
  every_append (Differs x) xs ys dx.0 (every_weaker (λ row. row.digest ≡ d) (Differs x) (λ row is e. h.0 (sym e ∙ is)) ys q),
  distinct_apart d xs ys dx.1 dy h.1 q,
)

differs_of_map : (f : Row → Row) (row : Row) → ((r : Row) → (f r).digest ≡ r.digest) → (rows : List Row) → AllByRecursion (Differs row) rows → AllByRecursion (Differs (f row)) (map f rows)
differs_of_map f row keeps [] h = tt
differs_of_map f row keeps (x ∷ rows) h = (λ e. h.0 (sym (keeps x) ∙ e ∙ keeps row), differs_of_map f row keeps rows h.1)

pub distinct_map : (f : Row → Row) → ((r : Row) → (f r).digest ≡ r.digest) → (rows : List Row) → Distinct rows → Distinct (map f rows)
distinct_map f keeps [] d = tt
distinct_map f keeps (row ∷ rows) d = (differs_of_map f row keeps rows d.0, distinct_map f keeps rows d.1)

-- two rows of one digest are the same row
pub one_row : (rows : List Row) (a b : Row) → Distinct rows → Contains rows a → Contains rows b → a.digest ≡ b.digest → a ≡ b
one_row [] a b d has other e = absurd (omega (arith, has.1))
one_row (row ∷ rows) a b d has other e =
    elim (has_cases row a rows has) [
      | inl first ↦ elim (has_cases row b rows other) [
        | inl too ↦ sym first ∙ too
        | inr later ↦ absurd (every_contains (Differs row) rows b d.0 later (sym e ∙ ap (λ (r : Row). r.digest) (sym first)))
      ]
      | inr later ↦ elim (has_cases row b rows other) [
        | inl first ↦ absurd (every_contains (Differs row) rows a d.0 later (e ∙ ap (λ (r : Row). r.digest) (sym first)))
        | inr too ↦ one_row rows a b d.1 later too e
      ]
    ]

-- ---- how many bytes they have

pub sizes_filter : (p : Row → Bool) (rows : List Row) → sizes (filter p rows) ≤ sizes rows
sizes_filter p rows = omega (arith, sum_by-filter_both p (λ (row : Row). not (p row)) (λ _. refl) (λ (row : Row). row.digest.size) rows)

pub sizes_map : (f : Row → Row) → ((r : Row) → (f r).digest ≡ r.digest) → (rows : List Row) → sizes (map f rows) ≡ sizes rows
sizes_map f keeps [] = refl
sizes_map f keeps (row ∷ rows) =
    let one : (f row).digest.size ≡ row.digest.size = ap (λ (d : HashAndSize). d.size) (keeps row) in
    omega (arith, sum_by-cons (λ (r : Row). r.digest.size) row rows, sum_by-cons (λ (r : Row). r.digest.size) (f row) (map f rows), sizes_map f keeps rows)

-- ---- the rows of other digests

pub others_differ : (d : HashAndSize) (rows : List Row) → AllByRecursion (λ row. row.digest ≢ d) (others d rows)
others_differ d rows =
    every_has (λ row. row.digest ≢ d) (others d rows) (λ row has. other_from_not_same row.digest d (not-true (is_of d row) (has_from_filter (λ r. not (is_of d r)) rows row has).1))

-- and those of this one
pub of_digest : (d : HashAndSize) (rows : List Row) → AllByRecursion (λ row. row.digest ≡ d) (filter (is_of d) rows)
of_digest d rows =
    every_has (λ row. row.digest ≡ d) (filter (is_of d) rows) (λ row has. equal_from_same row.digest d (has_from_filter (is_of d) rows row has).1)

-- a digest with no row differs from those that have one
pub absent : (d : HashAndSize) (rows : List Row) → row_of d rows ≡ None → AllByRecursion (λ row. row.digest ≢ d) rows
absent d rows e = every_weaker (λ row. is_of d row ≡ false) (λ row. row.digest ≢ d) (λ row f. other_from_not_same row.digest d f) rows (find_missed (is_of d) rows e)

-- what is found: a row of the digest, whose bytes are among those of all rows
pub record Found (d : HashAndSize) (rows : List Row) (row : Row) : Type 0 where
  pub has : Contains rows row
  pub digest : row.digest ≡ d
  pub bytes : sizes (others d rows) + d.size ≤ sizes rows

-- in each, b says whether the first row is that of the digest
bytes_by : (d : HashAndSize) (first : Row) (rest : List Row) (b : Bool) → is_of d first ≡ b → (b ≡ false → sizes (others d rest) + d.size ≤ sizes rest) → sizes (cond (not b) (first ∷ others d rest) (others d rest)) + d.size ≤ sizes (first ∷ rest)
bytes_by d first rest true e h =
    let size : first.digest.size ≡ d.size = ap (λ (x : HashAndSize). x.size) (equal_from_same first.digest d e) in
    omega (arith, sum_by-cons (λ (x : Row). x.digest.size) first rest, sizes_filter (λ r. not (is_of d r)) rest)
bytes_by d first rest false e h =
    omega (arith, h refl, sum_by-cons (λ (x : Row). x.digest.size) first (others d rest), sum_by-cons (λ (x : Row). x.digest.size) first rest)

later_by : (d : HashAndSize) (first row : Row) (rest : List Row) (b : Bool) → cond b (Some first) (row_of d rest) ≡ Some row → b ≡ false → row_of d rest ≡ Some row
later_by d first row rest true e f = absurd cc
later_by d first row rest false e f = e

found_bytes : (d : HashAndSize) (rows : List Row) (row : Row) → row_of d rows ≡ Some row → sizes (others d rows) + d.size ≤ sizes rows
found_bytes d [] row e = absurd cc
found_bytes d (first ∷ rest) row e = bytes_by d first rest (is_of d first) refl (λ f. found_bytes d rest row (later_by d first row rest (is_of d first) e f))

pub found_row : (d : HashAndSize) (rows : List Row) (row : Row) → row_of d rows ≡ Some row → Found d rows row
found_row d rows row e =
    let r = find_has (is_of d) rows row e in
    record { has = r.0; digest = equal_from_same row.digest d r.1; bytes = found_bytes d rows row e }

-- ---- rows in another order

-- the same rows, in any order
pub record IsTurned (rows after : List Row) : Type 0 where
  pub distinct : Distinct rows → Distinct after
  pub has : (row : Row) → Contains rows row → Contains after row
  pub has_back : (row : Row) → Contains after row → Contains rows row
  pub bytes : sizes after ≡ sizes rows
  pub row : (d : HashAndSize) → row_of d after ≡ row_of d rows

pub turned_not : (rows : List Row) → IsTurned rows rows
turned_not rows = record { distinct = λ d. d; has = λ row h. h; has_back = λ row h. h; bytes = refl; row = λ d. refl }

pub turned_twice : (rows between after : List Row) → IsTurned rows between → IsTurned between after → IsTurned rows after
turned_twice rows between after a b = record {
  distinct = λ d. b.distinct (a.distinct d);
  has = λ row h. b.has row (a.has row h);
  has_back = λ row h. a.has_back row (b.has_back row h);
  bytes = b.bytes ∙ a.bytes;
  row = λ d. b.row d ∙ a.row d;
}

-- what holds of each row holds of each in another order
pub turned_every : (P : Row → Type 0) (rows after : List Row) → IsTurned rows after → AllByRecursion P rows → AllByRecursion P after
turned_every P rows after t h = every_has P after (λ row has. every_contains P rows row h (t.has_back row has))

-- ---- a row that becomes the most recent one

or_none : (o : Option Row) → option_or o None ≡ o
or_none (Some row) = refl
or_none None = refl

of_other : (d e : HashAndSize) (row : Row) → d ≢ e → is_of e row ≡ true → is_of d row ≡ false
of_other d e row other is = not_same_from_other row.digest d (λ q. other (sym q ∙ equal_from_same row.digest e is))

-- the rows of other digests are found as before, and this one isn't
pub others_row : (d e : HashAndSize) (rows : List Row) → d ≢ e → row_of e (others d rows) ≡ row_of e rows
others_row d e rows other = find_kept (is_of e) (λ row. not (is_of d row)) rows (every_has (λ row. is_of e row ≡ true → not (is_of d row) ≡ true) rows (λ row has is. not_from_false (is_of d row) (of_other d e row other is)))

pub others_none : (d : HashAndSize) (rows : List Row) → row_of d (others d rows) ≡ None
others_none d rows = find_none (is_of d) (others d rows) (every_weaker (λ row. row.digest ≢ d) (λ row. is_of d row ≡ false) (λ row n. not_same_from_other row.digest d n) (others d rows) (others_differ d rows))

-- the rows with that of the digest as the last one
abbrev moved : HashAndSize → List Row → List Row
moved d rows = others d rows ++ filter (is_of d) rows

moved_row : (d e : HashAndSize) (rows : List Row) → row_of e (moved d rows) ≡ row_of e rows
moved_row d e rows =
    let parts = find-append (is_of e) (others d rows) (filter (is_of d) rows) in
    elim (cases_Bool (same d e)) [
      | inl is ↦
          let equal : d ≡ e = equal_from_same d e is in
          let here : row_of d (moved d rows) ≡ row_of d rows =
          find-append (is_of d) (others d rows) (filter (is_of d) rows)
          ∙ ap (λ o. option_or o (row_of d (filter (is_of d) rows))) (others_none d rows)
          ∙ find_kept (is_of d) (is_of d) rows (every_has (λ row. is_of d row ≡ true → is_of d row ≡ true) rows (λ row has is. is)) in
          subst (λ x. row_of x (moved d rows) ≡ row_of x rows) equal here
      | inr not ↦
          let other = other_from_not_same d e not in
          let none : row_of e (filter (is_of d) rows) ≡ None =
          find_none (is_of e) (filter (is_of d) rows) (every_weaker (λ row. row.digest ≡ d) (λ row. is_of e row ≡ false) (λ row is. not_same_from_other row.digest e (λ q. other (sym is ∙ q))) (filter (is_of d) rows) (of_digest d rows)) in
          parts ∙ ap (λ o. option_or (row_of e (others d rows)) o) none ∙ or_none (row_of e (others d rows)) ∙ others_row d e rows other
    ]

moved_has : (d : HashAndSize) (rows : List Row) (row : Row) → Contains rows row → Contains (moved d rows) row
moved_has d rows row has =
    elim (cases_Bool (is_of d row)) [
      | inl is ↦ Contains-append_right (others d rows) (filter (is_of d) rows) row (has_filter (is_of d) rows row has is)
      | inr other ↦ Contains-append_left (others d rows) (filter (is_of d) rows) row (has_filter (λ r. not (is_of d r)) rows row has (not_from_false (is_of d row) other))
    ]

moved_has_back : (d : HashAndSize) (rows : List Row) (row : Row) → Contains (moved d rows) row → Contains rows row
moved_has_back d rows row has =
    elim (Contains-append_cases (others d rows) (filter (is_of d) rows) row has) [
      | inl left ↦ (has_from_filter (λ r. not (is_of d r)) rows row left).0
      | inr right ↦ (has_from_filter (is_of d) rows row right).0
    ]

moved_bytes : (d : HashAndSize) (rows : List Row) → sizes (moved d rows) ≡ sizes rows
moved_bytes d rows =
    let all = sum_by-append (λ (row : Row). row.digest.size) (others d rows) (filter (is_of d) rows) in
    let parts = sum_by-filter_both (is_of d) (λ (row : Row). not (is_of d row)) (λ _. refl) (λ (row : Row). row.digest.size) rows in
    omega arith

turned_moved : (d : HashAndSize) (rows : List Row) → IsTurned rows (moved d rows)
turned_moved d rows = record {
  distinct = λ v. distinct_apart d (others d rows) (filter (is_of d) rows) (distinct_filter (λ r. not (is_of d r)) rows v) (distinct_filter (is_of d) rows v) (others_differ d rows) (of_digest d rows);
  has = moved_has d rows;
  has_back = moved_has_back d rows;
  bytes = moved_bytes d rows;
  row = λ e. moved_row d e rows;
}

pub turned_touched : (d : HashAndSize) (rows : List Row) → IsTurned rows (touched d rows)
turned_touched d rows = cond_both (is_sound rows d) (moved d rows) rows (IsTurned rows) (λ _. turned_moved d rows) (λ _. turned_not rows)

pub turned_touched_all : (ds : List HashAndSize) (rows : List Row) → IsTurned rows (touched_all ds rows)
unfolding touched_all
turned_touched_all [] rows = turned_not rows
turned_touched_all (d ∷ ds) rows = turned_twice rows (touched d rows) (touched_all ds (touched d rows)) (turned_touched d rows) (turned_touched_all ds (touched d rows))

-- ---- a row that is put again

pub again_distinct : (d : HashAndSize) (rows : List Row) (row : Row) → row.digest ≡ d → Distinct rows → Distinct (others d rows ++ row ∷ [])
again_distinct d rows row is v = distinct_apart d (others d rows) (row ∷ []) (distinct_filter (λ r. not (is_of d r)) rows v) (tt, tt) (others_differ d rows) (is, tt)

pub again_filled : (d : HashAndSize) (rows : List Row) (row : Row) → row.digest ≢ digest_of [] → Filled rows → Filled (others d rows ++ row ∷ [])
again_filled d rows row filled v = every_push (λ r. r.digest ≢ digest_of []) (others d rows) row (every_filter (λ r. r.digest ≢ digest_of []) (λ r. not (is_of d r)) rows v) filled

-- ---- a row that is damaged

-- the row, unsound if it is that of the digest
abbrev pub unsound_if : HashAndSize → Row → Row
unsound_if d row = if is_of d row then record row { sound = false } else row

unsound_by : (b : Bool) (row : Row) → (cond b (record row { sound = false }) row).digest ≡ row.digest
unsound_by true row = refl
unsound_by false row = refl

pub unsound_digest : (d : HashAndSize) (row : Row) → (unsound_if d row).digest ≡ row.digest
unsound_digest d row = unsound_by (is_of d row) row

pub damaged_distinct : (d : HashAndSize) (rows : List Row) → Distinct rows → Distinct (damaged d rows)
damaged_distinct d rows v = distinct_map (unsound_if d) (unsound_digest d) rows v

pub damaged_filled : (d : HashAndSize) (rows : List Row) → Filled rows → Filled (damaged d rows)
damaged_filled d rows v = every_map (λ r. r.digest ≢ digest_of []) (λ r. r.digest ≢ digest_of []) (unsound_if d) (λ r h e. h (sym (unsound_digest d r) ∙ e)) rows v

pub damaged_sizes : (d : HashAndSize) (rows : List Row) → sizes (damaged d rows) ≡ sizes rows
damaged_sizes d rows = sizes_map (unsound_if d) (unsound_digest d) rows

-- ---- rows that are found as before

row_by : (rows : List Row) (row : Row) (o : Option Row) → row_of row.digest rows ≡ o → Distinct rows → Contains rows row → o ≡ Some row
row_by rows row None e v has = absurd (every_contains (λ r. r.digest ≢ row.digest) rows row (absent row.digest rows e) has refl)
row_by rows row (Some other) e v has = let f = found_row row.digest rows other e in ap (λ (r : Row). Some r) (one_row rows other row v f.has has f.digest)

-- a row is found by its digest
pub row_of_has : (rows : List Row) (row : Row) → Distinct rows → Contains rows row → row_of row.digest rows ≡ Some row
row_of_has rows row v has = row_by rows row (row_of row.digest rows) refl v has

-- one more row hides none
pub push_row : (d : HashAndSize) (rows : List Row) (row new : Row) → row_of d rows ≡ Some row → row_of d (rows ++ new ∷ []) ≡ Some row
push_row d rows row new e = find-append (is_of d) rows (new ∷ []) ∙ ap (λ o. option_or o (row_of d (new ∷ []))) e

-- the row that is put again is found
pub again_row : (d : HashAndSize) (rows : List Row) (row : Row) → row.digest ≡ d → row_of d (others d rows ++ row ∷ []) ≡ Some row
again_row d rows row is =
    find-append (is_of d) (others d rows) (row ∷ [])
    ∙ ap (λ o. option_or o (row_of d (row ∷ []))) (others_none d rows)
    ∙ cond-true (is_of d row) (Some row) None (same_from_equal row.digest d is)

pub damaged_row : (d e : HashAndSize) (rows : List Row) → row_of e (damaged d rows) ≡ option_map (unsound_if d) (row_of e rows)
damaged_row d e rows = find_of_map (unsound_if d) (is_of e) rows (λ row. ap (λ (x : HashAndSize). same x e) (unsound_digest d row))
