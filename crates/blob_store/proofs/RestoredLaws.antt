-- A store that is loaded after its end.
use Rattle.std.proofs.Common.{◌≡◌, ◌≢◌, ℕ, ◌+◌, ◌<◌, ◌≤◌, ◌^◌, Bool, true, false, cond, not, ◌&&◌, ◌||◌, List, [], ◌∷◌, ◌++◌, length, map, Option, Some, None, Contains, refl, sym, ap, subst, ◌∙◌, arith}
use Rattle.std.specs.Prelude.{filter, nat_le, nat_lt, sum_by}
use Rattle.std.specs.List.{AllByRecursion, filter_map, cons_option}
use Rattle.std.proofs.lemmas.Bool.{and_from, cond-true, cond-false, le-leb, lt-ltb, not_from_false, not_from_true}
use Rattle.std.proofs.lemmas.List.{append-nil, append_assoc}
use Rattle.std.proofs.lemmas.List.Folds.{list_any-append}
use Rattle.std.proofs.lemmas.List.Sums.{sum_by-cons, sum_by_push}
use Rattle.digest_types.specs.Name.{HashAndSize}
use Rattle.digest_types.specs.Digest.{digest_of}
use Rattle.store_core.specs.declared.state.Row.{Row}
use Rattle.store_core.specs.declared.state.Guard.{Guard}
use Rattle.store_core.specs.State.{State, Valid, DistinctDigests, new_state, same, is_among, is_of, row_of, has_row, digests, sizes, total}
use Rattle.store_core.specs.Pass.{without}
use Rattle.store_core.proofs.Elements.{every_contains, every_has, every_map, has_first, has_later, has_map}
use Rattle.store_core.proofs.Guarding.{same_swap}
use Rattle.store_core.proofs.Passes.{among_has}
use Rattle.store_core.proofs.Same.{equal_from_same, not_same_from_other, same_itself}
use Rattle.indexed_core.proofs.ReachedRows.{Contains_from_among}
use Rattle.blob_store.specs.Restored.{row_with, is_taken, taken, in_use_order, restored, AreBodiesFor, IsRowOf, HasLinksOf, as_sound, text_abc, text_ab}

-- ---- bodies that are found

pub size_is : (bytes : List ℕ) → (digest_of bytes).size ≡ length bytes
unfolding digest_of
size_is bytes = refl

total_found : (found : List (List ℕ)) → total (map digest_of found) ≡ sum_by (λ bytes. length bytes) found
total_found [] = refl
total_found (bytes ∷ found) =
    omega (arith, sum_by-cons (λ (d : HashAndSize). d.size) (digest_of bytes) (map digest_of found), sum_by-cons (λ (bs : List ℕ). length bs) bytes found, size_is bytes, total_found found)

taken_first : (rows : List Row) (bytes : List ℕ) → 0 < length bytes → has_row rows (digest_of bytes) ≡ false → sizes rows + length bytes ≤ 2 ^ 60 → is_taken rows bytes ≡ true
taken_first rows bytes filled new within =
    and_from (nat_lt 0 (length bytes)) (not (has_row rows (digest_of bytes)) && nat_le (sizes rows + length bytes) (2 ^ 60)) (lt-ltb 0 (length bytes) filled)
    (and_from (not (has_row rows (digest_of bytes))) (nat_le (sizes rows + length bytes) (2 ^ 60)) (not_from_false (has_row rows (digest_of bytes)) new) (le-leb (sizes rows + length bytes) (2 ^ 60) within))

new_beside : (rows : List Row) (row : Row) (d : HashAndSize) → has_row rows d ≡ false → d ≢ row.digest → has_row (rows ++ row ∷ []) d ≡ false
new_beside rows row d new other =
    list_any-append (is_of d) rows (row ∷ [])
    ∙ ap (λ (b : Bool). b || (is_of d row || false)) new
    ∙ ap (λ (b : Bool). b || false) (not_same_from_other row.digest d (λ e. other (sym e)))

abbrev AreNew : List Row → List (List ℕ) → Type 0
AreNew rows found = AllByRecursion (λ bytes. has_row rows (digest_of bytes) ≡ false) found

still_new : (rows : List Row) (first : List ℕ) (found : List (List ℕ)) → AreNew rows found → AllByRecursion (λ (other : HashAndSize). other ≢ digest_of first) (map digest_of found) → AreNew (rows ++ row_with first ∷ []) found
still_new rows first [] new others = tt
still_new rows first (bytes ∷ found) new others = (new_beside rows (row_with first) (digest_of bytes) new.0 others.0, still_new rows first found new.1 others.1)

-- where all are new, all become rows
taken_all : (rows : List Row) (found : List (List ℕ)) → DistinctDigests (map digest_of found) → AllByRecursion (λ bytes. 0 < length bytes) found → AreNew rows found → sizes rows + total (map digest_of found) ≤ 2 ^ 60
    → taken rows found ≡ rows ++ map row_with found
taken_all rows [] distinct filled new within = sym (append-nil rows)
taken_all rows (bytes ∷ found) distinct filled new within =
    let sum = sum_by-cons (λ (d : HashAndSize). d.size) (digest_of bytes) (map digest_of found) in
    let size = size_is bytes in
    let fits : sizes rows + length bytes ≤ 2 ^ 60 = omega (arith, sum, size) in
    let more = sum_by_push (λ (row : Row). row.digest.size) rows (row_with bytes) in
    ap (λ (b : Bool). taken (cond b (rows ++ row_with bytes ∷ []) rows) found) (taken_first rows bytes filled.0 new.0 fits)
    ∙ taken_all (rows ++ row_with bytes ∷ []) found distinct.1 filled.1 (still_new rows bytes found new.1 distinct.0) (omega (arith, sum, more))
    ∙ append_assoc rows (row_with bytes ∷ []) (map row_with found)

-- the row of a digest that was found is that of a body with this digest
found_row : (found : List (List ℕ)) (d : HashAndSize) → is_among (map digest_of found) d ≡ true
    → (bytes : List ℕ) × Contains found bytes × (digest_of bytes ≡ d) × (row_of d (map row_with found) ≡ Some (row_with bytes))
found_row [] d e = absurd cc
found_row (first ∷ found) d e = by (same (digest_of first) d) refl (found_row found d) e
  where
    by : (b : Bool) → same (digest_of first) d ≡ b
        → (is_among (map digest_of found) d ≡ true → (bytes : List ℕ) × Contains found bytes × (digest_of bytes ≡ d) × (row_of d (map row_with found) ≡ Some (row_with bytes)))
        → is_among (digest_of first ∷ map digest_of found) d ≡ true
        → (bytes : List ℕ) × Contains (first ∷ found) bytes × (digest_of bytes ≡ d) × (row_of d (map row_with (first ∷ found)) ≡ Some (row_with bytes))
    by true is later among = (
      first,
      has_first first found,
      equal_from_same (digest_of first) d is,
      cond-true (is_of d (row_with first)) (Some (row_with first)) (row_of d (map row_with found)) is,
    )
    by false is later among =
        let rest = later (ap (λ (b : Bool). b || is_among (map digest_of found) d) (sym (same_swap d (digest_of first) ∙ is)) ∙ among) in (
          rest.0,
          has_later first rest.0 found rest.1,
          rest.2,
          cond-false (is_of d (row_with first)) (Some (row_with first)) (row_of d (map row_with found)) is ∙ rest.3,
        )

-- ---- a restart

filter_nothing : {X : Type 0} (p : X → Bool) (xs : List X) → AllByRecursion (λ x. p x ≡ false) xs → filter p xs ≡ []
filter_nothing p [] h = refl
filter_nothing p (x ∷ xs) h = cond-false (p x) (x ∷ filter p xs) (filter p xs) h.0 ∙ filter_nothing p xs h.1

not_empty : (bytes : List ℕ) → digest_of bytes ≢ digest_of [] → 0 < length bytes
not_empty [] other = absurd (other refl)
not_empty (b ∷ bytes) other = omega arith

-- the rows of these digests
abbrev rows_of : List (List ℕ) → List HashAndSize → List Row
rows_of found ds = filter_map (λ d. row_of d (map row_with found)) ds

abbrev AreFound : List (List ℕ) → List HashAndSize → Type 0
AreFound found ds = AllByRecursion (λ d. is_among (map digest_of found) d ≡ true) ds

rows_digests : (found : List (List ℕ)) (ds : List HashAndSize) → AreFound found ds → digests (rows_of found ds) ≡ ds
rows_digests found [] h = refl
rows_digests found (d ∷ ds) h =
    let r = found_row found d h.0 in
    let rest = rows_digests found ds h.1 in
    ap (λ (o : Option Row). digests (cons_option o (rows_of found ds))) r.3 ∙ (λ i. r.2 i ∷ rest i)

rows_each : (found : List (List ℕ)) (ds : List HashAndSize) → AreFound found ds → AllByRecursion (IsRowOf found) (rows_of found ds)
rows_each found [] h = tt
rows_each found (d ∷ ds) h =
    let r = found_row found d h.0 in
    subst (λ (o : Option Row). AllByRecursion (IsRowOf found) (cons_option o (rows_of found ds))) (sym r.3) ((r.0, r.1, refl), rows_each found ds h.1)

rows_sound : (found : List (List ℕ)) (rows : List Row) → AreFound found (digests rows) → AllByRecursion (HasLinksOf found) rows → rows_of found (digests rows) ≡ map as_sound rows
rows_sound found [] h links_are = refl
rows_sound found (row ∷ rows) h links_are =
    let r = found_row found row.digest h.0 in
    let edges = sym (links_are.0 r.0 r.1 r.2) in
    let rest = rows_sound found rows h.1 links_are.1 in
    ap (λ (o : Option Row). cons_option o (rows_of found (digests rows))) r.3 ∙ (λ i. record { digest = r.2 i; edges = edges i; sound = true } ∷ rest i)

module _ (s : State) (found : List (List ℕ)) (valid : Valid s) (bodies : AreBodiesFor s.rows found) where
  among_rows : (bytes : List ℕ) → Contains found bytes → is_among (digests s.rows) (digest_of bytes) ≡ true
  among_rows bytes has = sym (bodies.same (digest_of bytes)) ∙ among_has (map digest_of found) (digest_of bytes) (has_map digest_of found bytes has)

  are_found : AreFound found (digests s.rows)
  are_found = every_has (λ d. is_among (map digest_of found) d ≡ true) (digests s.rows) (λ d has. bodies.same d ∙ among_has (digests s.rows) d has)

  filled_rows : AllByRecursion (λ (d : HashAndSize). d ≢ digest_of []) (digests s.rows)
  filled_rows = every_map (λ (row : Row). row.digest ≢ digest_of []) (λ (d : HashAndSize). d ≢ digest_of []) (λ (row : Row). row.digest) (λ row other. other) s.rows valid.filled

  filled : AllByRecursion (λ bytes. 0 < length bytes) found
  filled = every_has (λ bytes. 0 < length bytes) found
      (λ bytes has. not_empty bytes (every_contains (λ (d : HashAndSize). d ≢ digest_of []) (digests s.rows) (digest_of bytes) filled_rows (Contains_from_among (digests s.rows) (digest_of bytes) (among_rows bytes has))))

  all_taken : taken [] found ≡ map row_with found
  all_taken =
      let sum = total_found found in
      let within = bodies.within in
      taken_all [] found bodies.distinct filled (every_has (λ bytes. has_row [] (digest_of bytes) ≡ false) found (λ bytes has. refl)) (omega arith)

  none_new : without (digests s.rows) (map row_with found) ≡ []
  none_new = filter_nothing (λ (row : Row). not (is_among (digests s.rows) row.digest)) (map row_with found)
      (every_map (λ bytes. is_among (digests s.rows) (digest_of bytes) ≡ true) (λ (row : Row). not (is_among (digests s.rows) row.digest) ≡ false) row_with
      (λ bytes e. not_from_true (is_among (digests s.rows) (digest_of bytes)) e) found (every_has (λ bytes. is_among (digests s.rows) (digest_of bytes) ≡ true) found among_rows))

  rows_are : in_use_order (digests s.rows) (taken [] found) ≡ rows_of found (digests s.rows)
  rows_are =
      ap (in_use_order (digests s.rows)) all_taken
      ∙ ap (λ (rows : List Row). rows ++ rows_of found (digests s.rows)) none_new

  pub keeps_order : digests (in_use_order (digests s.rows) (taken [] found)) ≡ digests s.rows
  keeps_order = ap digests rows_are ∙ rows_digests found (digests s.rows) are_found

  pub keeps_rows : AllByRecursion (IsRowOf found) (in_use_order (digests s.rows) (taken [] found))
  keeps_rows = subst (AllByRecursion (IsRowOf found)) (sym rows_are) (rows_each found (digests s.rows) are_found)

  pub keeps_all : (low high : ℕ) (guard : Guard) → AllByRecursion (HasLinksOf found) s.rows
      → restored (digests s.rows) found low high guard ≡ record (new_state low high guard) { rows = map as_sound s.rows }
  keeps_all low high guard links_are =
      ap (λ (rows : List Row). record (new_state low high guard) { rows = rows }) (rows_are ∙ rows_sound found s.rows are_found links_are)

-- ---- a body that is found again

none_taken : (b : Bool) → (b && false) ≡ false
none_taken true = refl
none_taken false = refl

again : (a b : List ℕ) → 0 < length a → 0 < length b → digest_of b ≢ digest_of a → length a + length b ≤ 2 ^ 60 → taken [] (a ∷ b ∷ a ∷ []) ≡ row_with a ∷ row_with b ∷ []
again a b filled_a filled_b other within =
    let sum = total_found (a ∷ b ∷ []) in
    let two : taken [] (a ∷ b ∷ []) ≡ row_with a ∷ row_with b ∷ [] =
    taken_all [] (a ∷ b ∷ []) ((other, tt), (tt, tt)) (filled_a, (filled_b, tt)) (refl, (refl, tt)) (omega (arith, sum_by-cons (λ (bs : List ℕ). length bs) a (b ∷ []), sum_by-cons (λ (bs : List ℕ). length bs) b [], sum)) in
    let gone : is_taken (row_with a ∷ row_with b ∷ []) a ≡ false =
    ap (λ (t : Bool). nat_lt 0 (length a) && (not (t || (same (digest_of b) (digest_of a) || false)) && nat_le (sizes (row_with a ∷ row_with b ∷ []) + length a) (2 ^ 60))) (same_itself (digest_of a))
    ∙ none_taken (nat_lt 0 (length a)) in
    ap (λ (rows : List Row). taken rows (a ∷ [])) two
    ∙ cond-false (is_taken (row_with a ∷ row_with b ∷ []) a) ((row_with a ∷ row_with b ∷ []) ++ row_with a ∷ []) (row_with a ∷ row_with b ∷ []) gone

-- of two rows one is saved
saved_last : (first last : Row) (other : HashAndSize) → last.digest ≢ first.digest → first.digest ≢ other → last.digest ≢ other
    → in_use_order (first.digest ∷ other ∷ []) (first ∷ last ∷ []) ≡ last ∷ first ∷ []
saved_last first last other apart first_other last_other =
    let aa = same_itself first.digest in
    let ba = not_same_from_other last.digest first.digest apart in
    let ao = not_same_from_other first.digest other first_other in
    let bo = not_same_from_other last.digest other last_other in
    λ i.
    cond (not (aa i || (same first.digest other || false))) (first ∷ cond (not (ba i || (bo i || false))) (last ∷ []) []) (cond (not (ba i || (bo i || false))) (last ∷ []) [])
    ++ cons_option (cond (aa i) (Some first) (cond (same last.digest first.digest) (Some last) None)) (cons_option (cond (ao i) (Some first) (cond (bo i) (Some last) None)) [])

ab_is_other : digest_of text_ab ≢ digest_of text_abc
ab_is_other e = let sizes_are = ap (λ (d : HashAndSize). d.size) e in absurd (omega (arith, size_is text_ab, size_is text_abc, sizes_are))

pub abc_ab_abc : (other : HashAndSize) → digest_of text_abc ≢ other → digest_of text_ab ≢ other → in_use_order (digest_of text_abc ∷ other ∷ []) (taken [] (text_abc ∷ text_ab ∷ text_abc ∷ [])) ≡ row_with text_ab ∷ row_with text_abc ∷ []
abc_ab_abc other abc_other ab_other =
    ap (in_use_order (digest_of text_abc ∷ other ∷ [])) (again text_abc text_ab (omega arith) (omega arith) ab_is_other (omega arith))
    ∙ saved_last (row_with text_abc) (row_with text_ab) other ab_is_other abc_other ab_other

pub five_bytes : sizes (row_with text_ab ∷ row_with text_abc ∷ []) ≡ 5
five_bytes =
    omega (arith, sum_by-cons (λ (row : Row). row.digest.size) (row_with text_ab) (row_with text_abc ∷ []), sum_by-cons (λ (row : Row). row.digest.size) (row_with text_abc) [], size_is text_ab, size_is text_abc)
