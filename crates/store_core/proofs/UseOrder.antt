-- Rows that are moved to the end, where the most recent one stands.
use Rattle.std.proofs.Common.{◌≡◌, ℕ, zero, suc, ◌+◌, ◌-◌, ◌<◌, ◌≤◌, Bool, true, false, cond, not, ltb, List, [], ◌∷◌, ◌++◌, length, get_or, set, take, drop, length-append, Some, None, refl, sym, ap, ◌∙◌, arith}
use borrow.Rule.Slice.PartMut.{put_mid, mid_of}
use Rattle.std.specs.Prelude.{filter, find, position, slice_get, ◌&&◌}
use Rattle.std.specs.List.{AllByRecursion, remove, position_or_len}
use Rattle.std.proofs.Math.Seq.{get_or-append_seam}
use Rattle.std.proofs.lemmas.Bool.{ltb-true, ltb-false, cond-true, cond-false, not_from_false, not_from_true, and_parts}
use Rattle.std.proofs.lemmas.List.Edits.{length-remove, map_over_more}
use Rattle.std.proofs.lemmas.List.Elements.{All-from_recursion, Contains-get_or}
use Rattle.std.proofs.lemmas.List.Quantifiers.{position-Some}
use Rattle.std.proofs.lemmas.List.Folds.{find_at, list_any_at, list_any_none}
use Rattle.std.proofs.lemmas.Option.{cond_some, same_Some, slice_get-get_or, slice_get_past}
use Rattle.std.proofs.lemmas.List.{set_at, take_at, at_drop_more, at_drop_all, get_or_default}
use Rattle.std.proofs.lemmas.Slice.{put_mid-rotated}
use Rattle.digest_types.specs.Name.{HashAndSize}
use Rattle.store_core.specs.declared.state.Row.{Row}
use Rattle.store_core.specs.State.{is_of, row_of, has_row, others, is_sound, Distinct}
use Rattle.store_core.specs.Step.{touched, touched_all, damaged}
use Rattle.store_core.proofs.Elements.{every_contains, every_weaker, filter_all, find_missed}
use Rattle.store_core.proofs.RowLaws.{Differs, unsound_if}
use Rattle.store_core.proofs.Same.{equal_from_same, not_same_from_other}

-- ---- the row at a place

-- what is found is what stands at the first place
pub row_there : (d : HashAndSize) (rows : List Row) (i : ℕ) → position (is_of d) rows ≡ Some i → row_of d rows ≡ slice_get rows i
row_there d rows i e =
    let h = cond_some (ltb (position_or_len (is_of d) rows) (length rows)) (position_or_len (is_of d) rows) i e in
    find_at (is_of d) rows ∙ ap (λ (k : ℕ). slice_get rows k) h.1

pub row_at : (d : HashAndSize) (rows : List Row) (i : ℕ) (x : Row) → position (is_of d) rows ≡ Some i → row_of d rows ≡ Some (get_or rows i x)
row_at d rows i x e =
    let h = cond_some (ltb (position_or_len (is_of d) rows) (length rows)) (position_or_len (is_of d) rows) i e in
    let lt = ltb-true _ _ h.0 in
    find_at (is_of d) rows ∙ slice_get-get_or rows (position_or_len (is_of d) rows) x lt ∙ ap (λ (k : ℕ). Some (get_or rows k x)) h.1

-- a digest whose row has a place has a row
pub place_row : (d : HashAndSize) (rows : List Row) (i : ℕ) → position (is_of d) rows ≡ Some i → has_row rows d ≡ true
place_row d rows i e =
    let x : Row = record { digest = d; edges = None; sound = true } in
    let h = position-Some (is_of d) rows i x e in
    list_any_at (is_of d) rows i x h.0 h.1

pub no_place : (b : Bool) (i : ℕ) → cond b (Some i) None ≡ None → b ≡ false
no_place true i e = absurd cc
no_place false i e = refl

pub nowhere : {X : Type 0} (p : X → Bool) (rows : List X) → position p rows ≡ None → find p rows ≡ None
nowhere p rows e =
    let f = no_place (ltb (position_or_len p rows) (length rows)) (position_or_len p rows) e in
    find_at p rows ∙ slice_get_past rows (position_or_len p rows) (ltb-false _ _ f)

pub no_row_at : (d : HashAndSize) (rows : List Row) → position (is_of d) rows ≡ None → row_of d rows ≡ None
no_row_at d rows e = nowhere (is_of d) rows e

-- ---- the rows of other digests, and that of this one

others_after : (d : HashAndSize) (row : Row) (rows : List Row) → AllByRecursion (Differs row) rows → is_of d row ≡ true → AllByRecursion (λ other. is_of d other ≡ false) rows
others_after d row rows differ at =
    let is : row.digest ≡ d = equal_from_same row.digest d at in
    every_weaker (Differs row) (λ other. is_of d other ≡ false) (λ other n. not_same_from_other other.digest d (λ q. n (q ∙ sym is))) rows differ

other_before : (d : HashAndSize) (row : Row) (rows : List Row) (i : ℕ) (x : Row) → AllByRecursion (Differs row) rows → i < length rows → is_of d (get_or rows i x) ≡ true → is_of d row ≡ false
other_before d row rows i x differ lt at =
    let is : (get_or rows i x).digest ≡ d = equal_from_same (get_or rows i x).digest d at in
    not_same_from_other row.digest d (λ q. every_contains (Differs row) rows (get_or rows i x) differ (Contains-get_or rows i x lt) (is ∙ sym q))

-- where no two rows have one digest, all rows but one are those of other digests
others_at : (d : HashAndSize) (rows : List Row) (i : ℕ) (x : Row) → Distinct rows → i < length rows → is_of d (get_or rows i x) ≡ true → others d rows ≡ remove rows i
others_at d [] i x distinct lt at = absurd (omega arith)
others_at d (row ∷ rows) zero x distinct lt at =
    cond-false (not (is_of d row)) (row ∷ others d rows) (others d rows) (not_from_true (is_of d row) at)
    ∙ filter_all (λ other. not (is_of d other)) rows
    (every_weaker (λ other. is_of d other ≡ false) (λ other. not (is_of d other) ≡ true) (λ other f. not_from_false (is_of d other) f) rows (others_after d row rows distinct.0 at))
others_at d (row ∷ rows) (suc i) x distinct lt at =
    cond-true (not (is_of d row)) (row ∷ others d rows) (others d rows) (not_from_false (is_of d row) (other_before d row rows i x distinct.0 (omega arith) at))
    ∙ ap (λ (rest : List Row). row ∷ rest) (others_at d rows i x distinct.1 (omega arith) at)

filter_none : (p : Row → Bool) (rows : List Row) → AllByRecursion (λ row. p row ≡ false) rows → filter p rows ≡ []
filter_none p [] h = refl
filter_none p (row ∷ rows) h = cond-false (p row) (row ∷ filter p rows) (filter p rows) h.0 ∙ filter_none p rows h.1

-- and the one is the only row of its digest
only_at : (d : HashAndSize) (rows : List Row) (i : ℕ) (x : Row) → Distinct rows → i < length rows → is_of d (get_or rows i x) ≡ true → filter (is_of d) rows ≡ get_or rows i x ∷ []
only_at d [] i x distinct lt at = absurd (omega arith)
only_at d (row ∷ rows) zero x distinct lt at =
    cond-true (is_of d row) (row ∷ filter (is_of d) rows) (filter (is_of d) rows) at
    ∙ ap (λ (rest : List Row). row ∷ rest) (filter_none (is_of d) rows (others_after d row rows distinct.0 at))
only_at d (row ∷ rows) (suc i) x distinct lt at =
    cond-false (is_of d row) (row ∷ filter (is_of d) rows) (filter (is_of d) rows) (other_before d row rows i x distinct.0 (omega arith) at)
    ∙ only_at d rows i x distinct.1 (omega arith) at

others_are_rest : (d : HashAndSize) (rows : List Row) (i : ℕ) → Distinct rows → position (is_of d) rows ≡ Some i → others d rows ≡ remove rows i
others_are_rest d [] i distinct e = absurd cc
others_are_rest d (row ∷ rows) i distinct e =
    let h = position-Some (is_of d) (row ∷ rows) i row e in
    others_at d (row ∷ rows) i row distinct h.0 h.1

-- ---- a row that is moved to the end

pub moved_back : (place : ℕ) (rows part moved : List Row) (row : Row) → place < length rows → part ≡ drop 1 (mid_of place (length rows - place) rows) ++ take 1 (mid_of place (length rows - place) rows)
    → moved ≡ put_mid place (length rows - place) rows part → slice_get rows place ≡ Some row → moved ≡ remove rows place ++ row ∷ []
moved_back place rows part moved row lt p is at =
    let x = get_or rows place row in
    let turned : moved ≡ remove rows place ++ x ∷ [] = is ∙ put_mid-rotated place (length rows - place) rows part row lt (omega arith) p in
    let found_row : x ≡ row = same_Some x row (sym (slice_get-get_or rows place row lt) ∙ at) in
    turned ∙ ap (λ (r : Row). remove rows place ++ r ∷ []) found_row

last_sound : (front : List Row) (row e : Row) (n : ℕ) → n ≡ length front → set (front ++ row ∷ []) n (record (get_or (front ++ row ∷ []) n e) { sound = true }) ≡ front ++ record row { sound = true } ∷ []
last_sound front row e n len =
    let stands : get_or (front ++ row ∷ []) n e ≡ row = ap (λ (k : ℕ). get_or (front ++ row ∷ []) k e) len ∙ get_or-append_seam front row [] e in
    set_at front row [] (record (get_or (front ++ row ∷ []) n e) { sound = true }) n (sym len)
    ∙ ap (λ (r : Row). front ++ record r { sound = true } ∷ []) stands

-- the last row becomes sound
pub last_is_sound : (rows front : List Row) (row e : Row) → rows ≡ front ++ row ∷ [] → set rows (length rows - 1) (record (get_or rows (length rows - 1) e) { sound = true }) ≡ front ++ record row { sound = true } ∷ []
last_is_sound rows front row e is = rw is (last_sound front row e (length (front ++ row ∷ []) - 1) (simp length-append (omega arith)))

-- what a vector holds where the row at a place was moved to the end
pub moved_in_vec : (rows old new rest : List Row) (n place : ℕ) (y : Row) → place < length rows → n ≡ length rows → old ≡ rows → new ≡ remove old place ++ y ∷ [] → take n (new ++ rest) ≡ remove rows place ++ y ∷ []
moved_in_vec rows old new rest n place y lt len held turned =
    let is : new ≡ remove rows place ++ y ∷ [] = turned ∙ ap (λ (xs : List Row). remove xs place ++ y ∷ []) held in
    let long : length new ≡ n = omega (arith, ap length is, length-append (remove rows place) (y ∷ []), length-remove rows place lt) in
    take_at new rest n long ∙ is

-- the same where it is the row of a digest
pub renewed : (d : HashAndSize) (rows old new rest : List Row) (n place : ℕ) (y : Row) → Distinct rows → position (is_of d) rows ≡ Some place → n ≡ length rows → old ≡ rows → new ≡ remove old place ++ y ∷ []
    → take n (new ++ rest) ≡ others d rows ++ y ∷ []
renewed d [] old new rest n place y distinct there len held turned = absurd cc
renewed d (first ∷ after) old new rest n place y distinct there len held turned =
    moved_in_vec (first ∷ after) old new rest n place y (position-Some (is_of d) (first ∷ after) place first there).0 len held turned
    ∙ ap (λ (xs : List Row). xs ++ y ∷ []) (sym (others_are_rest d (first ∷ after) place distinct there))

-- ---- a sound row that is touched

-- whether this is the row of a digest, and sound
abbrev sound_of : HashAndSize → Row → Bool
sound_of d row = is_of d row && row.sound

pub untouched : (d : HashAndSize) (rows : List Row) → position (λ row. is_of d row && row.sound) rows ≡ None → rows ≡ touched d rows
untouched d rows e =
    let none = list_any_none (sound_of d) rows (All-from_recursion (λ row. sound_of d row ≡ false) rows (find_missed (sound_of d) rows (nowhere (sound_of d) rows e))) in
    sym (cond-false (is_sound rows d) (others d rows ++ filter (is_of d) rows) rows none)

touched_at : (d : HashAndSize) (rows : List Row) (i : ℕ) (x : Row) → Distinct rows → i < length rows → sound_of d (get_or rows i x) ≡ true → touched d rows ≡ remove rows i ++ get_or rows i x ∷ []
touched_at d rows i x distinct lt at =
    let is = (and_parts (is_of d (get_or rows i x)) (get_or rows i x).sound at).0 in
    cond-true (is_sound rows d) (others d rows ++ filter (is_of d) rows) rows (list_any_at (sound_of d) rows i x lt at)
    ∙ ap (λ (xs : List Row). xs ++ filter (is_of d) rows) (others_at d rows i x distinct lt is)
    ∙ ap (λ (xs : List Row). remove rows i ++ xs) (only_at d rows i x distinct lt is)

-- what a vector holds where a sound row was touched
pub touched_in_vec : (d : HashAndSize) (rows old new rest : List Row) (n place : ℕ) → Distinct rows → position (λ row. is_of d row && row.sound) rows ≡ Some place → n ≡ length rows → old ≡ rows
    → ((row : Row) → slice_get old place ≡ Some row → new ≡ remove old place ++ row ∷ []) → take n (new ++ rest) ≡ touched d rows
touched_in_vec d [] old new rest n place distinct there len held turned = absurd cc
touched_in_vec d (first ∷ after) old new rest n place distinct there len held turned =
    let rows : List Row = first ∷ after in
    let h = position-Some (sound_of d) rows place first there in
    let at : slice_get old place ≡ Some (get_or rows place first) = ap (λ (xs : List Row). slice_get xs place) held ∙ slice_get-get_or rows place first h.0 in
    moved_in_vec rows old new rest n place (get_or rows place first) h.0 len held (turned (get_or rows place first) at)
    ∙ sym (touched_at d rows place first distinct h.0 h.1)

-- one more of the digests, as at a step of a loop
pub touched_all_more : (ds : List HashAndSize) (i : ℕ) (d : HashAndSize) (rows next : List Row) → i < length ds → d ≡ get_or ds i d → next ≡ touched d rows → touched_all (drop (i + 1) ds) next ≡ touched_all (drop i ds) rows
unfolding touched_all
touched_all_more ds i d rows next lt at is =
    ap (λ (xs : List Row). touched_all (drop (i + 1) ds) xs) (is ∙ ap (λ (e : HashAndSize). touched e rows) at)
    ∙ sym (at_drop_more (λ (es : List HashAndSize). touched_all es rows) ds i d lt)

pub touched_all_end : (ds : List HashAndSize) (i : ℕ) (rows : List Row) → length ds ≤ i → touched_all (drop i ds) rows ≡ rows
unfolding touched_all
touched_all_end ds i rows all = at_drop_all (λ (es : List HashAndSize). touched_all es rows) ds i all

-- ---- rows that are damaged one by one

pub damaged_more : (d : HashAndSize) (rows part : List Row) (i : ℕ) (x next : Row) → i < length rows → i < length part → part ≡ damaged d (take i rows) ++ drop i rows → next ≡ unsound_if d (get_or part i x)
    → set part i next ≡ damaged d (take (i + 1) rows) ++ drop (i + 1) rows
damaged_more d rows part i x next lt within is damaged_next =
    let row = get_or part i x in
    ap (λ (r : Row). set part i r) damaged_next ∙ map_over_more (unsound_if d) rows part i row lt is (get_or_default part i x row within)
