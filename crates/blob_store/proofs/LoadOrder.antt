-- The order of use of the rows of a store that was loaded.
use Rattle.std.proofs.Common.{◌≡◌, ◌≢◌, ◌+◌, ℕ, Bool, true, false, cond, not, ◌&&◌, ◌||◌, List, [], ◌∷◌, ◌++◌, length, Option, Some, None, refl, sym, ap, ◌∙◌, arith, append_assoc, length-append}
use Rattle.std.specs.Prelude.{filter}
use Rattle.std.specs.List.{AllByRecursion, filter_map, cons_option}
use Rattle.std.proofs.lemmas.Bool.{cond-false, cond_both, not_from_false}
use Rattle.std.proofs.lemmas.List.{append-nil}
use Rattle.std.proofs.lemmas.List.Elements.{filter-append}
use Rattle.std.proofs.lemmas.List.Filters.{length-filter_both}
use Rattle.digest_types.specs.Name.{HashAndSize}
use Rattle.store_core.specs.declared.state.Row.{Row}
use Rattle.store_core.specs.declared.state.Guard.{Guard}
use Rattle.store_core.specs.State.{State, Distinct, DistinctDigests, new_state, same, is_among, is_of, is_sound, row_of, has_row, others}
use Rattle.store_core.specs.Pass.{without}
use Rattle.store_core.specs.Step.{touched, touched_all}
use Rattle.store_core.proofs.Elements.{every_weaker, filter_all, none_pass}
use Rattle.store_core.proofs.FirstMentions.{filter_both}
use Rattle.store_core.proofs.HeldRows.{has_as_before}
use Rattle.store_core.proofs.Passes.{not_among}
use Rattle.store_core.proofs.RowLaws.{Differs, turned_every, turned_touched, turned_touched_all}
use Rattle.store_core.proofs.Same.{equal_from_same, not_same_from_other}
use Rattle.blob_store.specs.Kept.{Told, AreBodiesOf}
use Rattle.blob_store.specs.Restored.{in_use_order}
use Rattle.blob_store.specs.Loading.{AreSound, IsGathered, IsLoaded}

-- ---- the rows of one digest

none_left : {X : Type 0} (p : X → Bool) (xs : List X) → AllByRecursion (λ x. p x ≡ false) xs → filter p xs ≡ []
none_left p [] h = refl
none_left p (x ∷ xs) h = cond-false (p x) (x ∷ filter p xs) (filter p xs) h.0 ∙ none_left p xs h.1

only_by : (b : Bool) (d : HashAndSize) (row : Row) (rows : List Row) → is_of d row ≡ b → AllByRecursion (Differs row) rows → filter (is_of d) rows ≡ cons_option (row_of d rows) []
    → cond b (row ∷ filter (is_of d) rows) (filter (is_of d) rows) ≡ cons_option (cond b (Some row) (row_of d rows)) []
only_by true d row rows is others_are later =
    ap (λ (xs : List Row). row ∷ xs)
    (none_left (is_of d) rows (every_weaker (Differs row) (λ other. is_of d other ≡ false) (λ other n. not_same_from_other other.digest d (λ q. n (q ∙ sym (equal_from_same row.digest d is)))) rows others_are))
only_by false d row rows is others_are later = later

-- a digest has at most one row
only_row : (d : HashAndSize) (rows : List Row) → Distinct rows → filter (is_of d) rows ≡ cons_option (row_of d rows) []
only_row d [] v = refl
only_row d (row ∷ rows) v = only_by (is_of d row) d row rows refl v.0 (only_row d rows v.1)

plain : (b : Bool) → (b && true) ≡ b
plain true = refl
plain false = refl

-- where all rows are sound, a digest has a sound one if it has one
sound_rows : (d : HashAndSize) (rows : List Row) → AreSound rows → is_sound rows d ≡ has_row rows d
sound_rows d [] h = refl
sound_rows d (row ∷ rows) h =
    ap (λ (b : Bool). (is_of d row && b) || is_sound rows d) h.0
    ∙ ap (λ (b : Bool). b || is_sound rows d) (plain (is_of d row))
    ∙ ap (λ (b : Bool). is_of d row || b) (sound_rows d rows h.1)

-- ---- one digest is touched

abbrev moved : HashAndSize → List Row → List Row
moved d rows = others d rows ++ filter (is_of d) rows

moved_none : (d : HashAndSize) (rows : List Row) → has_row rows d ≡ false → rows ≡ moved d rows
moved_none d rows e =
    let none = none_pass (is_of d) rows e in
    let all = filter_all (λ row. not (is_of d row)) rows (every_weaker (λ row. is_of d row ≡ false) (λ row. not (is_of d row) ≡ true) (λ row is. not_from_false (is_of d row) is) rows none) in
    sym (append-nil rows) ∙ (λ i. sym all i ++ sym (none_left (is_of d) rows none) i)

touched_moved : (d : HashAndSize) (rows : List Row) → AreSound rows → touched d rows ≡ moved d rows
touched_moved d rows h = cond_both (is_sound rows d) (moved d rows) rows (λ (xs : List Row). xs ≡ moved d rows) (λ _. refl) (λ e. moved_none d rows (sym (sound_rows d rows h) ∙ e))

neither : (a b : Bool) → (not a && not b) ≡ not (b || a)
neither true true = refl
neither true false = refl
neither false true = refl
neither false false = refl

-- those of other digests are left out one by one or at once
without_more : (d : HashAndSize) (ds : List HashAndSize) (rows : List Row) → without ds (others d rows) ≡ without (d ∷ ds) rows
without_more d ds rows =
    filter_both (λ (row : Row). not (is_among ds row.digest)) (λ (row : Row). not (is_of d row)) rows
    ∙ (λ i. filter (λ (row : Row). neither (is_among ds row.digest) (same row.digest d) i) rows)

of_digest : (d : HashAndSize) (ds : List HashAndSize) (row : Row) → AllByRecursion (λ other. other ≢ d) ds → is_of d row ≡ true → not (is_among ds row.digest) ≡ true
of_digest d ds row apart is = not_from_false (is_among ds row.digest) (ap (is_among ds) (equal_from_same row.digest d is) ∙ not_among ds d apart)

passing : {X : Type 0} (p q : X → Bool) (xs : List X) → ((x : X) → q x ≡ true → p x ≡ true) → AllByRecursion (λ x. p x ≡ true) (filter q xs)
passing p q [] h = tt
passing p q (x ∷ xs) h = cond_both (q x) (x ∷ filter q xs) (filter q xs) (AllByRecursion (λ y. p y ≡ true)) (λ is. (h x is, passing p q xs h)) (λ _. passing p q xs h)

without_of : (d : HashAndSize) (ds : List HashAndSize) (rows : List Row) → AllByRecursion (λ other. other ≢ d) ds → without ds (filter (is_of d) rows) ≡ filter (is_of d) rows
without_of d ds rows apart = filter_all (λ (row : Row). not (is_among ds row.digest)) (filter (is_of d) rows) (passing (λ (row : Row). not (is_among ds row.digest)) (is_of d) rows (λ row is. of_digest d ds row apart is))

-- ---- all digests are touched

front : (o : Option Row) (rows : List Row) → cons_option o [] ++ rows ≡ cons_option o rows
front None rows = refl
front (Some row) rows = refl

one_first : (d : HashAndSize) (ds : List HashAndSize) (rows : List Row) → AllByRecursion (λ other. other ≢ d) ds → Distinct rows → AreSound rows → in_use_order ds (touched d rows) ≡ in_use_order (d ∷ ds) rows
one_first d ds rows apart distinct sound =
    let t = turned_touched d rows in
    let tail : List Row = filter_map (λ e. row_of e rows) ds in
    let split : without ds (touched d rows) ≡ without (d ∷ ds) rows ++ cons_option (row_of d rows) [] =
    ap (without ds) (touched_moved d rows sound)
    ∙ filter-append (λ (row : Row). not (is_among ds row.digest)) (others d rows) (filter (is_of d) rows)
    ∙ (λ i. without_more d ds rows i ++ (without_of d ds rows apart ∙ only_row d rows distinct) i) in
    (λ i. split i ++ filter_map (λ e. t.row e i) ds)
    ∙ append_assoc (without (d ∷ ds) rows) (cons_option (row_of d rows) []) tail
    ∙ ap (λ (xs : List Row). without (d ∷ ds) rows ++ xs) (front (row_of d rows) tail)

without_none : (rows : List Row) → without [] rows ≡ rows
without_none [] = refl
without_none (row ∷ rows) = ap (λ (xs : List Row). row ∷ xs) (without_none rows)

pub touched_order : (saved : List HashAndSize) (rows : List Row) → DistinctDigests saved → Distinct rows → AreSound rows → touched_all saved rows ≡ in_use_order saved rows
unfolding touched_all
touched_order [] rows apart distinct sound = sym (append-nil (without [] rows) ∙ without_none rows)
touched_order (d ∷ ds) rows apart distinct sound =
    let t = turned_touched d rows in
    touched_order ds (touched d rows) apart.1 (t.distinct distinct) (turned_every (λ row. row.sound ≡ true) rows (touched d rows) t sound)
    ∙ one_first d ds rows apart.0 distinct sound

-- no row is lost
moved_length : (d : HashAndSize) (rows : List Row) → length (touched d rows) ≡ length rows
moved_length d rows =
    cond_both (is_sound rows d) (moved d rows) rows (λ (xs : List Row). length xs ≡ length rows)
    (λ _. let parts = length-filter_both (is_of d) (λ (row : Row). not (is_of d row)) (λ row. refl) rows in omega (arith, parts, length-append (others d rows) (filter (is_of d) rows)))
    (λ _. refl)

pub touched_length : (ds : List HashAndSize) (rows : List Row) → length (touched_all ds rows) ≡ length rows
unfolding touched_all
touched_length [] rows = refl
touched_length (d ∷ ds) rows = touched_length ds (touched d rows) ∙ moved_length d rows

-- ---- the store

abbrev pub with_rows : ℕ → ℕ → Guard → List Row → State
with_rows low high guard rows = record (new_state low high guard) { rows = rows }

-- the rows in another order have the same bodies
pub same_bodies : (ds : List HashAndSize) (rows : List Row) (bodies : Told) → AreBodiesOf rows bodies → AreBodiesOf (touched_all ds rows) bodies
same_bodies ds rows bodies are = λ d. are d ∙ sym (has_as d)
  where
    has_by : (xs ys : List Row) (d : HashAndSize) → ((e : HashAndSize) → row_of e xs ≡ row_of e ys) → has_row xs d ≡ has_row ys d
    has_by xs ys d e = has_as_before d ys xs (e d)

    has_as : (d : HashAndSize) → has_row (touched_all ds rows) d ≡ has_row rows d
    has_as d = has_by (touched_all ds rows) rows d (turned_touched_all ds rows).row

pub loaded_is : (saved : List HashAndSize) (low high : ℕ) (guard : Guard) (rows : List Row) (sum : ℕ) (bodies : Told) → IsGathered rows sum bodies → IsLoaded low high guard (with_rows low high guard (touched_all saved rows))
loaded_is saved low high guard rows sum bodies g =
    let t = turned_touched_all saved rows in record {
      valid = record {
        distinct = t.distinct g.distinct;
        filled = turned_every _ rows (touched_all saved rows) t g.filled;
        lease_ids = tt;
        lease_numbers = tt;
        lease_owners = tt;
        holds = tt;
        hold_owners = tt;
        hold_rows = λ d e. absurd cc;
        unheld = λ _. refl;
        owners = tt;
      };
      sound = turned_every (λ row. row.sound ≡ true) rows (touched_all saved rows) t g.sound;
      within = omega (arith, t.bytes, g.sum_is, g.within);
      leases = refl;
      holds = refl;
      owners = refl;
      low_is = refl;
      high_is = refl;
      guard_is = refl;
      next_owner = refl;
      next_lease = refl;
    }
