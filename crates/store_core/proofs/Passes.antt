-- What a pass removes, and how many bytes it leaves.
use Rattle.std.proofs.Common.{◌≡◌, ◌≢◌, ℕ, zero, suc, ◌+◌, ◌≤◌, Bool, true, false, cond, not, List, [], ◌∷◌, length, take, inl, inr, refl, sym, ap, ◌∙◌, arith}
use Rattle.std.specs.Prelude.{filter, Contains, ◌⊎◌, ◌||◌}
use Rattle.std.specs.List.{AllByRecursion}
use Rattle.std.proofs.lemmas.Bool.{cases_lt, cases_Bool, cond-true, cond-false, leb-true, not-true, not-false, not_from_true, not_from_false, false_from_ne_true, or_parts}
use Rattle.std.proofs.lemmas.List.{take_all}
use Rattle.std.proofs.lemmas.List.Elements.{All-from_recursion}
use Rattle.std.proofs.lemmas.List.Folds.{list_any_at, list_any_none}
use Rattle.std.proofs.lemmas.List.Sums.{sum_by-cons}
use Rattle.digest_types.specs.Name.{HashAndSize}
use Rattle.directory_canon.specs.declared.node.Edge.{Edge}
use Rattle.store_core.specs.declared.state.Row.{Row}
use Rattle.store_core.specs.State.{State, Distinct, same, is_among, digests, total, sizes, used, roots, is_of, row_of, is_held}
use Rattle.store_core.specs.Reach.{Linked, blobs, as_file, as_dir, reaches, is_reached}
use Rattle.store_core.specs.Pass.{is_guarded, guarded, unguarded, victims, frees, gone, without, pass}
use Rattle.store_core.proofs.Elements.{every_filter, every_has, every_map, every_take, every_weaker, has_filter, has_from_filter, has_map, filter_of_map, filter_same_on, find_kept}
use Rattle.store_core.proofs.Least.{least_passes}
use Rattle.store_core.proofs.ReachLaws.{removal}
use Rattle.store_core.proofs.RowLaws.{Differs}
use Rattle.store_core.proofs.Same.{equal_from_same, same_from_equal, not_same_from_other}

-- ---- whether a digest is among others

pub among_has : (ds : List HashAndSize) (d : HashAndSize) → Contains ds d → is_among ds d ≡ true
among_has ds d (k, lt, is) = list_any_at (same d) ds k d lt (same_from_equal d _ (sym is))

pub not_among : (ds : List HashAndSize) (d : HashAndSize) → AllByRecursion (λ x. x ≢ d) ds → is_among ds d ≡ false
not_among ds d h = list_any_none (same d) ds (All-from_recursion (λ x. same d x ≡ false) ds (every_weaker (λ x. x ≢ d) (λ x. same d x ≡ false) (λ x n. not_same_from_other d x (λ e. n (sym e))) ds h))

-- ---- without some of the digests of the rows

among_more : (b c : Bool) → b ≡ false → not (b || c) ≡ not c
among_more true c e = absurd cc
among_more false c e = refl

-- a digest that no row has takes no row more
pub without_more : (d : HashAndSize) (ds : List HashAndSize) (rows : List Row) → AllByRecursion (λ row. row.digest ≢ d) rows → without (d ∷ ds) rows ≡ without ds rows
without_more d ds rows h =
    filter_same_on (λ row. not (is_among (d ∷ ds) row.digest)) (λ row. not (is_among ds row.digest)) rows
    (every_weaker (λ row. row.digest ≢ d) (λ row. not (is_among (d ∷ ds) row.digest) ≡ not (is_among ds row.digest)) (λ row n. among_more (same row.digest d) (is_among ds row.digest) (not_same_from_other row.digest d n)) rows h)

-- the first k digests of the rows that pass a test
abbrev pub firsts_of : (HashAndSize → Bool) → ℕ → List Row → List HashAndSize
firsts_of p k rows = take k (filter p (digests rows))

-- a digest that no row has isn't among theirs
pub other_digests : (p : HashAndSize → Bool) (k : ℕ) (row : Row) (rows : List Row) → AllByRecursion (Differs row) rows → is_among (firsts_of p k rows) row.digest ≡ false
other_digests p k row rows h =
    not_among (firsts_of p k rows) row.digest
    (every_take (λ x. x ≢ row.digest) k (filter p (digests rows)) (every_filter (λ x. x ≢ row.digest) p (digests rows) (every_map (Differs row) (λ x. x ≢ row.digest) (λ (r : Row). r.digest) (λ r n. n) rows h)))

-- the bytes of the digests are those of the rows that they take
abbrev Splits : List HashAndSize → List Row → Type 0
Splits ds rows = sizes (without ds rows) + total ds ≡ sizes rows

-- a first row whose digest isn't among them stays, and one whose digest is goes
keeps_first : (ds : List HashAndSize) (row : Row) (rows : List Row) → is_among ds row.digest ≡ false → Splits ds rows → Splits ds (row ∷ rows)
keeps_first ds row rows e h =
    let left : sizes (without ds (row ∷ rows)) ≡ sizes (row ∷ without ds rows) =
    ap sizes (cond-true (not (is_among ds row.digest)) (row ∷ without ds rows) (without ds rows) (not_from_false (is_among ds row.digest) e)) in
    omega (arith, left, h, sum_by-cons (λ (r : Row). r.digest.size) row rows, sum_by-cons (λ (r : Row). r.digest.size) row (without ds rows))

takes_first : (ds : List HashAndSize) (row : Row) (rows : List Row) → AllByRecursion (Differs row) rows → Splits ds rows → Splits (row.digest ∷ ds) (row ∷ rows)
takes_first ds row rows h split =
    let here : is_among (row.digest ∷ ds) row.digest ≡ true = ap (λ b. b || is_among ds row.digest) (same_from_equal row.digest row.digest refl) in
    let left : sizes (without (row.digest ∷ ds) (row ∷ rows)) ≡ sizes (without ds rows) =
    ap sizes
    (cond-false (not (is_among (row.digest ∷ ds) row.digest)) (row ∷ without (row.digest ∷ ds) rows) (without (row.digest ∷ ds) rows) (not_from_true (is_among (row.digest ∷ ds) row.digest) here)
    ∙ without_more row.digest ds rows h) in
    omega (arith, left, split, sum_by-cons (λ (r : Row). r.digest.size) row rows, sum_by-cons (λ (d : HashAndSize). d.size) row.digest ds)

splits_by : (p : HashAndSize → Bool) (k : ℕ) (row : Row) (rows : List Row) (b : Bool) → AllByRecursion (Differs row) rows → ((j : ℕ) → Splits (firsts_of p j rows) rows)
    → Splits (take k (cond b (row.digest ∷ filter p (digests rows)) (filter p (digests rows)))) (row ∷ rows)
splits_by p k row rows false h split = keeps_first (firsts_of p k rows) row rows (other_digests p k row rows h) (split k)
splits_by p zero row rows true h split = keeps_first [] row rows refl (split 0)
splits_by p (suc k) row rows true h split = takes_first (firsts_of p k rows) row rows h (split k)

-- the bytes that stay and those of the digests are all
pub splits : (p : HashAndSize → Bool) (k : ℕ) (rows : List Row) → Distinct rows → sizes (without (firsts_of p k rows) rows) + total (firsts_of p k rows) ≡ sizes rows
splits p zero [] v = refl
splits p (suc k) [] v = refl
splits p k (row ∷ rows) v = splits_by p k row rows (p row.digest) v.0 (λ j. splits p j rows v.1)

-- ---- without all of them

-- a digest is among those that pass where it passes
among_all : (p : HashAndSize → Bool) (ds : List HashAndSize) (d : HashAndSize) → Contains ds d → is_among (filter p ds) d ≡ p d
among_all p ds d has =
    elim (cases_Bool (p d)) [
      | inl is ↦ among_has (filter p ds) d (has_filter p ds d has is) ∙ sym is
      | inr fails ↦
          not_among (filter p ds) d (every_has (λ x. x ≢ d) (filter p ds) (λ x h e. let pass : p d ≡ true = ap p (sym e) ∙ (has_from_filter p ds x h).1 in cc)) ∙ sym fails
    ]

twice : (b : Bool) → not (not b) ≡ b
twice true = refl
twice false = refl

-- what stays without all the digests that fail a test is what passes it
pub without_all : (q : HashAndSize → Bool) (rows : List Row) → without (filter (λ d. not (q d)) (digests rows)) rows ≡ filter (λ row. q row.digest) rows
without_all q rows =
    filter_same_on (λ row. not (is_among (filter (λ d. not (q d)) (digests rows)) row.digest)) (λ row. q row.digest) rows
    (every_has (λ row. not (is_among (filter (λ d. not (q d)) (digests rows)) row.digest) ≡ q row.digest) rows
    (λ row has. ap not (among_all (λ d. not (q d)) (digests rows) row.digest (has_map (λ (r : Row). r.digest) rows row has)) ∙ twice (q row.digest)))

-- ---- a pass

-- the digests that go are none that pass the test
pub victims_fail : (q : HashAndSize → Bool) (k : ℕ) (rows : List Row) (d : HashAndSize) → q d ≡ true → is_among (firsts_of (λ x. not (q x)) k rows) d ≡ false
victims_fail q k rows d pass =
    let p : HashAndSize → Bool = λ x. not (q x) in
    not_among (firsts_of p k rows) d
    (every_take (λ x. x ≢ d) k (filter p (digests rows))
    (every_has (λ x. x ≢ d) (filter p (digests rows)) (λ x h e. let fails : q x ≡ false = not-true (q x) (has_from_filter p (digests rows) x h).1 in let is : q x ≡ true = ap q e ∙ pass in cc)))

-- what stays is at most the target, or just what passes the test
pub down_to : (q : HashAndSize → Bool) (rows : List Row) (target : ℕ) → Distinct rows
    → (sizes (without (firsts_of (λ d. not (q d)) (victims (filter (λ d. not (q d)) (digests rows)) (sizes rows) target) rows) rows) ≤ target)
    ⊎ (sizes (without (firsts_of (λ d. not (q d)) (victims (filter (λ d. not (q d)) (digests rows)) (sizes rows) target) rows) rows) ≡ sizes (filter (λ row. q row.digest) rows))
unfolding victims
down_to q rows target v =
    let ds = filter (λ d. not (q d)) (digests rows) in
    let k = victims ds (sizes rows) target in
    elim (cases_lt k (length ds)) [
      | inl lt ↦ inl (omega (arith, splits (λ d. not (q d)) k rows v, leb-true _ _ (least_passes (frees ds (sizes rows) target) (length ds) lt)))
      | inr all ↦ inr (ap (λ xs. sizes (without xs rows)) (take_all k ds all) ∙ ap sizes (without_all q rows))
    ]

-- a pass leaves at most its target, or just the guarded rows
pub pass_down : (s : State) (target : ℕ) → Distinct s.rows → (used (pass s target) ≤ target) ⊎ (used (pass s target) ≡ guarded s)
pass_down s target v = down_to (is_guarded s) s.rows target v

-- a guarded digest stays
pub guarded_stays : (s : State) (target : ℕ) (d : HashAndSize) → is_guarded s d ≡ true → is_among (gone s target) d ≡ false
guarded_stays s target d is = victims_fail (is_guarded s) (victims (unguarded s) (used s) target) s.rows d is

pub guarded_kept : (s : State) (target : ℕ) (row : Row) → Contains s.rows row → is_guarded s row.digest ≡ true → Contains (pass s target).rows row
guarded_kept s target row has is = has_filter (λ r. not (is_among (gone s target) r.digest)) s.rows row has (not_from_false (is_among (gone s target) row.digest) (guarded_stays s target row.digest is))

-- the blobs that stay
pub blobs_without : (ds : List HashAndSize) (rows : List Row) → filter (λ blob. not (is_among ds blob.digest)) (blobs rows) ≡ blobs (without ds rows)
blobs_without ds rows = filter_of_map (λ (row : Row). record { digest = row.digest; edges = row.edges }) (λ (blob : Linked). not (is_among ds blob.digest)) rows

-- a digest that goes isn't guarded
pub gone_unguarded : (s : State) (target : ℕ) (d : HashAndSize) → not (is_among (gone s target) d) ≡ false → is_guarded s d ≡ false
gone_unguarded s target d e =
    false_from_ne_true (is_guarded s d) (λ is. let stays : is_among (gone s target) d ≡ false = guarded_stays s target d is in let goes : is_among (gone s target) d ≡ true = not-false (is_among (gone s target) d) e in cc)

-- a pass changes nothing of what the leases reach, and so of what is guarded
pub pass_reaches : (s : State) (target : ℕ) (pair : Edge) → reaches (blobs (pass s target).rows) (roots s.leases) pair ≡ reaches (blobs s.rows) (roots s.leases) pair
pass_reaches s target pair =
    let there = blobs s.rows in
    let starts = roots s.leases in
    ap (λ (left : List Linked). reaches left starts pair) (sym (blobs_without (gone s target) s.rows))
    ∙ removal there starts (λ blob. not (is_among (gone s target) blob.digest))
    (λ blob has e.
    let free = (or_parts (is_reached there starts blob.digest) (is_held s.holds blob.digest) (gone_unguarded s target blob.digest e)).0 in
    (or_parts (reaches there starts (as_file blob.digest)) (reaches there starts (as_dir blob.digest)) free).1)
    pair

pub pass_guards : (s : State) (target : ℕ) (d : HashAndSize) → is_guarded (pass s target) d ≡ is_guarded s d
pass_guards s target d =
    let there = blobs s.rows in
    let left = blobs (pass s target).rows in
    let starts = roots s.leases in
    ap (λ b. (b || reaches left starts (as_dir d)) || is_held s.holds d) (pass_reaches s target (as_file d))
    ∙ ap (λ b. (reaches there starts (as_file d) || b) || is_held s.holds d) (pass_reaches s target (as_dir d))

-- the row of a guarded digest is found as before
pub pass_row : (s : State) (target : ℕ) (d : HashAndSize) → is_guarded s d ≡ true → row_of d (pass s target).rows ≡ row_of d s.rows
pass_row s target d is =
    find_kept (is_of d) (λ row. not (is_among (gone s target) row.digest)) s.rows
    (every_has (λ row. is_of d row ≡ true → not (is_among (gone s target) row.digest) ≡ true) s.rows
    (λ row has e. not_from_false (is_among (gone s target) row.digest) (ap (is_among (gone s target)) (equal_from_same row.digest d e) ∙ guarded_stays s target d is)))
