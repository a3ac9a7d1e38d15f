-- The marks step by step, and what they lead to.
use Rattle.std.proofs.Common.{◌≡◌, ℕ, zero, suc, ◌+◌, ◌-◌, ◌≤◌, Bool, true, false, cond, not, ◌&&◌, ◌||◌, List, [], ◌∷◌, ◌++◌, length, map, filter, refl, sym, ap, ◌∙◌, inl, inr, arith}
use Rattle.std.proofs.lemmas.Bool.{cases_lt, ne_eqb}
use Rattle.std.specs.Prelude.{flat_map, ◌==◌}
use Rattle.std.specs.Cmp.{booleans_Decides}
use Rattle.std.specs.Cmp.Lexicographic.{pointwise}
use Rattle.std.specs.List.{list_any}
use Rattle.std.proofs.Math.Bool.{beq}
use Rattle.std.proofs.lemmas.List.Elements.{filter_agree}
use Rattle.std.proofs.lemmas.Slice.Eq.{slice_eq-Decides}
use Rattle.directory_canon.specs.declared.node.Edge.{Edge}
use Rattle.store_core.specs.declared.state.Row.{Row}
use Rattle.store_core.specs.State.{Holds, is_held}
use Rattle.store_core.specs.Marks.{near}
use Rattle.store_core.specs.Ascending.{ascending}
use Rattle.store_core.specs.Reach.{Linked, as_dir, as_file, blobs, edges_of, is_deep, is_dir, is_nearer, is_pair, is_reached, links_to, pair_cmp, reached, reaches, within}
use Rattle.store_core.specs.Walk.{has_link, leads, first_marks, next_marks, found_marks, marked_edges, some_further}
use Rattle.store_core.proofs.ReachLaws.{none_reached, stable}

-- ---- lists

-- functions that agree give the same list
pub map_agree : {X Y : Type 0} (f g : X → Y) → ((x : X) → f x ≡ g x) → (xs : List X) → map f xs ≡ map g xs
map_agree f g agree [] = refl
map_agree f g agree (x ∷ xs) = rw (agree x, map_agree f g agree xs)

length_blobs : (rows : List Row) → length (blobs rows) ≡ length rows
length_blobs [] = refl
length_blobs (row ∷ rows) = ap suc (length_blobs rows)

-- ---- one step

-- tests of the blobs, beside the rows
links_by : (test : Linked → Bool) (rows : List Row) (pair : Edge)
    → has_link rows (map test (blobs rows)) pair ≡ list_any (λ blob. test blob && links_to blob.edges pair) (blobs rows)
links_by test [] pair = refl
links_by test (row ∷ rows) pair = rw (links_by test rows pair)

-- the marks within so many steps lead to what is within one step more
pub leads_further : (rows : List Row) (starts : List Edge) (steps : ℕ) (pair : Edge)
    → leads rows starts (near (blobs rows) starts steps) pair ≡ within (blobs rows) starts (suc steps) pair
unfolding within
leads_further rows starts steps pair = ap (λ (b : Bool). list_any (is_pair pair) starts || b) (links_by (λ blob. within (blobs rows) starts steps (as_dir blob.digest)) rows pair)

-- the marks of the blobs, by the rows
near_rows : (there : List Linked) (starts : List Edge) (steps : ℕ) (rows : List Row)
    → map (λ blob. within there starts steps (as_dir blob.digest)) (blobs rows) ≡ map (λ row. within there starts steps (as_dir row.digest)) rows
near_rows there starts steps [] = refl
near_rows there starts steps (row ∷ rows) = rw (near_rows there starts steps rows)

-- the first marks are those within no step
pub first_is : (rows : List Row) (starts : List Edge) → first_marks rows starts ≡ near (blobs rows) starts 0
unfolding within
first_is rows starts = sym (near_rows (blobs rows) starts 0 rows)

-- the next marks are those within one step more
pub next_is : (rows : List Row) (starts : List Edge) (steps : ℕ) → next_marks rows starts (near (blobs rows) starts steps) ≡ near (blobs rows) starts (suc steps)
next_is rows starts steps =
    map_agree (λ (row : Row). leads rows starts (near (blobs rows) starts steps) (as_dir row.digest)) (λ (row : Row). within (blobs rows) starts (suc steps) (as_dir row.digest)) (λ row. leads_further rows starts steps (as_dir row.digest)) rows
    ∙ sym (near_rows (blobs rows) starts (suc steps) rows)

-- ---- further steps

-- marks that one more step doesn't change stay so
stay : (rows : List Row) (starts : List Edge) (steps : ℕ) → near (blobs rows) starts (suc steps) ≡ near (blobs rows) starts steps → (k : ℕ)
    → near (blobs rows) starts (suc (k + steps)) ≡ near (blobs rows) starts steps
stay rows starts steps e zero = ap (λ (n : ℕ). near (blobs rows) starts (suc n)) (omega arith) ∙ e
stay rows starts steps e (suc k) =
    ap (λ (n : ℕ). near (blobs rows) starts (suc n)) (omega arith)
    ∙ sym (next_is rows starts (suc (k + steps)))
    ∙ ap (next_marks rows starts) (stay rows starts steps e k)
    ∙ next_is rows starts steps
    ∙ e

-- where one more step changes nothing, no further one does
pub near_stays : (rows : List Row) (starts : List Edge) (steps more : ℕ) → steps ≤ more → near (blobs rows) starts (suc steps) ≡ near (blobs rows) starts steps
    → near (blobs rows) starts more ≡ near (blobs rows) starts steps
near_stays rows starts steps zero le e = ap (near (blobs rows) starts) (omega arith)
near_stays rows starts steps (suc more) le e = elim (cases_lt steps (suc more)) [
  | inl lt ↦ ap (λ (n : ℕ). near (blobs rows) starts (suc n)) (omega arith) ∙ stay rows starts steps e (more - steps)
  | inr ge ↦ ap (near (blobs rows) starts) (omega arith)
]

-- the code's step, from marks within so many steps
pub step_is : (rows : List Row) (starts : List Edge) (steps : ℕ) (marks next now : List Bool) → marks ≡ near (blobs rows) starts steps → now ≡ marks → next ≡ next_marks rows starts now
    → next ≡ near (blobs rows) starts (steps + 1)
step_is rows starts steps marks next now within_steps is e =
    e ∙ ap (next_marks rows starts) (is ∙ within_steps) ∙ next_is rows starts steps ∙ ap (near (blobs rows) starts) (omega arith)

-- where a step changes nothing, the marks are those within any number of steps more
pub done_early : (rows : List Row) (starts : List Edge) (steps more : ℕ) (marks next now : List Bool) → marks ≡ near (blobs rows) starts steps → now ≡ marks → next ≡ next_marks rows starts now
    → true ≡ pointwise beq next marks → steps ≤ more → marks ≡ near (blobs rows) starts more
done_early rows starts steps more marks next now within_steps is e same le =
    let equal : next ≡ marks = (slice_eq-Decides booleans_Decides next marks true same).0 refl in
    let further : next ≡ near (blobs rows) starts (suc steps) = e ∙ ap (next_marks rows starts) (is ∙ within_steps) ∙ next_is rows starts steps in
    within_steps ∙ sym (near_stays rows starts steps more le (sym further ∙ equal ∙ within_steps))

-- ---- all that is reached

-- the marks within as many steps as there are rows lead to a pair exactly where it is reached
reaches_leads : (rows : List Row) (starts : List Edge) (pair : Edge) → leads rows starts (near (blobs rows) starts (length rows)) pair ≡ reaches (blobs rows) starts pair
unfolding reaches
reaches_leads rows starts pair =
    ap (λ (n : ℕ). leads rows starts (near (blobs rows) starts n) pair) (sym (length_blobs rows))
    ∙ leads_further rows starts (length (blobs rows)) pair
    ∙ stable (blobs rows) starts pair

-- the same for each row
pub found_is : (rows : List Row) (starts : List Edge) (holds : List Holds)
    → found_marks rows starts (near (blobs rows) starts (length rows)) holds ≡ map (λ row. is_reached (blobs rows) starts row.digest || is_held holds row.digest) rows
found_is rows starts holds =
    let marks = near (blobs rows) starts (length rows) in
    map_agree (λ (row : Row). (leads rows starts marks (as_file row.digest) || leads rows starts marks (as_dir row.digest)) || is_held holds row.digest)
    (λ (row : Row). is_reached (blobs rows) starts row.digest || is_held holds row.digest)
    (λ row. rw (reaches_leads rows starts (as_file row.digest), reaches_leads rows starts (as_dir row.digest))) rows

-- ---- the edges of what is marked

-- a blob gives its edges where it is kept
cond_marked : (b : Bool) (blob : Linked) (kept : List Linked) (edges : List Edge) → edges ≡ flat_map edges_of kept → cond b (edges_of blob) [] ++ edges ≡ flat_map edges_of (cond b (blob ∷ kept) kept)
cond_marked true blob kept edges e = ap (λ (rest : List Edge). edges_of blob ++ rest) e
cond_marked false blob kept edges e = e

-- the edges of the rows that pass a test are those of the blobs that do
marked_by : (test : Linked → Bool) (rows : List Row) → marked_edges rows (map test (blobs rows)) ≡ flat_map edges_of (filter test (blobs rows))
marked_by test [] = refl
marked_by test (row ∷ rows) =
    let blob : Linked = record { digest = row.digest; edges = row.edges } in
    cond_marked (test blob) blob (filter test (blobs rows)) (marked_edges rows (map test (blobs rows))) (marked_by test rows)

within_reaches : (there : List Linked) (starts : List Edge) (pair : Edge) → within there starts (length there) pair ≡ reaches there starts pair
unfolding reaches
within_reaches there starts pair = refl

reached_is : (there : List Linked) (starts : List Edge) → ascending pair_cmp (starts ++ flat_map edges_of (filter (λ blob. reaches there starts (as_dir blob.digest)) there)) ≡ reached there starts
unfolding reached
reached_is there starts = refl

-- the roots and the edges of what is marked are, in order, all that is reached
pub reached_from : (rows : List Row) (starts : List Edge) (marks : List Bool) → marks ≡ near (blobs rows) starts (length rows)
    → ascending pair_cmp (starts ++ marked_edges rows marks) ≡ reached (blobs rows) starts
reached_from rows starts marks e =
    let there = blobs rows in
    ap (λ (m : List Bool). ascending pair_cmp (starts ++ marked_edges rows m)) (e ∙ ap (near there starts) (sym (length_blobs rows)))
    ∙ ap (λ (edges : List Edge). ascending pair_cmp (starts ++ edges)) (marked_by (λ blob. within there starts (length there) (as_dir blob.digest)) rows)
    ∙ ap (λ (kept : List Linked). ascending pair_cmp (starts ++ flat_map edges_of kept))
    (filter_agree (λ (blob : Linked). within there starts (length there) (as_dir blob.digest)) (λ (blob : Linked). reaches there starts (as_dir blob.digest)) (λ blob. within_reaches there starts (as_dir blob.digest)) there)
    ∙ reached_is there starts

-- ---- what is further

any_agree : {X : Type 0} (p q : X → Bool) → ((x : X) → p x ≡ q x) → (xs : List X) → list_any p xs ≡ list_any q xs
any_agree p q agree [] = refl
any_agree p q agree (x ∷ xs) = rw (agree x, any_agree p q agree xs)

-- what is nearer is within one step less
nearer_is : (there : List Linked) (starts : List Edge) (steps : ℕ) (pair : Edge) → 1 ≤ steps → is_nearer there starts steps pair ≡ within there starts (steps - 1) pair
nearer_is there starts zero pair le = absurd (omega arith)
nearer_is there starts (suc steps) pair le = ap (λ (n : ℕ). within there starts n pair) (omega arith)

deep_is : (there : List Linked) (starts : List Edge) (steps : ℕ) → is_deep there starts steps ≡ list_any (λ pair. is_dir pair && not (is_nearer there starts steps pair)) (reached there starts)
unfolding is_deep
deep_is there starts steps = refl

-- what the marks within two steps less don't lead to is deep
pub deep_from : (rows : List Row) (starts : List Edge) (steps : ℕ) (marks : List Bool) (pairs : List Edge) → 2 ≤ steps → marks ≡ near (blobs rows) starts (steps - 2) → pairs ≡ reached (blobs rows) starts
    → some_further rows starts marks pairs ≡ is_deep (blobs rows) starts steps
deep_from rows starts steps marks pairs le e is =
    ap (λ (m : List Bool). some_further rows starts m pairs) e
    ∙ ap (some_further rows starts (near (blobs rows) starts (steps - 2))) is
    ∙ any_agree (λ (pair : Edge). is_dir pair && not (leads rows starts (near (blobs rows) starts (steps - 2)) pair)) (λ (pair : Edge). is_dir pair && not (is_nearer (blobs rows) starts steps pair))
    (λ pair. ap (λ (b : Bool). is_dir pair && not b)
    (leads_further rows starts (steps - 2) pair ∙ ap (λ (n : ℕ). within (blobs rows) starts n pair) (omega arith) ∙ sym (nearer_is (blobs rows) starts steps pair (omega arith))))
    (reached (blobs rows) starts)
    ∙ sym (deep_is (blobs rows) starts steps)

-- without roots no row is reached
pub none_marked : (rows : List Row) (starts : List Edge) (holds : List Holds) → true ≡ (length starts == 0)
    → map (λ (row : Row). is_held holds row.digest) rows ≡ map (λ row. is_reached (blobs rows) starts row.digest || is_held holds row.digest) rows
none_marked rows [] holds e =
    map_agree (λ (row : Row). is_held holds row.digest) (λ row. is_reached (blobs rows) [] row.digest || is_held holds row.digest)
    (λ row. ap (λ b. b || is_held holds row.digest) (sym (none_reached (blobs rows) row.digest))) rows
none_marked rows (root ∷ starts) holds e = absurd (let long : (length (root ∷ starts) == 0) ≡ false = ne_eqb _ _ (λ z. omega (arith, z)) in cc)
