-- One ascending list of nodes is files, directories and symlinks, each ascending by name.
use Rattle.std.proofs.Common.{◌≡◌, ℕ, ◌<◌, ◌≤◌, inl, inr, Bool, true, false, eqb, nat_eq, nat_cmp, ◌||◌, cond, find, All, AllPairs, List, [], ◌∷◌, ◌++◌, get_or, Option, Some, None, refl, sym, ap, ◌∙◌, arith, Ordering, Less, Equal, lt-ltb, ne_eqb, true≢false}
use Rattle.std.specs.List.{AllByRecursion, list_any}
use Rattle.std.specs.List.Sorted.{IsStrictlySortedBy}
use Rattle.std.specs.Ordering.{ordering_then}
use Rattle.std.specs.Cmp.Lexicographic.{slice_cmp, pointwise}
use Rattle.std.proofs.lemmas.Bool.{cases_lt}
use Rattle.std.proofs.lemmas.Cmp.{nat_list_cmp_total, nat_list_eq_equiv, tied_itself}
use Rattle.std.proofs.lemmas.List.Elements.{All-cons, All-map, All-weaker, All-from_recursion}
use Rattle.std.proofs.lemmas.List.Kept.{IsStrictlySortedBy-filter, AllPairs-cons}
use Rattle.directory_canon.specs.declared.node.Node.{Node}
use Rattle.directory_canon.specs.declared.node.Node.TheVariants as nodes
use Rattle.directory_canon.specs.Node.{number_of, name_of}
use Rattle.directory_canon.specs.Canon.{list_of, Ascends}
use Rattle.directory_canon.specs.Reading.{Entry, is_twice}
use Rattle.directory_canon.proofs.CanonReadOrder.{node_cmp, node_cmp-names, nat_cmp-greater, not_less, list_of-numbered, names_ascend}
use Rattle.directory_canon.proofs.CanonReadTwice.{hides, Apart, nodes_of}

-- ---- the three lists

list_le : (a b : Node) → node_cmp a b ≡ Less → number_of a ≤ number_of b
list_le a b less =
    elim (cases_lt (number_of b) (number_of a)) [
      | inl gt ↦ absurd (not_less (slice_cmp nat_cmp (name_of a) (name_of b)) (ap (λ (o : Ordering). ordering_then o (slice_cmp nat_cmp (name_of a) (name_of b))) (sym (nat_cmp-greater (number_of a) (number_of b) gt)) ∙ less))
      | inr le ↦ le
    ]

-- a node of a later list has none of an earlier list behind it
none_behind : (n : ℕ) (a : Node) (dir : List Node) → n < number_of a → AllByRecursion (λ b. node_cmp a b ≡ Less) dir → list_of n dir ≡ []
none_behind n a [] lt below = refl
none_behind n a (b ∷ dir) lt below =
    let le = list_le a b below.0 in
    let other : eqb (number_of b) n ≡ false = ne_eqb (number_of b) n (λ e. omega (arith, le, lt)) in
    rw (other, none_behind n a dir lt below.1) refl

pub lists_found : (dir : List Node) → IsStrictlySortedBy node_cmp dir → dir ≡ list_of 1 dir ++ (list_of 2 dir ++ list_of 3 dir)
unfolding IsStrictlySortedBy
lists_found [] up = refl
lists_found (nodes.File name d exec ∷ dir) up = ap (λ (rest : List Node). nodes.File name d exec ∷ rest) (lists_found dir up.1)
lists_found (nodes.Dir name d ∷ dir) up =
    let first = none_behind 1 (nodes.Dir name d) dir (omega arith) up.0 in
    let more = lists_found dir up.1 in
    rw first (ap (λ (rest : List Node). nodes.Dir name d ∷ rest) (rw first at more))
lists_found (nodes.Link name target ∷ dir) up =
    let first = none_behind 1 (nodes.Link name target) dir (omega arith) up.0 in
    let second = none_behind 2 (nodes.Link name target) dir (omega arith) up.0 in
    let more = lists_found dir up.1 in
    rw (first, second) (ap (λ (rest : List Node). nodes.Link name target ∷ rest) (rw (first, second) at more))

pub list_found : (n : ℕ) (dir : List Node) → IsStrictlySortedBy node_cmp dir → Ascends n dir
list_found n dir up = names_ascend n (list_of n dir) (list_of-numbered n dir) (IsStrictlySortedBy-filter node_cmp (λ node. eqb (number_of node) n) dir up)

-- ---- names

all_pairs : (dir : List Node) → IsStrictlySortedBy node_cmp dir → AllPairs (λ a b. node_cmp a b ≡ Less) dir
unfolding IsStrictlySortedBy
all_pairs [] up = λ i j d lt within. absurd (omega arith)
all_pairs (a ∷ dir) up = AllPairs-cons (λ a b. node_cmp a b ≡ Less) a dir (All-from_recursion (λ b. node_cmp a b ≡ Less) dir up.0) (all_pairs dir up.1)

neither : (b : Bool) (e : Entry) (o : Option Entry) → cond b (Some e) o ≡ None → (b ≡ false) × (o ≡ None)
neither true e o h = absurd cc
neither false e o h = (refl, h)

both_false : (a b : Bool) → (a || b) ≡ false → (a ≡ false) × (b ≡ false)
both_false true b h = absurd cc
both_false false b h = (refl, h)

none_found : (test : Entry → Bool) (all : List Entry) → find test all ≡ None → All (λ e. test e ≡ false) all
none_found test [] h = λ k d lt. absurd (omega arith)
none_found test (e ∷ all) h =
    let p = neither (test e) e (find test all) h in
    All-cons (λ e. test e ≡ false) e all p.0 (none_found test all p.1)

none_passes : (test : Entry → Bool) (all : List Entry) → list_any test all ≡ false → All (λ e. test e ≡ false) all
none_passes test [] h = λ k d lt. absurd (omega arith)
none_passes test (e ∷ all) h =
    let p = both_false (test e) (list_any test all) h in
    All-cons (λ e. test e ≡ false) e all p.0 (none_passes test all p.1)

less_equal : (o : Ordering) → o ≡ Less → o ≡ Equal → ⊥
less_equal o less equal = cc

-- what is above a node, and isn't hidden by it, has another name
not_hidden-apart : (a b : Node) → node_cmp a b ≡ Less → hides a b ≡ false → Apart a b
not_hidden-apart a b less free same =
    elim (cases_lt (number_of a) (number_of b)) [
      | inl lt ↦
          let alike : pointwise nat_eq (name_of a) (name_of b) ≡ true = ap (pointwise nat_eq (name_of a)) (sym same) ∙ nat_list_eq_equiv.refl (name_of a) in
          let hidden : hides a b ≡ true = rw (lt-ltb (number_of a) (number_of b) lt, alike) refl in
          true≢false (sym hidden ∙ free)
      | inr ge ↦
          let one : number_of a ≡ number_of b = omega (arith, list_le a b less, ge) in
          less_equal (slice_cmp nat_cmp (name_of a) (name_of b)) (sym (node_cmp-names a b one) ∙ less) (ap (slice_cmp nat_cmp (name_of a)) (sym same) ∙ tied_itself nat_list_cmp_total (name_of a))
    ]

-- no node hides another one
none_hides : (all : List Entry) → find (is_twice all) all ≡ None → All (λ b. All (λ a. hides a b ≡ false) (nodes_of all)) (nodes_of all)
none_hides all h =
    All-map (λ (b : Node). All (λ a. hides a b ≡ false) (nodes_of all)) (λ (e : Entry). e.node) all
    (All-weaker (λ (e : Entry). is_twice all e ≡ false) (λ (e : Entry). All (λ a. hides a e.node ≡ false) (nodes_of all))
    (λ e free. All-map (λ (a : Node). hides a e.node ≡ false) (λ (o : Entry). o.node) all (none_passes (λ o. hides o.node e.node) all free)) all (none_found (is_twice all) all h))

pub names_apart : (all : List Entry) → IsStrictlySortedBy node_cmp (nodes_of all) → find (is_twice all) all ≡ None → AllPairs Apart (nodes_of all)
names_apart all up h = λ i j d lt within.
    let dir = nodes_of all in
    not_hidden-apart (get_or dir i d) (get_or dir j d) (all_pairs dir up i j d lt within) (none_hides all h j d within i d (omega arith))
