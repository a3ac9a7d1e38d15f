-- The canonical order of nodes, and what it makes of a sorted list.
use Rattle.std.proofs.Common.{◌≡◌, refl, sym, ◌∙◌, ap, ℕ, ◌<◌, ◌≤◌, ◌==◌, Bool, true, false, cond, List, [], ◌∷◌, ◌++◌, map, arith}
use Rattle.std.specs.Ordering.{nat_cmp, eq_by_cmp, is_eq, on, then_cmp, ordering_then}
use Rattle.std.specs.declared.cmp.Ordering.{Ordering}
use Rattle.std.specs.declared.cmp.Ordering.TheVariants.{Less, Equal, Greater}
use Rattle.std.specs.Cmp.{IsTotalOrder, tied_itself}
use Rattle.std.specs.Cmp.Lexicographic.{slice_cmp, pointwise, texts_ties}
use Rattle.std.specs.Prelude.{nat_eq}
use Rattle.std.specs.List.{AllByRecursion, IsDistinct}
use Rattle.std.specs.List.Sorted.{IsStrictlySortedBy}
use Rattle.std.proofs.lemmas.Bool.{ne_eqb}
use borrow.Author.Tests.{eqb-true}
use Rattle.std.proofs.lemmas.Cmp.{on_total, then_total, nat_cmp_total, nat_list_cmp_total, ranked}
use Rattle.directory_canon.specs.declared.node.Node.{Node}
use Rattle.directory_canon.specs.declared.node.Node.TheVariants as nodes
use Rattle.directory_canon.specs.Node.{number_of, name_of}
use Rattle.directory_canon.specs.Canon.{list_of, Ascends}
use Rattle.directory_canon.proofs.MakeSorted.{each}

-- by list, and then by name
abbrev pub node_cmp : Node → Node → Ordering
node_cmp = then_cmp (on number_of nat_cmp) (on name_of (slice_cmp nat_cmp))

pub nodes_total : IsTotalOrder node_cmp
nodes_total = then_total (on_total number_of nat_cmp_total) (on_total name_of nat_list_cmp_total)

-- nodes of other names aren't equal
names_differ : (x y : Node) → pointwise nat_eq (name_of x) (name_of y) ≡ false → eq_by_cmp node_cmp x y ≡ false
names_differ x y h = by (nat_cmp (number_of x) (number_of y))
  where
    by : (r : Ordering) → is_eq (ordering_then r (slice_cmp nat_cmp (name_of x) (name_of y))) ≡ false
    by Less = refl
    by Equal = sym (texts_ties (name_of x) (name_of y)) ∙ h
    by Greater = refl

differ_from : (x : Node) (xs : List Node) → AllByRecursion (λ name. pointwise nat_eq (name_of x) name ≡ false) (map name_of xs) → AllByRecursion (λ y. eq_by_cmp node_cmp x y ≡ false) xs
differ_from x [] h = h
differ_from x (y ∷ ys) h = (names_differ x y h.0, differ_from x ys h.1)

pub nodes_differ : (xs : List Node) → IsDistinct (pointwise nat_eq) (map name_of xs) → IsDistinct (eq_by_cmp node_cmp) xs
unfolding IsDistinct
nodes_differ [] h = h
nodes_differ (x ∷ xs) h = (differ_from x xs h.0, nodes_differ xs h.1)

-- the lists come one after the other
number_rises : (x y : Node) → node_cmp x y ≡ Less → number_of x ≤ number_of y
number_rises x y h = by (nat_cmp (number_of x) (number_of y)) refl h
  where
    by : (r : Ordering) → r ≡ nat_cmp (number_of x) (number_of y) → ordering_then r (slice_cmp nat_cmp (name_of x) (name_of y)) ≡ Less → number_of x ≤ number_of y
    by Less e k = let m : number_of x < number_of y = ranked (number_of x) (number_of y) Less e in omega arith
    by Equal e k = let m : number_of x ≡ number_of y = ranked (number_of x) (number_of y) Equal e in omega arith
    by Greater e k = absurd (let f : Greater ≡ Less = k in cc)

none_of : (k n : ℕ) → k < n → (xs : List Node) → AllByRecursion (λ y. n ≤ number_of y) xs → list_of k xs ≡ []
none_of k n lt [] h = refl
none_of k n lt (y ∷ ys) h =
    let up : n ≤ number_of y = h.0 in
    let differ : (number_of y ≡ k) → ⊥ = λ e. omega arith in
    ap (λ b. cond b (y ∷ list_of k ys) (list_of k ys)) (ne_eqb (number_of y) k differ) ∙ none_of k n lt ys h.1

pub parts_of : (xs : List Node) → IsStrictlySortedBy node_cmp xs → xs ≡ list_of 1 xs ++ (list_of 2 xs ++ list_of 3 xs)
unfolding IsStrictlySortedBy
parts_of [] s = refl
parts_of (nodes.File name digest exec ∷ xs) s = ap (λ (ys : List Node). nodes.File name digest exec ∷ ys) (parts_of xs s.1)
parts_of (nodes.Dir name digest ∷ xs) s =
    let x : Node = nodes.Dir name digest in
    let none : list_of 1 xs ≡ [] = none_of 1 2 (omega arith) xs (each (number_rises x) xs s.0) in
    ap (λ (ys : List Node). x ∷ ys) (parts_of xs s.1)
    ∙ ap (λ (ys : List Node). x ∷ (ys ++ (list_of 2 xs ++ list_of 3 xs))) none
    ∙ sym (ap (λ (ys : List Node). ys ++ (x ∷ (list_of 2 xs ++ list_of 3 xs))) none)
parts_of (nodes.Link name target ∷ xs) s =
    let x : Node = nodes.Link name target in
    let one : list_of 1 xs ≡ [] = none_of 1 3 (omega arith) xs (each (number_rises x) xs s.0) in
    let two : list_of 2 xs ≡ [] = none_of 2 3 (omega arith) xs (each (number_rises x) xs s.0) in
    ap (λ (ys : List Node). x ∷ ys) (parts_of xs s.1)
    ∙ ap (λ (ys : List Node). x ∷ (ys ++ (list_of 2 xs ++ list_of 3 xs))) one
    ∙ ap (λ (ys : List Node). x ∷ (ys ++ list_of 3 xs)) two
    ∙ sym (ap (λ (ys : List Node). ys ++ (x ∷ list_of 3 xs)) two)
    ∙ sym (ap (λ (ys : List Node). ys ++ (list_of 2 xs ++ (x ∷ list_of 3 xs))) one)

-- in each list the names ascend
name_rises : (x y : Node) → number_of x ≡ number_of y → node_cmp x y ≡ Less → slice_cmp nat_cmp (name_of x) (name_of y) ≡ Less
name_rises x y e h =
    let level : nat_cmp (number_of x) (number_of y) ≡ Equal = ap (nat_cmp (number_of x)) (sym e) ∙ tied_itself nat_cmp_total (number_of x) in
    sym (ap (λ r. ordering_then r (slice_cmp nat_cmp (name_of x) (name_of y))) level) ∙ h

is_number : (x : Node) (k : ℕ) → (number_of x == k) ≡ true → number_of x ≡ k
is_number x k h = eqb-true (number_of x) k h

above : (k : ℕ) (x : Node) → number_of x ≡ k → (xs : List Node) → AllByRecursion (λ y. node_cmp x y ≡ Less) xs → AllByRecursion (λ name. slice_cmp nat_cmp (name_of x) name ≡ Less) (map name_of (list_of k xs))
above k x e [] h = h
above k x e (y ∷ ys) h = by (number_of y == k) refl (above k x e ys h.1)
  where
    by : (b : Bool) → (number_of y == k) ≡ b → AllByRecursion (λ name. slice_cmp nat_cmp (name_of x) name ≡ Less) (map name_of (list_of k ys)) → AllByRecursion (λ name. slice_cmp nat_cmp (name_of x) name ≡ Less) (map name_of (cond b (y ∷ list_of k ys) (list_of k ys)))
    by true here rest = (name_rises x y (e ∙ sym (is_number y k here)) h.0, rest)
    by false here rest = rest

pub ascends_of : (k : ℕ) (xs : List Node) → IsStrictlySortedBy node_cmp xs → Ascends k xs
unfolding IsStrictlySortedBy
ascends_of k [] s = s
ascends_of k (x ∷ xs) s = by (number_of x == k) refl (λ e. above k x e xs s.0) (ascends_of k xs s.1)
  where
    by : (b : Bool) → (number_of x == k) ≡ b → (number_of x ≡ k → AllByRecursion (λ name. slice_cmp nat_cmp (name_of x) name ≡ Less) (map name_of (list_of k xs))) → Ascends k xs → IsStrictlySortedBy (slice_cmp nat_cmp) (map name_of (cond b (x ∷ list_of k xs) (list_of k xs)))
    by true here first rest = (first (is_number x k here), rest)
    by false here first rest = rest
