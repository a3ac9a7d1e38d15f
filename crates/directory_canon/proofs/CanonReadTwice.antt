-- No name stands twice just where the search for such a name finds none.
use Rattle.std.proofs.Common.{◌≡◌, ◌≢◌, ℕ, ◌<◌, inl, inr, Bool, false, ltb, nat_eq, ◌&&◌, List, [], ◌∷◌, map, find, All, AllPairs, length, get_or, None, refl, sym, ap, ◌∙◌, subst, lt-ltb, le-ltb, lt_irrefl, arith}
use Rattle.std.specs.Cmp.Lexicographic.{pointwise, same_text}
use Rattle.std.proofs.lemmas.Bool.{cases_lt, cases_order, cases_Bool}
use Rattle.std.proofs.lemmas.List.{length-map, get_or-map}
use Rattle.std.proofs.lemmas.List.Elements.{All-head, All-tail, All-from_get_or}
use Rattle.std.proofs.lemmas.List.Folds.{list_any_none}
use Rattle.directory_canon.specs.declared.node.Node.{Node}
use Rattle.directory_canon.specs.Node.{number_of, name_of}
use Rattle.directory_canon.specs.Reading.{Entry, is_twice}

-- the first node stands in an earlier list and has the name of the second
abbrev pub hides : Node → Node → Bool
hides o e = ltb (number_of o) (number_of e) && pointwise nat_eq (name_of o) (name_of e)

abbrev pub Apart : Node → Node → Type 0
Apart a b = name_of a ≢ name_of b

abbrev pub nodes_of : List Entry → List Node
nodes_of all = map (λ (e : Entry). e.node) all

differ : (xs ys : List ℕ) → xs ≢ ys → pointwise nat_eq xs ys ≡ false
differ xs ys apart =
    elim (cases_Bool (pointwise nat_eq xs ys)) [
      | inl same ↦ absurd (apart (same_text xs ys (sym same)))
      | inr other ↦ other
    ]

not_hidden : (o e : Node) → (number_of o < number_of e → Apart o e) → hides o e ≡ false
not_hidden o e apart =
    elim (cases_lt (number_of o) (number_of e)) [
      | inl lt ↦ rw (lt-ltb (number_of o) (number_of e) lt, differ (name_of o) (name_of e) (apart lt)) refl
      | inr le ↦ rw (le-ltb (number_of o) (number_of e) le) refl
    ]

-- pairs in whichever order
apart_at : (dir : List Node) (i j : ℕ) (d : Node) → AllPairs Apart dir → i < length dir → j < length dir → number_of (get_or dir i d) < number_of (get_or dir j d) → Apart (get_or dir i d) (get_or dir j d)
apart_at dir i j d pairs left right lt =
    elim (cases_order i j) [
      | inl same ↦ absurd (lt_irrefl (number_of (get_or dir j d)) (subst (λ (k : ℕ). number_of (get_or dir k d) < number_of (get_or dir j d)) same lt))
      | inr other ↦
          elim other [
            | inl below ↦ pairs i j d below right
            | inr above ↦ λ e. pairs j i d above left (sym e)
          ]
    ]

find_none : (test : Entry → Bool) (all : List Entry) → All (λ e. test e ≡ false) all → find test all ≡ None
find_none test [] none = refl
find_none test (e ∷ all) none = rw (All-head (λ e. test e ≡ false) e all none, find_none test all (All-tail (λ e. test e ≡ false) e all none)) refl

node_at : (all : List Entry) (i : ℕ) (d : Entry) → i < length all → get_or (nodes_of all) i d.node ≡ (get_or all i d).node
node_at all i d lt = get_or-map (λ (e : Entry). e.node) all i d d.node lt

entry_apart : (all : List Entry) (i j : ℕ) (d : Entry) → AllPairs Apart (nodes_of all) → i < length all → j < length all → number_of (get_or all i d).node < number_of (get_or all j d).node
    → Apart (get_or all i d).node (get_or all j d).node
entry_apart all i j d pairs left right lt =
    let len : length (nodes_of all) ≡ length all = length-map all (λ (e : Entry). e.node) in
    let first = node_at all i d left in
    let second = node_at all j d right in
    let low : number_of (get_or (nodes_of all) i d.node) < number_of (get_or (nodes_of all) j d.node) = omega (arith, ap number_of first, ap number_of second, lt) in
    let apart = apart_at (nodes_of all) i j d.node pairs (omega (arith, len, left)) (omega (arith, len, right)) low in
    λ e. apart (ap name_of first ∙ e ∙ sym (ap name_of second))

pub none_twice : (all : List Entry) → AllPairs Apart (nodes_of all) → find (is_twice all) all ≡ None
none_twice all pairs =
    find_none (is_twice all) all (λ j d right. list_any_none (λ o. hides o.node (get_or all j d).node) all
    (All-from_get_or (λ (o : Entry). hides o.node (get_or all j d).node ≡ false) all d
    (λ i left. not_hidden (get_or all i d).node (get_or all j d).node (λ lt. entry_apart all i j d pairs left right lt))))
