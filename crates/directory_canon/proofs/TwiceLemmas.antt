-- Which names stand in two lists, among nodes in their order.
use Rattle.std.proofs.Common.{◌≡◌, ℕ, ◌+◌, ◌<◌, ◌≤◌, Bool, true, false, cond, ◌&&◌, ◌||◌, List, [], ◌∷◌, length, map, get_or, drop, Bor, Option, Some, Result, Ok, Err, inl, inr, refl, sym, ap, ◌∙◌, add-one, drop-cons, arith}
use Rattle.std.specs.Prelude.{◌==◌, nat_eq, nat_lt, find}
use Rattle.std.specs.Result.{is_ok}
use Rattle.std.specs.Ordering.{nat_cmp, ordering_then, is_eq}
use Rattle.std.specs.declared.cmp.Ordering.{Ordering}
use Rattle.std.specs.Cmp.{IsTotalOrder}
use Rattle.std.specs.Cmp.Lexicographic.{slice_cmp, pointwise}
use Rattle.std.specs.List.{list_any}
use Rattle.std.specs.List.Sorted.{IsSearchInRange, IsBinarySearchResult}
use Rattle.std.proofs.lemmas.Cmp.{then_total, on_total, nat_cmp_total, nat_list_cmp_total}
use Rattle.std.proofs.lemmas.Bool.{cases_lt}
use Rattle.std.proofs.lemmas.Bool.Decides.{nat_tests}
use Rattle.std.proofs.lemmas.List.{drop_all, get_or-map, length-map}
use Rattle.std.proofs.lemmas.List.Folds.{list_any_at, list_any_none}
use Rattle.std.proofs.lemmas.List.Sorted.{searchable_from_sorted}
use Rattle.std.proofs.lemmas.Map.Text.{is_eq-slice_cmp}
use Rattle.directory_canon.specs.declared.node.Node.{Node}
use Rattle.directory_canon.specs.declared.node.Node.TheVariants as nodes
use Rattle.directory_canon.specs.declared.borrowed.Placed.{Placed}
use Rattle.directory_canon.specs.declared.borrowed.NodeRef.{NodeRef}
use Rattle.directory_canon.specs.declared.borrowed.NodeRef.TheVariants as refs
use Rattle.directory_canon.specs.declared.error.DirError.{DirError}
use Rattle.directory_canon.specs.declared.error.DirError.TheVariants as errors
use Rattle.digest_types.specs.Name.{HashAndSize}
use Rattle.directory_canon.specs.Node.{number_of, name_of}
use Rattle.directory_canon.specs.Reading.{Entry, is_twice, unless_twice}
use Rattle.directory_canon.specs.Views.{node_view, node_of, entry_view, place_of, place_cmp, has_name, AreInOrder}

-- ---- the order of places

pub place_cmp_total : IsTotalOrder place_cmp
place_cmp_total = then_total (on_total (λ (p : ℕ × List ℕ). p.0) nat_cmp_total) (on_total (λ (p : ℕ × List ℕ). p.1) nat_list_cmp_total)

-- ---- what a search finds

eq_then : (a b : ℕ) (o : Ordering) → is_eq (ordering_then (nat_cmp a b) o) ≡ ((a == b) && is_eq o)
eq_then a b o = grind (arith, nat_tests)

is_at : (p : Placed) (number : ℕ) (name : List ℕ) → is_eq (place_cmp (place_of p) (number, name)) ≡ has_name number name p
is_at p number name = eq_then (number_of (node_view p.node)) number (slice_cmp nat_cmp (name_of (node_view p.node)) name) ∙ ap (λ (b : Bool). (number_of (node_view p.node) == number) && b) (is_eq-slice_cmp (name_of (node_view p.node)) name)

pub searched : (all : List Placed) (number : ℕ) (name : List ℕ) (found : Result ℕ ℕ) → AreInOrder all → IsSearchInRange found (length all) → IsBinarySearchResult (λ p. place_cmp (place_of p) (number, name)) all found
    → is_ok found ≡ list_any (has_name number name) all
unfolding AreInOrder
searched [] number name (Ok i) order within h = absurd (omega arith)
searched (q ∷ qs) number name (Ok i) order within h =
    sym (list_any_at (has_name number name) (q ∷ qs) i q within (sym (is_at (get_or (q ∷ qs) i q) number name) ∙ ap is_eq (h q)))
searched all number name (Err i) order within h =
    let parts = h (searchable_from_sorted place_cmp_total place_of all (number, name) order) in
    sym (list_any_none (has_name number name) all (λ k d high.
    elim (cases_lt k i) [
      | inl lt ↦ sym (is_at (get_or all k d) number name) ∙ ap is_eq (parts.0 k d (omega arith) lt)
      | inr le ↦ sym (is_at (get_or all k d) number name) ∙ ap is_eq (parts.1 k d le high)
    ]))

-- ---- which lists are earlier

abbrev below : ℕ → List ℕ → Entry → Bool
below number name o = nat_lt (number_of o.node) number && pointwise nat_eq (name_of o.node) name

none_below : (node : Node) (b : Bool) → (nat_lt (number_of node) 1 && b) ≡ false
none_below (nodes.File name digest exec) b = refl
none_below (nodes.Dir name digest) b = refl
none_below (nodes.Link name target) b = refl

files_below : (node : Node) (b : Bool) → (nat_lt (number_of node) 2 && b) ≡ ((number_of node == 1) && b)
files_below (nodes.File name digest exec) b = refl
files_below (nodes.Dir name digest) b = refl
files_below (nodes.Link name target) b = refl

no_more : (b : Bool) → b ≡ (b || false)
no_more true = refl
no_more false = refl

both_below : (node : Node) (b : Bool) → (nat_lt (number_of node) 3 && b) ≡ (((number_of node == 1) && b) || ((number_of node == 2) && b))
both_below (nodes.File name digest exec) b = no_more b
both_below (nodes.Dir name digest) b = refl
both_below (nodes.Link name target) b = refl

none : (name : List ℕ) (all : List Placed) → list_any (below 1 name) (map entry_view all) ≡ false
none name [] = refl
none name (p ∷ ps) = rw (none_below (node_view p.node) (pointwise nat_eq (name_of (node_view p.node)) name)) (none name ps)

files : (name : List ℕ) (all : List Placed) → list_any (below 2 name) (map entry_view all) ≡ list_any (has_name 1 name) all
files name [] = refl
files name (p ∷ ps) = rw (files_below (node_view p.node) (pointwise nat_eq (name_of (node_view p.node)) name), files name ps) refl

mixed : (a b c d : Bool) → ((a || b) || (c || d)) ≡ ((a || c) || (b || d))
mixed true b c d = refl
mixed false true true d = refl
mixed false true false d = refl
mixed false false true d = refl
mixed false false false d = refl

both : (name : List ℕ) (all : List Placed) → list_any (below 3 name) (map entry_view all) ≡ (list_any (has_name 1 name) all || list_any (has_name 2 name) all)
both name [] = refl
both name (p ∷ ps) =
    rw (both_below (node_view p.node) (pointwise nat_eq (name_of (node_view p.node)) name), both name ps)
    (mixed (has_name 1 name p) (has_name 2 name p) (list_any (has_name 1 name) ps) (list_any (has_name 2 name) ps))

pub file_twice : (all : List Placed) (p : Placed) (name : Bor (List ℕ)) (digest : HashAndSize) (exec : Bool) → p.node ≡ refs.File name digest exec → is_twice (map entry_view all) (entry_view p) ≡ false
file_twice all p name digest exec e = ap (λ (node : NodeRef). is_twice (map entry_view all) (record { at = p.at; node = node_view node })) e ∙ none name.now all

pub directory_twice : (all : List Placed) (p : Placed) (name : Bor (List ℕ)) (digest : HashAndSize) → p.node ≡ refs.Dir name digest → is_twice (map entry_view all) (entry_view p) ≡ list_any (has_name 1 name.now) all
directory_twice all p name digest e = ap (λ (node : NodeRef). is_twice (map entry_view all) (record { at = p.at; node = node_view node })) e ∙ files name.now all

pub link_twice : (all : List Placed) (p : Placed) (name target : Bor (List ℕ)) → p.node ≡ refs.Link name target → is_twice (map entry_view all) (entry_view p) ≡ (list_any (has_name 1 name.now) all || list_any (has_name 2 name.now) all)
link_twice all p name target e = ap (λ (node : NodeRef). is_twice (map entry_view all) (record { at = p.at; node = node_view node })) e ∙ both name.now all

-- ---- the first of them

-- what is found from the i-th on
abbrev pub found_from : List Placed → List Placed → ℕ → Option Entry
found_from all items i = find (is_twice (map entry_view all)) (drop i (map entry_view items))

opens : (items : List Placed) (i : ℕ) (d : Placed) → i < length items → drop i (map entry_view items) ≡ entry_view (get_or items i d) ∷ drop (i + 1) (map entry_view items)
opens items i d lt =
    let short : i < length (map entry_view items) = rw length-map lt in
    rw (add-one, drop-cons (map entry_view items) i (entry_view d) short, get_or-map entry_view items i d (entry_view d) lt) refl

first : (all items : List Placed) (i : ℕ) (d : Placed) → i < length items → found_from all items i ≡ cond (is_twice (map entry_view all) (entry_view (get_or items i d))) (Some (entry_view (get_or items i d))) (found_from all items (i + 1))
first all items i d lt = ap (find (is_twice (map entry_view all))) (opens items i d lt)

pub passes : (all items : List Placed) (i : ℕ) (item : Placed) (total : Option Entry) → i < length items → item ≡ get_or items i item → is_twice (map entry_view all) (entry_view item) ≡ false → found_from all items i ≡ total
    → found_from all items (i + 1) ≡ total
passes all items i item total lt is e so_far =
    let here : is_twice (map entry_view all) (entry_view (get_or items i item)) ≡ false = ap (λ (p : Placed). is_twice (map entry_view all) (entry_view p)) (sym is) ∙ e in
    sym (first all items i item lt ∙ ap (λ (b : Bool). cond b (Some (entry_view (get_or items i item))) (found_from all items (i + 1))) here) ∙ so_far

abbrev twice_at : Placed → Result (List Node) DirError
twice_at p = Err (errors.Twice p.at)

pub finds : (all items : List Placed) (i : ℕ) (item : Placed) (total : Option Entry) → i < length items → item ≡ get_or items i item → is_twice (map entry_view all) (entry_view item) ≡ true → found_from all items i ≡ total
    → unless_twice total (map entry_view all) ≡ Err (errors.Twice item.at)
finds all items i item total lt is e so_far =
    let here : is_twice (map entry_view all) (entry_view (get_or items i item)) ≡ true = ap (λ (p : Placed). is_twice (map entry_view all) (entry_view p)) (sym is) ∙ e in
    ap (λ (found : Option Entry). unless_twice found (map entry_view all))
    (sym so_far ∙ first all items i item lt ∙ ap (λ (b : Bool). cond b (Some (entry_view (get_or items i item))) (found_from all items (i + 1))) here)
    ∙ sym (ap twice_at is)

nodes_are : (all : List Placed) → map (λ e. e.node) (map entry_view all) ≡ map node_of all
nodes_are [] = refl
nodes_are (p ∷ ps) = ap (λ (ns : List Node). node_of p ∷ ns) (nodes_are ps)

pub ends : (all items : List Placed) (i : ℕ) (total : Option Entry) → length items ≤ i → found_from all items i ≡ total → unless_twice total (map entry_view all) ≡ Ok (map node_of all)
ends all items i total le so_far =
    let past : length (map entry_view items) ≤ i = rw length-map le in
    ap (λ (found : Option Entry). unless_twice found (map entry_view all)) (sym so_far ∙ ap (find (is_twice (map entry_view all))) (drop_all i (map entry_view items) past))
    ∙ ap (λ (ns : List Node). Ok ns) (nodes_are all)
