-- The list of what is reached, and what of it is there where a lease stands Complete.
use Rattle.std.proofs.Common.{◌≡◌, ◌↔◌, Bool, true, false, not, ◌&&◌, ◌||◌, List, [], ◌∷◌, ◌++◌, map, filter, Option, Some, None, Contains, refl, sym, subst, ◌∙◌, inl, inr}
use Rattle.std.specs.Prelude.{flat_map, unwrap_or}
use Rattle.std.specs.List.{list_any}
use Rattle.std.specs.List.Sorted.{IsStrictlySortedBy}
use Rattle.std.proofs.lemmas.Bool.{and_parts, or_cases, true_from_ne_false}
use Rattle.std.proofs.lemmas.List.Elements.{All-contains, Contains-append_left, Contains-append_right, Contains-append_cases, filter_passes}
use Rattle.digest_types.specs.Name.{HashAndSize}
use Rattle.directory_canon.specs.declared.node.Edge.{Edge}
use Rattle.directory_canon.specs.Tree.{digest_cmp}
use Rattle.store_core.specs.declared.state.Row.{Row}
use Rattle.store_core.specs.declared.event.Standing.TheVariants as standings
use Rattle.store_core.specs.Ascending.{ascending}
use Rattle.store_core.specs.State.{is_empty, is_sound}
use Rattle.store_core.specs.Reach.{Linked, as_dir, blobs, edges_of, is_dir, is_pair, links_to, pair_cmp, reached, reaches}
use Rattle.store_core.specs.Standing.{counted, digests_of, standing, wanted}
use Rattle.store_core.proofs.AscendingLaws.{Contains_cases, none_contained, ascending_members, ascending_sorted, digest_exact, pair_exact}
use Rattle.store_core.proofs.ReachLaws.{Contains_later, Contains_filter, Contains_from_filter, Contains_from_pair, pair_from_Contains, reaches_next, reaches_root, reaches_unfolds, some_passes}
use Rattle.store_core.proofs.StandingLaws.{complete_parts}
use Rattle.store_core.proofs.Elements.{has_first, has_map}

-- ---- lists of lists

-- an element that the list of one element has
pub record HasPart {X Y : Type 0} (f : X → List Y) (xs : List X) (y : Y) : Type 0 where
  pub element : X
  pub is_there : Contains xs element
  pub has : Contains (f element) y

-- what an element's list has is in the list of all
flat_map_has : {X Y : Type 0} (f : X → List Y) (xs : List X) (x : X) (y : Y) → Contains xs x → Contains (f x) y → Contains (flat_map f xs) y
flat_map_has f [] x y there has = absurd (none_contained x there)
flat_map_has f (first ∷ rest) x y there has = elim (Contains_cases first rest x there) [
  | inl is ↦ Contains-append_left (f first) (flat_map f rest) y (subst (λ z. Contains (f z) y) (sym is) has)
  | inr later ↦ Contains-append_right (f first) (flat_map f rest) y (flat_map_has f rest x y later has)
]

-- what the list of all has is in some element's list
flat_map_from : {X Y : Type 0} (f : X → List Y) (xs : List X) (y : Y) → Contains (flat_map f xs) y → HasPart f xs y
flat_map_from f [] y h = absurd (none_contained y h)
flat_map_from f (first ∷ rest) y h = elim (Contains-append_cases (f first) (flat_map f rest) y h) [
  | inl has ↦ record { element = first; is_there = has_first first rest; has = has }
  | inr later ↦ let p = flat_map_from f rest y later in record { element = p.element; is_there = Contains_later first rest p.element p.is_there; has = p.has }
]

pub kept_passes : {X : Type 0} (test : X → Bool) (xs : List X) (x : X) → Contains (filter test xs) x → test x ≡ true
kept_passes test xs x h = All-contains (λ y. test y ≡ true) (filter test xs) x (filter_passes test xs) h

-- ---- the list of what is reached

-- a blob has the edges that it links to
has_edge : (edges : Option (List Edge)) (pair : Edge) → links_to edges pair ≡ true → Contains (unwrap_or edges []) pair
has_edge None pair e = absurd cc
has_edge (Some edges) pair e = Contains_from_pair edges pair e

-- a blob links to the edges that it has
links_by : (edges : Option (List Edge)) (pair : Edge) → Contains (unwrap_or edges []) pair → links_to edges pair ≡ true
links_by None pair h = absurd (none_contained pair h)
links_by (Some edges) pair h = pair_from_Contains edges pair h

-- the blobs that are reached as Directories
abbrev dirs : List Linked → List Edge → List Linked
dirs there starts = filter (λ blob. reaches there starts (as_dir blob.digest)) there

-- the roots, and the edges of those
abbrev all_pairs : List Linked → List Edge → List Edge
all_pairs there starts = starts ++ flat_map edges_of (dirs there starts)

-- what is reached is a root or such an edge
pairs_from : (there : List Linked) (starts : List Edge) (pair : Edge) → reaches there starts pair ≡ true → Contains (all_pairs there starts) pair
pairs_from there starts pair e =
    elim (or_cases (list_any (is_pair pair) starts) (list_any (λ blob. reaches there starts (as_dir blob.digest) && links_to blob.edges pair) there) (sym (reaches_unfolds there starts pair) ∙ e)) [
      | inl root ↦ Contains-append_left starts (flat_map edges_of (dirs there starts)) pair (Contains_from_pair starts pair root)
      | inr linked ↦
          let p = some_passes (λ (blob : Linked). reaches there starts (as_dir blob.digest) && links_to blob.edges pair) there linked in
          let h = and_parts (reaches there starts (as_dir p.element.digest)) (links_to p.element.edges pair) p.passes in
          let kept = Contains_filter (λ (blob : Linked). reaches there starts (as_dir blob.digest)) there p.element p.is_there h.0 in
          Contains-append_right starts (flat_map edges_of (dirs there starts)) pair (flat_map_has edges_of (dirs there starts) p.element pair kept (has_edge p.element.edges pair h.1))
    ]

-- a root or such an edge is reached
reaches_from : (there : List Linked) (starts : List Edge) (pair : Edge) → Contains (all_pairs there starts) pair → reaches there starts pair ≡ true
reaches_from there starts pair h = elim (Contains-append_cases starts (flat_map edges_of (dirs there starts)) pair h) [
  | inl root ↦ reaches_root there starts pair (pair_from_Contains starts pair root)
  | inr edge ↦
      let p = flat_map_from edges_of (dirs there starts) pair edge in
      let passes = kept_passes (λ (blob : Linked). reaches there starts (as_dir blob.digest)) there p.element p.is_there in
      reaches_next there starts p.element pair (Contains_from_filter (λ (blob : Linked). reaches there starts (as_dir blob.digest)) there p.element p.is_there) passes (links_by p.element.edges pair p.has)
]

-- the list of what is reached has exactly that
pub reached_members : (there : List Linked) (starts : List Edge) (pair : Edge) → (reaches there starts pair ≡ true) ↔ Contains (reached there starts) pair
unfolding reached
reached_members there starts pair =
    let members = ascending_members pair_cmp pair_exact (all_pairs there starts) pair in
    ((λ e. members.1 (pairs_from there starts pair e)), (λ h. reaches_from there starts pair (members.0 h)))

-- the list of what is reached is in order
pub reached_sorted : (there : List Linked) (starts : List Edge) → IsStrictlySortedBy pair_cmp (reached there starts)
unfolding reached
reached_sorted there starts = ascending_sorted pair_cmp pair_exact.total (all_pairs there starts)

-- ---- what of it is there

not_empty_passes : (b : Bool) → b ≡ false → not b ≡ true
not_empty_passes true e = absurd cc
not_empty_passes false e = refl

-- the digest of a pair is among those of the pairs, unless it is the empty one
digests_have : (pairs : List Edge) (pair : Edge) → Contains pairs pair → is_empty pair.digest ≡ false → Contains (digests_of pairs) pair.digest
digests_have pairs pair h filled =
    let all = map (λ (p : Edge). p.digest) pairs in
    Contains_filter (λ d. not (is_empty d)) (ascending digest_cmp all) pair.digest
    ((ascending_members digest_cmp digest_exact all pair.digest).1 (has_map (λ (p : Edge). p.digest) pairs pair h)) (not_empty_passes _ filled)

-- where none is wanted, each of the digests is sound
none_wanted : (rows : List Row) (ds : List HashAndSize) (d : HashAndSize) → wanted rows ds ≡ [] → Contains ds d → is_sound rows d ≡ true
none_wanted rows ds d none h = true_from_ne_false (is_sound rows d)
    (λ f. none_contained d (subst (λ xs. Contains xs d) none (Contains_filter (λ x. not (is_sound rows x)) ds d h (not_empty_passes _ f))))

-- where a lease stands Complete, what counts is sound
pub counted_sound : (rows : List Row) (root : Edge) (files : Bool) (ds : List HashAndSize) → standing rows root files ≡ standings.Complete ds
    → (pair : Edge) → reaches (blobs rows) (root ∷ []) pair ≡ true → (files || is_dir pair) ≡ true → is_empty pair.digest ≡ false → is_sound rows pair.digest ≡ true
counted_sound rows root files ds e pair is_reached counts filled =
    let pairs = reached (blobs rows) (root ∷ []) in
    let has = Contains_filter (λ p. files || is_dir p) pairs pair ((reached_members (blobs rows) (root ∷ []) pair).0 is_reached) counts in
    none_wanted rows (digests_of (counted files pairs)) pair.digest (complete_parts rows root files ds e).0 (digests_have (counted files pairs) pair has filled)

-- where a lease stands Complete, all that it reaches is listed
pub all_listed : (rows : List Row) (root : Edge) (files : Bool) (ds : List HashAndSize) → standing rows root files ≡ standings.Complete ds
    → (pair : Edge) → reaches (blobs rows) (root ∷ []) pair ≡ true → is_empty pair.digest ≡ false → Contains ds pair.digest
all_listed rows root files ds e pair is_reached filled =
    let pairs = reached (blobs rows) (root ∷ []) in
    subst (λ xs. Contains xs pair.digest) (complete_parts rows root files ds e).1
    (digests_have pairs pair ((reached_members (blobs rows) (root ∷ []) pair).0 is_reached) filled)
