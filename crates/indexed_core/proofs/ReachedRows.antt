-- What leases reach among the rows of an index, which is what they reach among the blobs of its table.
use Rattle.std.proofs.lemmas.Option.{same_Some}
use Rattle.std.proofs.Common.{◌≡◌, ℕ, zero, suc, Bool, true, not, ◌||◌, ◌&&◌, List, [], ◌∷◌, map, Option, Some, None, Contains, inl, inr, refl, sym, ap, subst, ◌∙◌, arith, cond, false}
use Rattle.std.specs.Prelude.{filter, find, slice_get}
use Rattle.std.specs.List.{list_any}
use Rattle.std.proofs.lemmas.Bool.{cond-true, cond-false}
use Rattle.std.proofs.lemmas.Option.{same_Some}
use Rattle.digest_types.specs.Name.{HashAndSize}
use Rattle.directory_canon.specs.declared.node.Edge.{Edge}
use Rattle.store_core.specs.State.{same, is_among, is_held, digests}
use Rattle.store_core.specs.Reach.{Linked, blobs, as_dir, as_file, pair_cmp, is_dir, within, reaches, reached, is_reached, is_nearer, is_deep}
use Rattle.store_core.proofs.AscendingLaws.{Alike, equal_sorted, pair_exact}
use Rattle.store_core.proofs.Elements.{every_has, every_contains, filter_same_on, has_cases, has_first, has_from_filter, has_from_map, has_later, has_map}
use Rattle.store_core.proofs.ReachLaws.{any_passes, order_changes_nothing, same_tests, some_passes, within_cases, within_next, within_root}
use Rattle.store_core.proofs.ReachedLaws.{reached_members, reached_sorted}
use Rattle.store_core.proofs.Same.{equal_from_same, not_same_from_other, same_from_equal, same_itself}
use Rattle.store_core.proofs.Passes.{among_has}
use Rattle.lease_table.specs.Table as table
use Rattle.lease_table.specs.Table.{Table, Distinct, is_blob, is_guarded, roots, unguarded, from_digest, from_on, IsPassed}
use Rattle.indexed_core.specs.Joined.{Soundness, IsJoined, edges_if, edges_in, rows_in}
use Rattle.indexed_core.specs.Parts.{Guards, free, is_wanted, HasPassed}

-- ---- digests

pub Contains_from_among : (ds : List HashAndSize) (d : HashAndSize) → is_among ds d ≡ true → Contains ds d
Contains_from_among ds d e =
    let p = some_passes (same d) ds e in
    subst (λ (x : HashAndSize). Contains ds x) (sym (equal_from_same d p.element p.passes)) p.is_there

-- ---- the blob of a digest

-- the blob of a digest, as its row has it
abbrev pub blob_in : List Linked → HashAndSize → Linked
blob_in there d = record { digest = d; edges = edges_in there d }

by_cases : (there : List Linked) (first blob : Linked) → (first ≡ blob → edges_in (first ∷ there) blob.digest ≡ blob.edges) → (Contains there blob → edges_in (first ∷ there) blob.digest ≡ blob.edges)
    → Contains (first ∷ there) blob → edges_in (first ∷ there) blob.digest ≡ blob.edges
by_cases there first blob here later has = elim (has_cases first blob there has) [ inl is ↦ here is | inr rest ↦ later rest ]

-- the edges of a blob's digest are those of the blob
pub edges_there : (there : List Linked) (blob : Linked) → Distinct there → Contains there blob → edges_in there blob.digest ≡ blob.edges
edges_there [] blob distinct has = absurd (omega (arith, has.1))
edges_there (first ∷ there) blob distinct has = by_cases there first blob
    (λ is.
    ap edges_if (cond-true (is_blob blob.digest first) (Some first) (find (is_blob blob.digest) there) (same_from_equal first.digest blob.digest (ap (λ (b : Linked). b.digest) is)))
    ∙ ap (λ (b : Linked). b.edges) is)
    (λ rest.
    let other = every_contains (λ (b : Linked). b.digest ≡ first.digest → ⊥) there blob distinct.0 rest in
    ap edges_if (cond-false (is_blob blob.digest first) (Some first) (find (is_blob blob.digest) there) (not_same_from_other first.digest blob.digest (λ e. other (sym e))))
    ∙ edges_there there blob distinct.1 rest)
    has

blob_there : (there : List Linked) (blob : Linked) → Distinct there → Contains there blob → blob_in there blob.digest ≡ blob
blob_there there blob distinct has = ap (λ edges. record { digest = blob.digest; edges = edges }) (edges_there there blob distinct has)

-- the blobs of the rows, digest by digest
pub blobs_are : (order : List HashAndSize) (there : List Linked) (flags : Soundness) → blobs (rows_in order there flags) ≡ map (blob_in there) order
blobs_are [] there flags = refl
blobs_are (d ∷ ds) there flags = ap (λ (bs : List Linked). blob_in there d ∷ bs) (blobs_are ds there flags)

-- the digests of the rows are the order
pub digests_are : (order : List HashAndSize) (there : List Linked) (flags : Soundness) → digests (rows_in order there flags) ≡ order
digests_are [] there flags = refl
digests_are (d ∷ ds) there flags = ap (λ (xs : List HashAndSize). d ∷ xs) (digests_are ds there flags)

-- ---- the same is reached among blobs in another order

within_along : (there other : List Linked) (starts : List Edge) → ((blob : Linked) → Contains there blob → Contains other blob)
    → (steps : ℕ) (pair : Edge) → within there starts steps pair ≡ true → within other starts steps pair ≡ true
unfolding within
within_along there other starts held zero pair e = e
within_along there other starts held (suc steps) pair e = elim (within_cases there starts steps pair e) [
  | inl root ↦ within_root other starts (suc steps) pair root
  | inr h ↦ within_next other starts steps pair (record {
    blob = h.blob;
    is_there = held h.blob h.is_there;
    passes = within_along there other starts held steps (as_dir h.blob.digest) h.passes;
    has_link = h.has_link;
  })
]

module _ (there other : List Linked) (alike : Alike there other) (starts : List Edge) where
  pub same_reach : (pair : Edge) → reaches other starts pair ≡ reaches there starts pair
  same_reach pair = order_changes_nothing there other (λ blob. (alike.there blob, alike.back blob)) starts pair

  pub same_is_reached : (d : HashAndSize) → is_reached other starts d ≡ is_reached there starts d
  same_is_reached d =
      ap (λ (b : Bool). b || reaches other starts (as_dir d)) (same_reach (as_file d))
      ∙ ap (λ (b : Bool). reaches there starts (as_file d) || b) (same_reach (as_dir d))

  same_nearer : (steps : ℕ) (pair : Edge) → is_nearer other starts steps pair ≡ is_nearer there starts steps pair
  same_nearer zero pair = refl
  same_nearer (suc steps) pair = same_tests _ _ (within_along other there starts alike.back steps pair) (within_along there other starts alike.there steps pair)

  -- the lists of what is reached are equal
  pub same_reached : reached other starts ≡ reached there starts
  same_reached = equal_sorted pair_cmp pair_exact (reached other starts) (reached there starts) (reached_sorted other starts) (reached_sorted there starts) (record {
    there = λ pair h. (reached_members there starts pair).0 (sym (same_reach pair) ∙ (reached_members other starts pair).1 h);
    back = λ pair h. (reached_members other starts pair).0 (same_reach pair ∙ (reached_members there starts pair).1 h);
  })

  -- the same is deep
  pub same_deep : (steps : ℕ) → is_deep other starts steps ≡ is_deep there starts steps
  unfolding is_deep
  same_deep steps =
      ap (λ (test : Edge → Bool). list_any (λ pair. is_dir pair && not (test pair)) (reached other starts)) (λ i pair. same_nearer steps pair i)
      ∙ ap (list_any (λ pair. is_dir pair && not (is_nearer there starts steps pair))) same_reached

-- ---- digests from one on

from_has : (d q : HashAndSize) (ds : List HashAndSize) → Contains (from_digest d ds) q → Contains ds q
from_has d q [] has = has
from_has d q (x ∷ ds) has = by (same d x) (from_has d q ds) has
  where
    by : (b : Bool) → (Contains (from_digest d ds) q → Contains ds q) → Contains (cond b (x ∷ ds) (from_digest d ds)) q → Contains (x ∷ ds) q
    by true later has = has
    by false later has = has_later x q ds (later has)

from_on_has : (from : Option HashAndSize) (q : HashAndSize) (ds : List HashAndSize) → Contains (from_on from ds) q → Contains ds q
from_on_has None q ds has = has
from_on_has (Some d) q ds has = from_has d q ds has

-- ---- the rows of an index

module _ (order : List HashAndSize) (there : List Linked) (flags : Soundness) (used : ℕ) (joined : IsJoined order there flags used) where
  row_blob : (blob : Linked) → Contains there blob → Contains (map (blob_in there) order) blob
  row_blob blob has =
      let among = sym (joined.has_blobs blob.digest) ∙ any_passes (is_blob blob.digest) there blob has (same_itself blob.digest) in
      subst (λ (b : Linked). Contains (map (blob_in there) order) b) (blob_there there blob joined.distinct_blobs has)
      (has_map (blob_in there) order blob.digest (Contains_from_among order blob.digest among))

  of_digest : (d : HashAndSize) → Contains order d → Contains there (blob_in there d)
  of_digest d has =
      let p = some_passes (is_blob d) there (joined.has_blobs d ∙ among_has order d has) in
      let is : p.element.digest ≡ d = equal_from_same p.element.digest d p.passes in
      subst (λ (b : Linked). Contains there b) (sym (blob_there there p.element joined.distinct_blobs p.is_there) ∙ ap (blob_in there) is) p.is_there

  blob_of_row : (blob : Linked) → Contains (map (blob_in there) order) blob → Contains there blob
  blob_of_row blob has =
      let from = has_from_map (blob_in there) order blob has in
      subst (λ (b : Linked). Contains there b) from.2 (of_digest from.0 from.1)

  -- the blobs of the rows are those of the table
  pub rows_alike : Alike there (blobs (rows_in order there flags))
  rows_alike = record {
    there = λ blob has. subst (λ (bs : List Linked). Contains bs blob) (sym (blobs_are order there flags)) (row_blob blob has);
    back = λ blob has. blob_of_row blob (subst (λ (bs : List Linked). Contains bs blob) (blobs_are order there flags) has);
  }

  pub rows_reached : (starts : List Edge) → reached (blobs (rows_in order there flags)) starts ≡ reached there starts
  rows_reached starts = same_reached there (blobs (rows_in order there flags)) rows_alike starts

  pub rows_deep : (starts : List Edge) (steps : ℕ) → is_deep (blobs (rows_in order there flags)) starts steps ≡ is_deep there starts steps
  rows_deep starts steps = same_deep there (blobs (rows_in order there flags)) rows_alike starts steps

  -- the same is wanted among the rows and among the blobs
  pub rows_wanted : (guards : Guards) (d : HashAndSize)
      → is_wanted (record { rows = rows_in order there flags; guards = guards }) d ≡ table.is_wanted (record { blobs = there; leases = guards.leases; holds = guards.holds }) d
  rows_wanted guards d = ap (λ (b : Bool). b || is_held guards.holds d) (same_is_reached there (blobs (rows_in order there flags)) rows_alike (roots guards.leases) d)

  unguarded_in : (guards : Guards) (d : HashAndSize) → Contains order d
      → not (is_guarded (record { blobs = there; leases = guards.leases; holds = guards.holds }) d) ≡ not (is_wanted (record { rows = rows_in order there flags; guards = guards }) d)
  unguarded_in guards d has =
      ap (λ (b : Bool). not (b && table.is_wanted (record { blobs = there; leases = guards.leases; holds = guards.holds }) d)) (joined.has_blobs d ∙ among_has order d has)
      ∙ ap not (sym (rows_wanted guards d))

  -- those of some digests of rows that aren't guarded
  free_among : (guards : Guards) (ds : List HashAndSize) → ((d : HashAndSize) → Contains ds d → Contains order d)
      → unguarded (record { blobs = there; leases = guards.leases; holds = guards.holds }) ds ≡ filter (λ d. not (is_wanted (record { rows = rows_in order there flags; guards = guards }) d)) ds
  free_among guards ds within =
      filter_same_on (λ d. not (is_guarded (record { blobs = there; leases = guards.leases; holds = guards.holds }) d)) (λ d. not (is_wanted (record { rows = rows_in order there flags; guards = guards }) d)) ds
      (every_has _ ds (λ d has. unguarded_in guards d (within d has)))

  -- the digests of rows that aren't guarded are the free ones
  pub rows_free : (guards : Guards) → unguarded (record { blobs = there; leases = guards.leases; holds = guards.holds }) order ≡ free (record { rows = rows_in order there flags; guards = guards })
  rows_free guards =
      free_among guards order (λ d has. has)
      ∙ ap (filter (λ d. not (is_wanted (record { rows = rows_in order there flags; guards = guards }) d))) (sym (digests_are order there flags))

  free_from : (guards : Guards) (from : Option HashAndSize)
      → filter (λ d. not (is_wanted (record { rows = rows_in order there flags; guards = guards }) d)) (from_on from (digests (rows_in order there flags)))
      ≡ unguarded (record { blobs = there; leases = guards.leases; holds = guards.holds }) (from_on from order)
  free_from guards from =
      ap (λ (ds : List HashAndSize). filter (λ d. not (is_wanted (record { rows = rows_in order there flags; guards = guards }) d)) (from_on from ds)) (digests_are order there flags)
      ∙ sym (free_among guards (from_on from order) (λ d has. from_on_has from d order has))

  -- a pass goes on at the same place among the rows and among the blobs
  pub rows_passed : (guards : Guards) (from : Option HashAndSize) → IsPassed (record { blobs = there; leases = guards.leases; holds = guards.holds }) order from
      → HasPassed (record { rows = rows_in order there flags; guards = guards }) from
  rows_passed guards from passed = free_from guards from ∙ passed ∙ rows_free guards

  pub blobs_passed : (guards : Guards) (from : Option HashAndSize) → HasPassed (record { rows = rows_in order there flags; guards = guards }) from
      → IsPassed (record { blobs = there; leases = guards.leases; holds = guards.holds }) order from
  blobs_passed guards from passed = sym (free_from guards from) ∙ passed ∙ sym (rows_free guards)

-- ---- the first unguarded digest

first_has : (ds : List HashAndSize) (d : HashAndSize) → slice_get ds 0 ≡ Some d → Contains ds d
first_has [] d e = absurd cc
first_has (first ∷ ds) d e = subst (λ (x : HashAndSize). Contains (first ∷ ds) x) (same_Some first d e) (has_first first ds)

-- it is in the order
pub first_in_order : (t : Table) (order : List HashAndSize) (d : HashAndSize) → slice_get (unguarded t order) 0 ≡ Some d → is_among order d ≡ true
first_in_order t order d e = among_has order d (has_from_filter (λ x. not (is_guarded t x)) order d (first_has (unguarded t order) d e)).0

pub not_both : (b c : Bool) → c ≡ false → (b && c) ≡ false
not_both true c e = e
not_both false c e = refl

fails_by : (test : HashAndSize → Bool) (first d : HashAndSize) (rest : List HashAndSize) (b : Bool) → test first ≡ b → slice_get (cond (not b) (first ∷ rest) rest) 0 ≡ Some d → (slice_get rest 0 ≡ Some d → test d ≡ false) → test d ≡ false
fails_by test first d rest true e is h = h is
fails_by test first d rest false e is h = ap test (sym (same_Some first d is)) ∙ e

-- the first of those that fail a test fails it
pub first_fails : (test : HashAndSize → Bool) (ds : List HashAndSize) (d : HashAndSize) → slice_get (filter (λ x. not (test x)) ds) 0 ≡ Some d → test d ≡ false
first_fails test [] d e = absurd cc
first_fails test (first ∷ ds) d e = fails_by test first d (filter (λ x. not (test x)) ds) (test first) refl e (first_fails test ds d)

-- the first digest that isn't guarded isn't
pub first_loose : (t : Table) (order : List HashAndSize) (d : HashAndSize) → slice_get (unguarded t order) 0 ≡ Some d → is_guarded t d ≡ false
first_loose t order d e = first_fails (is_guarded t) order d e
