-- The order of the children of a tree, and what stays of them where repeats are dropped.
use Rattle.std.proofs.Common.{◌≡◌, refl, sym, ◌∙◌, subst, ◌↔◌, true, List, All, Contains}
use Rattle.std.specs.Ordering.{nat_cmp, eq_by_cmp, is_eq, ordering_then}
use Rattle.std.specs.declared.cmp.Ordering.{Ordering}
use Rattle.std.specs.declared.cmp.Ordering.TheVariants.{Less, Equal, Greater}
use Rattle.std.specs.Cmp.{IsTotalOrder, eq_by_cmp_equiv}
use Rattle.std.specs.Cmp.Lexicographic.{slice_cmp, bytes_decides, texts_ties}
use Rattle.std.specs.List.{Any, dedup}
use Rattle.std.specs.List.Sorted.{IsSorted, IsStrictlySortedBy, IsPermutation}
use Rattle.std.proofs.lemmas.Cmp.{on_total, then_total, nat_cmp_total, nat_list_cmp_total}
use Rattle.std.proofs.lemmas.List.Elements.{All-contains}
use Rattle.std.proofs.lemmas.List.Filters.{All-dedup}
use Rattle.std.proofs.lemmas.List.Kept.{Any-dedup, Contains-from_dedup, IsStrictlySortedBy-dedup}
use Rattle.std.proofs.lemmas.List.Sorted.{All-permutation, Contains-permutation, IsPermutation-sym}
use Rattle.digest_types.specs.Name.{HashAndSize}
use Rattle.digest_types.specs.Digest as digests
use Rattle.directory_canon.specs.declared.node.Node.{Node}
use Rattle.directory_canon.specs.Canon.{spelled, IsDirectory}
use Rattle.directory_canon.specs.Tree.{digest_cmp, tree_cmp}
use Rattle.directory_canon.proofs.TreeSame.{same_spelled}

pub tree_total : IsTotalOrder tree_cmp
tree_total =
    then_total
    (on_total (λ (dir : List Node). digests.digest_of (spelled dir)) (then_total (on_total (λ (d : HashAndSize). d.hash) nat_list_cmp_total) (on_total (λ (d : HashAndSize). d.size) nat_cmp_total)))
    (on_total spelled nat_list_cmp_total)

-- Directories that the order does not tell apart have the same bytes
alike : (a b : List Node) → eq_by_cmp tree_cmp a b ≡ true → spelled a ≡ spelled b
alike a b h = (bytes_decides (spelled a) (spelled b)).0 (texts_ties (spelled a) (spelled b) ∙ by (digest_cmp (digests.digest_of (spelled a)) (digests.digest_of (spelled b))) h)
  where
    by : (r : Ordering) → is_eq (ordering_then r (slice_cmp nat_cmp (spelled a) (spelled b))) ≡ true → is_eq (slice_cmp nat_cmp (spelled a) (spelled b)) ≡ true
    by Less e = absurd cc
    by Equal e = e
    by Greater e = absurd cc

abbrev pub distinct_of : List (List Node) → List (List Node)
distinct_of dirs = dedup (eq_by_cmp tree_cmp) dirs

pub ascends : (sorted : List (List Node)) → IsSorted tree_cmp sorted → IsStrictlySortedBy tree_cmp (distinct_of sorted)
ascends sorted s = IsStrictlySortedBy-dedup tree_total (λ a b. refl) sorted s

-- each Directory stays
stays : (dirs : List (List Node)) → All IsDirectory dirs → (dir : List Node) → Contains dirs dir → Contains (distinct_of dirs) dir
stays dirs are dir there = by (Any-dedup (eq_by_cmp_equiv tree_total) dirs dir there)
  where
    by : Any (λ other. eq_by_cmp tree_cmp dir other ≡ true) (distinct_of dirs) → Contains (distinct_of dirs) dir
    by (k, other, lt, is, e) =
        let there_too : Contains (distinct_of dirs) other = (k, lt, is) in
        let is_other : IsDirectory other = All-contains IsDirectory (distinct_of dirs) other (All-dedup (eq_by_cmp tree_cmp) IsDirectory dirs are) there_too in
        let is_dir : IsDirectory dir = All-contains IsDirectory dirs dir are there in
        let same : other ≡ dir = sym (same_spelled dir other is_dir is_other (alike dir other e)) in
        subst (λ (d : List Node). Contains (distinct_of dirs) d) same there_too

pub same_dirs : (dirs sorted : List (List Node)) → IsPermutation dirs sorted → All IsDirectory dirs → (dir : List Node) → Contains (distinct_of sorted) dir ↔ Contains dirs dir
same_dirs dirs sorted p are dir = (
  (λ h. Contains-permutation sorted dirs dir (IsPermutation-sym dirs sorted p) (Contains-from_dedup (eq_by_cmp tree_cmp) sorted dir h)),
  (λ h. stays sorted (All-permutation IsDirectory dirs sorted p are) dir (Contains-permutation dirs sorted dir p h)),
)
