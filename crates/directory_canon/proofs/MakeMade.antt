-- Sorted nodes without an offence are the Directory that they make.
use Rattle.std.proofs.Common.{◌≡◌, ◌≢◌, refl, sym, ◌∙◌, ap, ℕ, ◌<◌, ◌≤◌, ◌+◌, Bool, true, false, not, ◌||◌, List, [], ◌∷◌, map, length, All, Some, None, if◌then◌else◌, arith}
use Rattle.std.specs.Prelude.{nat_eq}
use Rattle.std.specs.Cmp.Lexicographic.{pointwise, bytes_decides, nat_list_eq_equiv}
use Rattle.std.specs.List.{AllByRecursion, AllPairs, IsDistinct}
use Rattle.std.specs.List.Sorted.{IsSorted, IsStrictlySortedBy, IsPermutation}
use Rattle.std.proofs.Math.ListN.{get_or-map}
use Rattle.std.proofs.lemmas.Bool.{le-ltb}
use borrow.Author.Tests.{lt-ltb}
use Rattle.std.proofs.lemmas.List.{length-map}
use Rattle.std.proofs.lemmas.List.Concat.{length-flat_map}
use Rattle.std.proofs.lemmas.List.Sorted.{IsPermutation-map, All-permutation, sum_by-IsPermutation}
use Rattle.std.proofs.lemmas.Map.Keys.{IsDistinct-IsPermutation}
use Rattle.std.proofs.lemmas.Map.Made.{AllPairs-from_IsDistinct}
use Rattle.directory_canon.specs.declared.error.DirError.{DirError}
use Rattle.directory_canon.specs.declared.error.DirError.TheVariants as errors
use Rattle.directory_canon.specs.declared.node.Node.{Node}
use Rattle.directory_canon.specs.Node.{name_of, is_name, IsNode}
use Rattle.directory_canon.specs.Canon.{node_spelled, spelled, max_len}
use Rattle.directory_canon.specs.Making.{has_target, has_name, offence, refusal, refusal_by, Made}
use Rattle.directory_canon.proofs.MakeSorted.{strict_from_sorted}
use Rattle.directory_canon.proofs.MakeOrder.{node_cmp, nodes_total, nodes_differ, parts_of, ascends_of}

-- no name is one of these, nor stands twice
record AreNew (names : List (List ℕ)) (xs : List Node) : Type 0 where
  new : AllByRecursion (λ name. has_name names name ≡ false) (map name_of xs)
  distinct : IsDistinct (pointwise nat_eq) (map name_of xs)

or_false : (a b : Bool) → (a || b) ≡ false → (a ≡ false) × (b ≡ false)
or_false true b h = (h, cc)
or_false false b h = (refl, h)

parted : (names : List (List ℕ)) (first : List ℕ) (xs : List (List ℕ)) → AllByRecursion (λ name. has_name (first ∷ names) name ≡ false) xs → AllByRecursion (λ name. pointwise nat_eq first name ≡ false) xs × AllByRecursion (λ name. has_name names name ≡ false) xs
parted names first [] h = (h, h)
parted names first (x ∷ xs) h =
    let here = or_false (pointwise nat_eq first x) (has_name names x) h.0 in
    let rest = parted names first xs h.1 in
    ((here.0, rest.0), (here.1, rest.1))

-- where no node offends, no name stands twice
are_new : (names : List (List ℕ)) (i : ℕ) (xs : List Node) → offence names i xs ≡ None → AreNew names xs
unfolding offence IsDistinct
are_new names i [] h = record { new = tt; distinct = tt }
are_new names i (x ∷ xs) h = by (is_name (name_of x)) (has_target x) (has_name names (name_of x)) refl h (λ e. are_new (name_of x ∷ names) (i + 1) xs e)
  where
    by : (n t w : Bool) → has_name names (name_of x) ≡ w → (if not n then Some (errors.BadName i) else if not t then Some (errors.BadTarget i) else if w then Some (errors.Twice i) else offence (name_of x ∷ names) (i + 1) xs) ≡ None → (offence (name_of x ∷ names) (i + 1) xs ≡ None → AreNew (name_of x ∷ names) xs) → AreNew names (x ∷ xs)
    by false t w e h rest = absurd cc
    by true false w e h rest = absurd cc
    by true true true e h rest = absurd cc
    by true true false e h rest =
        let new = rest h in
        let both = parted names (name_of x) (map name_of xs) new.new in
        record { new = (e, both.1); distinct = (both.0, new.distinct) }

distinct_of : (xs : List Node) → offence [] 0 xs ≡ None → IsDistinct (pointwise nat_eq) (map name_of xs)
distinct_of xs h = (are_new [] 0 xs h).distinct

-- the same of the nodes
pairs_of : (xs : List Node) → IsDistinct (pointwise nat_eq) (map name_of xs) → AllPairs (λ a b. name_of a ≢ name_of b) xs
pairs_of xs h i j d lt in_xs e =
    AllPairs-from_IsDistinct bytes_decides (map name_of xs) h i j (name_of d) lt (omega (arith, length-map xs name_of))
    (get_or-map name_of xs i d ∙ e ∙ sym (get_or-map name_of xs j d))

same_length : (xs ys : List Node) → IsPermutation xs ys → length (spelled ys) ≡ length (spelled xs)
same_length xs ys p =
    length-flat_map node_spelled ys ∙ sum_by-IsPermutation (λ x. length (node_spelled x)) xs ys p ∙ sym (length-flat_map node_spelled xs)

pub not_refused : (xs : List Node) → offence [] 0 xs ≡ None → length (spelled xs) ≤ max_len → refusal xs ≡ None
unfolding refusal
not_refused xs h short =
    ap (λ o. refusal_by o xs) h ∙ ap (λ b. if b then Some errors.TooLong else None) (le-ltb max_len (length (spelled xs)) short)

-- nodes without an offence that are too long
pub too_long : (xs : List Node) → offence [] 0 xs ≡ None → max_len < length (spelled xs) → refusal xs ≡ Some errors.TooLong
unfolding refusal
too_long xs h long =
    ap (λ o. refusal_by o xs) h ∙ ap (λ b. if b then Some errors.TooLong else None) (lt-ltb max_len (length (spelled xs)) long)

-- an offence is the refusal
pub offends : (xs : List Node) (e : DirError) → offence [] 0 xs ≡ Some e → refusal xs ≡ Some e
unfolding refusal
offends xs e h = ap (λ o. refusal_by o xs) h

pub made : (xs ys : List Node) → offence [] 0 xs ≡ None → All IsNode xs → length (spelled xs) ≤ max_len → IsPermutation xs ys → IsSorted node_cmp ys → Made xs ys
made xs ys h valid short p sorted =
    let distinct : IsDistinct (pointwise nat_eq) (map name_of ys) =
    IsDistinct-IsPermutation (pointwise nat_eq) nat_list_eq_equiv.symm (map name_of xs) (map name_of ys) (IsPermutation-map name_of xs ys p) (distinct_of xs h) in
    let strict : IsStrictlySortedBy node_cmp ys = strict_from_sorted nodes_total ys sorted (nodes_differ ys distinct) in
    let fits : length (spelled ys) ≤ max_len = omega (arith, same_length xs ys p) in
    record {
      none = not_refused xs h short;
      same = p;
      is = record {
        parts = parts_of ys strict;
        valid = All-permutation IsNode xs ys p valid;
        files = ascends_of 1 ys strict;
        directories = ascends_of 2 ys strict;
        symlinks = ascends_of 3 ys strict;
        distinct = pairs_of ys distinct;
        short = fits;
      };
    }
