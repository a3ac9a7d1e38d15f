-- What `ascending` gives: the same values, each once, each below the next.
use Rattle.std.proofs.Common.{◌≡◌, ◌↔◌, ◌⊎◌, zero, suc, Bool, true, false, List, [], ◌∷◌, Contains, refl, sym, ap, subst, ◌∙◌, inl, inr, arith}
use Rattle.std.specs.List.{AllByRecursion, dedup}
use Rattle.std.specs.List.Sorted.{IsSorted, IsStrictlySortedBy, IsPermutation}
use Rattle.std.specs.Ordering.{eq_by_cmp, is_eq, nat_cmp, ordering_reverse, ordering_then}
use Rattle.std.specs.declared.cmp.Ordering.{Ordering}
use Rattle.std.specs.declared.cmp.Ordering.TheVariants.{Less, Equal, Greater}
use Rattle.std.specs.Cmp.{IsTotalOrder, IsEquivalence}
use Rattle.std.specs.Cmp.Lexicographic.{slice_cmp, bytes_decides, texts_ties}
use Rattle.std.proofs.lemmas.Bool.{and_from, eq-eqb}
use Rattle.std.proofs.lemmas.Bool.Decides.{nat_tests}
use Rattle.std.proofs.lemmas.Cmp.{tied_itself, on_total, then_total, nat_cmp_total, nat_list_cmp_total}
use Rattle.std.proofs.lemmas.List.Kept.{Contains-dedup, Contains-from_dedup, IsStrictlySortedBy-dedup}
use Rattle.std.proofs.lemmas.List.Sorted.{Contains-permutation, IsPermutation-sym}
use Rattle.std.proofs.lemmas.Map.Keys.{sorted_head, sorted_tail}
use Rattle.digest_types.specs.Name.{HashAndSize}
use Rattle.directory_canon.specs.declared.node.Edge.{Edge}
use Rattle.directory_canon.specs.declared.node.Kind.{Kind}
use Rattle.directory_canon.specs.declared.node.Kind.TheVariants as kinds
use Rattle.directory_canon.specs.Tree.{digest_cmp}
use Rattle.store_core.specs.Ascending.{by_order, placed, ascending}
use Rattle.store_core.specs.Reach.{as_dir, as_file, kind_number, is_pair, pair_cmp}
use Rattle.store_core.specs.State.{same}
use Rattle.store_core.proofs.ReachLaws.{same_tests, Contains_later, pair_itself, pair_equal}
use Rattle.store_core.proofs.Same.{equal_from_same, same_itself, same_from_equal, named_is, named}
use Rattle.store_core.proofs.Elements.{every_contains, every_weaker, has_first}

-- a total order in which only equal values tie
pub record IsExact {X : Type 0} (cmp : X → X → Ordering) : Type 0 where
  pub total : IsTotalOrder cmp
  pub ties : (x y : X) → cmp x y ≡ Equal → x ≡ y

-- ---- elements

-- an element of a list is its first one or one of the rest
pub Contains_cases : {X : Type 0} (x : X) (xs : List X) (y : X) → Contains (x ∷ xs) y → (x ≡ y) ⊎ Contains xs y
Contains_cases x xs y (zero, lt, e) = inl e
Contains_cases x xs y (suc k, lt, e) = inr (k, omega arith, e)

pub none_contained : {X : Type 0} (y : X) → Contains [] y → ⊥
none_contained y (k, lt, e) = omega arith

-- a list in order with one more value that is below all of it
sorted_cons : {X : Type 0} (cmp : X → X → Ordering) (x : X) (xs : List X) → AllByRecursion (λ y. cmp x y ≡ Less) xs → IsStrictlySortedBy cmp xs → IsStrictlySortedBy cmp (x ∷ xs)
unfolding IsStrictlySortedBy
sorted_cons cmp x xs head tail = (head, tail)

sorted_nil : {X : Type 0} (cmp : X → X → Ordering) → IsStrictlySortedBy cmp []
unfolding IsStrictlySortedBy
sorted_nil cmp = tt

-- ---- one more value, by how it compares with the first of a list in order

-- what holds of each value and of the new one holds of each after it is placed
every_by : {X : Type 0} (P : X → Type 0) (o : Ordering) (x y : X) (ys more : List X) → P x → P y → AllByRecursion P ys → AllByRecursion P more
    → AllByRecursion P (by_order o (x ∷ y ∷ ys) (y ∷ ys) (y ∷ more))
every_by P Less x y ys more hx hy all placed_all = (hx, (hy, all))
every_by P Equal x y ys more hx hy all placed_all = (hy, all)
every_by P Greater x y ys more hx hy all placed_all = (hy, placed_all)

every_placed : {X : Type 0} (cmp : X → X → Ordering) (P : X → Type 0) (x : X) (ys : List X) → P x → AllByRecursion P ys → AllByRecursion P (placed cmp x ys)
every_placed cmp P x [] hx all = (hx, tt)
every_placed cmp P x (y ∷ ys) hx all = every_by P (cmp x y) x y ys (placed cmp x ys) hx all.0 all.1 (every_placed cmp P x ys hx all.1)

-- a list in order stays so after it is placed
sorted_by : {X : Type 0} (cmp : X → X → Ordering) → IsTotalOrder cmp → (o : Ordering) (x y : X) (ys : List X) → cmp x y ≡ o → IsStrictlySortedBy cmp (y ∷ ys)
    → IsStrictlySortedBy cmp (placed cmp x ys) → IsStrictlySortedBy cmp (by_order o (x ∷ y ∷ ys) (y ∷ ys) (y ∷ placed cmp x ys))
sorted_by cmp total Less x y ys e sorted more =
    let above = every_weaker (λ z. cmp y z ≡ Less) (λ z. cmp x z ≡ Less) (λ z h. total.trans x y z e h) ys (sorted_head cmp y ys sorted) in
    sorted_cons cmp x (y ∷ ys) (e, above) sorted
sorted_by cmp total Equal x y ys e sorted more = sorted
sorted_by cmp total Greater x y ys e sorted more =
    let below : cmp y x ≡ Less = total.antisymm y x ∙ ap ordering_reverse e in
    sorted_cons cmp y (placed cmp x ys) (every_placed cmp (λ z. cmp y z ≡ Less) x ys below (sorted_head cmp y ys sorted)) more

placed_sorted : {X : Type 0} (cmp : X → X → Ordering) → IsTotalOrder cmp → (x : X) (ys : List X) → IsStrictlySortedBy cmp ys → IsStrictlySortedBy cmp (placed cmp x ys)
placed_sorted cmp total x [] sorted = sorted_cons cmp x [] tt sorted
placed_sorted cmp total x (y ∷ ys) sorted = sorted_by cmp total (cmp x y) x y ys refl sorted (placed_sorted cmp total x ys (sorted_tail cmp y ys sorted))

-- each value that was there is there, and the new one too
placed_before : {X : Type 0} (o : Ordering) (x y : X) (ys more : List X) (z : X) → ((w : X) → Contains ys w → Contains more w) → Contains (y ∷ ys) z
    → Contains (by_order o (x ∷ y ∷ ys) (y ∷ ys) (y ∷ more)) z
placed_before Less x y ys more z later h = Contains_later x (y ∷ ys) z h
placed_before Equal x y ys more z later h = h
placed_before Greater x y ys more z later h = elim (Contains_cases y ys z h) [
  | inl e ↦ subst (λ w. Contains (y ∷ more) w) e (has_first y more)
  | inr h' ↦ Contains_later y more z (later z h')
]

placed_keeps : {X : Type 0} (cmp : X → X → Ordering) (x : X) (ys : List X) (z : X) → Contains ys z → Contains (placed cmp x ys) z
placed_keeps cmp x [] z h = absurd (none_contained z h)
placed_keeps cmp x (y ∷ ys) z h = placed_before (cmp x y) x y ys (placed cmp x ys) z (placed_keeps cmp x ys) h

-- the new value is there, itself or as one that ties with it
placed_new : {X : Type 0} (cmp : X → X → Ordering) → ((x y : X) → cmp x y ≡ Equal → x ≡ y) → (o : Ordering) (x y : X) (ys more : List X) → cmp x y ≡ o → Contains more x
    → Contains (by_order o (x ∷ y ∷ ys) (y ∷ ys) (y ∷ more)) x
placed_new cmp ties Less x y ys more e h = has_first x (y ∷ ys)
placed_new cmp ties Equal x y ys more e h = subst (λ w. Contains (y ∷ ys) w) (sym (ties x y e)) (has_first y ys)
placed_new cmp ties Greater x y ys more e h = Contains_later y more x h

placed_adds : {X : Type 0} (cmp : X → X → Ordering) → ((x y : X) → cmp x y ≡ Equal → x ≡ y) → (x : X) (ys : List X) → Contains (placed cmp x ys) x
placed_adds cmp ties x [] = has_first x []
placed_adds cmp ties x (y ∷ ys) = placed_new cmp ties (cmp x y) x y ys (placed cmp x ys) refl (placed_adds cmp ties x ys)

-- ---- all values

-- each value is below the next
pub ascending_sorted : {X : Type 0} (cmp : X → X → Ordering) → IsTotalOrder cmp → (xs : List X) → IsStrictlySortedBy cmp (ascending cmp xs)
unfolding ascending
ascending_sorted cmp total [] = sorted_nil cmp
ascending_sorted cmp total (x ∷ xs) = placed_sorted cmp total x (ascending cmp xs) (ascending_sorted cmp total xs)

-- what holds of each value holds of each that is there in order
pub every_ascending : {X : Type 0} (cmp : X → X → Ordering) (P : X → Type 0) (xs : List X) → AllByRecursion P xs → AllByRecursion P (ascending cmp xs)
unfolding ascending
every_ascending cmp P [] all = tt
every_ascending cmp P (x ∷ xs) all = every_placed cmp P x (ascending cmp xs) all.0 (every_ascending cmp P xs all.1)

-- no value is lost
ascending_has : {X : Type 0} (cmp : X → X → Ordering) → ((x y : X) → cmp x y ≡ Equal → x ≡ y) → (xs : List X) (z : X) → Contains xs z → Contains (ascending cmp xs) z
unfolding ascending
ascending_has cmp ties [] z h = absurd (none_contained z h)
ascending_has cmp ties (x ∷ xs) z h = elim (Contains_cases x xs z h) [
  | inl e ↦ subst (λ w. Contains (placed cmp x (ascending cmp xs)) w) e (placed_adds cmp ties x (ascending cmp xs))
  | inr h' ↦ placed_keeps cmp x (ascending cmp xs) z (ascending_has cmp ties xs z h')
]

contains_each : {X : Type 0} (xs all : List X) → ((z : X) → Contains xs z → Contains all z) → AllByRecursion (Contains all) xs
contains_each [] all h = tt
contains_each (x ∷ xs) all h = (h x (has_first x xs), contains_each xs all (λ z k. h z (Contains_later x xs z k)))

-- no value is added
ascending_from : {X : Type 0} (cmp : X → X → Ordering) (xs : List X) (z : X) → Contains (ascending cmp xs) z → Contains xs z
ascending_from cmp xs z h = every_contains (Contains xs) (ascending cmp xs) z (every_ascending cmp (Contains xs) xs (contains_each xs xs (λ w k. k))) h

-- the values in order are those that there are
pub ascending_members : {X : Type 0} (cmp : X → X → Ordering) → IsExact cmp → (xs : List X) (z : X) → Contains (ascending cmp xs) z ↔ Contains xs z
ascending_members cmp exact xs z = (ascending_from cmp xs z, ascending_has cmp exact.ties xs z)

-- ---- lists in order with the same elements are equal

-- a value that is below the first one isn't there
below_first : {X : Type 0} (cmp : X → X → Ordering) → IsTotalOrder cmp → (x y : X) (ys : List X) → cmp x y ≡ Less → IsStrictlySortedBy cmp (y ∷ ys) → Contains (y ∷ ys) x → ⊥
below_first cmp total x y ys e sorted h = elim (Contains_cases y ys x h) [
  | inl same ↦ let itself = tied_itself total x in let apart : cmp x x ≡ Less = subst (λ w. cmp x w ≡ Less) same e in cc
  | inr later ↦
      let above : cmp y x ≡ Less = every_contains (λ z. cmp y z ≡ Less) ys x (sorted_head cmp y ys sorted) later in
      let back : cmp x y ≡ Greater = total.antisymm x y ∙ ap ordering_reverse above in cc
]

-- an element of the rest stays one without the first
rest_holds : {X : Type 0} (cmp : X → X → Ordering) → IsTotalOrder cmp → (x : X) (xs ys : List X) (z : X) → IsStrictlySortedBy cmp (x ∷ xs) → Contains xs z → Contains (x ∷ ys) z → Contains ys z
rest_holds cmp total x xs ys z sorted there h = elim (Contains_cases x ys z h) [
  | inl same ↦
      absurd (let apart : cmp x z ≡ Less = every_contains (λ w. cmp x w ≡ Less) xs z (sorted_head cmp x xs sorted) there in
      let itself : cmp x z ≡ Equal = subst (λ w. cmp x w ≡ Equal) same (tied_itself total x) in cc)
  | inr later ↦ later
]

-- the elements of one list are those of the other
pub record Alike {X : Type 0} (xs ys : List X) : Type 0 where
  pub there : (z : X) → Contains xs z → Contains ys z
  pub back : (z : X) → Contains ys z → Contains xs z

-- by how their first values compare
equal_by : {X : Type 0} (cmp : X → X → Ordering) → IsExact cmp → (o : Ordering) (x y : X) (xs ys : List X) → cmp x y ≡ o → IsStrictlySortedBy cmp (x ∷ xs) → IsStrictlySortedBy cmp (y ∷ ys)
    → Alike (x ∷ xs) (y ∷ ys) → (Alike xs ys → xs ≡ ys) → x ∷ xs ≡ y ∷ ys
equal_by cmp exact Less x y xs ys e sx sy alike rest = absurd (below_first cmp exact.total x y ys e sy (alike.there x (has_first x xs)))
equal_by cmp exact Equal x y xs ys e sx sy alike rest =
    let same : x ≡ y = exact.ties x y e in
    let alike_rest : Alike xs ys = record {
      there = λ z h. rest_holds cmp exact.total x xs ys z sx h (subst (λ w. Contains (w ∷ ys) z) (sym same) (alike.there z (Contains_later x xs z h)));
      back = λ z h. rest_holds cmp exact.total y ys xs z sy h (subst (λ w. Contains (w ∷ xs) z) same (alike.back z (Contains_later y ys z h)));
    } in
    let equal = rest alike_rest in cc
equal_by cmp exact Greater x y xs ys e sx sy alike rest =
    absurd (below_first cmp exact.total y x xs (exact.total.antisymm y x ∙ ap ordering_reverse e) sx (alike.back y (has_first y ys)))

pub equal_sorted : {X : Type 0} (cmp : X → X → Ordering) → IsExact cmp → (xs ys : List X) → IsStrictlySortedBy cmp xs → IsStrictlySortedBy cmp ys → Alike xs ys → xs ≡ ys
equal_sorted cmp exact [] [] sx sy alike = refl
equal_sorted cmp exact [] (y ∷ ys) sx sy alike = absurd (none_contained y (alike.back y (has_first y ys)))
equal_sorted cmp exact (x ∷ xs) [] sx sy alike = absurd (none_contained x (alike.there x (has_first x xs)))
equal_sorted cmp exact (x ∷ xs) (y ∷ ys) sx sy alike =
    equal_by cmp exact (cmp x y) x y xs ys refl sx sy alike (equal_sorted cmp exact xs ys (sorted_tail cmp x xs sx) (sorted_tail cmp y ys sy))

-- a list in order with the elements of another one is that one in order
pub ascending_is : {X : Type 0} (cmp : X → X → Ordering) → IsExact cmp → (xs ys : List X) → IsStrictlySortedBy cmp ys → Alike xs ys → ys ≡ ascending cmp xs
ascending_is cmp exact xs ys sorted alike = equal_sorted cmp exact ys (ascending cmp xs) sorted (ascending_sorted cmp exact.total xs) (record {
  there = λ z h. ascending_has cmp exact.ties xs z (alike.back z h);
  back = λ z h. alike.there z (ascending_from cmp xs z h);
})

-- ---- sorted, and then one of each kept

-- a test that is equality
pub record IsEquality {X : Type 0} (eq : X → X → Bool) : Type 0 where
  pub itself : (x : X) → eq x x ≡ true
  pub equal : (x y : X) → eq x y ≡ true → x ≡ y

-- values at which the order's test answers Equal are equal
equal_tie : {X : Type 0} (cmp : X → X → Ordering) → IsExact cmp → (x y : X) (o : Ordering) → cmp x y ≡ o → is_eq o ≡ true → x ≡ y
equal_tie cmp exact x y Less e h = absurd cc
equal_tie cmp exact x y Equal e h = exact.ties x y e
equal_tie cmp exact x y Greater e h = absurd cc

-- equality answers as the order's test for a tie
tie_tests : {X : Type 0} (cmp : X → X → Ordering) → IsExact cmp → (eq : X → X → Bool) → IsEquality eq → (x y : X) → eq x y ≡ eq_by_cmp cmp x y
tie_tests cmp exact eq equality x y = same_tests (eq x y) (eq_by_cmp cmp x y)
    (λ h. subst (λ w. eq_by_cmp cmp x w ≡ true) (equality.equal x y h) (ap is_eq (tied_itself exact.total x)))
    (λ h. subst (λ w. eq x w ≡ true) (equal_tie cmp exact x y (cmp x y) refl h) (equality.itself x))

equality_laws : {X : Type 0} (eq : X → X → Bool) → IsEquality eq → IsEquivalence eq
equality_laws eq equality = record {
  refl = equality.itself;
  symm = λ x y. same_tests (eq x y) (eq y x)
      (λ h. subst (λ w. eq w x ≡ true) (equality.equal x y h) (equality.itself x))
      (λ h. subst (λ w. eq w y ≡ true) (equality.equal y x h) (equality.itself y));
  congr = λ x y z h. ap (λ w. eq w z) (equality.equal x y h);
}

-- a sorted list, of whose equal neighbours one is kept, is the values in ascending order
pub sorted_distinct : {X : Type 0} (cmp : X → X → Ordering) → IsExact cmp → (eq : X → X → Bool) → IsEquality eq → (xs sorted : List X) → IsPermutation xs sorted → IsSorted cmp sorted
    → dedup eq sorted ≡ ascending cmp xs
sorted_distinct cmp exact eq equality xs sorted moved in_order = ascending_is cmp exact xs (dedup eq sorted)
    (IsStrictlySortedBy-dedup exact.total (tie_tests cmp exact eq equality) sorted in_order)
    (record {
      there = λ z h. Contains-dedup (equality_laws eq equality) equality.equal sorted z (Contains-permutation xs sorted z moved h);
      back = λ z h. Contains-permutation sorted xs z (IsPermutation-sym xs sorted moved) (Contains-from_dedup eq sorted z h);
    })

-- ---- digests and pairs

-- a tie of two orders, one after the other, is one of each
then_ties : (o p : Ordering) → ordering_then o p ≡ Equal → (o ≡ Equal) × (p ≡ Equal)
then_ties Less p e = absurd cc
then_ties Equal p e = (refl, e)
then_ties Greater p e = absurd cc

-- digests tie only where hash and size are equal
digest_ties : (a b : HashAndSize) → digest_cmp a b ≡ Equal → a ≡ b
digest_ties a b e =
    let h = then_ties (slice_cmp nat_cmp a.hash b.hash) (nat_cmp a.size b.size) e in
    let hash : a.hash ≡ b.hash = (bytes_decides a.hash b.hash).0 (texts_ties a.hash b.hash ∙ ap is_eq h.0) in
    let size : a.size ≡ b.size = grind (arith, nat_tests, h.1) in
    let renamed : named a.hash a.size ≡ named b.hash b.size = cc in
    sym (named_is a) ∙ renamed ∙ named_is b

pub digest_exact : IsExact digest_cmp
digest_exact = record {
  total = then_total (on_total (λ (d : HashAndSize). d.hash) nat_list_cmp_total) (on_total (λ (d : HashAndSize). d.size) nat_cmp_total);
  ties = digest_ties;
}

-- pairs tie only where digest and kind are equal
pair_ties : (a b : Edge) → pair_cmp a b ≡ Equal → a ≡ b
pair_ties a b e =
    let h = then_ties (digest_cmp a.digest b.digest) (nat_cmp (kind_number a.kind) (kind_number b.kind)) e in
    let digest : a.digest ≡ b.digest = digest_ties a.digest b.digest h.0 in
    let kind : kind_number a.kind ≡ kind_number b.kind = grind (arith, nat_tests, h.1) in
    pair_equal a b (and_from _ _ (eq-eqb (kind_number a.kind) (kind_number b.kind) kind) (same_from_equal a.digest b.digest digest))

pub pair_exact : IsExact pair_cmp
pair_exact = record {
  total = then_total (on_total (λ (pair : Edge). pair.digest) digest_exact.total) (on_total (λ (pair : Edge). kind_number pair.kind) nat_cmp_total);
  ties = pair_ties;
}

pub digest_equality : IsEquality same
digest_equality = record { itself = same_itself; equal = equal_from_same }

pub pair_equality : IsEquality is_pair
pair_equality = record { itself = pair_itself; equal = pair_equal }

-- a test that says of pairs of each kind whether their digests are equal is equality
pub pair_test : (eq : Edge → Edge → Bool) → ((d e : HashAndSize) → (eq (as_file d) (as_file e) ≡ same d e) × (eq (as_dir d) (as_dir e) ≡ same d e) × (eq (as_file d) (as_dir e) ≡ false) × (eq (as_dir d) (as_file e) ≡ false))
    → (a b : Edge) → eq a b ≡ is_pair a b
pair_test eq h a b = by a.kind b.kind a.digest b.digest
  where
    by : (k l : Kind) (d e : HashAndSize) → eq (record { kind = k; digest = d }) (record { kind = l; digest = e }) ≡ is_pair (record { kind = k; digest = d }) (record { kind = l; digest = e })
    by kinds.File kinds.File d e = (h d e).0
    by kinds.File kinds.Dir d e = (h d e).2
    by kinds.Dir kinds.File d e = (h d e).3
    by kinds.Dir kinds.Dir d e = (h d e).1

-- a test that agrees with one that is equality is equality
pub equality_from : {X : Type 0} (eq other : X → X → Bool) → ((a b : X) → eq a b ≡ other a b) → IsEquality other → IsEquality eq
equality_from eq other agree equality = record {
  itself = λ x. agree x x ∙ equality.itself x;
  equal = λ x y e. equality.equal x y (sym (agree x y) ∙ e);
}
