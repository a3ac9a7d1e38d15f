-- The pairs of a lease, counted one after the other.
use Rattle.std.proofs.Common.{◌≡◌, ◌^◌, ◌-◌, min, ℕ, zero, suc, ◌+◌, ◌<◌, ◌≤◌, Bool, true, false, cond, ◌||◌, List, [], ◌∷◌, ◌++◌, length, get_or, take, Some, None, refl, sym, ap, subst, ◌∙◌, inl, inr, arith}
use Rattle.std.specs.Prelude.{nat_lt, position}
use Rattle.std.specs.List.{IsDistinct}
use Rattle.std.proofs.lemmas.Bool.{lt-ltb, ltb-true, cases_lt, false_from_ne_true, or_left, or_right}
use Rattle.std.proofs.lemmas.List.Quantifiers.{position-Some}
use Rattle.std.proofs.lemmas.List.Elements.{Contains-get_or}
use Rattle.std.proofs.lemmas.Map.Keys.{IsDistinct-head, IsDistinct-tail}
use Rattle.digest_types.specs.Name.{HashAndSize}
use Rattle.directory_canon.specs.declared.node.Edge.{Edge}
use Rattle.directory_canon.specs.declared.node.Kind.{Kind}
use Rattle.directory_canon.specs.declared.node.Kind.TheVariants as kinds
use Rattle.store_core.specs.State.{same}
use Rattle.store_core.specs.Reach.{Linked, is_pair}
use Rattle.store_core.proofs.Same.{equal_from_same}
use Rattle.store_core.proofs.Elements.{every_contains}
use Rattle.store_core.proofs.ReachLaws.{same_tests, pair_equal, pair_itself}
use Rattle.lease_table.specs.Pairs.{has}
use Rattle.lease_table.specs.Tallies.{touches, touch, one_at, turned, other_kind, IsTallied}
use Rattle.lease_table.proofs.RowLaws.{nowhere, none_any}
use Rattle.lease_table.proofs.PairSetLaws.{has_taken, take_all, take_next, one_more}

-- ---- what stands before a place

ltb-from-le : (a b : ℕ) → b ≤ a → nat_lt a b ≡ false
ltb-from-le a b le = false_from_ne_true (nat_lt a b) (λ t. let lt = ltb-true a b t in omega (arith, lt, le))

less_both : (a b : ℕ) → nat_lt (suc a) (suc b) ≡ nat_lt a b
less_both a b = elim (cases_lt a b) [
  | inl lt ↦ lt-ltb (suc a) (suc b) (omega (arith, lt)) ∙ sym (lt-ltb a b lt)
  | inr le ↦ ltb-from-le (suc a) (suc b) (omega (arith, le)) ∙ sym (ltb-from-le a b le)
]

before_by : (p : Edge) (keys : List Edge) (n j : ℕ) (x : Edge) → j < length keys → is_pair p (get_or keys j x) ≡ true → ((k : ℕ) → k < j → is_pair p (get_or keys k x) ≡ false) → nat_lt j n ≡ has (take n keys) p
before_by p [] n j x lt at before = absurd (omega arith)
before_by p (y ∷ ys) zero j x lt at before = ltb-from-le j 0 (omega arith)
before_by p (y ∷ ys) (suc n) zero x lt at before = lt-ltb 0 (suc n) (omega arith) ∙ sym (or_left (is_pair p y) (has (take n ys) p) at)
before_by p (y ∷ ys) (suc n) (suc j) x lt at before =
    less_both j n ∙ before_by p ys n j x (omega arith) at (λ k h. before (suc k) (omega (arith, h))) ∙ ap (λ (b : Bool). b || has (take n ys) p) (sym (before 0 (omega arith)))

-- whether a pair stands before a place, by its own place
pub before_told : (p : Edge) (keys : List Edge) (n j : ℕ) → position (is_pair p) keys ≡ Some j → nat_lt j n ≡ has (take n keys) p
before_told p keys n j e =
    let h = position-Some (is_pair p) keys j p e in
    before_by p keys n j p h.0 h.1 h.2

-- and where it has none
pub before_nowhere : (p : Edge) (keys : List Edge) (n : ℕ) → position (is_pair p) keys ≡ None → false ≡ has (take n keys) p
before_nowhere p keys n e =
    let none = none_any (is_pair p) keys (nowhere (is_pair p) keys e) in
    sym (false_from_ne_true (has (take n keys) p) (λ t. let all = has_taken n keys p t in cc))

-- ---- one pair more

pair_swap : (a b : Edge) → is_pair a b ≡ is_pair b a
pair_swap a b = same_tests _ _ (λ e. ap (is_pair b) (pair_equal a b e) ∙ pair_itself b) (λ e. ap (is_pair a) (pair_equal b a e) ∙ pair_itself a)

-- a pair stands once
pub fresh : (keys : List Edge) (at : ℕ) (x : Edge) → IsDistinct is_pair keys → at < length keys → has (take at keys) (get_or keys at x) ≡ false
fresh [] at x distinct lt = absurd (omega arith)
fresh (y ∷ ys) zero x distinct lt = refl
fresh (y ∷ ys) (suc at) x distinct lt =
    let other = every_contains (λ z. is_pair y z ≡ false) ys (get_or ys at x) (IsDistinct-head is_pair y ys distinct) (Contains-get_or ys at x (omega arith)) in
    (λ i. (pair_swap (get_or ys at x) y ∙ other) i || has (take at ys) (get_or ys at x))
    ∙ fresh ys at x (IsDistinct-tail is_pair y ys distinct) (omega arith)

kinds_by : (p x : Edge) (k l : Kind) → (is_pair (record p { kind = k }) (record x { kind = l }) || is_pair (record p { kind = turned k }) (record x { kind = l })) ≡ same p.digest x.digest
kinds_by p x kinds.File kinds.File = none_after (same p.digest x.digest)
  where
    none_after : (b : Bool) → (b || false) ≡ b
    none_after true = refl
    none_after false = refl
kinds_by p x kinds.File kinds.Dir = refl
kinds_by p x kinds.Dir kinds.File = refl
kinds_by p x kinds.Dir kinds.Dir = none_after (same p.digest x.digest)
  where
    none_after : (b : Bool) → (b || false) ≡ b
    none_after true = refl
    none_after false = refl

-- a digest stands in one kind or the other
pub kinds_of : (keys : List Edge) (p : Edge) → (has keys p || has keys (other_kind p)) ≡ touches keys p.digest
kinds_of [] p = refl
kinds_of (x ∷ xs) p =
    shuffle (is_pair p x) (has xs p) (is_pair (other_kind p) x) (has xs (other_kind p))
    ∙ (λ i. kinds_by p x p.kind x.kind i || kinds_of xs p i)
  where
    shuffle : (a b c d : Bool) → ((a || b) || (c || d)) ≡ ((a || c) || (b || d))
    shuffle true b c d = refl
    shuffle false true true d = refl
    shuffle false true false d = refl
    shuffle false false c d = refl

touches_both : (xs ys : List Edge) (d : HashAndSize) → touches (xs ++ ys) d ≡ (touches xs d || touches ys d)
touches_both [] ys d = refl
touches_both (x ∷ xs) ys d = ap (λ (b : Bool). same d x.digest || b) (touches_both xs ys d) ∙ assoc (same d x.digest) (touches xs d) (touches ys d)
  where
    assoc : (a b c : Bool) → (a || (b || c)) ≡ ((a || b) || c)
    assoc true b c = refl
    assoc false b c = refl

touches_more : (keys : List Edge) (at : ℕ) (x : Edge) (d : HashAndSize) → at < length keys → touches (take (at + 1) keys) d ≡ (touches (take at keys) d || same d (get_or keys at x).digest)
touches_more keys at x d lt =
    ap (λ (xs : List Edge). touches xs d) (ap (λ (n : ℕ). take n keys) (sym (one_more at)) ∙ take_next keys at x lt)
    ∙ touches_both (take at keys) (get_or keys at x ∷ []) d
    ∙ ap (λ (b : Bool). touches (take at keys) d || b) (none_after (same d (get_or keys at x).digest))
  where
    none_after : (b : Bool) → (b || false) ≡ b
    none_after true = refl
    none_after false = refl

-- a pair whose digest stands before it in the other kind counts no more
pub touch_again : (keys : List Edge) (at : ℕ) (p : Edge) (d : HashAndSize) → at < length keys → get_or keys at p ≡ p → has (take at keys) (other_kind p) ≡ true → touch (take (at + 1) keys) d ≡ touch (take at keys) d
touch_again keys at p d lt is before =
    ap (λ (b : Bool). cond b 1 0) (
    touches_more keys at p d lt ∙ ap (λ (x : Edge). touches (take at keys) d || same d x.digest) is
    ∙ by (touches (take at keys) d) (same d p.digest) (λ t. ap (touches (take at keys)) (equal_from_same d p.digest t) ∙ sym (kinds_of (take at keys) p) ∙ or_right _ _ before))
  where
    by : (a b : Bool) → (b ≡ true → a ≡ true) → (a || b) ≡ a
    by true b h = refl
    by false true h = sym (h refl)
    by false false h = refl

-- and else one more
pub touch_new : (keys : List Edge) (at : ℕ) (p : Edge) (d : HashAndSize) → at < length keys → get_or keys at p ≡ p → has (take at keys) p ≡ false → has (take at keys) (other_kind p) ≡ false
    → touch (take (at + 1) keys) d ≡ touch (take at keys) d + one_at p.digest d
touch_new keys at p d lt is itself other =
    ap (λ (b : Bool). cond b 1 0) (touches_more keys at p d lt ∙ ap (λ (x : Edge). touches (take at keys) d || same d x.digest) is)
    ∙ by (touches (take at keys) d) (same d p.digest) (λ t. ap (touches (take at keys)) (equal_from_same d p.digest t) ∙ sym (kinds_of (take at keys) p) ∙ (λ i. itself i || other i))
  where
    by : (a b : Bool) → (b ≡ true → a ≡ false) → cond (a || b) 1 0 ≡ cond a 1 0 + cond b 1 0
    by true true h = absurd (let e = h refl in cc)
    by true false h = refl
    by false true h = refl
    by false false h = refl

-- ---- tallies by numbers that are the same

pub tallied_same : (rows : List Linked) (f g : HashAndSize → ℕ) (counts : List (HashAndSize × ℕ)) (bytes : ℕ) → ((d : HashAndSize) → f d ≡ g d) → IsTallied rows f counts bytes → IsTallied rows g counts bytes
tallied_same rows f g counts bytes h = subst (λ (k : HashAndSize → ℕ). IsTallied rows k counts bytes) (λ i d. h d i)

pub plus_assoc : (a b c : ℕ) → (a + b) + c ≡ a + (b + c)
plus_assoc a b c = omega arith

pub touch_small : (xs : List Edge) (d : HashAndSize) → touch xs d ≤ 1
touch_small xs d = by (touches xs d)
  where
    by : (b : Bool) → cond b 1 0 ≤ 1
    by true = omega arith
    by false = omega arith

-- a pair that stands in neither kind leaves the number of its digest small
pub sum_fits : (n : ℕ) (xs : List Edge) (p : Edge) → has xs p ≡ false → has xs (other_kind p) ≡ false → n < 2 ^ 64 - 1 → n + touch xs p.digest < 2 ^ 64 - 1
sum_fits n xs p itself other h =
    let none : touch xs p.digest ≡ 0 = ap (λ (b : Bool). cond b 1 0) (sym (kinds_of xs p) ∙ (λ i. itself i || other i)) in
    omega (arith, h, none)

-- the first so many, or all where there are fewer
pub take_least : (xs : List Edge) (n m : ℕ) → m ≡ min (length xs) n → take n xs ≡ take m xs
take_least xs n m e = elim (cases_lt n (length xs)) [
  | inl lt ↦ ap (λ (k : ℕ). take k xs) (omega (arith, e, lt))
  | inr le ↦ take_all xs n le ∙ sym (take_all xs m (omega (arith, e, le)))
]

-- none of them
pub none_left : (a : ℕ) (xs : List Edge) (n : ℕ) (d : HashAndSize) → n ≡ 0 → a + touch (take n xs) d ≡ a
none_left a xs zero d e = omega arith
none_left a xs (suc n) d e = absurd (omega (arith, e))
