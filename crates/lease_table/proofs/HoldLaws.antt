-- What owners hold, counted.
use Rattle.std.proofs.Common.{◌≡◌, ◌≢◌, ℕ, zero, suc, ◌+◌, ◌<◌, ◌≤◌, Bool, true, false, cond, not, ◌||◌, List, [], ◌∷◌, ◌++◌, length, get_or, set, drop, Some, None, refl, sym, ap, ◌∙◌, inl, inr, arith}
use Rattle.std.specs.Prelude.{nat_lt, position, slice_get}
use Rattle.std.specs.List.{AllByRecursion, IsDistinct, list_any}
use Rattle.std.proofs.lemmas.Bool.{lt-ltb, false_from_ne_true, or_parts, or_cases, or_left, or_right}
use Rattle.std.proofs.lemmas.Option.{same_Some}
use Rattle.std.proofs.lemmas.List.Quantifiers.{position-Some}
use Rattle.std.proofs.lemmas.List.Sums.{sum_by-cons, sum_by-set, sum_by_push}
use Rattle.std.proofs.lemmas.Map.Keys.{IsDistinct-head, IsDistinct-tail}
use Rattle.digest_types.specs.Name.{HashAndSize}
use Rattle.store_core.specs.State.{Holds, same, is_among, is_holder, is_held, with_digest, with_hold, other_holds, DistinctDigests}
use Rattle.store_core.specs.Reach.{Linked}
use Rattle.store_core.proofs.Same.{equal_from_same, other_from_not_same}
use Rattle.store_core.proofs.Elements.{every_weaker}
use Rattle.lease_table.specs.Table.{is_blob}
use Rattle.lease_table.specs.Tallies.{one_at, IsTallied}
use Rattle.lease_table.specs.Holds.{held_by, holders}
use Rattle.lease_table.proofs.RowLaws.{nowhere, none_any}
use Rattle.lease_table.proofs.SlotLaws.{not_there}
use Rattle.lease_table.proofs.LeaseReachLaws.{tallied_same}

zero_plus : (n : ℕ) → 0 + n ≡ n
zero_plus n = omega arith

plus_none : (n : ℕ) → n + 0 ≡ n
plus_none n = omega arith

-- a sum is more than nothing where a part is
pub some_either : (a b : ℕ) → nat_lt 0 (a + b) ≡ (nat_lt 0 a || nat_lt 0 b)
some_either zero b = ap (λ (n : ℕ). nat_lt 0 n) (zero_plus b)
some_either (suc a) b = lt-ltb 0 (suc a + b) (omega arith) ∙ ap (λ (c : Bool). c || nat_lt 0 b) (sym (lt-ltb 0 (suc a) (omega arith)))

-- some owner holds a digest just where they count more than nothing
pub holders_held : (holds : List Holds) (d : HashAndSize) → nat_lt 0 (holders holds d) ≡ is_held holds d
holders_held [] d = refl
holders_held (held ∷ holds) d = ap (λ (n : ℕ). nat_lt 0 n) (sum_by-cons (λ (h : Holds). held_by h d) held holds) ∙ by (is_among held.digests d) (holders holds d) (holders_held holds d)
  where
    by : (b : Bool) (n : ℕ) → nat_lt 0 n ≡ is_held holds d → nat_lt 0 (cond b 1 0 + n) ≡ (b || is_held holds d)
    by true n e = lt-ltb 0 (1 + n) (omega arith)
    by false n e = ap (λ (k : ℕ). nat_lt 0 k) (zero_plus n) ∙ e

-- each owner counts once at most
pub holders_fit : (holds : List Holds) (d : HashAndSize) → holders holds d ≤ length holds
holders_fit [] d = omega arith
holders_fit (held ∷ holds) d = let h = holders_fit holds d in let s = sum_by-cons (λ (x : Holds). held_by x d) held holds in let one = by (is_among held.digests d) in omega (arith, h, s, one)
  where
    by : (b : Bool) → cond b 1 0 ≤ 1
    by true = omega arith
    by false = omega arith

-- the digests of a set are distinct
pub distinct_from : (ds : List HashAndSize) → IsDistinct same ds → DistinctDigests ds
distinct_from [] h = tt
distinct_from (d ∷ ds) h =
    (every_weaker (λ other. same d other ≡ false) (λ other. other ≢ d) (λ other e q. other_from_not_same d other e (sym q)) ds (IsDistinct-head same d ds h), distinct_from ds (IsDistinct-tail same d ds h))

-- ---- a hold more

among_push : (ds : List HashAndSize) (d q : HashAndSize) → is_among (ds ++ d ∷ []) q ≡ (is_among ds q || same q d)
among_push [] d q = by (same q d)
  where
    by : (b : Bool) → (b || false) ≡ b
    by true = refl
    by false = refl
among_push (x ∷ ds) d q = ap (λ (b : Bool). same q x || b) (among_push ds d q) ∙ by (same q x) (is_among ds q) (same q d)
  where
    by : (a b c : Bool) → (a || (b || c)) ≡ ((a || b) || c)
    by true b c = refl
    by false b c = refl

-- what one more digest adds to what an owner counts
pub held_more : (held : Holds) (d q : HashAndSize) → held_by (record held { digests = with_digest d held.digests }) q ≡ held_by held q + cond (not (is_among held.digests d)) (one_at d q) 0
held_more held d q = by (is_among held.digests d) refl
  where
    both : (a b : Bool) → (b ≡ true → a ≡ false) → cond (a || b) 1 0 ≡ cond a 1 0 + cond b 1 0
    both true true h = absurd (let e = h refl in cc)
    both true false h = refl
    both false true h = refl
    both false false h = refl

    by : (b : Bool) → is_among held.digests d ≡ b → cond (is_among (cond b held.digests (held.digests ++ d ∷ [])) q) 1 0 ≡ cond (is_among held.digests q) 1 0 + cond (not b) (one_at d q) 0
    by true e = sym (plus_none (held_by held q))
    by false e = ap (λ (c : Bool). cond c 1 0) (among_push held.digests d q) ∙ both (is_among held.digests q) (same q d) (λ t. ap (is_among held.digests) (equal_from_same q d t) ∙ e)

first_by : (b : Bool) (x y : List Holds) → b ≡ true → cond b x y ≡ x
first_by true x y e = refl
first_by false x y e = absurd cc

rest_by : (b : Bool) (x y : List Holds) → b ≡ false → cond b x y ≡ y
rest_by true x y e = absurd cc
rest_by false x y e = refl

hold_there : (owner : ℕ) (d : HashAndSize) (holds : List Holds) (i : ℕ) (x : Holds) → i < length holds → is_holder owner (get_or holds i x) ≡ true → ((k : ℕ) → k < i → is_holder owner (get_or holds k x) ≡ false)
    → with_hold owner d holds ≡ set holds i (record (get_or holds i x) { digests = with_digest d (get_or holds i x).digests })
hold_there owner d [] i x lt at before = absurd (omega arith)
hold_there owner d (h ∷ holds) zero x lt at before = first_by (is_holder owner h) _ _ at
hold_there owner d (h ∷ holds) (suc i) x lt at before =
    rest_by (is_holder owner h) _ _ (before 0 (omega arith))
    ∙ ap (λ (rest : List Holds). h ∷ rest) (hold_there owner d holds i x (omega arith) at (λ k le. before (suc k) (omega (arith, le))))

-- one more of an owner that holds something
pub hold_at : (owner : ℕ) (d : HashAndSize) (holds : List Holds) (i : ℕ) (x : Holds) → position (is_holder owner) holds ≡ Some i → x ≡ get_or holds i x
    → with_hold owner d holds ≡ set holds i (record x { digests = with_digest d x.digests })
hold_at owner d holds i x e is =
    let h = position-Some (is_holder owner) holds i x e in
    hold_there owner d holds i x h.0 h.1 h.2 ∙ ap (λ (y : Holds). set holds i (record y { digests = with_digest d y.digests })) (sym is)

-- and what it adds
pub holders_at : (owner : ℕ) (d q : HashAndSize) (holds : List Holds) (i : ℕ) (x y : Holds) (new : Bool) → position (is_holder owner) holds ≡ Some i → x ≡ get_or holds i x → y ≡ record x { digests = with_digest d x.digests } → new ≡ not (is_among x.digests d)
    → holders (set holds i y) q ≡ holders holds q + cond new (one_at d q) 0
holders_at owner d q holds i x y new e is more one =
    let h = position-Some (is_holder owner) holds i x e in
    let sum = sum_by-set (λ (held : Holds). held_by held q) holds i y x h.0 in
    let was : held_by (get_or holds i x) q ≡ held_by x q = ap (λ (z : Holds). held_by z q) (sym is) in
    let now : held_by y q ≡ held_by x q + cond new (one_at d q) 0 = ap (λ (z : Holds). held_by z q) more ∙ held_more x d q ∙ ap (λ (b : Bool). held_by x q + cond b (one_at d q) 0) (sym one) in
    by (holders (set holds i y) q) (held_by (get_or holds i x) q) (holders holds q) (held_by y q) (held_by x q) (cond new (one_at d q) 0) sum was now
  where
    by : (a b c e f g : ℕ) → a + b ≡ c + e → b ≡ f → e ≡ f + g → a ≡ c + g
    by a b c e f g p q r = omega (arith, p, q, r)

none_there : (owner : ℕ) (d : HashAndSize) (holds : List Holds) → list_any (is_holder owner) holds ≡ false → with_hold owner d holds ≡ holds ++ record { owner = owner; digests = d ∷ [] } ∷ []
none_there owner d [] e = refl
none_there owner d (h ∷ holds) e =
    let parts = or_parts (is_holder owner h) (list_any (is_holder owner) holds) e in
    rest_by (is_holder owner h) _ _ parts.0 ∙ ap (λ (rest : List Holds). h ∷ rest) (none_there owner d holds parts.1)

-- one more of an owner that holds nothing
pub hold_first : (owner : ℕ) (d : HashAndSize) (holds : List Holds) → position (is_holder owner) holds ≡ None → with_hold owner d holds ≡ holds ++ record { owner = owner; digests = d ∷ [] } ∷ []
hold_first owner d holds e = none_there owner d holds (none_any (is_holder owner) holds (nowhere (is_holder owner) holds e))

-- and what it adds
pub holders_first : (owner : ℕ) (d q : HashAndSize) (holds : List Holds) → holders (holds ++ record { owner = owner; digests = d ∷ [] } ∷ []) q ≡ holders holds q + one_at d q
holders_first owner d q holds =
    sum_by_push (λ (held : Holds). held_by held q) holds (record { owner = owner; digests = d ∷ [] }) ∙ ap (λ (b : Bool). holders holds q + cond b 1 0) (by (same q d))
  where
    by : (b : Bool) → (b || false) ≡ b
    by true = refl
    by false = refl

-- where all that was held has a row, and the digest of a hold more has one, all that is held has one
pub rows_held : (rows : List Linked) (old new : List Holds) (d : HashAndSize) (more : Bool) → ((q : HashAndSize) → holders new q ≡ holders old q + cond more (one_at d q) 0) → list_any (is_blob d) rows ≡ true
    → ((q : HashAndSize) → is_held old q ≡ true → list_any (is_blob q) rows ≡ true) → (q : HashAndSize) → is_held new q ≡ true → list_any (is_blob q) rows ≡ true
rows_held rows old new d more sum has held q e =
    let parts : (is_held old q || nat_lt 0 (cond more (one_at d q) 0)) ≡ true =
    ap (λ (b : Bool). b || nat_lt 0 (cond more (one_at d q) 0)) (sym (holders_held old q)) ∙ sym (some_either (holders old q) (cond more (one_at d q) 0)) ∙ ap (λ (n : ℕ). nat_lt 0 n) (sym (sum q)) ∙ holders_held new q ∙ e in
    elim (or_cases (is_held old q) (nat_lt 0 (cond more (one_at d q) 0)) parts) [
      | inl there ↦ held q there
      | inr here ↦ ap (λ (x : HashAndSize). list_any (is_blob x) rows) (equal_from_same q d (by more (same q d) here)) ∙ has
    ]
  where
    by : (b c : Bool) → nat_lt 0 (cond b (cond c 1 0) 0) ≡ true → c ≡ true
    by true true e = refl
    by true false e = absurd cc
    by false c e = absurd cc

-- a digest without a row counts nothing
pub none_counted : (rows : List Linked) (holds : List Holds) (d : HashAndSize) → ((q : HashAndSize) → is_held holds q ≡ true → list_any (is_blob q) rows ≡ true) → list_any (is_blob d) rows ≡ false → holders holds d ≡ 0
none_counted rows holds d held none = by (holders holds d) (holders_held holds d ∙ false_from_ne_true (is_held holds d) (λ e. let there = held d e in cc))
  where
    by : (n : ℕ) → nat_lt 0 n ≡ false → n ≡ 0
    by zero e = refl
    by (suc n) e = absurd (let t = lt-ltb 0 (suc n) (omega arith) in cc)

-- ---- holds that go

among_drop : (ds : List HashAndSize) (i : ℕ) → DistinctDigests ds → DistinctDigests (drop i ds)
among_drop ds zero h = h
among_drop [] (suc i) h = tt
among_drop (d ∷ ds) (suc i) h = among_drop ds i h.1

taken_there : (ds : List HashAndSize) (i : ℕ) (x q : HashAndSize) → DistinctDigests ds → slice_get ds i ≡ Some x → cond (is_among (drop i ds) q) 1 0 ≡ cond (is_among (drop (suc i) ds) q) 1 0 + one_at x q
taken_there [] i x q h e = absurd cc
taken_there (d ∷ ds) zero x q h e =
    ap (λ (b : Bool). cond b 1 0) (swap (same q d) (is_among ds q))
    ∙ both (is_among ds q) (same q d) (λ t. ap (is_among ds) (equal_from_same q d t) ∙ not_there d ds h.0)
    ∙ ap (λ (y : HashAndSize). cond (is_among ds q) 1 0 + one_at y q) (same_Some d x e)
  where
    swap : (a b : Bool) → (a || b) ≡ (b || a)
    swap true true = refl
    swap true false = refl
    swap false true = refl
    swap false false = refl

    both : (a b : Bool) → (b ≡ true → a ≡ false) → cond (a || b) 1 0 ≡ cond a 1 0 + cond b 1 0
    both true true h = absurd (let e = h refl in cc)
    both true false h = refl
    both false true h = refl
    both false false h = refl
taken_there (d ∷ ds) (suc i) x q h e = taken_there ds i x q h.1 e

-- one digest after the other is taken
pub taken_one : (ds : List HashAndSize) (i : ℕ) (x q : HashAndSize) (n : ℕ) → DistinctDigests ds → slice_get ds i ≡ Some x → n + cond (is_among (drop i ds) q) 1 0 ≡ (n + cond (is_among (drop (i + 1) ds) q) 1 0) + one_at x q
taken_one ds i x q n h e =
    ap (λ (k : ℕ). n + k) (taken_there ds i x q h e ∙ ap (λ (k : ℕ). cond (is_among (drop k ds) q) 1 0 + one_at x q) (one_more i))
    ∙ assoc n (cond (is_among (drop (i + 1) ds) q) 1 0) (one_at x q)
  where
    one_more : (i : ℕ) → suc i ≡ i + 1
    one_more i = omega arith

    assoc : (a b c : ℕ) → a + (b + c) ≡ (a + b) + c
    assoc a b c = omega arith

none_by : (ds : List HashAndSize) (i : ℕ) → length ds ≤ i → drop i ds ≡ []
none_by [] zero le = refl
none_by [] (suc i) le = refl
none_by (d ∷ ds) zero le = absurd (omega arith)
none_by (d ∷ ds) (suc i) le = none_by ds i (omega arith)

-- and then there are none
pub taken_all : (ds : List HashAndSize) (i : ℕ) (q : HashAndSize) (n : ℕ) → length ds ≤ i → n + cond (is_among (drop i ds) q) 1 0 ≡ n
taken_all ds i q n le = ap (λ (rest : List HashAndSize). n + cond (is_among rest q) 1 0) (none_by ds i le) ∙ plus_none n

-- a digest that stands at a place
pub get_none : (ds : List HashAndSize) (i : ℕ) → slice_get ds i ≡ None → length ds ≤ i
get_none [] i e = omega arith
get_none (d ∷ ds) zero e = absurd cc
get_none (d ∷ ds) (suc i) e = let h = get_none ds i e in omega (arith, h)

left_by : (held : Holds) (holds left : List Holds) (q : HashAndSize) (b : Bool) → (b ≡ true → held.digests ≡ []) → holders left q ≡ holders holds q
    → holders (cond (not b) (held ∷ left) left) q ≡ holders (held ∷ holds) q
left_by held holds left q true none h =
    h ∙ sym (zero_plus (holders holds q)) ∙ ap (λ (ds : List HashAndSize). cond (is_among ds q) 1 0 + holders holds q) (sym (none refl)) ∙ sym (sum_by-cons (λ (x : Holds). held_by x q) held holds)
left_by held holds left q false none h =
    sum_by-cons (λ (x : Holds). held_by x q) held left ∙ ap (λ (n : ℕ). held_by held q + n) h ∙ sym (sum_by-cons (λ (x : Holds). held_by x q) held holds)

-- owners that hold nothing count nothing
pub holders_left : (owner : ℕ) (holds : List Holds) (q : HashAndSize) → AllByRecursion (λ held. is_holder owner held ≡ true → held.digests ≡ []) holds → holders (other_holds owner holds) q ≡ holders holds q
holders_left owner [] q h = refl
holders_left owner (held ∷ holds) q h = left_by held holds (other_holds owner holds) q (is_holder owner held) h.0 (holders_left owner holds q h.1)

-- where an owner's holds are taken, all others count as before
pub tallied_taken : (rows : List Linked) (holds : List Holds) (i : ℕ) (x y : Holds) (more : HashAndSize → ℕ) (counts : List (HashAndSize × ℕ)) (bytes : ℕ) → i < length holds → x ≡ get_or holds i x → y.digests ≡ []
    → IsTallied rows (λ q. more q + holders holds q) counts bytes → IsTallied rows (λ q. (more q + holders (set holds i y) q) + held_by x q) counts bytes
tallied_taken rows holds i x y more counts bytes lt is none =
    tallied_same rows (λ q. more q + holders holds q) (λ q. (more q + holders (set holds i y) q) + held_by x q) counts bytes
    (λ q.
    let sum = sum_by-set (λ (held : Holds). held_by held q) holds i y x lt in
    let was : held_by (get_or holds i x) q ≡ held_by x q = ap (λ (z : Holds). held_by z q) (sym is) in
    let nothing : held_by y q ≡ 0 = ap (λ (ds : List HashAndSize). cond (is_among ds q) 1 0) none in
    by (more q) (holders (set holds i y) q) (held_by (get_or holds i x) q) (holders holds q) (held_by y q) (held_by x q) sum was nothing)
  where
    by : (m a b c e f : ℕ) → a + b ≡ c + e → b ≡ f → e ≡ 0 → m + c ≡ (m + a) + f
    by m a b c e f p q r = omega (arith, p, q, r)

-- what is held by the others was held
pub held_before : (owner : ℕ) (holds : List Holds) (d : HashAndSize) → is_held (other_holds owner holds) d ≡ true → is_held holds d ≡ true
held_before owner [] d e = e
held_before owner (held ∷ holds) d e = by (is_holder owner held) (held_before owner holds d) e
  where
    by : (b : Bool) → (is_held (other_holds owner holds) d ≡ true → is_held holds d ≡ true) → is_held (cond (not b) (held ∷ other_holds owner holds) (other_holds owner holds)) d ≡ true → (is_among held.digests d || is_held holds d) ≡ true
    by true h e = or_right (is_among held.digests d) (is_held holds d) (h e)
    by false h e = elim (or_cases (is_among held.digests d) (is_held (other_holds owner holds) d) e) [
      | inl here ↦ or_left (is_among held.digests d) (is_held holds d) here
      | inr there ↦ or_right (is_among held.digests d) (is_held holds d) (h there)
    ]
