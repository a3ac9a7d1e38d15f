-- Counts of digests, and the bytes of the rows that count.
use Rattle.std.proofs.Common.{◌≡◌, ℕ, zero, suc, ◌+◌, ◌-◌, ◌<◌, ◌≤◌, Bool, true, false, cond, ◌&&◌, ◌||◌, List, [], ◌∷◌, Option, Some, refl, sym, ap, ◌∙◌, arith}
use Rattle.std.specs.Prelude.{nat_lt, nat_eq, filter, unwrap_or}
use Rattle.std.specs.List.{list_any}
use Rattle.std.specs.Map.{lookup}
use Rattle.std.proofs.lemmas.Bool.{lt-ltb, ne_eqb}
use Rattle.std.proofs.lemmas.List.Sums.{sum_by-cons}
use Rattle.digest_types.specs.Name.{HashAndSize}
use Rattle.store_core.specs.State.{same}
use Rattle.store_core.specs.Reach.{Linked}
use Rattle.store_core.proofs.Same.{equal_from_same, same_itself}
use Rattle.store_core.proofs.Guarding.{same_swap}
use Rattle.lease_table.specs.Table.{is_blob, sizes, Distinct}
use Rattle.lease_table.specs.Tallies.{one_at, bytes_of, count_in, IsTallied}
use Rattle.lease_table.proofs.RowLaws.{none_any, others_fail}

-- ---- bytes

plus_none : (n : ℕ) → n + 0 ≡ n
plus_none n = omega arith

head_other : (n size : ℕ) (b : Bool) → b ≡ false → cond (nat_lt 0 (n + cond b 1 0)) size 0 ≡ cond (nat_lt 0 n) size 0
head_other n size true e = absurd cc
head_other n size false e = ap (λ (k : ℕ). cond (nat_lt 0 k) size 0) (plus_none n)

positive : (n : ℕ) → nat_lt 0 (n + 1) ≡ true
positive n = lt-ltb 0 (n + 1) (omega arith)

-- what one more of a digest adds to the bytes
abbrev pub gain : (HashAndSize → ℕ) → HashAndSize → List Linked → ℕ
gain f d rows = cond (nat_eq (f d) 0 && list_any (is_blob d) rows) d.size 0

head_same : (n size rest : ℕ) → cond (nat_lt 0 (n + 1)) size 0 + (rest + cond (nat_eq n 0 && false) size 0) ≡ (cond (nat_lt 0 n) size 0 + rest) + cond (nat_eq n 0 && true) size 0
head_same zero size rest = omega arith
head_same (suc n) size rest =
    (λ i. cond (positive (suc n) i) size 0 + (rest + cond (none n i && false) size 0))
    ∙ swap size rest
    ∙ (λ i. (cond (sym (some n) i) size 0 + rest) + cond (sym (none n) i && true) size 0)
  where
    swap : (a b : ℕ) → a + (b + 0) ≡ (a + b) + 0
    swap a b = omega arith

    some : (n : ℕ) → nat_lt 0 (suc n) ≡ true
    some n = lt-ltb 0 (suc n) (omega arith)

    none : (n : ℕ) → nat_eq (suc n) 0 ≡ false
    none n = ne_eqb (suc n) 0 (λ e. omega (arith, e))

gain_other : (f : HashAndSize → ℕ) (d : HashAndSize) (row : Linked) (rows : List Linked) → is_blob d row ≡ false → gain f d rows ≡ gain f d (row ∷ rows)
gain_other f d row rows e = ap (λ (b : Bool). cond (nat_eq (f d) 0 && (b || list_any (is_blob d) rows)) d.size 0) (sym e)

bytes_by : (f : HashAndSize → ℕ) (d : HashAndSize) (row : Linked) (rows : List Linked) (b : Bool) → same row.digest d ≡ b → Distinct (row ∷ rows)
    → bytes_of (λ q. f q + one_at d q) rows ≡ bytes_of f rows + gain f d rows
    → bytes_of (λ q. f q + one_at d q) (row ∷ rows) ≡ bytes_of f (row ∷ rows) + gain f d (row ∷ rows)
bytes_by f d row rows true e distinct h =
    let is : row.digest ≡ d = equal_from_same row.digest d e in
    let none = none_any (is_blob d) rows (others_fail d row rows is distinct.0) in
    (λ i. cond (nat_lt 0 (f (is i) + cond (e i) 1 0)) (is i).size 0 + h i)
    ∙ ap (λ (b : Bool). cond (nat_lt 0 (f d + 1)) d.size 0 + (bytes_of f rows + cond (nat_eq (f d) 0 && b) d.size 0)) none
    ∙ head_same (f d) d.size (bytes_of f rows)
    ∙ (λ i. (cond (nat_lt 0 (f (sym is i))) (sym is i).size 0 + bytes_of f rows) + cond (nat_eq (f d) 0 && (sym e i || list_any (is_blob d) rows)) d.size 0)
bytes_by f d row rows false e distinct h =
    (λ i. head_other (f row.digest) row.digest.size (same row.digest d) e i + h i)
    ∙ add_assoc_back (cond (nat_lt 0 (f row.digest)) row.digest.size 0) (bytes_of f rows) (gain f d rows)
    ∙ ap (λ (n : ℕ). (cond (nat_lt 0 (f row.digest)) row.digest.size 0 + bytes_of f rows) + n) (gain_other f d row rows e)
  where
    add_assoc_back : (a b c : ℕ) → a + (b + c) ≡ (a + b) + c
    add_assoc_back a b c = omega arith

-- with one more of a digest
pub bytes_more : (f : HashAndSize → ℕ) (d : HashAndSize) (rows : List Linked) → Distinct rows → bytes_of (λ q. f q + one_at d q) rows ≡ bytes_of f rows + gain f d rows
bytes_more f d [] distinct = sym (none (nat_eq (f d) 0))
  where
    none : (b : Bool) → 0 + cond (b && false) d.size 0 ≡ 0
    none true = refl
    none false = refl
bytes_more f d (row ∷ rows) distinct = bytes_by f d row rows (same row.digest d) refl distinct (bytes_more f d rows distinct.1)

-- the bytes are at most those of all rows
pub bytes_within : (f : HashAndSize → ℕ) (rows : List Linked) → bytes_of f rows ≤ sizes rows
bytes_within f [] = omega arith
bytes_within f (row ∷ rows) = let h = bytes_within f rows in let k = by (nat_lt 0 (f row.digest)) row.digest.size in let s = sum_by-cons (λ (r : Linked). r.digest.size) row rows in omega (arith, h, k, s)
  where
    by : (b : Bool) (n : ℕ) → cond b n 0 ≤ n
    by true n = omega arith
    by false n = omega arith

kept_by : (row : Linked) (kept : List Linked) (n : ℕ) (b : Bool) → n ≡ sizes kept → cond b row.digest.size 0 + n ≡ sizes (cond b (row ∷ kept) kept)
kept_by row kept n true h = ap (λ (k : ℕ). row.digest.size + k) h ∙ sym (sum_by-cons (λ (r : Linked). r.digest.size) row kept)
kept_by row kept n false h = zero_plus n ∙ h
  where
    zero_plus : (n : ℕ) → 0 + n ≡ n
    zero_plus n = omega arith

-- the bytes of the rows that a test keeps
pub bytes_kept : (f : HashAndSize → ℕ) (rows : List Linked) → bytes_of f rows ≡ sizes (filter (λ row. nat_lt 0 (f row.digest)) rows)
bytes_kept f [] = refl
bytes_kept f (row ∷ rows) = kept_by row (filter (λ r. nat_lt 0 (f r.digest)) rows) (bytes_of f rows) (nat_lt 0 (f row.digest)) (bytes_kept f rows)

-- ---- one more, and one less

module _ (rows : List Linked) (f : HashAndSize → ℕ) (d : HashAndSize) (counts now : List (HashAndSize × ℕ)) (bytes after : ℕ) (distinct : Distinct rows) where
  pub tallied_more : ((q : HashAndSize) → lookup (same q) now ≡ cond (same d q) (Some (count_in counts d + 1)) (lookup (same q) counts)) → after ≡ bytes + cond (nat_eq (count_in counts d) 0 && list_any (is_blob d) rows) d.size 0
      → IsTallied rows f counts bytes → IsTallied rows (λ q. f q + one_at d q) now after
  tallied_more at sum h = record {
    counted = λ q. ap (λ (o : Option ℕ). unwrap_or o 0) (at q) ∙ by q (same d q) refl;
    summed = sum ∙ (λ i. h.summed i + cond (nat_eq (h.counted d i) 0 && list_any (is_blob d) rows) d.size 0) ∙ sym (bytes_more f d rows distinct);
  }
    where
      by : (q : HashAndSize) (b : Bool) → same d q ≡ b → unwrap_or (cond b (Some (count_in counts d + 1)) (lookup (same q) counts)) 0 ≡ f q + one_at d q
      by q true e =
          ap (λ (n : ℕ). n + 1) (h.counted d)
          ∙ ap (λ (x : HashAndSize). f x + 1) (equal_from_same d q e)
          ∙ ap (λ (b : Bool). f q + cond b 1 0) (sym e ∙ same_swap d q)
      by q false e = h.counted q ∙ sym (plus_none (f q)) ∙ ap (λ (b : Bool). f q + cond b 1 0) (sym e ∙ same_swap d q)

  pub tallied_less : ((q : HashAndSize) → count_in now q + cond (same d q) 1 0 ≡ count_in counts q) → bytes ≡ after + cond (nat_eq (count_in now d) 0 && list_any (is_blob d) rows) d.size 0
      → IsTallied rows (λ q. f q + one_at d q) counts bytes → IsTallied rows f now after
  tallied_less at sum h = record { counted = counted; summed = let s = bytes_more f d rows distinct in let n = ap (λ (k : ℕ). cond (nat_eq k 0 && list_any (is_blob d) rows) d.size 0) (counted d) in same_sum after bytes (bytes_of f rows) (cond (nat_eq (count_in now d) 0 && list_any (is_blob d) rows) d.size 0) (gain f d rows) sum (h.summed ∙ s) n }
    where
      same_sum : (a b c n m : ℕ) → b ≡ a + n → b ≡ c + m → n ≡ m → a ≡ c
      same_sum a b c n m p q r = omega (arith, p, q, r)

      counted : (q : HashAndSize) → count_in now q ≡ f q
      counted q = by (count_in now q) (f q) (same d q) (same q d) (same_swap d q) (at q ∙ h.counted q)
        where
          by : (a b : ℕ) (c e : Bool) → c ≡ e → a + cond c 1 0 ≡ b + cond e 1 0 → a ≡ b
          by a b true true p q = omega (arith, q)
          by a b false false p q = omega (arith, q)
          by a b true false p q = absurd cc
          by a b false true p q = absurd cc

-- ---- the bytes of a row, where a test passes

pub bytes_told : (rows : List Linked) (d : HashAndSize) (test : Bool) → test ≡ true → list_any (is_blob d) rows ≡ true → d.size ≡ cond (test && list_any (is_blob d) rows) d.size 0
bytes_told rows d test e h = (λ i. cond (sym e i && sym h i) d.size 0)

pub no_bytes : (rows : List Linked) (d : HashAndSize) (test : Bool) → (test && list_any (is_blob d) rows) ≡ false → 0 ≡ cond (test && list_any (is_blob d) rows) d.size 0
no_bytes rows d test e = (λ i. cond (sym e i) d.size 0)

-- one less of a digest that has some
pub taken : (d : HashAndSize) (counts now : List (HashAndSize × ℕ)) (left : ℕ) → left ≡ count_in counts d - 1 → 0 < count_in counts d → ((q : HashAndSize) → count_in now q ≡ cond (same d q) left (count_in counts q))
    → (q : HashAndSize) → count_in now q + cond (same d q) 1 0 ≡ count_in counts q
taken d counts now left is some at q = ap (λ (n : ℕ). n + cond (same d q) 1 0) (at q) ∙ by (same d q) refl
  where
    by : (b : Bool) → same d q ≡ b → cond b left (count_in counts q) + cond b 1 0 ≡ count_in counts q
    by true e = let k = ap (count_in counts) (equal_from_same d q e) in omega (arith, is, some, k)
    by false e = omega arith

-- and what goes with it
pub taken_bytes : (rows : List Linked) (f : HashAndSize → ℕ) (d : HashAndSize) (counts now : List (HashAndSize × ℕ)) (left lost bytes after : ℕ) → left ≡ count_in counts d - 1
    → ((q : HashAndSize) → count_in now q + cond (same d q) 1 0 ≡ count_in counts q) → Distinct rows → lost ≡ cond (nat_eq left 0 && list_any (is_blob d) rows) d.size 0 → after ≡ bytes - lost
    → IsTallied rows (λ q. f q + one_at d q) counts bytes → bytes ≡ after + cond (nat_eq (count_in now d) 0 && list_any (is_blob d) rows) d.size 0
taken_bytes rows f d counts now left lost bytes after is at distinct lost_is after_is h =
    let itself = ap (λ (b : Bool). count_in now d + cond b 1 0) (sym (same_itself d)) ∙ at d in
    let same_left : left ≡ count_in now d = omega (arith, is, itself) in
    let count : count_in now d ≡ f d = let one = ap (λ (b : Bool). f d + cond b 1 0) (same_itself d) in let k = h.counted d in omega (arith, itself, one, k) in
    let gained = bytes_more f d rows distinct in
    let lost_gain : lost ≡ gain f d rows = lost_is ∙ ap (λ (n : ℕ). cond (nat_eq n 0 && list_any (is_blob d) rows) d.size 0) (same_left ∙ count) in
    let lost_now : lost ≡ cond (nat_eq (count_in now d) 0 && list_any (is_blob d) rows) d.size 0 = lost_is ∙ ap (λ (n : ℕ). cond (nat_eq n 0 && list_any (is_blob d) rows) d.size 0) same_left in
    let sum = h.summed ∙ gained in
    back bytes after lost (gain f d rows) (bytes_of f rows) after_is lost_gain sum ∙ ap (λ (n : ℕ). after + n) lost_now
  where
    back : (b a l g r : ℕ) → a ≡ b - l → l ≡ g → b ≡ r + g → b ≡ a + l
    back b a l g r p q s = omega (arith, p, q, s)
