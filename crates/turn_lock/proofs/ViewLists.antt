-- Lists of views, and beginnings of lists.
use Rattle.std.proofs.Common.{◌≡◌, ◌≢◌, ◌⊎◌, ℕ, zero, suc, ◌+◌, ◌<◌, ◌≤◌, List, [], ◌∷◌, ◌++◌, length, set, cond, refl, sym, ap, ◌∙◌, subst, ⊎_elim, inl, inr, arith, length-append, append_assoc, Bool, true, false}
use Rattle.std.specs.Prelude.{nat_lt}
use Rattle.std.proofs.lemmas.List.{append-nil}
use mathlib.Core.Option.{some, some-injective, some-ne-none}
use lib.ListN.{get_elem?}
use Rattle.std.proofs.lemmas.Bool.Decides.{nat_tests}
use Rattle.atomic_table.proofs.Lists.{at_set}
use Rattle.store_core.specs.History.{Entry}
use Rattle.turn_lock.specs.Views.{View, Extends, longer, shorter}
use Rattle.turn_lock.specs.LockRule.{total}

-- ---- one view among others

pub inside : {A : Type 0} (l : List A) (i : ℕ) (a : A) → get_elem? l i ≡ some a → i < length l
inside [] i a e = absurd (some-ne-none a (sym e))
inside (x ∷ xs) zero a e = omega arith
inside (x ∷ xs) (suc i) a e = let l = inside xs i a e in omega arith

pub here : {A : Type 0} (l : List A) (i : ℕ) (a b : A) → get_elem? l i ≡ some a → get_elem? (set l i b) i ≡ some b
here [] i a b e = absurd (some-ne-none a (sym e))
here (x ∷ xs) zero a b e = refl
here (x ∷ xs) (suc i) a b e = here xs i a b e

pub at_end : {A : Type 0} (l : List A) (a b : A) (j : ℕ) → get_elem? (l ++ a ∷ []) j ≡ some b → (get_elem? l j ≡ some b) ⊎ ((j ≡ length l) × (a ≡ b))
at_end [] a b zero e = inr (refl, some-injective a b e)
at_end [] a b (suc j) e = absurd (some-ne-none b (sym e))
at_end (x ∷ xs) a b zero e = inl e
at_end (x ∷ xs) a b (suc j) e = ⊎_elim inl (λ t. inr (ap suc t.0, t.1)) (at_end xs a b j e)

pub same_at : (vs : List View) (i : ℕ) (v w : View) → get_elem? vs i ≡ some v → get_elem? vs i ≡ some w → v ≡ w
same_at vs i v w a b = some-injective v w (sym a ∙ b)

-- what holds of each view holds after one is replaced
pub each_set : (P : ℕ → View → Type 0) (vs : List View) (i : ℕ) (w : View) → P i w → ((j : ℕ) (v : View) → j ≢ i → get_elem? vs j ≡ some v → P j v)
    → (j : ℕ) (v : View) → get_elem? (set vs i w) j ≡ some v → P j v
each_set P vs i w mine others j v e =
    ⊎_elim
    (λ (t : (j ≡ i) × (w ≡ v)). subst (λ (x : ℕ × View). P x.0 x.1) (λ k. (sym t.0 k, t.1 k)) mine)
    (λ (t : (j ≢ i) × (get_elem? vs j ≡ some v)). others j v t.0 t.1)
    (at_set vs i j w v e)

-- ---- sums

pub total_set : (f : View → ℕ) (vs : List View) (i : ℕ) (v w : View) → get_elem? vs i ≡ some v → total f (set vs i w) + f v ≡ total f vs + f w
total_set f [] i v w e = absurd (some-ne-none v (sym e))
total_set f (x ∷ xs) zero v w e = let is = ap f (some-injective x v e) in omega arith
total_set f (x ∷ xs) (suc i) v w e = let rest = total_set f xs i v w e in omega arith

pub total_within : (f : View → ℕ) (vs : List View) (i : ℕ) (v : View) → get_elem? vs i ≡ some v → f v ≤ total f vs
total_within f [] i v e = absurd (some-ne-none v (sym e))
total_within f (x ∷ xs) zero v e = let is = ap f (some-injective x v e) in omega arith
total_within f (x ∷ xs) (suc i) v e = let rest = total_within f xs i v e in omega arith

pub two_within : (f : View → ℕ) (vs : List View) (i j : ℕ) (v w : View) → i ≢ j → get_elem? vs i ≡ some v → get_elem? vs j ≡ some w → f v + f w ≤ total f vs
two_within f [] i j v w apart e h = absurd (some-ne-none v (sym e))
two_within f (x ∷ xs) zero zero v w apart e h = absurd (apart refl)
two_within f (x ∷ xs) zero (suc j) v w apart e h = let is = ap f (some-injective x v e) in let rest = total_within f xs j w h in omega arith
two_within f (x ∷ xs) (suc i) zero v w apart e h = let is = ap f (some-injective x w h) in let rest = total_within f xs i v e in omega arith
two_within f (x ∷ xs) (suc i) (suc j) v w apart e h = let rest = two_within f xs i j v w (λ is. apart (ap suc is)) e h in omega arith

pub total_more : (f : View → ℕ) (vs : List View) (w : View) → total f (vs ++ w ∷ []) ≡ total f vs + f w
total_more f [] w = omega arith
total_more f (x ∷ xs) w = let rest = total_more f xs w in omega arith

-- where each is at most another, so are the sums
pub total_at_most : (f g : View → ℕ) (vs : List View) → ((j : ℕ) (u : View) → get_elem? vs j ≡ some u → f u ≤ g u) → total f vs ≤ total g vs
total_at_most f g [] h = omega arith
total_at_most f g (x ∷ xs) h = let first = h 0 x refl in let rest = total_at_most f g xs (λ j u e. h (suc j) u e) in omega arith

-- and where one is less, the sum is
pub total_less : (f g : View → ℕ) (vs : List View) (i : ℕ) (v : View) → get_elem? vs i ≡ some v → f v < g v → ((j : ℕ) (u : View) → get_elem? vs j ≡ some u → f u ≤ g u) → total f vs < total g vs
total_less f g [] i v e less h = absurd (some-ne-none v (sym e))
total_less f g (x ∷ xs) zero v e less h = let is = some-injective x v e in let a = ap f is in let b = ap g is in let rest = total_at_most f g xs (λ j u e. h (suc j) u e) in omega arith
total_less f g (x ∷ xs) (suc i) v e less h = let first = h 0 x refl in let rest = total_less f g xs i v e less (λ j u e. h (suc j) u e) in omega arith

-- a sum to which one view alone adds
pub total_none : (f : View → ℕ) (vs : List View) → ((j : ℕ) (u : View) → get_elem? vs j ≡ some u → f u ≡ 0) → total f vs ≡ 0
total_none f [] h = refl
total_none f (x ∷ xs) h = let first = h 0 x refl in let rest = total_none f xs (λ j u e. h (suc j) u e) in omega arith

pub total_one : (f : View → ℕ) (vs : List View) (i : ℕ) (v : View) → get_elem? vs i ≡ some v → ((j : ℕ) (u : View) → j ≢ i → get_elem? vs j ≡ some u → f u ≡ 0) → total f vs ≡ f v
total_one f [] i v e h = absurd (some-ne-none v (sym e))
total_one f (x ∷ xs) zero v e h = let is = ap f (some-injective x v e) in let rest = total_none f xs (λ j u e. h (suc j) u (λ z. omega arith) e) in omega arith
total_one f (x ∷ xs) (suc i) v e h = let first = h 0 x (λ z. omega arith) refl in let rest = total_one f xs i v e (λ j u other e. h (suc j) u (λ z. other (omega arith)) e) in omega arith

-- ---- beginnings

pub extends_itself : (log : List Entry) → Extends log log
extends_itself log = ([], sym (append-nil log))

pub extends_none : (log : List Entry) → Extends [] log
extends_none log = (log, refl)

pub extends_more : (seen log more : List Entry) → Extends seen log → Extends seen (log ++ more)
extends_more seen log more s = (s.0 ++ more, ap (λ (l : List Entry). l ++ more) s.1 ∙ append_assoc seen s.0 more)

pub extends_length : (seen log : List Entry) → Extends seen log → length seen ≤ length log
extends_length seen log s = let e = ap (λ (l : List Entry). length l) s.1 in let l = length-append seen s.0 in omega arith

-- of two beginnings of one list the longer begins with the shorter
begins : (xs ys rest more : List Entry) → xs ++ rest ≡ ys ++ more → length ys ≤ length xs → Extends ys xs
begins xs [] rest more e h = (xs, refl)
begins [] (y ∷ ys) rest more e h = absurd (omega arith)
begins (x ∷ xs) (y ∷ ys) rest more e h = let tail = begins xs ys rest more (ap drop_one e) (omega arith) in (tail.0, (λ i. first (e i) x ∷ tail.1 i))
  where
    drop_one : List Entry → List Entry
    drop_one [] = []
    drop_one (z ∷ zs) = zs

    first : List Entry → Entry → Entry
    first [] d = d
    first (z ∷ zs) d = z

pub extends_shorter : (log xs ys : List Entry) → Extends xs log → Extends ys log → length ys ≤ length xs → Extends ys xs
extends_shorter log xs ys a b h = begins xs ys a.0 b.0 (sym a.1 ∙ b.1) h

no_rest : (xs rest : List Entry) → length (xs ++ rest) ≤ length xs → xs ++ rest ≡ xs
no_rest [] [] h = refl
no_rest [] (r ∷ rs) h = absurd (omega arith)
no_rest (x ∷ xs) rest h = ap (λ l. x ∷ l) (no_rest xs rest (omega arith))

-- a beginning that is no shorter is the whole
pub extends_whole : (seen log : List Entry) → Extends seen log → length log ≤ length seen → seen ≡ log
extends_whole seen log s h = sym (s.1 ∙ no_rest seen s.0 (subst (λ (l : List Entry). length l ≤ length seen) s.1 h))

-- ---- the longer of two

pub either_longer : (P : List Entry → Type 0) (xs ys : List Entry) → P xs → P ys → P (longer xs ys) × P (shorter xs ys)
either_longer P xs ys a b = pick (nat_lt (length xs) (length ys))
  where
    pick : (t : Bool) → P (cond t ys xs) × P (cond t xs ys)
    pick true = (b, a)
    pick false = (a, b)

pub shorter_length : (xs ys : List Entry) → length (shorter xs ys) ≤ length (longer xs ys)
shorter_length xs ys = pick (nat_lt (length xs) (length ys)) refl
  where
    pick : (t : Bool) → nat_lt (length xs) (length ys) ≡ t → length (cond t xs ys) ≤ length (cond t ys xs)
    pick true e = let less : length xs < length ys = grind (arith, nat_tests) in omega arith
    pick false e = let more : length ys ≤ length xs = grind (arith, nat_tests) in more

-- where the longer begins with the shorter, it begins with both
pub longer_begins : (xs ys : List Entry) → Extends (shorter xs ys) (longer xs ys) → Extends xs (longer xs ys) × Extends ys (longer xs ys)
longer_begins xs ys = pick (nat_lt (length xs) (length ys))
  where
    pick : (t : Bool) → Extends (cond t xs ys) (cond t ys xs) → Extends xs (cond t ys xs) × Extends ys (cond t ys xs)
    pick true e = (e, extends_itself ys)
    pick false e = (extends_itself xs, e)

pub longer_whole : (log xs ys : List Entry) → Extends xs log → Extends ys log → (xs ≡ log) ⊎ (ys ≡ log) → longer xs ys ≡ log
longer_whole log xs ys a b is = pick (nat_lt (length xs) (length ys)) refl
  where
    long : (zs : List Entry) → zs ≡ log → length zs ≡ length log
    long zs e = ap (λ (l : List Entry). length l) e

    pick : (t : Bool) → nat_lt (length xs) (length ys) ≡ t → cond t ys xs ≡ log
    pick true e = let less : length xs < length ys = grind (arith, nat_tests) in let small = extends_length ys log b in
        ⊎_elim (λ x. let l = long xs x in absurd (omega arith)) (λ y. y) is
    pick false e = let more : length ys ≤ length xs = grind (arith, nat_tests) in
        ⊎_elim (λ x. x) (λ y. let l = long ys y in extends_whole xs log a (omega arith)) is
