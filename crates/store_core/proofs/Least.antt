-- The least number that passes a test, and how many rows a pass removes.
use Rattle.std.proofs.Common.{◌≡◌, ℕ, zero, suc, ◌<◌, ◌≤◌, Bool, true, false, cond, refl, sym, ◌∙◌, arith, inl, inr}
use Rattle.std.proofs.lemmas.Bool.{cases_lt}
use Rattle.store_core.specs.Pass.{least}

abbrev shifted : (ℕ → Bool) → ℕ → Bool
shifted p k = p (suc k)

bound_by : (b : Bool) (m n : ℕ) → m ≤ n → cond b 0 (suc m) ≤ suc n
bound_by true m n h = omega arith
bound_by false m n h = omega arith

pub least_bound : (p : ℕ → Bool) (n : ℕ) → least p n ≤ n
unfolding least
least_bound p zero = omega arith
least_bound p (suc n) = bound_by (p 0) (least (shifted p) n) n (least_bound (shifted p) n)

passes_by : (p : ℕ → Bool) (b : Bool) (m n : ℕ) → p 0 ≡ b → (m < n → p (suc m) ≡ true) → cond b 0 (suc m) < suc n → p (cond b 0 (suc m)) ≡ true
passes_by p true m n e h lt = e
passes_by p false m n e h lt = h (omega arith)

pub least_passes : (p : ℕ → Bool) (n : ℕ) → least p n < n → p (least p n) ≡ true
unfolding least
least_passes p zero lt = absurd (omega arith)
least_passes p (suc n) lt = passes_by p (p 0) (least (shifted p) n) n refl (least_passes (shifted p) n) lt

none_by : (p : ℕ → Bool) (b : Bool) (m k : ℕ) → p 0 ≡ b → ((j : ℕ) → j < m → p (suc j) ≡ false) → k < cond b 0 (suc m) → p k ≡ false
none_by p true m k e h lt = absurd (omega arith)
none_by p false m zero e h lt = e
none_by p false m (suc k) e h lt = h k (omega arith)

pub least_none_below : (p : ℕ → Bool) (n k : ℕ) → k < least p n → p k ≡ false
unfolding least
least_none_below p zero k lt = absurd (omega arith)
least_none_below p (suc n) k lt = none_by p (p 0) (least (shifted p) n) k refl (least_none_below (shifted p) n) lt

true_not_false : (b : Bool) → b ≡ true → b ≡ false → true ≡ false
true_not_false b t f = sym t ∙ f

-- it is the number that passes, if there is one below the bound, where none below it does
pub least_is : (p : ℕ → Bool) (n m : ℕ) → m ≤ n → (m < n → p m ≡ true) → ((k : ℕ) → k < m → p k ≡ false) → m ≡ least p n
least_is p n m within passes none =
    let bound = least_bound p n in
    elim (cases_lt m (least p n)) [
      | inl lt ↦ absurd (let e = true_not_false (p m) (passes (omega arith)) (least_none_below p n m lt) in cc)
      | inr le ↦ elim (cases_lt (least p n) m) [
        | inl lt ↦ absurd (let e = true_not_false (p (least p n)) (least_passes p n (omega arith)) (none (least p n) lt) in cc)
        | inr ge ↦ omega arith
      ]
    ]
