-- How large a varint of so many bytes is, and the steps of what is written.
use Rattle.std.proofs.Common.{◌≡◌, ℕ, zero, suc, ◌+◌, ◌-◌, ◌*◌, ◌/◌, ◌%◌, ◌^◌, ◌<◌, ◌≤◌, ◌⊎◌, inl, inr, List, [], ◌∷◌, ◌++◌, refl, subst, append_assoc, arith}
use Rattle.std.proofs.lemmas.Bool.{lt-ltb, le-ltb, ne_eqb}
use Rattle.proto_wire.specs.Spelling.{bound, groups_of}

bound_next : (k : ℕ) → bound (suc (suc k)) ≡ 128 * bound (suc k)
unfolding bound
bound_next k = rw (ne_eqb (suc k) 0 (λ e. omega arith)) refl

pub bound_step : (k : ℕ) → 2 ≤ k → bound k ≡ 128 * bound (k - 1)
bound_step zero h = absurd (omega arith)
bound_step (suc zero) h = absurd (omega arith)
bound_step (suc (suc k)) h = let e : suc (suc k) - 1 ≡ suc k = omega arith in rw e (bound_next k)

pub bound_small : (k : ℕ) → k ≤ 1 → bound k ≤ 2
unfolding bound
bound_small zero h = omega arith
bound_small (suc zero) h = omega arith
bound_small (suc (suc k)) h = absurd (omega arith)

bound_one : bound 1 ≡ 2
unfolding bound
bound_one = refl

pub bound_low : (k : ℕ) → 1 ≤ k → 2 ≤ bound k
bound_low zero h = absurd (omega arith)
bound_low (suc zero) h = omega (arith, bound_one)
bound_low (suc (suc k)) h = omega (arith, bound_next k, bound_low (suc k) (omega arith))

bound_grows : (k : ℕ) → bound k ≤ bound (suc k)
bound_grows zero = omega (arith, bound_one, bound_small 0 (omega arith))
bound_grows (suc k) = omega (arith, bound_next k)

bound_below : (more k : ℕ) → bound k ≤ bound (more + k)
bound_below zero k = let e : 0 + k ≡ k = omega arith in rw e (omega arith)
bound_below (suc more) k =
    let e : suc more + k ≡ suc (more + k) = omega arith in
    rw e (omega (arith, bound_below more k, bound_grows (more + k)))

pub bound_ten : bound 10 ≡ 2 ^ 64
unfolding bound
bound_ten = refl

-- a varint of at most ten bytes fits 64 bits
pub bound_fits : (k : ℕ) → k ≤ 10 → bound k ≤ 2 ^ 64
bound_fits k h =
    let e : (10 - k) + k ≡ 10 = omega arith in
    let below : bound k ≤ bound 10 = subst (λ m. bound k ≤ bound m) e (bound_below (10 - k) k) in
    omega (arith, below, bound_ten)

-- one more group below a high part that is small enough
pub bound_more : (more b high : ℕ) → 1 < more → b < 256 → high < bound (more - 1) → b - 128 + 128 * high < bound more
bound_more more b high lt byte h = omega (arith, bound_step more lt)

pub groups_end : (more n : ℕ) → (more ≤ 1) ⊎ (n < 128) → groups_of more n ≡ n ∷ []
unfolding groups_of
groups_end zero n h = refl
groups_end (suc zero) n h = refl
groups_end (suc (suc more)) n (inl h) = absurd (omega arith)
groups_end (suc (suc more)) n (inr h) = rw (ne_eqb (suc more) 0 (λ e. omega arith), lt-ltb n 128 h) refl

pub groups_step : (more n : ℕ) → 1 < more → 128 ≤ n → groups_of more n ≡ (n % 128 + 128) ∷ groups_of (more - 1) (n / 128)
unfolding groups_of
groups_step zero n lt h = absurd (omega arith)
groups_step (suc zero) n lt h = absurd (omega arith)
groups_step (suc (suc more)) n lt h =
    let e : suc (suc more) - 1 ≡ suc more = omega arith in
    rw (e, ne_eqb (suc more) 0 (λ e. omega arith), le-ltb n 128 h) refl

-- the first group, then the others
pub groups_pushed : (more n : ℕ) (old mid new : List ℕ) → 1 < more → 128 ≤ n → mid ≡ old ++ (n % 128 + 128) ∷ [] → new ≡ mid ++ groups_of (more - 1) (n / 128) → new ≡ old ++ groups_of more n
groups_pushed more n old mid new lt h first others =
    rw (groups_step more n lt h, others, first) (append_assoc old ((n % 128 + 128) ∷ []) (groups_of (more - 1) (n / 128)))
