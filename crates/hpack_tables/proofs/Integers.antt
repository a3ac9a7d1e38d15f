-- How large so many groups are, and the groups that are written, one on.
use Rattle.std.proofs.Common.{◌≡◌, ℕ, zero, suc, ◌+◌, ◌-◌, ◌*◌, ◌/◌, ◌%◌, ◌^◌, ◌<◌, ◌≤◌, List, [], ◌∷◌, ◌++◌, refl, append_assoc, ap, ◌∙◌, arith}
use Rattle.std.proofs.Math.Nat.{pow-succ'}
use Rattle.std.proofs.lemmas.Bool.{le-ltb}
use Rattle.hpack_tables.specs.Integer.{groups_of}

pub pow_more : (more : ℕ) → 128 ^ (more + 1) ≡ 128 * 128 ^ more
pow_more more = let e : more + 1 ≡ suc more = omega arith in ap (λ n. 128 ^ n) e ∙ pow-succ' 128 more

pub pow_some : (more : ℕ) → 1 ≤ 128 ^ more
pow_some zero = omega arith
pow_some (suc more) = omega (arith, pow_some more, pow-succ' 128 more)

-- one group is small enough
pub one_group : (more b : ℕ) → b < 128 → b < 128 ^ (more + 1)
one_group more b h = omega (arith, pow_more more, pow_some more)

-- five more groups fit 42 bits
pub pow_few : (more : ℕ) → more ≤ 5 → 128 ^ (more + 1) ≤ 2 ^ 42
pow_few zero h = omega arith
pow_few (suc zero) h = omega arith
pow_few (suc (suc zero)) h = omega arith
pow_few (suc (suc (suc zero))) h = omega arith
pow_few (suc (suc (suc (suc zero)))) h = omega arith
pow_few (suc (suc (suc (suc (suc zero))))) h = omega arith
pow_few (suc (suc (suc (suc (suc (suc more)))))) h = absurd (omega arith)

pub groups_more : (most n : ℕ) → 0 < most → 128 ≤ n → groups_of most n ≡ (n % 128 + 128) ∷ groups_of (most - 1) (n / 128)
groups_more zero n h large = absurd (omega arith)
groups_more (suc most) n h large =
    let e : suc most - 1 ≡ most = omega arith in
    rw (e, le-ltb n 128 large) refl

-- the first group, then the others
pub groups_pushed : (most n : ℕ) (old mid new : List ℕ) → 0 < most → 128 ≤ n → mid ≡ old ++ (n % 128 + 128) ∷ [] → new ≡ mid ++ groups_of (most - 1) (n / 128) → new ≡ old ++ groups_of most n
groups_pushed most n old mid new lt h first others =
    rw (groups_more most n lt h, others, first) (append_assoc old ((n % 128 + 128) ∷ []) (groups_of (most - 1) (n / 128)))
