-- Integers (RFC 7541, section 5.1).
use Rattle.std.specs.Prelude.{◌≡◌, ◌<◌, ◌≤◌, ◌⊎◌, ◌+◌, ◌-◌, ◌/◌, ◌%◌, ◌^◌, nat_lt, ℕ, zero, suc, List, [], ◌∷◌, length, if◌then◌else◌}
use Rattle.proto_wire.specs.Wire.{Groups}

-- what fills a prefix of so many bits, and says that the rest follows
abbrev pub filled : ℕ → ℕ
filled bits = 2 ^ bits - 1

-- The first byte has these higher bits and a prefix of so many bits. A value below a filled prefix stands in it; otherwise the
-- prefix is filled, and the rest of the value follows in one to five groups. The value is at most 2^32 - 1, and its spelling
-- may be longer than it has to be.
pub record IsInt (bits high value : ℕ) (bytes : List ℕ) : Type 0 where
  pub small : value < 2 ^ 32
  pub spelled : ((value < filled bits) × (bytes ≡ (high + value) ∷ []))
      ⊎ ((more : ℕ) × (groups : List ℕ) × (value ≡ filled bits + more) × (bytes ≡ (high + filled bits) ∷ groups) × (length groups ≤ 5) × Groups groups more)

-- ---- the shortest spelling

-- a number in at most so many groups of seven bits, the lowest first
abbrev pub groups_of : ℕ → ℕ → List ℕ
groups_of zero n = []
groups_of (suc most) n = if nat_lt n 128 then n ∷ [] else (n % 128 + 128) ∷ groups_of most (n / 128)

unfoldable pub int_spelled : ℕ → ℕ → ℕ → List ℕ
int_spelled bits high value =
    if nat_lt value (filled bits) then (high + value) ∷ [] else (high + filled bits) ∷ groups_of 10 (value - filled bits)
