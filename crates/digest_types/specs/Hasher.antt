-- The bytes that a hasher has taken.
use Rattle.std.specs.Prelude.{◌≡◌, ℕ, List, length}
use Rattle.sha2.specs.Hashers.{Holds256}
use Rattle.digest_types.specs.declared.hasher.Hasher.{Hasher}

-- how many bytes were added
abbrev pub added_len : Hasher → ℕ
added_len h = h.size

-- these bytes were added, piece by piece
pub record Holds (h : Hasher) (bytes : List ℕ) : Type 0 where
  pub hash : Holds256 h.inner bytes
  pub len : h.size ≡ length bytes
