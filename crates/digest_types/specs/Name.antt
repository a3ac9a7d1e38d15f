-- What contracts see of a digest.
use Rattle.std.specs.Prelude.{ℕ, List}

-- a hash and a size in bytes
pub record HashAndSize : Type 0 where
  pub hash : List ℕ
  pub size : ℕ
