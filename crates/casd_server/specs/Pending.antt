-- What was read of the input and not yet taken as lines.
use Rattle.std.specs.Prelude.{ℕ, List}

-- the bytes that were read and not yet taken, and how many were read in all
pub record Pending : Type 0 where
  pub bytes : List ℕ
  pub read : ℕ
