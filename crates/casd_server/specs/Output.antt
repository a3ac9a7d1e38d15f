-- What was written of some bytes.
use Rattle.std.specs.Prelude.{◌≡◌, ℕ, List, ◌++◌, Option}
use Rattle.casd_base.specs.Streams.{Adds}

-- a first part of the bytes was added to those written
pub record AddsPart (before after : Option (List ℕ)) (bytes : List ℕ) : Type 0 where
  pub part : List ℕ
  pub rest : List ℕ
  pub whole : bytes ≡ part ++ rest
  pub adds : Adds before after part
