-- The text of a list of use.
use Rattle.std.specs.Prelude.{◌≡◌, ◌++◌, ◌∷◌, [], ℕ, List, length, codes}
use Rattle.std.specs.Fmt.{decimal}
use Rattle.std.specs.List.{AllByRecursion}
use Rattle.digest_types.specs.Name.{HashAndSize}
use Rattle.digest_types.specs.Digest.{IsDigest, printed}
use Rattle.store_core.specs.State.{DistinctDigests}

-- the line of a digest: its text and a newline
abbrev pub line : HashAndSize → List ℕ
line d = printed d ++ (10 ∷ [])

-- the lines of some digests
abbrev pub lines : List HashAndSize → List ℕ
lines [] = []
lines (d ∷ ds) = line d ++ lines ds

-- `casd 2` and a newline
abbrev pub first_line : List ℕ
first_line = codes "casd 2" ++ (10 ∷ [])

-- `end` and the number of digests, in decimal and without leading zeros, and a newline
abbrev pub last_line : ℕ → List ℕ
last_line count = codes "end " ++ decimal count ++ (10 ∷ [])

-- the text of digests, the least recent first
abbrev pub use_list : List HashAndSize → List ℕ
use_list order = first_line ++ lines order ++ last_line (length order)

-- these are the digests of a text, each once
pub record IsUseText (order : List HashAndSize) (text : List ℕ) : Type 0 where
  pub digests : AllByRecursion IsDigest order
  pub distinct : DistinctDigests order
  pub text_is : text ≡ use_list order
