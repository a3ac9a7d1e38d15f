-- The bytes of a body on their way into a hasher.
use Rattle.std.specs.Prelude.{◌≡◌, ◌≢◌, ◌≤◌, ◌++◌, ℕ, List, length, take, Option}
use Rattle.digest_types.specs.Name.{HashAndSize}
use Rattle.digest_types.specs.Digest.{digest_of}
use Rattle.digest_types.specs.Hasher.{Holds}
use Rattle.digest_types.specs.declared.hasher.Hasher.{Hasher}
use Rattle.blob_store.specs.Bodies.{HasTaken, limit_of}
use Rattle.blob_store.specs.declared.reading.ReadingEnd.{ReadingEnd}
use Rattle.blob_store.specs.declared.reading.ReadingEnd.TheVariants.{Failed, Damaged}

-- this many bytes were taken, and not more than the limit
pub record IsPlace (want : HashAndSize) (hasher : Hasher) (told : Option (List ℕ)) (at : ℕ) : Type 0 where
  pub read : List ℕ
  pub taken : HasTaken hasher told read
  pub len : length read ≡ at
  pub limit : at ≤ limit_of want

-- what a hasher holds has another digest than the one that is wanted
abbrev pub IsOther : HashAndSize → Hasher → ReadingEnd → Type 0
IsOther wanted hasher Failed = ⊥
IsOther wanted hasher (Damaged want got) = (want ≡ wanted) × (got ≢ want) × ((read : List ℕ) → Holds hasher read → got ≡ digest_of read)

-- whatever was taken, this piece was taken behind it
abbrev pub TakesPiece : Hasher → Hasher → Option (List ℕ) → List ℕ → Type 0
TakesPiece old new told piece = (read : List ℕ) → HasTaken old told read → HasTaken new told (read ++ piece)

-- a prefix of these bytes was taken
abbrev pub TakesPart : Hasher → Hasher → Option (List ℕ) → List ℕ → Type 0
TakesPart old new told bytes = (n : ℕ) × (n ≤ length bytes) × TakesPiece old new told (take n bytes)
