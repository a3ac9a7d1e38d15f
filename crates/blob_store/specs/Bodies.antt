-- Blobs on their way to a shelf and from it.
use Rattle.std.specs.Prelude.{◌≡◌, ◌≢◌, ◌≤◌, ◌++◌, ◌+◌, ◌^◌, min, nat_lt, ℕ, Bool, List, length, take, Option, IfSome, [], Some, None, if◌then◌else◌}
use Rattle.digest_types.specs.Name.{HashAndSize}
use Rattle.digest_types.specs.Digest.{digest_of}
use Rattle.digest_types.specs.Hasher.{Holds}
use Rattle.digest_types.specs.declared.hasher.Hasher.{Hasher}
use Rattle.directory_canon.specs.declared.node.Edge.{Edge}
use Rattle.directory_canon.specs.Canon.{max_len}
use Rattle.directory_canon.specs.Links.{links}
use Rattle.blob_store.specs.declared.reading.ReadingEnd.{ReadingEnd}
use Rattle.blob_store.specs.declared.reading.ReadingEnd.TheVariants.{Failed, Damaged}

-- A blob on its way to the shelf: the hasher of the bytes that were added, what its draft tells, the copy of the bytes that
-- is kept beside the draft, and whether an addition was refused, after which it is only given up.
pub record Filled : Type 0 where
  pub hasher : Hasher
  pub told : Option (List ℕ)
  pub copy : Option (List ℕ)
  pub refused : Bool

-- a copy is kept of bytes that are no more than a Directory may have
abbrev pub copy_of : List ℕ → Option (List ℕ)
copy_of bytes = if nat_lt max_len (length bytes) then None else Some bytes

-- the copy after a piece was added
abbrev pub copied : Option (List ℕ) → List ℕ → Option (List ℕ)
copied None piece = None
copied (Some bytes) piece = copy_of (bytes ++ piece)

-- how many bytes a copy has
abbrev pub held_in : Option (List ℕ) → ℕ
held_in None = 0
held_in (Some bytes) = length bytes

-- how many are held of so many bytes that were added
abbrev pub held_of : ℕ → ℕ
held_of size = if nat_lt max_len size then 0 else size

-- just these bytes were added: the draft has no others
pub record HasAdded (f : Filled) (bytes : List ℕ) : Type 0 where
  pub hash : Holds f.hasher bytes
  pub told : IfSome f.told (λ all. all ≡ bytes)
  pub copy : f.copy ≡ copy_of bytes

-- whatever was added before, this piece was added behind it
abbrev pub AddsOn : Filled → Filled → List ℕ → Type 0
AddsOn old new piece = (bytes : List ℕ) → HasAdded old bytes → HasAdded new (bytes ++ piece)

-- a body with the digest and the links of its bytes, and the bytes where it tells them
pub record Sealed : Type 0 where
  pub digest : HashAndSize
  pub edges : Option (List Edge)
  pub told : Option (List ℕ)

-- a sealed body is that of these bytes
pub record IsSealed (bytes : List ℕ) (body : Sealed) : Type 0 where
  pub digest : body.digest ≡ digest_of bytes
  pub edges : body.edges ≡ links bytes
  pub told : IfSome body.told (λ all. all ≡ bytes)

-- how many bytes of a body are read at most: one more than its digest says, and never more than 2^60
abbrev pub limit_of : HashAndSize → ℕ
limit_of d = min (d.size + 1) (2 ^ 60)

-- how many bytes of a body are read at once at most
abbrev pub max_piece : ℕ
max_piece = 1_048_576

-- the bytes of a reader's body, where they are told; without a reader there are none
abbrev pub lent_by : {R : Type 0} → (R → Option (List ℕ)) → Option R → Option (List ℕ)
lent_by lent None = Some []
lent_by lent (Some reader) = lent reader

-- A reading: the digest that is wanted, the hasher of the bytes that were read, the body's bytes where it tells them, and
-- how it ended.
pub record ReadingState : Type 0 where
  pub want : HashAndSize
  pub hasher : Hasher
  pub told : Option (List ℕ)
  pub end : Option ReadingEnd

-- a hasher has these bytes, which are the first ones of the body
pub record HasTaken (hasher : Hasher) (told : Option (List ℕ)) (read : List ℕ) : Type 0 where
  pub hash : Holds hasher read
  pub front : IfSome told (λ all. read ≡ take (length read) all)

-- all of the body was taken, up to the limit, and it has the digest that is wanted
pub record IsWhole (want : HashAndSize) (hasher : Hasher) (told : Option (List ℕ)) : Type 0 where
  pub digest : (read : List ℕ) → HasTaken hasher told read → digest_of read ≡ want
  pub all : (read : List ℕ) → HasTaken hasher told read → IfSome told (λ bytes. read ≡ take (limit_of want) bytes)

-- what was taken has another digest than the one that is wanted: that of the body up to the limit
pub record IsDamage (wanted : HashAndSize) (hasher : Hasher) (told : Option (List ℕ)) (want got : HashAndSize) : Type 0 where
  pub same : want ≡ wanted
  pub other : got ≢ want
  pub read : (bytes : List ℕ) → HasTaken hasher told bytes → got ≡ digest_of bytes
  pub all : IfSome told (λ bytes. got ≡ digest_of (take (limit_of wanted) bytes))

-- what an end tells of the bytes that were taken
abbrev pub Ends : HashAndSize → Hasher → Option (List ℕ) → ReadingEnd → Type 0
Ends wanted hasher told Failed = Unit {0}
Ends wanted hasher told (Damaged want got) = IsDamage wanted hasher told want got

-- these bytes were read
abbrev pub HasRead : ReadingState → List ℕ → Type 0
HasRead s read = HasTaken s.hasher s.told read

-- whatever was read before, this piece was read behind it
abbrev pub ReadsOn : ReadingState → ReadingState → List ℕ → Type 0
ReadsOn old new piece = (read : List ℕ) → HasRead old read → HasRead new (read ++ piece)

-- a prefix of these bytes was read
abbrev pub ReadsPart : ReadingState → ReadingState → List ℕ → Type 0
ReadsPart old new bytes = (n : ℕ) × (n ≤ length bytes) × ReadsOn old new (take n bytes)

-- all bytes were read
abbrev pub IsRead : ReadingState → Type 0
IsRead s = IsWhole s.want s.hasher s.told

-- what an end tells of the bytes that were read
abbrev pub Explains : ReadingState → ReadingEnd → Type 0
Explains s e = Ends s.want s.hasher s.told e
