-- How the input is read, and what stands at the front of what was read.
use Rattle.std.specs.Prelude.{◌≡◌, ◌+◌, ◌-◌, ◌<◌, ◌≤◌, ◌^◌, ℕ, List, ◌∷◌, ◌++◌, length, Option}
use Rattle.casd_base.specs.Streams.{Takes, IsEnded}
use Rattle.casd_server.specs.Cut.{NoByte}
use Rattle.casd_server.specs.Pending.{Pending}
use Rattle.casd_server.specs.Record.{max_line}
use Rattle.casd_server.specs.declared.input.Found.{Found}
use Rattle.casd_server.specs.declared.input.Found.TheVariants as found

-- a block of so many bytes was taken from the source and added to a buffer
pub record Appends (before after : Option (List ℕ)) (old new : List ℕ) (count : ℕ) : Type 0 where
  pub block : List ℕ
  pub takes : Takes before after block
  pub whole : new ≡ old ++ block
  pub len : length block ≡ count

-- so many bytes at most may have been taken from the source, and are lost: memory ran out
pub record Loses (before after : Option (List ℕ)) (most : ℕ) : Type 0 where
  pub lost : List ℕ
  pub takes : Takes before after lost
  pub few : length lost ≤ most

-- a block of so many bytes was taken from the source, is pending, and counts
pub record ReadsBlock (before after : Option (List ℕ)) (old new : Pending) (count : ℕ) : Type 0 where
  pub bytes : Appends before after old.bytes new.bytes count
  pub read : new.read ≡ old.read + count

-- What is pending is as it was. With what may be lost, no more was read than is allowed.
pub record LosesBlock (before after : Option (List ℕ)) (old new : Pending) : Type 0 where
  pub loses : Loses before after (2 ^ 50 - old.read)
  pub bytes : new.bytes ≡ old.bytes
  pub read : new.read ≡ old.read
  pub bounded : old.read ≤ 2 ^ 50

-- More was read: the source gave it, it stands behind the bytes that were pending, and it counts.
pub record ReadsMore (before after : Option (List ℕ)) (old new : Pending) : Type 0 where
  pub more : List ℕ
  pub takes : Takes before after more
  pub bytes : new.bytes ≡ old.bytes ++ more
  pub read : new.read ≡ old.read + length more

-- Some was read and kept, and what was read behind it may be lost: memory ran out.
pub record LosesSome (before after : Option (List ℕ)) (old new : Pending) : Type 0 where
  pub kept : List ℕ
  pub lost : List ℕ
  pub takes : Takes before after (kept ++ lost)
  pub bytes : new.bytes ≡ old.bytes ++ kept
  pub read : new.read ≡ old.read + length kept
  pub few : new.read + length lost ≤ 2 ^ 50

-- More was read and kept, and as many bytes were read as are allowed.
pub record IsSpent (before after : Option (List ℕ)) (old new : Pending) : Type 0 where
  pub reads : ReadsMore before after old new
  pub full : new.read ≡ 2 ^ 50

-- what stands at the front of the pending bytes
abbrev pub Begins : Found → List ℕ → Option (List ℕ) → Type 0
-- a line of at most so many bytes, and its newline
Begins (found.Line len) bytes left =
    (len ≤ max_line) × ((line : List ℕ) × ((rest : List ℕ) × (bytes ≡ line ++ (10 ∷ rest)) × NoByte 10 line × (length line ≡ len)))
-- what is left behind the last newline, as the source has ended
Begins found.End bytes left = NoByte 10 bytes × (length bytes ≤ max_line) × IsEnded left
-- more bytes than a line has
Begins found.TooLong bytes left =
    (front : List ℕ) × ((rest : List ℕ) × (bytes ≡ front ++ rest) × NoByte 10 front × (max_line < length front))
