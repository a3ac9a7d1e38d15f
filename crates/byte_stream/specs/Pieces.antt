-- A body that is read on.
use Rattle.std.specs.Prelude.{◌≡◌, ◌+◌, ◌-◌, ◌≤◌, ℕ, List, length, drop, None}
use Rattle.digest_types.specs.Name.{HashAndSize}
use Rattle.blob_store.specs.Bodies.{ReadingState, HasRead, ReadsOn, IsRead, Explains}
use Rattle.blob_store.specs.Shelves.{Shelved}
use Rattle.blob_store.specs.declared.reading.ReadingEnd.{ReadingEnd}
use Rattle.blob_store.specs.declared.reading.ReadingEnd.TheVariants.{Failed as Fault, Damaged}
use Rattle.cas_calls.specs.Bodies.{IsLater}
use Rattle.cas_calls.specs.Plays.{Lapses}
use Rattle.byte_stream.specs.declared.place.Place.{Place}
use Rattle.byte_stream.specs.Places.{piece_end}
use Rattle.byte_stream.specs.declared.read_stop.ReadStop.{ReadStop}
use Rattle.byte_stream.specs.declared.read_stop.ReadStop.TheVariants as stops

-- the reading goes on, and so many bytes were read
pub record HasCount (s : ReadingState) (count : ℕ) : Type 0 where
  pub going : s.end ≡ None
  pub bytes : List ℕ
  pub read : HasRead s bytes
  pub length_is : length bytes ≡ count

-- there is room for so many bytes more within the size that the digest says
pub record HasRoom (s : ReadingState) (more : ℕ) : Type 0 where
  pub count : ℕ
  pub has : HasCount s count
  pub fits : count + more ≤ s.want.size

-- these bytes were read behind what had been read, and the reading goes on
pub record ReadsMore (old new : ReadingState) (more : List ℕ) : Type 0 where
  pub on : ReadsOn old new more
  pub going : new.end ≡ None
  pub later : IsLater old new

-- the body that is read has another digest than the one that is wanted
abbrev pub IsOther : ReadingState → HashAndSize → Type 0
IsOther s got = Explains s (Damaged s.want got)

-- the reading was refused
abbrev pub IsCut : ReadingState → Shelved → Shelved → ReadingEnd → Type 0
IsCut s x y Fault = Lapses x y
IsCut s x y (Damaged want got) = IsOther s got

-- the same, by why no further bytes are given; the body isn't whole
abbrev pub IsHalted : ReadingState → Shelved → Shelved → ReadStop → Type 0
IsHalted s x y stops.Done = ⊥
IsHalted s x y stops.Failed = Lapses x y
IsHalted s x y (stops.Damaged got) = IsOther s got
IsHalted s x y stops.OutOfMemory = Unit {0}

-- all that is left of the body was read, and all of it has the digest that is wanted
pub record ReadsRest (old new : ReadingState) : Type 0 where
  pub more : List ℕ
  pub reads : ReadsMore old new more
  pub whole : IsRead new

-- how the reading of what is left ends
abbrev pub IsFinished : ReadingState → ReadingState → Shelved → Shelved → ReadStop → Type 0
IsFinished old new x y stops.Done = ReadsRest old new
IsFinished old new x y stops.Failed = Lapses x y
IsFinished old new x y (stops.Damaged got) = IsOther new got
IsFinished old new x y stops.OutOfMemory = Unit {0}

-- The next piece was read: the bytes of the body between the last that were sent and the end of the piece. What lay before
-- them in the body was read over.
pub record GivesPiece (p : Place) (old new : ReadingState) (piece : List ℕ) : Type 0 where
  pub more : List ℕ
  pub reads : ReadsMore old new more
  pub all : p.read + length more ≡ piece_end p
  pub piece_is : piece ≡ drop (p.next - p.read) more
