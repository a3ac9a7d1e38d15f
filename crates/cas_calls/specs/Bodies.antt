-- What a shelf tells of a body that is read, and of one that is written.
use Rattle.std.specs.Prelude.{◌≡◌, ◌≤◌, ℕ, List, [], length, false, None}
use Rattle.digest_types.specs.Name.{HashAndSize}
use Rattle.blob_store.specs.Bodies.{Filled, HasAdded, AddsOn, Sealed, IsSealed, ReadingState, ReadsOn, IsRead, Explains}
use Rattle.blob_store.specs.Shelves.{appended}
use Rattle.blob_store.specs.Calls.{Begins}
use Rattle.blob_store.specs.declared.reading.ReadingEnd.TheVariants.{Damaged}

-- ---- read

-- a reading of this digest begins
abbrev pub IsBegun : HashAndSize → ReadingState → Type 0
IsBegun d s = Begins d s

-- one reading is a later state of another: of the same body, as that of the same digest
pub record IsLater (s t : ReadingState) : Type 0 where
  pub want : t.want ≡ s.want
  pub told : t.told ≡ s.told

-- just these bytes were read on, and it can go on
pub record IsReadOn (s t : ReadingState) (count : ℕ) (bytes : List ℕ) : Type 0 where
  pub later : IsLater s t
  pub reads : ReadsOn s t bytes
  pub count_is : length bytes ≡ count
  pub going : t.end ≡ None

-- it was read to its end: all of it has the digest that is wanted
pub record IsReadOut (s t : ReadingState) : Type 0 where
  pub later : IsLater s t
  pub rest : List ℕ
  pub reads : ReadsOn s t rest
  pub whole : IsRead t

-- the body has another digest than the one that is wanted
pub record IsFoundOut (s t : ReadingState) (got : HashAndSize) : Type 0 where
  pub later : IsLater s t
  pub damage : Explains t (Damaged s.want got)

-- ---- written

-- a draft without bytes
pub record IsNew (f : Filled) : Type 0 where
  pub empty : HasAdded f []
  pub going : f.refused ≡ false

-- just these bytes were added
pub record IsAdded (f g : Filled) (bytes : List ℕ) : Type 0 where
  pub adds : AddsOn f g bytes
  pub told : g.told ≡ appended f.told bytes
  pub going : g.refused ≡ false

-- the body is that of all bytes that were added to the draft
abbrev pub IsBody : Filled → Sealed → Type 0
IsBody f body = (bytes : List ℕ) → HasAdded f bytes → IsSealed bytes body
