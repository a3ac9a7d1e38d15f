-- The script of a call: what it does next, and then what, by what comes.
use Rattle.std.specs.Prelude.{◌≡◌, ◌+◌, ℕ, List, [], ◌∷◌, Result, Ok}
use Rattle.digest_types.specs.Name.{HashAndSize}
use Rattle.store_core.specs.declared.event.Event.{Event}
use Rattle.store_core.specs.declared.event.Reply.{Reply}
use Rattle.blob_store.specs.Applied.{gives_up}
use Rattle.blob_store.specs.Bodies.{Filled, ReadingState, Sealed}
use Rattle.cas_calls.specs.Bodies.{IsBegun, IsReadOn, IsReadOut, IsFoundOut, IsNew, IsAdded, IsBody}

-- What is asked of the shelf: to take these bytes as a body; to give a body up; to begin to read the body of this digest; to read
-- that body, up to one byte more than the digest says; to read on by just so many bytes, or all that is left; to begin a draft,
-- to add these bytes to it, to make it a body, or to give it up.
pub data Asked : Type 0 where
  Keep : List ℕ → Asked
  Discard : Asked
  Reader : HashAndSize → Asked
  Whole : HashAndSize → Asked
  More : ReadingState → ℕ → Asked
  Rest : ReadingState → Asked
  Draft : Asked
  Add : Filled → List ℕ → Asked
  Seal : Filled → Asked
  Drop : Asked

-- It did so; it failed; it gave these bytes; the body is read from its first byte on; it was read on by these bytes; it was read to
-- its end, and has the digest that is wanted; it has this other digest; the draft stands so; or it became this body.
pub data Told : Type 0 where
  Did : Told
  Failed : Told
  Gave : List ℕ → Told
  Began : ReadingState → Told
  Went : ReadingState → List ℕ → Told
  Ended : ReadingState → Told
  FoundOut : ReadingState → HashAndSize → Told
  Drafted : Filled → Told
  Became : Sealed → Told

-- What is told of a reading, a draft or a body is so.
abbrev pub IsTold : Asked → Told → Type 0
IsTold (Reader d) (Began s) = IsBegun d s
IsTold (More s n) (Went t bytes) = IsReadOn s t n bytes
IsTold (More s n) (FoundOut t got) = IsFoundOut s t got
IsTold (Rest s) (Ended t) = IsReadOut s t
IsTold (Rest s) (FoundOut t got) = IsFoundOut s t got
IsTold Draft (Drafted f) = IsNew f
IsTold (Add f bytes) (Drafted g) = IsAdded f g bytes
IsTold (Seal f) (Became body) = IsBody f body
IsTold _ Did = Unit {0}
IsTold _ Failed = Unit {0}
IsTold _ (Gave bytes) = Unit {0}
IsTold _ _ = ⊥

-- the bytes that it gave
abbrev pub given : Told → List ℕ
given (Gave bytes) = bytes
given _ = []

-- What a call does, in order: it ends with an answer; it makes an entry, and goes on by the reply; it needs memory, and goes on
-- by the first part where it is wanting; or it asks something of the shelf, and goes on by what it is told.
pub data Script (A : Type 0) : Type 0 where
  End : A → Script A
  Make : Event → (Reply → Script A) → Script A
  Room : Script A → Script A → Script A
  Ask : Asked → (Told → Script A) → Script A

-- A script that goes on, where it ends, by its answer.
abbrev pub and_then : {A B : Type 0} → Script A → (A → Script B) → Script B
and_then (End answer) next = next answer
and_then (Make event k) next = Make event (λ reply. and_then (k reply) next)
and_then (Room wanting t) next = Room (and_then wanting next) (and_then t next)
and_then (Ask asked k) next = Ask asked (λ told. and_then (k told) next)

-- What a call does on its way: an entry with its reply, a question with what was told, and memory that was there or was wanting.
pub data Step : Type 0 where
  Made : Event → Reply → Step
  Heard : Asked → Told → Step
  Fit : Step
  Broke : Step

-- whether this step may come next
abbrev pub Takes : {A : Type 0} → Script A → Step → Type 0
Takes (Make event k) (Made e reply) = e ≡ event
Takes (Room wanting t) Fit = Unit {0}
Takes (Room wanting t) Broke = Unit {0}
Takes (Ask asked k) (Heard a told) = (a ≡ asked) × IsTold asked told
Takes _ _ = ⊥

-- where it leads
abbrev pub after : {A : Type 0} → Script A → Step → Script A
after (Make event k) (Made e reply) = k reply
after (Room wanting t) Fit = t
after (Room wanting t) Broke = wanting
after (Ask asked k) (Heard a told) = k told
after s _ = s

-- the steps lead from one place of a script to another
abbrev pub Follows : {A : Type 0} → Script A → List Step → Script A → Type 0
Follows s [] t = s ≡ t
Follows s (x ∷ xs) t = Takes s x × Follows (after s x) xs t

-- the entries that were made, in order
abbrev pub made : List Step → List (Event × Reply)
made [] = []
made (Made event reply ∷ xs) = (event, reply) ∷ made xs
made (Heard asked told ∷ xs) = made xs
made (Fit ∷ xs) = made xs
made (Broke ∷ xs) = made xs

-- how often the shelf failed
abbrev pub failure : Told → ℕ
failure Failed = 1
failure _ = 0

abbrev pub failures : List Step → ℕ
failures [] = 0
failures (Made event reply ∷ xs) = failures xs
failures (Heard asked told ∷ xs) = failure told + failures xs
failures (Fit ∷ xs) = failures xs
failures (Broke ∷ xs) = failures xs

-- how many drafts were given up
abbrev pub drop : Asked → ℕ
drop Drop = 1
drop _ = 0

abbrev pub drops : List Step → ℕ
drops [] = 0
drops (Made event reply ∷ xs) = drops xs
drops (Heard asked told ∷ xs) = drop asked + drops xs
drops (Fit ∷ xs) = drops xs
drops (Broke ∷ xs) = drops xs

-- how many bodies were given up: those of rows that went, those of puts that weren't kept, and those that the call gave up
abbrev pub discard : Asked → ℕ
discard Discard = 1
discard _ = 0

abbrev pub discards : List Step → ℕ
discards [] = 0
discards (Made event reply ∷ xs) = gives_up {E = Unit {0}} event (Ok reply) + discards xs
discards (Heard asked told ∷ xs) = discard asked + discards xs
discards (Fit ∷ xs) = discards xs
discards (Broke ∷ xs) = discards xs
