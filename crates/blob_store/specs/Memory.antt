-- The shelf in memory as a plain value, and what its calls give.
use Rattle.std.specs.Prelude.{◌+◌, ◌-◌, ◌%◌, ◌^◌, min, not, ℕ, Bool, true, false, List, [], ◌∷◌, length, map, drop, Option, Some, None, if◌then◌else◌}
use Rattle.casd_base.specs.Memory.{counted}
use Rattle.digest_types.specs.Name.{HashAndSize}
use Rattle.blob_store.specs.Shelves.{Shelved}
use Rattle.blob_store.specs.declared.memory.MemDraft.{MemDraft}
use Rattle.blob_store.specs.declared.memory.MemBody.{MemBody}
use Rattle.blob_store.specs.declared.memory.MemReader.{MemReader}

-- the bytes of the bodies to be found; which calls fail and which drafts are spoilt, by their numbers from 0; how many
-- calls and drafts there were; the count of faults, and how many bodies and drafts were given up; and the saved list
pub record MemState : Type 0 where
  pub found : List (List ℕ)
  pub failing : List ℕ
  pub spoilt : List ℕ
  pub calls : ℕ
  pub drafts : ℕ
  pub faults : ℕ
  pub discarded : ℕ
  pub dropped : ℕ
  pub saved : List HashAndSize

-- whether there are any numbers
abbrev pub are_some : List ℕ → Bool
are_some [] = false
are_some (n ∷ numbers) = true

-- what the shelf tells of itself
abbrev pub shelved_of : MemState → Shelved
shelved_of s = record { faults = s.faults; discarded = s.discarded; dropped = s.dropped; may_fail = are_some s.failing; found = Some (map (λ bytes. Some bytes) s.found); to_find = min (length s.found) (2 ^ 63); saved = Some s.saved }

-- a call was made
abbrev pub after_call : MemState → MemState
after_call s = record s { calls = counted s.calls }

-- a call failed
abbrev pub after_fault : MemState → MemState
after_fault s = record s { calls = counted s.calls; faults = counted s.faults }

-- a draft couldn't be made a body, and was given up
abbrev pub after_lost : MemState → MemState
after_lost s = record s { calls = counted s.calls; faults = counted s.faults; dropped = counted s.dropped }

-- a draft was given up
abbrev pub after_drop : MemState → MemState
after_drop s = record s { dropped = counted s.dropped }

-- a body was given up
abbrev pub after_discard : MemState → MemState
after_discard s = record s { discarded = counted s.discarded }

-- a draft was made
abbrev pub after_draft : MemState → MemState
after_draft s = record s { calls = counted s.calls; drafts = counted s.drafts }

-- the first body was found
abbrev pub after_found : MemState → MemState
after_found s = record s { calls = counted s.calls; found = drop 1 s.found }

-- the first byte reads one higher
abbrev pub raised_first : List ℕ → List ℕ
raised_first [] = []
raised_first (b ∷ rest) = ((b + 1) % 256) ∷ rest

-- the body of a draft: one that was spoilt has other bytes, and tells nothing
abbrev pub body_of : MemDraft → MemBody
body_of d = record { bytes = if d.spoilt then raised_first d.bytes else d.bytes; told = not d.spoilt }

-- the reader of a body
abbrev pub reader_of : MemBody → MemReader
reader_of b = record { bytes = b.bytes; told = b.told }

-- the body of these bytes, which tells them
abbrev pub body_with : List ℕ → MemBody
body_with bytes = record { bytes = bytes; told = true }

-- the body that is found first
abbrev pub first_body : List (List ℕ) → Option MemBody
first_body [] = None
first_body (bytes ∷ rest) = Some (body_with bytes)

-- bytes that are told or not
abbrev pub told_if : Bool → List ℕ → Option (List ℕ)
told_if told bytes = if told then Some bytes else None

-- how many bytes a read into so much room gives at a place
abbrev pub given_at : List ℕ → ℕ → ℕ → ℕ
given_at bytes at room = min room (length bytes - at)
