-- Reading the message of a digest, with the first fault that is met.
use Rattle.std.specs.Prelude.{◌^◌, ◌==◌, nat_lt, unwrap_or, ℕ, Bool, true, false, List, [], length, Option, Some, None, Result, Ok, Err, if◌then◌else◌}
use Rattle.proto_wire.specs.declared.fault.WireError.{WireError}
use Rattle.proto_wire.specs.declared.fault.WireError.TheVariants as wire
use Rattle.proto_wire.specs.Field.{WireField, last_of, ints, contents_of}
use Rattle.proto_wire.specs.Reading.{fields_of}
use Rattle.proto_wire.specs.Steps.{FailsBut, GivesBut}
use Rattle.digest_types.specs.declared.error.DigestError.{DigestError}
use Rattle.digest_types.specs.declared.error.DigestError.TheVariants as errors
use Rattle.digest_types.specs.Name.{HashAndSize}
use Rattle.digest_types.specs.Hex.{unhex_of}

-- the refusal of a digest for a refusal of its fields
abbrev pub refusal_of : WireError → DigestError
refusal_of wire.OutOfMemory = errors.OutOfMemory
refusal_of (wire.Truncated at) = errors.Wire (wire.Truncated at)
refusal_of (wire.BadTag at) = errors.Wire (wire.BadTag at)
refusal_of (wire.BadVarint at) = errors.Wire (wire.BadVarint at)
refusal_of (wire.Group at) = errors.Wire (wire.Group at)

-- want of memory
abbrev pub wants_memory : DigestError → Bool
wants_memory errors.OutOfMemory = true
wants_memory _ = false

-- what a refusal says of what reading gives: want of memory says nothing
abbrev pub Fails : {Y : Type 0} → DigestError → Result Y DigestError → Type 0
Fails e read = FailsBut wants_memory e read

-- what a function returned, seen by view, is what reading gives, unless memory ran out
abbrev pub Gives : {X Y : Type 0} → (X → Y) → Result X DigestError → Result Y DigestError → Type 0
Gives view result read = GivesBut wants_memory view result read

-- the hash that a text of 64 digits of lower-case hex spells
unfoldable pub hash_of : List ℕ → Option (List ℕ)
hash_of text = if length text == 64 then unhex_of text else None

-- the digest of a hash, if there is one, and of a size
abbrev pub made_of : Option (List ℕ) → ℕ → Result HashAndSize DigestError
made_of None size = Err errors.BadHash
made_of (Some hash) size = if nat_lt size (2 ^ 63) then Ok (record { hash = hash; size = size }) else Err errors.NegativeSize

-- what the fields mean: field 1 is the hash as text, field 2 the size as int64; if one is missing, it is empty or 0
abbrev pub meant_by : Result (List WireField) WireError → Result HashAndSize DigestError
meant_by (Err e) = Err (refusal_of e)
meant_by (Ok fs) = made_of (hash_of (unwrap_or (last_of (contents_of 1 fs)) [])) (unwrap_or (last_of (ints 2 fs)) 0)

-- the digest that the content of its message spells
unfoldable pub digest_in : List ℕ → Result HashAndSize DigestError
digest_in bytes = meant_by (fields_of bytes)
