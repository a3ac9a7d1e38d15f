-- The faults of messages, and what a refusal of the code says.
use Rattle.std.specs.Prelude.{ℕ, Bool, true, false, Result, Ok, Err}
use Rattle.proto_wire.specs.Steps.{FailsBut, GivesBut}
use Rattle.proto_wire.specs.declared.fault.WireError.{WireError}
use Rattle.proto_wire.specs.declared.fault.WireError.TheVariants as wire
use Rattle.digest_types.specs.declared.error.DigestError.{DigestError}
use Rattle.digest_types.specs.declared.error.DigestError.TheVariants as digests
use Rattle.cas_messages.specs.declared.error.MessageError.{MessageError}
use Rattle.cas_messages.specs.declared.error.MessageError.TheVariants as errors

-- want of memory
abbrev pub wants_memory : MessageError → Bool
wants_memory errors.OutOfMemory = true
wants_memory _ = false

-- what a refusal says of what reading gives: want of memory says nothing
abbrev pub Fails : {Y : Type 0} → MessageError → Result Y MessageError → Type 0
Fails e read = FailsBut wants_memory e read

-- what a function returned, seen by view, is what reading gives, unless memory ran out
abbrev pub Gives : {X Y : Type 0} → (X → Y) → Result X MessageError → Result Y MessageError → Type 0
Gives view result read = GivesBut wants_memory view result read

-- bytes that aren't a sequence of fields, in the content of a field, or 0 for the message itself
abbrev pub wire_fault : ℕ → WireError → MessageError
wire_fault field wire.OutOfMemory = errors.OutOfMemory
wire_fault field (wire.Truncated at) = errors.Wire field (wire.Truncated at)
wire_fault field (wire.BadTag at) = errors.Wire field (wire.BadTag at)
wire_fault field (wire.BadVarint at) = errors.Wire field (wire.BadVarint at)
wire_fault field (wire.Group at) = errors.Wire field (wire.Group at)

-- the fault of the digest at this position of a field
abbrev pub digest_fault : ℕ → ℕ → DigestError → MessageError
digest_fault field index digests.OutOfMemory = errors.OutOfMemory
digest_fault field index (digests.Wire e) = wire_fault field e
digest_fault field index digests.BadHash = errors.BadDigest field index
digest_fault field index digests.NegativeSize = errors.BadDigest field index
digest_fault field index digests.BadSize = errors.BadDigest field index

-- a fault of the message embedded at this position of a field is one of that field
abbrev pub inside : ℕ → ℕ → MessageError → MessageError
inside field index errors.OutOfMemory = errors.OutOfMemory
inside field index (errors.Wire inner e) = errors.Wire field e
inside field index (errors.NotUtf8 inner) = errors.NotUtf8 field
inside field index (errors.BadDigest inner i) = errors.BadDigest field index

-- what was read, with a fault that was met put in its place
abbrev pub with_fault : {A E : Type 0} → (E → MessageError) → Result A E → Result A MessageError
with_fault f (Ok x) = Ok x
with_fault f (Err e) = Err (f e)
