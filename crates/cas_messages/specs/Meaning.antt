-- What the fields of a message mean (Protocol Buffers, Encoding; Remote Execution API v2).
use Rattle.std.specs.Prelude.{◌+◌, ◌%◌, ◌^◌, ◌==◌, not, map, unwrap_or, ℕ, ℤ, List, [], ◌∷◌, Option, Some, None, Result, Ok, Err, if◌then◌else◌}
use Rattle.std.specs.Int.{w32, w64, cast_signed}
use Rattle.std.specs.Str.{is_utf8}
use Rattle.proto_wire.specs.Field.{WireField, last_of, ints, contents_of, joined_of}
use Rattle.proto_wire.specs.Reading.{fields_of}
use Rattle.proto_wire.specs.Packed.{packed_of}
use Rattle.digest_types.specs.Name.{HashAndSize}
use Rattle.digest_types.specs.Reading.{digest_in}
use Rattle.cas_messages.specs.declared.error.MessageError.{MessageError}
use Rattle.cas_messages.specs.declared.error.MessageError.TheVariants as errors
use Rattle.proto_wire.specs.Steps.{◌>>=◌}
use Rattle.cas_messages.specs.Fault.{wire_fault, digest_fault, inside, with_fault}
use Rattle.cas_messages.specs.Table.{Kind, int32, int64, bool, text, bytes, digest, optional_digest, int32_list, text_list, bytes_list, digest_list, Of, Table, end, field, message, message_list, Value}

-- the last varint of a number counts; a missing one is 0
abbrev pub int_at : ℕ → List WireField → ℕ
int_at number fs = unwrap_or (last_of (ints number fs)) 0

-- an int32 or an enum is the low 32 bits, signed
abbrev pub int32_of : ℕ → ℤ
int32_of n = cast_signed w32 (n % 2 ^ 32)

-- the last content of a number counts; a missing one is empty
abbrev pub content_at : ℕ → List WireField → List ℕ
content_at number fs = unwrap_or (last_of (contents_of number fs)) []

-- a text is UTF-8
abbrev pub text_from : ℕ → List ℕ → Result (List ℕ) MessageError
text_from number b = if is_utf8 b then Ok b else Err (errors.NotUtf8 number)

-- the digest at this position of a field
abbrev pub digest_from : ℕ → ℕ → List ℕ → Result HashAndSize MessageError
digest_from number index b = with_fault (digest_fault number index) (digest_in b)

-- a required digest
abbrev pub digest_by : ℕ → Option (List ℕ) → Result HashAndSize MessageError
digest_by number None = Err (errors.BadDigest number 0)
digest_by number (Some b) = digest_from number 0 b

-- an optional digest
abbrev pub optional_by : ℕ → Option (List ℕ) → Result (Option HashAndSize) MessageError
optional_by number None = Ok None
optional_by number (Some b) = digest_from number 0 b >>= λ d. Ok (Some d)

-- the elements of a list, in their order; the first one has this position
unfoldable pub each : {A : Type 0} → (ℕ → List ℕ → Result A MessageError) → ℕ → List (List ℕ) → Result (List A) MessageError
each read index [] = Ok []
each read index (c ∷ cs) = do
  x ← read index c
  xs ← each read (index + 1) cs
  Ok (x ∷ xs)

-- what the fields of this number mean as a value of this kind
unfoldable pub field_in : (kind : Kind) → ℕ → List WireField → Result (Of kind) MessageError
field_in int32 number fs = Ok (int32_of (int_at number fs))
field_in int64 number fs = Ok (cast_signed w64 (int_at number fs))
field_in bool number fs = Ok (not (int_at number fs == 0))
field_in text number fs = text_from number (content_at number fs)
field_in bytes number fs = Ok (content_at number fs)
field_in digest number fs = digest_by number (joined_of (contents_of number fs))
field_in optional_digest number fs = optional_by number (joined_of (contents_of number fs))
field_in int32_list number fs = with_fault (wire_fault number) (packed_of number fs) >>= λ ns. Ok (map int32_of ns)
field_in text_list number fs = each (λ index. text_from number) 0 (contents_of number fs)
field_in bytes_list number fs = Ok (contents_of number fs)
field_in digest_list number fs = each (digest_from number) 0 (contents_of number fs)

-- a message whose fields are read so
abbrev pub message_by : {A : Type 0} → (List WireField → Result A MessageError) → List ℕ → Result A MessageError
message_by read b = with_fault (wire_fault 0) (fields_of b) >>= read

-- The message of this number, whose fields are read so: the contents of all its fields are joined, which merges them; a
-- missing one has an empty content.
abbrev pub one_in : {A : Type 0} → (List WireField → Result A MessageError) → ℕ → List WireField → Result A MessageError
one_in read number fs = with_fault (inside number 0) (message_by read (unwrap_or (joined_of (contents_of number fs)) []))

-- the messages of this number, whose fields are read so
abbrev pub list_in : {A : Type 0} → (List WireField → Result A MessageError) → ℕ → List WireField → Result (List A) MessageError
list_in read number fs = each (λ index c. with_fault (inside number index) (message_by read c)) 0 (contents_of number fs)

-- what the fields of a message mean: that of each row, in their order
unfoldable pub fields_in : (table : Table) → List WireField → Result (Value table) MessageError
fields_in end fs = Ok tt
fields_in (field number kind rows) fs = do
  v ← field_in kind number fs
  vs ← fields_in rows fs
  Ok (v, vs)
fields_in (message number inner rows) fs = do
  v ← one_in (fields_in inner) number fs
  vs ← fields_in rows fs
  Ok (v, vs)
fields_in (message_list number inner rows) fs = do
  v ← list_in (fields_in inner) number fs
  vs ← fields_in rows fs
  Ok (v, vs)

-- the message that some bytes spell
abbrev pub message_in : (table : Table) → List ℕ → Result (Value table) MessageError
message_in table b = message_by (fields_in table) b
