-- Reading fields from left to right, with the first fault that is met and its place.
use Rattle.std.specs.Prelude.{◌≡◌, ◌≢◌, ◌+◌, ◌-◌, ◌*◌, ◌/◌, ◌%◌, ◌==◌, ◌||◌, nat_lt, nat_le, ℕ, zero, suc, Bool, true, false, List, [], ◌∷◌, ◌++◌, length, take, drop, ◌<◌, slice_index_or, Result, Ok, Err, if◌then◌else◌}
use Rattle.std.specs.Int.{Width, w32, w64, byte_len, from_le_bytes}
use Rattle.proto_wire.specs.declared.fault.WireError.{WireError}
use Rattle.proto_wire.specs.declared.fault.WireError.TheVariants as errors
use Rattle.proto_wire.specs.Steps.{◌>>=◌, FailsBut, GivesBut}
use Rattle.proto_wire.specs.Field.{WireValue, int, fixed64, bytes, fixed32, WireField}
use Rattle.proto_wire.specs.Wire.{IsSpelling, Wire}

-- each number is that of a byte
abbrev pub IsBytes : List ℕ → Type 0
IsBytes text = (i : ℕ) → slice_index_or text i 0 < 256

-- want of memory
abbrev pub wants_memory : WireError → Bool
wants_memory errors.OutOfMemory = true
wants_memory _ = false

-- what a refusal says of what reading gives: want of memory says nothing
abbrev pub Fails : {Y : Type 0} → WireError → Result Y WireError → Type 0
Fails e read = FailsBut wants_memory e read

-- what a function returned, seen by view, is what reading gives, unless memory ran out
abbrev pub Gives : {X Y : Type 0} → (X → Y) → Result X WireError → Result Y WireError → Type 0
Gives view result read = GivesBut wants_memory view result read

-- a varint of at most `more` bytes, and the bytes after it
unfoldable pub varint_at : ℕ → ℕ → List ℕ → Result (ℕ × List ℕ) WireError
varint_at at more [] = Err (errors.Truncated at)
varint_at at more (b ∷ rest) =
    if nat_le more 1 then (if nat_lt 1 b then Err (errors.BadVarint at) else Ok (b, rest))
    else if nat_lt b 128 then Ok (b, rest)
    else (do
      high ← varint_at at (more - 1) rest
      Ok (b - 128 + 128 * high.0, high.1))

-- a number of this width, little-endian
abbrev pub fixed_at : ℕ → Width → List ℕ → Result (ℕ × List ℕ) WireError
fixed_at at w text =
    if nat_lt (length text) (byte_len w) then Err (errors.Truncated at)
    else Ok (from_le_bytes w (take (byte_len w) text), drop (byte_len w) text)

-- the number and the wire type of a tag
unfoldable pub tag_at : ℕ → List ℕ → Result ((ℕ × ℕ) × List ℕ) WireError
tag_at at text = do
  key ← varint_at at 10 text
  if key.0 % 8 == 3 || key.0 % 8 == 4 then Err (errors.Group at)
      else if nat_lt 5 (key.0 % 8) || key.0 / 8 == 0 || nat_lt 0x1fff_ffff (key.0 / 8) then Err (errors.BadTag at)
      else Ok ((key.0 / 8, key.0 % 8), key.1)

-- as many bytes as the varint before them says
unfoldable pub sized_at : ℕ → List ℕ → Result (List ℕ × List ℕ) WireError
sized_at at text = do
  size ← varint_at at 10 text
  if nat_lt (length size.1) size.0 then Err (errors.Truncated at)
      else Ok (take size.0 size.1, drop size.0 size.1)

-- the value of a wire type that is 0, 1, 2 or 5
unfoldable pub value_at : ℕ → ℕ → List ℕ → Result (WireValue × List ℕ) WireError
value_at at wire text =
    if wire == 0 then (do
      n ← varint_at at 10 text
      Ok (int n.0, n.1))
    else if wire == 1 then (do
      n ← fixed_at at w64 text
      Ok (fixed64 n.0, n.1))
    else if wire == 2 then (do
      b ← sized_at at text
      Ok (bytes b.0, b.1))
    else (do
      n ← fixed_at at w32 text
      Ok (fixed32 n.0, n.1))

-- the field whose first byte stands at `at`, and the bytes after it
unfoldable pub field_at : ℕ → List ℕ → Result (WireField × List ℕ) WireError
field_at at text = do
  tag ← tag_at at text
  value ← value_at at tag.0.1 tag.1
  Ok (record { number = tag.0.0; at = at; value = value.0 }, value.1)

-- the fields of the rest of a text of `whole` bytes; `fuel` is at least the length of the rest
unfoldable pub fields_in : ℕ → ℕ → List ℕ → Result (List WireField) WireError
fields_in fuel whole [] = Ok []
fields_in zero whole (b ∷ bs) = Ok []
fields_in (suc fuel) whole (b ∷ bs) = do
  first ← field_at (whole - length (b ∷ bs)) (b ∷ bs)
  others ← fields_in fuel whole first.1
  Ok (first.0 ∷ others)

-- the fields of some bytes
unfoldable pub fields_of : List ℕ → Result (List WireField) WireError
fields_of text = fields_in (length text) (length text) text

-- Where a refusal comes: behind the longest prefix that is a sequence of fields, where the bytes go on, but no spelling of
-- a field begins. Which one it is, is the first fault of a field that is read there.
pub record Refuses (text : List ℕ) (e : WireError) : Type 0 where
  pub front : List ℕ
  pub rest : List ℕ
  pub fields : List WireField
  pub whole : text ≡ front ++ rest
  pub before : Wire 0 front fields
  pub goes_on : rest ≢ []
  pub fault : field_at (length front) rest ≡ Err e
  pub no_spelling : (f : WireField) (first after : List ℕ) → IsSpelling first f → rest ≡ first ++ after → ⊥
