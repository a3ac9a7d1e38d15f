-- Fields as plain values, and what is looked up in a sequence of them.
use Rattle.std.specs.Prelude.{◌-◌, ◌==◌, ℕ, List, [], ◌∷◌, length, Option, Some, None, if◌then◌else◌, slice_get}
use Rattle.std.specs.List.{filter_map, concat}
use Rattle.proto_wire.specs.declared.field.Value.{Value}
use Rattle.proto_wire.specs.declared.field.Value.TheVariants as code
use Rattle.proto_wire.specs.declared.field.Field.{Field}

-- a value by its wire type: varint 0, 64 bits 1, bytes 2, 32 bits 5
pub data WireValue : Type 0 where
  int : ℕ → WireValue
  fixed64 : ℕ → WireValue
  bytes : List ℕ → WireValue
  fixed32 : ℕ → WireValue

-- a field: its number, the place of its first byte, and its value
pub record WireField : Type 0 where
  pub number : ℕ
  pub at : ℕ
  pub value : WireValue

-- a value of the code without where its bytes lie in memory
abbrev pub value_view : Value → WireValue
value_view (code.Int n) = int n
value_view (code.Fixed64 n) = fixed64 n
value_view (code.Bytes b) = bytes b.now
value_view (code.Fixed32 n) = fixed32 n

-- a field of the code without where its bytes lie in memory
abbrev pub field_view : Field → WireField
field_view f = record { number = f.number; at = f.at; value = value_view f.value }

-- the number that a varint holds
abbrev pub int_value : WireValue → Option ℕ
int_value (int n) = Some n
int_value (fixed64 n) = None
int_value (bytes b) = None
int_value (fixed32 n) = None

-- the content of a value with a length
abbrev pub bytes_value : WireValue → Option (List ℕ)
bytes_value (int n) = None
bytes_value (fixed64 n) = None
bytes_value (bytes b) = Some b
bytes_value (fixed32 n) = None

-- what a field of this number holds as a varint
abbrev pub int_of : ℕ → WireField → Option ℕ
int_of number f = if f.number == number then int_value f.value else None

-- what a field of this number holds as bytes
abbrev pub bytes_of : ℕ → WireField → Option (List ℕ)
bytes_of number f = if f.number == number then bytes_value f.value else None

-- the varints of a number, in order
abbrev pub ints : ℕ → List WireField → List ℕ
ints number fs = filter_map (int_of number) fs

-- the contents of a number, in order
abbrev pub contents_of : ℕ → List WireField → List (List ℕ)
contents_of number fs = filter_map (bytes_of number) fs

-- the last of a list
abbrev pub last_of : {A : Type 0} → List A → Option A
last_of xs = slice_get xs (length xs - 1)

-- the contents one after the other, if there are any
abbrev pub joined_of : List (List ℕ) → Option (List ℕ)
joined_of [] = None
joined_of (c ∷ cs) = Some (concat (c ∷ cs))
