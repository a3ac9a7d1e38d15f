-- Repeated varints (Protocol Buffers, Encoding, "Packed repeated fields"): a list stands in one field with a length,
-- one varint after the other, or each number in a field of its own, or partly so.
use Rattle.std.specs.Prelude.{◌==◌, ℕ, zero, suc, List, [], ◌∷◌, ◌++◌, length, Result, Ok, if◌then◌else◌}
use Rattle.proto_wire.specs.declared.fault.WireError.{WireError}
use Rattle.proto_wire.specs.Field.{WireValue, int, fixed64, bytes, fixed32, WireField}
use Rattle.proto_wire.specs.Steps.{◌>>=◌}
use Rattle.proto_wire.specs.Reading.{varint_at}

-- The varints of a packed list. A fault stands at the first byte of the field. `fuel` is at least the length.
unfoldable pub varints_in : ℕ → ℕ → List ℕ → Result (List ℕ) WireError
varints_in fuel at [] = Ok []
varints_in zero at (b ∷ bs) = Ok []
varints_in (suc fuel) at (b ∷ bs) = do
  first ← varint_at at 10 (b ∷ bs)
  others ← varints_in fuel at first.1
  Ok (first.0 ∷ others)

-- the numbers that a value adds to a list
abbrev pub numbers_in : ℕ → WireValue → Result (List ℕ) WireError
numbers_in at (int n) = Ok (n ∷ [])
numbers_in at (fixed64 n) = Ok []
numbers_in at (bytes b) = varints_in (length b) at b
numbers_in at (fixed32 n) = Ok []

-- the numbers that a field adds to the list of this number
abbrev pub numbers_of : ℕ → WireField → Result (List ℕ) WireError
numbers_of number f = if f.number == number then numbers_in f.at f.value else Ok []

-- the list of this number, packed or not, or its first fault
unfoldable pub packed_of : ℕ → List WireField → Result (List ℕ) WireError
packed_of number [] = Ok []
packed_of number (f ∷ fs) = do
  ns ← numbers_of number f
  others ← packed_of number fs
  Ok (ns ++ others)
