-- Fields as this project writes them: with the shortest varints.
use Rattle.std.specs.Prelude.{◌≡◌, ◌+◌, ◌*◌, ◌/◌, ◌%◌, ◌^◌, ◌<◌, ◌==◌, ◌||◌, nat_lt, ℕ, zero, suc, List, [], ◌∷◌, ◌++◌, length, if◌then◌else◌}
use Rattle.std.specs.Int.{w32, w64, to_le_bytes}
use Rattle.proto_wire.specs.Field.{WireValue, int, fixed64, bytes, fixed32, WireField}
use Rattle.proto_wire.specs.Wire.{wire_type}

-- a number in at most this many groups of seven bits, the lowest first; each byte but the last has its top bit set
unfoldable pub groups_of : ℕ → ℕ → List ℕ
groups_of zero n = n ∷ []
groups_of (suc more) n = if more == 0 || nat_lt n 128 then n ∷ [] else (n % 128 + 128) ∷ groups_of more (n / 128)

-- the shortest varint of a number below 2^64
abbrev pub varint : ℕ → List ℕ
varint n = groups_of 10 n

-- what a varint of this many bytes stays below: the last of ten bytes is at most 1
unfoldable pub bound : ℕ → ℕ
bound zero = 0
bound (suc more) = if more == 0 then 2 else 128 * bound more

-- a field with a varint
abbrev pub int_field : ℕ → ℕ → List ℕ
int_field number n = varint (8 * number) ++ varint n

-- a field with bytes
abbrev pub bytes_field : ℕ → List ℕ → List ℕ
bytes_field number b = varint (8 * number + 2) ++ (varint (length b) ++ b)

-- the new list begins with the old one
abbrev pub Extends : List ℕ → List ℕ → Type 0
Extends old new = (more : List ℕ) × (new ≡ old ++ more)

-- the shortest content of a value
abbrev pub content_of : WireValue → List ℕ
content_of (int n) = varint n
content_of (fixed64 n) = to_le_bytes w64 n
content_of (bytes b) = varint (length b) ++ b
content_of (fixed32 n) = to_le_bytes w32 n

-- the shortest spelling of a field
abbrev pub spelled : WireField → List ℕ
spelled f = varint (8 * f.number + wire_type f.value) ++ content_of f.value

-- the number, or the length, is one that the value can have
abbrev pub FitsValue : WireValue → Type 0
FitsValue (int n) = n < 2 ^ 64
FitsValue (fixed64 n) = n < 2 ^ 64
FitsValue (bytes b) = length b < 2 ^ 64
FitsValue (fixed32 n) = n < 2 ^ 32

-- a field that has a spelling
pub record Fits (f : WireField) : Type 0 where
  pub low : 0 < f.number
  pub high : f.number < 2 ^ 29
  pub value : FitsValue f.value
