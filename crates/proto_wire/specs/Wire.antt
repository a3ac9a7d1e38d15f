-- The wire form (Protocol Buffers, Encoding) as a relation of whole lists: a spelled field, then the rest.
use Rattle.std.specs.Prelude.{◌≡◌, ◌+◌, ◌*◌, ◌^◌, ◌<◌, ◌≤◌, ℕ, List, [], ◌∷◌, ◌++◌, length}
use Rattle.std.specs.Int.{w32, w64, from_le_bytes}
use Rattle.proto_wire.specs.Field.{WireValue, int, fixed64, bytes, fixed32, WireField}

-- Groups of seven bits, the lowest first. Each byte but the last has its top bit set.
abbrev pub Groups : List ℕ → ℕ → Type 0
Groups [] n = ⊥
Groups (b ∷ []) n = (b < 128) × (n ≡ b)
Groups (b ∷ c ∷ bs) n = (128 ≤ b) × (b < 256) × ((high : ℕ) × (n + 128 ≡ b + 128 * high) × Groups (c ∷ bs) high)

-- A varint has at most ten bytes and a value of 64 bits, so the tenth byte is at most 1. It may be longer than
-- it has to be.
pub record IsVarint (text : List ℕ) (n : ℕ) : Type 0 where
  pub groups : Groups text n
  pub short : length text ≤ 10
  pub small : n < 2 ^ 64

-- the wire type of a value
abbrev pub wire_type : WireValue → ℕ
wire_type (int n) = 0
wire_type (fixed64 n) = 1
wire_type (bytes b) = 2
wire_type (fixed32 n) = 5

-- what stands behind the tag
abbrev pub IsContent : List ℕ → WireValue → Type 0
IsContent text (int n) = IsVarint text n
IsContent text (fixed64 n) = (length text ≡ 8) × (n ≡ from_le_bytes w64 text)
IsContent text (bytes b) = (front : List ℕ) × IsVarint front (length b) × (text ≡ front ++ b)
IsContent text (fixed32 n) = (length text ≡ 4) × (n ≡ from_le_bytes w32 text)

-- A spelling of a field is its tag, the varint of number * 8 + wire type, and its content.
pub record IsSpelling (text : List ℕ) (f : WireField) : Type 0 where
  pub tag : List ℕ
  pub content : List ℕ
  pub is_tag : IsVarint tag (8 * f.number + wire_type f.value)
  pub is_content : IsContent content f.value
  pub whole : text ≡ tag ++ content
  pub low : 0 < f.number
  pub high : f.number < 2 ^ 29

-- The bytes, the first of which stands at `at`, are spellings of these fields, one after the other.
abbrev pub Wire : ℕ → List ℕ → List WireField → Type 0
Wire at text [] = text ≡ []
Wire at text (f ∷ fs) = (first : List ℕ) × (rest : List ℕ) × IsSpelling first f × (f.at ≡ at) × (text ≡ first ++ rest)
    × Wire (at + length first) rest fs
