-- What `encode_block` writes: no entry is added to the peer's table, and no string is coded.
use Rattle.std.specs.Prelude.{◌+◌, ◌&&◌, nat_eq, ℕ, Bool, List, [], ◌∷◌, ◌++◌, length, position, flat_map, Option, Some, None, if◌then◌else◌}
use Rattle.std.specs.Cmp.Lexicographic.{pointwise}
use Rattle.hpack_tables.specs.declared.header.Header.{Header}
use Rattle.hpack_tables.specs.Integer.{int_spelled}
use Rattle.hpack_tables.specs.Table.{static_entries}

-- whether an entry has this name
abbrev pub has_name : List ℕ → Header → Bool
has_name name entry = pointwise nat_eq entry.name name

-- whether an entry is this header
abbrev pub is_header : Header → Header → Bool
is_header header entry = has_name header.name entry && pointwise nat_eq entry.value header.value

-- a string literal without the code
unfoldable pub string_spelled : List ℕ → List ℕ
string_spelled text = int_spelled 7 0 (length text) ++ text

-- the name of a literal, by the place of its first static entry
abbrev pub name_spelled : Option ℕ → List ℕ → List ℕ
name_spelled None name = 0 ∷ string_spelled name
name_spelled (Some place) name = int_spelled 4 0 (place + 1)

-- a header, by the place of the static entry that it is
abbrev pub header_by : Option ℕ → Header → List ℕ
header_by None header = name_spelled (position (has_name header.name) static_entries) header.name ++ string_spelled header.value
header_by (Some place) header = int_spelled 7 128 (place + 1)

-- A header that is a static entry is indexed, with its lowest index. Any other is a literal without indexing, with the lowest
-- static index of its name, or with the name spelled out.
unfoldable pub header_spelled : Header → List ℕ
header_spelled header = header_by (position (is_header header) static_entries) header

-- A block. One that shrinks the table begins with a size update to 0 bytes.
unfoldable pub block_spelled : List Header → Bool → List ℕ
block_spelled headers shrink = (if shrink then 32 ∷ [] else []) ++ flat_map header_spelled headers
