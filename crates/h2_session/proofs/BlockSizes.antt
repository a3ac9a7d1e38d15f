-- A block of headers within their limit fits one frame.
use Rattle.std.proofs.Common.{ℕ, zero, suc, ◌+◌, ◌-◌, ◌/◌, ◌≤◌, Bool, true, false, List, [], ◌∷◌, length, arith, length-append}
use Rattle.std.specs.Prelude.{Option, Some, None, position, flat_map}
use Rattle.std.proofs.lemmas.List.Sums.{sum_by-cons}
use Rattle.hpack_tables.specs.declared.header.Header.{Header}
use Rattle.hpack_tables.specs.Integer.{int_spelled, groups_of, filled}
use Rattle.hpack_tables.specs.Encoding.{string_spelled, name_spelled, header_by, header_spelled, block_spelled, is_header, has_name}
use Rattle.hpack_tables.specs.Table.{static_entries, size_of, list_size}

groups_short : (most n : ℕ) → length (groups_of most n) ≤ most
groups_short zero n = grind arith
groups_short (suc most) n = grind (arith, groups_short most (n / 128))

int_short : (bits high value : ℕ) → length (int_spelled bits high value) ≤ 11
unfolding int_spelled
int_short bits high value = grind (arith, groups_short 10 (value - filled bits))

string_short : (text : List ℕ) → length (string_spelled text) ≤ 11 + length text
unfolding string_spelled
string_short text = simp length-append (omega (arith, int_short 7 0 (length text)))

name_short : (place : Option ℕ) (name : List ℕ) → length (name_spelled place name) ≤ 12 + length name
name_short None name = omega (arith, string_short name)
name_short (Some place) name = omega (arith, int_short 4 0 (place + 1))

by_short : (place : Option ℕ) (header : Header) → length (header_by place header) + 1 ≤ size_of header
by_short None header = simp length-append (omega (arith, name_short (position (has_name header.name) static_entries) header.name, string_short header.value))
by_short (Some place) header = omega (arith, int_short 7 128 (place + 1))

header_short : (header : Header) → length (header_spelled header) + 1 ≤ size_of header
unfolding header_spelled
header_short header = by_short (position (is_header header) static_entries) header

headers_short : (headers : List Header) → length (flat_map header_spelled headers) + length headers ≤ list_size headers
headers_short [] = grind arith
headers_short (header ∷ headers) = rw (sum_by-cons size_of header headers) (simp length-append (omega (arith, header_short header, headers_short headers)))

some_or_none : (headers : List Header) → length (flat_map header_spelled headers) + length headers ≤ list_size headers → list_size headers ≤ 16384 → 1 + length (flat_map header_spelled headers) ≤ 16384
some_or_none [] h small = grind arith
some_or_none (header ∷ headers) h small = omega arith

pub block_short : (headers : List Header) (shrink : Bool) → list_size headers ≤ 16384 → length (block_spelled headers shrink) ≤ 16384
unfolding block_spelled
block_short headers true small = let h = some_or_none headers (headers_short headers) small in omega arith
block_short headers false small = let h = some_or_none headers (headers_short headers) small in omega arith
