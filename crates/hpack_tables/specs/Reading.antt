-- Reading a block from left to right, with the first offence that is met.
use Rattle.std.specs.Prelude.{◌+◌, ◌-◌, ◌*◌, ◌%◌, ◌^◌, ◌&&◌, nat_lt, ℕ, zero, suc, Bool, true, false, List, [], ◌∷◌, length, take, drop, Option, Some, None, Result, Ok, Err, if◌then◌else◌}
use Rattle.proto_wire.specs.Steps.{◌>>=◌, FailsBut, GivesBut}
use Rattle.hpack_tables.specs.declared.header.Header.{Header}
use Rattle.hpack_tables.specs.declared.offence.Offence.{Offence}
use Rattle.hpack_tables.specs.declared.offence.Offence.TheVariants as offences
use Rattle.hpack_tables.specs.declared.fault.HpackFault.{HpackFault}
use Rattle.hpack_tables.specs.declared.fault.HpackFault.TheVariants as faults
use Rattle.hpack_tables.specs.Huffman.{text_of}
use Rattle.hpack_tables.specs.Integer.{filled}
use Rattle.hpack_tables.specs.Table.{HeaderTable, size_of, header_at, with_entry, with_max}
use Rattle.hpack_tables.specs.Block.{max_table, max_list}

-- want of memory
abbrev pub wants_memory : Offence → Bool
wants_memory offences.OutOfMemory = true
wants_memory _ = false

-- what a refusal says of what reading gives: want of memory says nothing
abbrev pub Fails : {Y : Type 0} → Offence → Result Y Offence → Type 0
Fails d read = FailsBut wants_memory d read

-- what a function returned, seen by view, is what reading gives, unless memory ran out
abbrev pub Gives : {X Y : Type 0} → (X → Y) → Result X Offence → Result Y Offence → Type 0
Gives view result read = GivesBut wants_memory view result read

-- The groups after a filled prefix, at most so many, and the bytes after them. Only a byte after the last of them tells that
-- there are too many.
unfoldable pub groups_at : ℕ → List ℕ → Result (ℕ × List ℕ) Offence
groups_at more [] = Err offences.Truncated
groups_at zero (b ∷ rest) = Err offences.Int
groups_at (suc more) (b ∷ rest) =
    if nat_lt b 128 then Ok (b, rest)
    else (do
      high ← groups_at more rest
      Ok (b - 128 + 128 * high.0, high.1))

-- a value of 32 bits
abbrev pub small_int : ℕ × List ℕ → Result (ℕ × List ℕ) Offence
small_int read = if nat_lt read.0 (2 ^ 32) then Ok read else Err offences.Int

-- the integer whose prefix is so many bits of the first byte, and the bytes after it
unfoldable pub int_at : ℕ → List ℕ → Result (ℕ × List ℕ) Offence
int_at bits [] = Err offences.Truncated
int_at bits (b ∷ rest) =
    if nat_lt (b % 2 ^ bits) (filled bits) then Ok (b % 2 ^ bits, rest)
    else (do
      more ← groups_at 5 rest
      small_int (filled bits + more.0, more.1))

-- the text of a coded string
abbrev pub text_or_offence : Option (List ℕ) → List ℕ → Result (List ℕ × List ℕ) Offence
text_or_offence None rest = Err offences.Huffman
text_or_offence (Some text) rest = Ok (text, rest)

-- whether the first bit of the first byte is set
abbrev pub is_coded : List ℕ → Bool
is_coded [] = false
is_coded (b ∷ rest) = nat_lt 127 b

-- a string literal, and the bytes after it
unfoldable pub string_at : List ℕ → Result (List ℕ × List ℕ) Offence
string_at bytes = do
  len ← int_at 7 bytes
  if nat_lt (length len.1) len.0 then Err offences.Truncated
      else if is_coded bytes then text_or_offence (text_of (take len.0 len.1)) (drop len.0 len.1)
      else Ok (take len.0 len.1, drop len.0 len.1)

-- the entry of an index
abbrev pub entry_or_offence : Option Header → Result Header Offence
entry_or_offence None = Err offences.Index
entry_or_offence (Some header) = Ok header

-- the name of a literal by its index, and the bytes after it
abbrev pub name_by : HeaderTable → ℕ × List ℕ → Result (List ℕ × List ℕ) Offence
name_by t (zero, rest) = string_at rest
name_by t (suc place, rest) = do
  entry ← entry_or_offence (header_at t (suc place))
  Ok (entry.name, rest)

-- a literal with an index of so many bits, and the bytes after it
unfoldable pub literal_at : HeaderTable → ℕ → List ℕ → Result (Header × List ℕ) Offence
literal_at t bits bytes = do
  index ← int_at bits bytes
  name ← name_by t index
  value ← string_at name.1
  Ok (record { name = name.0; value = value.0 }, value.1)

-- what a representation gives, and the bytes after it
pub record Given : Type 0 where
  pub header : Option Header
  pub table : HeaderTable
  pub rest : List ℕ

abbrev pub given : Option Header → HeaderTable → List ℕ → Given
given header t rest = record { header = header; table = t; rest = rest }

unfoldable pub indexed_at : HeaderTable → List ℕ → Result Given Offence
indexed_at t bytes = do
  index ← int_at 7 bytes
  entry ← entry_or_offence (header_at t index.0)
  Ok (given (Some entry) t index.1)

unfoldable pub update_at : HeaderTable → Bool → List ℕ → Result Given Offence
update_at t may_update bytes = do
  max ← int_at 5 bytes
  if may_update && nat_lt max.0 (max_table + 1) then Ok (given None (with_max t max.0) max.1) else Err offences.Update

-- one representation, by its first byte
unfoldable pub representation_at : HeaderTable → Bool → List ℕ → Result Given Offence
representation_at t may_update [] = Err offences.Truncated
representation_at t may_update (b ∷ rest) =
    if nat_lt 127 b then indexed_at t (b ∷ rest)
    else if nat_lt 63 b then (do
      read ← literal_at t 6 (b ∷ rest)
      Ok (given (Some read.0) (with_entry t read.0) read.1))
    else if nat_lt 31 b then update_at t may_update (b ∷ rest)
    else (do
      read ← literal_at t 4 (b ∷ rest)
      Ok (given (Some read.0) t read.1))

-- ---- blocks

-- an offence at a place
abbrev pub fault_at : ℕ → Offence → HpackFault
fault_at at offences.Index = faults.BadIndex at
fault_at at offences.Int = faults.BadInt at
fault_at at offences.Huffman = faults.BadHuffman at
fault_at at offences.Update = faults.BadUpdate at
fault_at at offences.Truncated = faults.Truncated at
fault_at at offences.OutOfMemory = faults.OutOfMemory

-- How far a block was read: so many bytes, the size of the headers in bytes, whether a size update may follow, and the table.
pub record Place : Type 0 where
  pub at : ℕ
  pub size : ℕ
  pub may_update : Bool
  pub table : HeaderTable

-- at the beginning
abbrev pub begin : HeaderTable → Place
begin t = record { at = 0; size = 0; may_update = true; table = t }

-- the size of a header in bytes, if there is one
abbrev pub size_if : Option Header → ℕ
size_if None = 0
size_if (Some header) = size_of header

-- whether a size update may stand after what a representation gave
abbrev pub goes_on : Option Header → Bool → Bool
goes_on None may_update = may_update
goes_on (Some header) may_update = false

-- the place after a representation of so many bytes
abbrev pub behind : Place → ℕ → Given → Place
behind p read g = record { at = p.at + read; size = p.size + size_if g.header; may_update = goes_on g.header p.may_update; table = g.table }

-- a header before what follows, if there is one
abbrev pub with_header : Option Header → Result (List Header × HeaderTable) HpackFault → Result (List Header × HeaderTable) HpackFault
with_header None read = read
with_header (Some header) (Ok read) = Ok (header ∷ read.0, read.1)
with_header (Some header) (Err e) = Err e

-- what follows a representation, unless it is refused or its header passes the limit
abbrev pub go_on : Place → Result Given Offence → (Given → Result (List Header × HeaderTable) HpackFault) → Result (List Header × HeaderTable) HpackFault
go_on p (Err e) next = Err (fault_at p.at e)
go_on p (Ok g) next = if nat_lt max_list (p.size + size_if g.header) then Err (faults.ListTooLong p.at) else next g

-- The headers of some bytes from a place, and the table after them, in at most so many representations. Each takes a byte
-- or more.
unfoldable pub headers_from : ℕ → Place → List ℕ → Result (List Header × HeaderTable) HpackFault
headers_from most p [] = Ok ([], p.table)
headers_from zero p (b ∷ rest) = Err (faults.Truncated p.at)
headers_from (suc most) p (b ∷ rest) = go_on p (representation_at p.table p.may_update (b ∷ rest))
    (λ g. with_header g.header (headers_from most (behind p (length (b ∷ rest) - length g.rest) g) g.rest))

-- the headers of a block, and the table after it
unfoldable pub block_at : HeaderTable → List ℕ → Result (List Header × HeaderTable) HpackFault
block_at t bytes = headers_from (length bytes) (begin t) bytes

-- want of memory, of a block
abbrev pub block_wants_memory : HpackFault → Bool
block_wants_memory faults.OutOfMemory = true
block_wants_memory _ = false

-- what a refusal of a block says of what reading gives: want of memory says nothing
abbrev pub BlockFails : {Y : Type 0} → HpackFault → Result Y HpackFault → Type 0
BlockFails e read = FailsBut block_wants_memory e read

-- what a function returned, seen by view, is what reading a block gives, unless memory ran out
abbrev pub BlockGives : {X Y : Type 0} → (X → Y) → Result X HpackFault → Result Y HpackFault → Type 0
BlockGives view result read = GivesBut block_wants_memory view result read
