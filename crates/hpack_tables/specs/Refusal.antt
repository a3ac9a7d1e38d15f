-- Where a block is refused: after a prefix that is representations whose headers are within the limit, at a place where no
-- representation stands, or one whose header passes the limit.
use Rattle.std.specs.Prelude.{◌≡◌, ◌≢◌, ◌<◌, ◌≤◌, ◌+◌, ℕ, Bool, true, false, List, [], ◌∷◌, ◌++◌, length, Option, Some, None}
use Rattle.hpack_tables.specs.declared.fault.HpackFault.{HpackFault}
use Rattle.hpack_tables.specs.declared.fault.HpackFault.TheVariants as faults
use Rattle.hpack_tables.specs.declared.header.Header.{Header}
use Rattle.hpack_tables.specs.Block.{AreSteps, IsRepresentation, Step, max_list}
use Rattle.hpack_tables.specs.Table.{HeaderTable, list_size, size_of}

-- the place of a refusal in the block, in bytes; want of memory has none
abbrev pub place_of : HpackFault → Option ℕ
place_of (faults.BadIndex at) = Some at
place_of (faults.BadInt at) = Some at
place_of (faults.BadHuffman at) = Some at
place_of (faults.BadUpdate at) = Some at
place_of (faults.Truncated at) = Some at
place_of (faults.ListTooLong at) = Some at
place_of faults.OutOfMemory = None

-- whether a size update may stand after these headers
abbrev pub may_update_behind : List Header → Bool
may_update_behind [] = true
may_update_behind (header ∷ headers) = false

-- these bytes begin with no representation
abbrev pub HasNone : HeaderTable → Bool → List ℕ → Type 0
HasNone t may_update bytes =
    (front : List ℕ) (rest : List ℕ) (header : Option Header) (t' : HeaderTable) → bytes ≡ front ++ rest → IsRepresentation t may_update front header t' → ⊥

-- they begin with one, and its header and those before it, which have this size in bytes, are above the limit
pub record HasLarge (t : HeaderTable) (may_update : Bool) (size : ℕ) (bytes : List ℕ) : Type 0 where
  pub front : List ℕ
  pub rest : List ℕ
  pub header : Header
  pub table : HeaderTable
  pub whole : bytes ≡ front ++ rest
  pub is : IsRepresentation t may_update front (Some header) table
  pub large : max_list < size + size_of header

-- what stands at the place of a refusal
abbrev pub Offends : HeaderTable → Bool → ℕ → List ℕ → HpackFault → Type 0
Offends t may_update size bytes (faults.BadIndex at) = HasNone t may_update bytes
Offends t may_update size bytes (faults.BadInt at) = HasNone t may_update bytes
Offends t may_update size bytes (faults.BadHuffman at) = HasNone t may_update bytes
Offends t may_update size bytes (faults.BadUpdate at) = HasNone t may_update bytes
Offends t may_update size bytes (faults.Truncated at) = HasNone t may_update bytes
Offends t may_update size bytes (faults.ListTooLong at) = HasLarge t may_update size bytes
Offends t may_update size bytes faults.OutOfMemory = ⊥

-- A block is refused after its longest prefix that is representations whose headers are within the limit.
pub record IsRefusal (t : HeaderTable) (block : List ℕ) (fault : HpackFault) : Type 0 where
  pub front : List ℕ
  pub rest : List ℕ
  pub steps : List Step
  pub headers : List Header
  pub table : HeaderTable
  pub whole : block ≡ front ++ rest
  pub before : AreSteps t true steps front headers table
  pub small : list_size headers ≤ max_list
  pub goes_on : rest ≢ []
  pub place : place_of fault ≡ Some (length front)
  pub offends : Offends table (may_update_behind headers) (list_size headers) rest fault
