-- Header blocks as a relation (RFC 7541, sections 2, 3 and 6): spellings of representations, one after the other.
use Rattle.std.specs.Prelude.{◌≡◌, ◌≤◌, ◌⊎◌, ◌&&◌, is_none, ℕ, Bool, true, List, [], ◌∷◌, ◌++◌, length, Option, Some, None}
use Rattle.hpack_tables.specs.declared.header.Header.{Header}
use Rattle.hpack_tables.specs.Huffman.{IsHuffman}
use Rattle.hpack_tables.specs.Integer.{IsInt}
use Rattle.hpack_tables.specs.Table.{HeaderTable, header_at, with_entry, with_max}

-- the largest maximum size of a dynamic table, in bytes
abbrev pub max_table : ℕ
max_table = 4_096

-- the largest size of a header list, in bytes: the name and the value of each header, and 32 more for each
abbrev pub max_list : ℕ
max_list = 16_384

-- A string literal (section 5.2): the length of its text and the text; or, with the first bit set, the length of its coded
-- string and that string.
abbrev pub IsString : List ℕ → List ℕ → Type 0
IsString bytes text =
    ((front : List ℕ) × IsInt 7 0 (length text) front × (bytes ≡ front ++ text))
    ⊎ ((front : List ℕ) × (coded : List ℕ) × IsInt 7 128 (length coded) front × (bytes ≡ front ++ coded) × IsHuffman coded text)

-- the name of a literal: that of an entry, or a string after index 0
abbrev pub IsName : HeaderTable → ℕ → ℕ → List ℕ → List ℕ → Type 0
IsName t bits high bytes name =
    ((index : ℕ) × (entry : Header) × IsInt bits high index bytes × (header_at t index ≡ Some entry) × (name ≡ entry.name))
    ⊎ ((front : List ℕ) × (back : List ℕ) × IsInt bits high 0 front × (bytes ≡ front ++ back) × IsString back name)

-- a literal header field: its name and its value
abbrev pub IsLiteral : HeaderTable → ℕ → ℕ → List ℕ → Header → Type 0
IsLiteral t bits high bytes header =
    (front : List ℕ) × (back : List ℕ) × (bytes ≡ front ++ back) × IsName t bits high front header.name × IsString back header.value

-- One representation, the header that it gives, if it gives one, and the table after it (section 6): an indexed header; a
-- literal that is added to the table; a literal without indexing, or never indexed; or a size update, where one may stand.
abbrev pub IsRepresentation : HeaderTable → Bool → List ℕ → Option Header → HeaderTable → Type 0
IsRepresentation t may_update bytes header t' =
    ((index : ℕ) × (entry : Header) × IsInt 7 128 index bytes × (header_at t index ≡ Some entry) × (header ≡ Some entry) × (t' ≡ t))
    ⊎ (((added : Header) × IsLiteral t 6 64 bytes added × (header ≡ Some added) × (t' ≡ with_entry t added))
    ⊎ (((given : Header) × (IsLiteral t 4 0 bytes given ⊎ IsLiteral t 4 16 bytes given) × (header ≡ Some given) × (t' ≡ t))
    ⊎ ((max : ℕ) × IsInt 5 32 max bytes × (may_update ≡ true) × (max ≤ max_table) × (header ≡ None) × (t' ≡ with_max t max))))

-- a representation with what it gives
pub record Step : Type 0 where
  pub bytes : List ℕ
  pub header : Option Header
  pub table : HeaderTable

-- a header before others, if there is one
abbrev pub onto : Option Header → List Header → List Header
onto None headers = headers
onto (Some header) headers = header ∷ headers

-- Representations one after the other, from a table. Size updates stand before all headers.
abbrev pub AreSteps : HeaderTable → Bool → List Step → List ℕ → List Header → HeaderTable → Type 0
AreSteps t may_update [] bytes headers t' = (bytes ≡ []) × (headers ≡ []) × (t' ≡ t)
AreSteps t may_update (step ∷ steps) bytes headers t' =
    (rest : List ℕ) × (later : List Header) × (bytes ≡ step.bytes ++ rest) × (headers ≡ onto step.header later)
    × IsRepresentation t may_update step.bytes step.header step.table × AreSteps step.table (may_update && is_none step.header) steps rest later t'

-- the bytes are a block that gives these headers from one table, and leaves the other
abbrev pub IsBlock : HeaderTable → List ℕ → List Header → HeaderTable → Type 0
IsBlock t bytes headers t' = (steps : List Step) × AreSteps t true steps bytes headers t'
