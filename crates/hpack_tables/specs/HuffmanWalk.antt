-- The walk over the bits of one code after another, with the tables that are in the code.
use Rattle.std.specs.Prelude.{◌≡◌, ◌<◌, ◌≤◌, ◌+◌, ◌-◌, ◌*◌, ◌/◌, ◌^◌, ℕ, Bool, List, [], ◌∷◌, ◌++◌, length, find, take, drop, sum, Option, Some, None, Contains}
use Rattle.hpack_tables.specs.Huffman.{Code, all_codes, one_length, number_bits, code_bits, code_of, same_bits, code_with, text_behind}
use Rattle.hpack_tables.specs.declared.huffman.Walk.{Walk}
use Rattle.hpack_tables.specs.declared.huffman.Window.{Window}
use Rattle.hpack_tables.specs.declared.huffman.Step.{Step}
use Rattle.hpack_tables.specs.declared.huffman.Step.TheVariants.{More, Symbol}
use Rattle.hpack_tables.specs.declared.huffman.TheConstants.{COUNTS, SYMBOLS}

-- the codes of more than `len` bits, by how many there are of each length: the first `len` bits of the first are the number
-- `first`
abbrev pub codes_from : ℕ → ℕ → List ℕ → List ℕ → List Code
codes_from len first [] symbols = []
codes_from len first (count ∷ counts) symbols =
    one_length (len + 1) (2 * first) (take count symbols) ++ codes_from (len + 1) (2 * first + count) counts (drop count symbols)

-- the number after the last of them
abbrev pub end_of : ℕ → List ℕ → ℕ
end_of first [] = first
end_of first (count ∷ counts) = end_of (2 * first + count) counts

-- the bits that were taken
abbrev pub taken : Walk → List Bool
taken w = number_bits w.len w.number

-- where a walk may stand: every code that begins with its bits is longer, and there is one
pub record IsWalk (w : Walk) : Type 0 where
  pub few : w.len ≤ 30
  pub fits : w.number < 2 ^ w.len
  pub least : w.first ≤ w.number
  pub room : end_of w.first (drop w.len COUNTS) ≡ 2 ^ 30
  pub symbols : w.at + sum (drop w.len COUNTS) ≡ 257
  pub codes : (bits : List Bool) → w.len < length bits → code_with bits ≡ find (λ code. same_bits (code_bits code) bits) (codes_from w.len w.first (drop w.len COUNTS) (drop w.at SYMBOLS))

-- what one more bit leads to
abbrev pub StepsTo : Walk → Bool → Step → Type 0
StepsTo w bit (More next) = IsWalk next × (taken next ≡ taken w ++ bit ∷ []) × (code_with (taken w ++ bit ∷ []) ≡ None)
StepsTo w bit (Symbol symbol) = (symbol ≤ 256) × ((code : Code) × (code_with (taken w ++ bit ∷ []) ≡ Some code) × (code.symbol ≡ symbol))

-- a text after another
abbrev pub later : List ℕ → Option (List ℕ) → Option (List ℕ)
later front None = None
later front (Some text) = Some (front ++ text)

-- ---- bits that are not read yet

abbrev pub bits_left : Window → List Bool
bits_left w = number_bits w.len w.number

-- the bits are a code of this symbol, and the rest
pub record IsFront (bits : List Bool) (symbol : ℕ) (rest : List Bool) : Type 0 where
  pub code : Code
  pub known : Contains all_codes code
  pub same : code.symbol ≡ symbol
  pub parts : bits ≡ code_bits code ++ rest

-- the code that a byte begins with
pub record IsShortCode (byte symbol len : ℕ) : Type 0 where
  pub some : 0 < len
  pub short : len ≤ 8
  pub is_byte : symbol < 256
  pub code : number_bits len (byte / 2 ^ (8 - len)) ≡ code_of symbol

-- what the codes at the front of some bits lead to, whatever bits come after them
abbrev pub ReadsTo : List Bool → List ℕ → List ℕ → Option Window → Type 0
ReadsTo bits old new None = (rest : List Bool) → text_behind [] (bits ++ rest) ≡ None
ReadsTo bits old new (Some next) =
    (next.len < 30) × ((rest : List Bool) → later old (text_behind [] (bits ++ rest)) ≡ later new (text_behind [] (bits_left next ++ rest)))
