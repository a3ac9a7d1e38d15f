-- The codes as a table by symbol, and bits that do not fill a byte.
use Rattle.std.specs.Prelude.{◌≡◌, ◌⊎◌, ◌<◌, ◌≤◌, ◌^◌, ℕ, Bool, true, List, ◌++◌, length, replicate, slice_index_or, Contains}
use Rattle.hpack_tables.specs.Huffman.{Code, all_codes, number_bits}
use Rattle.hpack_tables.specs.declared.huffman.Bits.{Bits}

abbrev pub bits_in : Bits → List Bool
bits_in b = number_bits b.len b.number

-- no more bits than the longest code has
pub record IsShort (b : Bits) : Type 0 where
  pub few : b.len ≤ 30
  pub fits : b.number < 2 ^ b.len

-- fewer bits than a byte has
pub record IsRest (b : Bits) : Type 0 where
  pub few : b.len < 8
  pub fits : b.number < 2 ^ b.len

-- a symbol with some bits
abbrev pub with_symbol : ℕ → Bits → Code
with_symbol symbol b = record { symbol = symbol; len = b.len; number = b.number }

-- The bits at each symbol are its code or not set, and each code is set, but for those that are left.
pub record IsSetBut (codes : List Bits) (left : List Code) : Type 0 where
  pub enough : length codes ≡ 257
  pub right : (symbol : ℕ) (d : Bits) → symbol < 257 → ((slice_index_or codes symbol d).len ≡ 0) ⊎ Contains all_codes (with_symbol symbol (slice_index_or codes symbol d))
  pub set : (code : Code) (d : Bits) → Contains all_codes code → Contains left code ⊎ (0 < (slice_index_or codes code.symbol d).len)
  pub known : (code : Code) → Contains left code → Contains all_codes code

-- some bits, and then fewer than eight ones
pub record IsPadded (bits front : List Bool) : Type 0 where
  pub ones : ℕ
  pub few : ones < 8
  pub padded : bits ≡ front ++ replicate ones true
