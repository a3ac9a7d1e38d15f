-- The Huffman code of strings (RFC 7541, section 5.2 and appendix B): the symbols of a text are its bytes, and 256 is the end
-- symbol, which no string has.
use Rattle.std.specs.Prelude.{◌≡◌, ◌<◌, ◌+◌, ◌-◌, ◌*◌, ◌/◌, ◌%◌, ◌^◌, ◌==◌, ◌&&◌, nat_lt, ℕ, zero, suc, Bool, true, false, List, [], ◌∷◌, ◌++◌, length, find, flat_map, replicate, Option, Some, None, if◌then◌else◌}
use Rattle.std.specs.List.{list_all}
use Rattle.proto_wire.specs.Reading.{IsBytes}

-- the symbols by the length of their codes in bits, those of one length in order
abbrev pub symbols_by_length : List (ℕ × List ℕ)
symbols_by_length =
    (5, 48 ∷ 49 ∷ 50 ∷ 97 ∷ 99 ∷ 101 ∷ 105 ∷ 111 ∷ 115 ∷ 116 ∷ [])
    ∷ (
      6,
      32 ∷ 37 ∷ 45 ∷ 46 ∷ 47 ∷ 51 ∷ 52 ∷ 53 ∷ 54 ∷ 55 ∷ 56 ∷ 57 ∷ 61 ∷ 65 ∷ 95 ∷ 98 ∷ 100 ∷ 102 ∷ 103 ∷ 104 ∷
          108 ∷ 109 ∷ 110 ∷ 112 ∷ 114 ∷ 117 ∷ [],
    )
    ∷ (
      7,
      58 ∷ 66 ∷ 67 ∷ 68 ∷ 69 ∷ 70 ∷ 71 ∷ 72 ∷ 73 ∷ 74 ∷ 75 ∷ 76 ∷ 77 ∷ 78 ∷ 79 ∷ 80 ∷ 81 ∷ 82 ∷ 83 ∷ 84 ∷ 85 ∷
          86 ∷ 87 ∷ 89 ∷ 106 ∷ 107 ∷ 113 ∷ 118 ∷ 119 ∷ 120 ∷ 121 ∷ 122 ∷ [],
    )
    ∷ (8, 38 ∷ 42 ∷ 44 ∷ 59 ∷ 88 ∷ 90 ∷ [])
    ∷ (10, 33 ∷ 34 ∷ 40 ∷ 41 ∷ 63 ∷ [])
    ∷ (11, 39 ∷ 43 ∷ 124 ∷ [])
    ∷ (12, 35 ∷ 62 ∷ [])
    ∷ (13, 0 ∷ 36 ∷ 64 ∷ 91 ∷ 93 ∷ 126 ∷ [])
    ∷ (14, 94 ∷ 125 ∷ [])
    ∷ (15, 60 ∷ 96 ∷ 123 ∷ [])
    ∷ (19, 92 ∷ 195 ∷ 208 ∷ [])
    ∷ (20, 128 ∷ 130 ∷ 131 ∷ 162 ∷ 184 ∷ 194 ∷ 224 ∷ 226 ∷ [])
    ∷ (21, 153 ∷ 161 ∷ 167 ∷ 172 ∷ 176 ∷ 177 ∷ 179 ∷ 209 ∷ 216 ∷ 217 ∷ 227 ∷ 229 ∷ 230 ∷ [])
    ∷ (
      22,
      129 ∷ 132 ∷ 133 ∷ 134 ∷ 136 ∷ 146 ∷ 154 ∷ 156 ∷ 160 ∷ 163 ∷ 164 ∷ 169 ∷ 170 ∷ 173 ∷ 178 ∷ 181 ∷ 185 ∷
          186 ∷ 187 ∷ 189 ∷ 190 ∷ 196 ∷ 198 ∷ 228 ∷ 232 ∷ 233 ∷ [],
    )
    ∷ (
      23,
      1 ∷ 135 ∷ 137 ∷ 138 ∷ 139 ∷ 140 ∷ 141 ∷ 143 ∷ 147 ∷ 149 ∷ 150 ∷ 151 ∷ 152 ∷ 155 ∷ 157 ∷ 158 ∷ 165 ∷
          166 ∷ 168 ∷ 174 ∷ 175 ∷ 180 ∷ 182 ∷ 183 ∷ 188 ∷ 191 ∷ 197 ∷ 231 ∷ 239 ∷ [],
    )
    ∷ (24, 9 ∷ 142 ∷ 144 ∷ 145 ∷ 148 ∷ 159 ∷ 171 ∷ 206 ∷ 215 ∷ 225 ∷ 236 ∷ 237 ∷ [])
    ∷ (25, 199 ∷ 207 ∷ 234 ∷ 235 ∷ [])
    ∷ (26, 192 ∷ 193 ∷ 200 ∷ 201 ∷ 202 ∷ 205 ∷ 210 ∷ 213 ∷ 218 ∷ 219 ∷ 238 ∷ 240 ∷ 242 ∷ 243 ∷ 255 ∷ [])
    ∷ (
      27,
      203 ∷ 204 ∷ 211 ∷ 212 ∷ 214 ∷ 221 ∷ 222 ∷ 223 ∷ 241 ∷ 244 ∷ 245 ∷ 246 ∷ 247 ∷ 248 ∷ 250 ∷ 251 ∷ 252 ∷
          253 ∷ 254 ∷ [],
    )
    ∷ (
      28,
      2 ∷ 3 ∷ 4 ∷ 5 ∷ 6 ∷ 7 ∷ 8 ∷ 11 ∷ 12 ∷ 14 ∷ 15 ∷ 16 ∷ 17 ∷ 18 ∷ 19 ∷ 20 ∷ 21 ∷ 23 ∷ 24 ∷ 25 ∷ 26 ∷ 27 ∷
          28 ∷ 29 ∷ 30 ∷ 31 ∷ 127 ∷ 220 ∷ 249 ∷ [],
    )
    ∷ (30, 10 ∷ 13 ∷ 22 ∷ 256 ∷ [])
    ∷ []

-- a symbol, and its code: so many bits, as a number
pub record Code : Type 0 where
  pub symbol : ℕ
  pub len : ℕ
  pub number : ℕ

-- the codes of symbols of one length: each number is one higher
abbrev pub one_length : ℕ → ℕ → List ℕ → List Code
one_length len number [] = []
one_length len number (symbol ∷ symbols) = record { symbol = symbol; len = len; number = number } ∷ one_length len (number + 1) symbols

-- Codes handed out by length: the first number of a length is the one after the last of the length before, shifted left by as
-- much as the length grows.
abbrev pub handed_out : ℕ → ℕ → List (ℕ × List ℕ) → List Code
handed_out before number [] = []
handed_out before number (row ∷ rows) =
    let first = number * 2 ^ (row.0 - before) in
    one_length row.0 first row.1 ++ handed_out row.0 (first + length row.1) rows

-- all codes: the first is all zeros
unfoldable pub all_codes : List Code
all_codes = handed_out 0 0 symbols_by_length

-- so many bits of a number, the highest first
abbrev pub number_bits : ℕ → ℕ → List Bool
number_bits zero number = []
number_bits (suc n) number = ((number / 2 ^ n) % 2 == 1) ∷ number_bits n number

-- the bits of bytes, the highest of each first
abbrev pub bits_of : List ℕ → List Bool
bits_of bytes = flat_map (number_bits 8) bytes

abbrev pub code_bits : Code → List Bool
code_bits code = number_bits code.len code.number

abbrev pub bits_if : Option Code → List Bool
bits_if None = []
bits_if (Some code) = code_bits code

-- the code of a symbol
unfoldable pub code_of : ℕ → List Bool
code_of symbol = bits_if (find (λ code. code.symbol == symbol) all_codes)

-- The bytes are the codes of the text, and then a padding of fewer than eight ones.
pub record IsHuffman (bytes text : List ℕ) : Type 0 where
  pub ones : ℕ
  pub few : ones < 8
  pub symbols : IsBytes text
  pub bits : bits_of bytes ≡ flat_map code_of text ++ replicate ones true

-- ---- the same, from the left

-- whether two lists of bits are equal
abbrev pub same_bits : List Bool → List Bool → Bool
same_bits [] [] = true
same_bits [] (c ∷ cs) = false
same_bits (b ∷ bs) [] = false
same_bits (true ∷ bs) (true ∷ cs) = same_bits bs cs
same_bits (true ∷ bs) (false ∷ cs) = false
same_bits (false ∷ bs) (true ∷ cs) = false
same_bits (false ∷ bs) (false ∷ cs) = same_bits bs cs

-- the code with these bits, if there is one
unfoldable pub code_with : List Bool → Option Code
code_with bits = find (λ code. same_bits (code_bits code) bits) all_codes

-- a symbol before a text
abbrev pub before_text : ℕ → Option (List ℕ) → Option (List ℕ)
before_text symbol None = None
before_text symbol (Some text) = Some (symbol ∷ text)

-- what a code adds to the text behind it; the end symbol may not stand there
abbrev pub behind_code : Code → Option (List ℕ) → Option (List ℕ)
behind_code code text = if code.symbol == 256 then None else before_text code.symbol text

-- fewer than eight ones
abbrev pub is_padding : List Bool → Bool
is_padding bits = nat_lt (length bits) 8 && list_all (λ bit. bit) bits

abbrev pub by_code : Option Code → Option (List ℕ) → Option (List ℕ) → Option (List ℕ)
by_code None more next = more
by_code (Some code) more next = behind_code code next

-- The text of some bits that follow others, which were taken and are no code yet.
unfoldable pub text_behind : List Bool → List Bool → Option (List ℕ)
text_behind taken [] = if is_padding taken then Some [] else None
text_behind taken (bit ∷ bits) = by_code (code_with (taken ++ bit ∷ [])) (text_behind (taken ++ bit ∷ []) bits) (text_behind [] bits)

-- the text of a coded string, or none if it is malformed
unfoldable pub text_of : List ℕ → Option (List ℕ)
text_of bytes = text_behind [] (bits_of bytes)
