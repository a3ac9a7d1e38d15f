-- The codes that are set, and the bits that are appended.
use Rattle.std.proofs.Common.{◌≡◌, ℕ, suc, ◌+◌, ◌-◌, ◌*◌, ◌/◌, ◌%◌, ◌^◌, ◌<◌, ◌≤◌, Bool, true, List, [], ◌∷◌, ◌++◌, length, take, drop, get_or, set, replicate, ◌⊎◌, inl, inr, refl, sym, ◌∙◌, ap, subst, arith, append_assoc, append-nil, length-drop, length-set, drop-cons, add-one}
use Rattle.std.specs.Prelude.{flat_map, sum, nat_lt, Contains, All}
use Rattle.std.specs.List.{list_all}
use Rattle.std.proofs.lemmas.Bool.{ltb-true, cases_eq, eq-eqb}
use Rattle.std.proofs.lemmas.List.{get_or-set_other, get_or-set_same, get_or-replicate, get_or-take, get_or-drop, drop-drop, length-take-le, take_more, take_all}
use Rattle.std.proofs.lemmas.List.Sums.{sum_by-cons, AllPass-from_list_all}
use Rattle.std.proofs.lemmas.Grind.{flat_map-append}
use Rattle.std.proofs.lemmas.Nat.{pow_pos, pow-add, shl_whole, one_shl, div-mul-add, mod-mul-add}
use Rattle.std.proofs.Math.Nat.{mod-eq_of_lt, mod-lt, mul-le-mul_right}
use Rattle.proto_wire.specs.Reading.{IsBytes}
use Rattle.hpack_tables.specs.Huffman.{Code, IsHuffman, all_codes, one_length, code_of, number_bits, bits_of}
use Rattle.hpack_tables.specs.HuffmanWalk.{codes_from, end_of}
use Rattle.hpack_tables.specs.HuffmanSpelling.{IsSetBut, IsShort, IsRest, IsPadded, bits_in, with_symbol}
use Rattle.hpack_tables.specs.declared.huffman.Bits.{Bits}
use Rattle.hpack_tables.specs.declared.huffman.TheConstants.{COUNTS, SYMBOLS}
use Rattle.hpack_tables.proofs.HuffmanBits.{value, length-number_bits, value-number_bits, number_bits-add, number_bits-mod}
use Rattle.hpack_tables.proofs.HuffmanCode.{is_in-from_Contains, contains-from_is_in, IsCode, is_code, code_for}
use Rattle.hpack_tables.proofs.HuffmanSteps.{from_begin, counts_cons, length-SYMBOLS}
use Rattle.hpack_tables.proofs.HuffmanText.{all_ones}
use Rattle.hpack_tables.proofs.HuffmanLaws.{all_true}

-- ---- the codes that are set

code_in : (code : Code) → Contains all_codes code → IsCode code
code_in code i = is_code code (is_in-from_Contains all_codes code i)

contains_cases : (c : Code) (rest : List Code) (code : Code) → Contains (c ∷ rest) code → (code ≡ c) ⊎ Contains rest code
contains_cases c rest code i = elim (is_in-from_Contains (c ∷ rest) code i) [
  | inl e ↦ inl e
  | inr j ↦ inr (contains-from_is_in rest code j)
]

module _ (codes : List Bits) (c : Code) (rest : List Code) (s : IsSetBut codes (c ∷ rest)) where
  bits_of_c : Bits
  bits_of_c = record { number = c.number; len = c.len }

  new_codes : List Bits
  new_codes = set codes c.symbol (record { number = c.number; len = c.len })

  here : Contains all_codes c
  here = s.known c (contains-from_is_in (c ∷ rest) c (inl refl))

  within : c.symbol < length codes
  within = omega (arith, (code_in c here).symbol, s.enough)

  new_same : (symbol : ℕ) (d : Bits) → symbol ≡ c.symbol → get_or (set codes c.symbol (record { number = c.number; len = c.len })) symbol d ≡ record { number = c.number; len = c.len }
  new_same symbol d e = rw e (get_or-set_same codes c.symbol (record { number = c.number; len = c.len }) d within)

  new_right : (symbol : ℕ) (d : Bits) → symbol < 257 → ((get_or (set codes c.symbol (record { number = c.number; len = c.len })) symbol d).len ≡ 0) ⊎ Contains all_codes (with_symbol symbol (get_or (set codes c.symbol (record { number = c.number; len = c.len })) symbol d))
  new_right symbol d h = elim (cases_eq symbol c.symbol) [
    | inl e ↦ rw (new_same symbol d e, e) (inr here)
    | inr n ↦ rw (get_or-set_other codes c.symbol symbol (record { number = c.number; len = c.len }) d n) (s.right symbol d h)
  ]

  set_still : (code : Code) (d : Bits) → 0 < (get_or codes code.symbol d).len → 0 < (get_or (set codes c.symbol (record { number = c.number; len = c.len })) code.symbol d).len
  set_still code d h = elim (cases_eq code.symbol c.symbol) [
    | inl e ↦ rw (new_same code.symbol d e) (code_in c here).some
    | inr n ↦ rw (get_or-set_other codes c.symbol code.symbol (record { number = c.number; len = c.len }) d n) h
  ]

  new_set : (code : Code) (d : Bits) → Contains all_codes code → Contains rest code ⊎ (0 < (get_or (set codes c.symbol (record { number = c.number; len = c.len })) code.symbol d).len)
  new_set code d i = elim (s.set code d i) [
    | inl j ↦ elim (contains_cases c rest code j) [
      | inl e ↦ inr (rw (new_same code.symbol d (ap (λ x. x.symbol) e)) (code_in c here).some)
      | inr k ↦ inl k
    ]
    | inr h ↦ inr (set_still code d h)
  ]

  pub set_one : IsSetBut (set codes c.symbol (record { number = c.number; len = c.len })) rest
  set_one = record {
    enough = length-set codes c.symbol (record { number = c.number; len = c.len }) ∙ s.enough;
    right = new_right;
    set = new_set;
    known = λ code i. s.known code (contains-from_is_in (c ∷ rest) code (inr (is_in-from_Contains rest code i)));
  }

-- the next symbol of one length
pub set_next : (codes : List Bits) (len number i : ℕ) (symbols : List ℕ) (rest : List Code) → i < length symbols →
    IsSetBut codes (one_length len number (drop i symbols) ++ rest) →
    IsSetBut (set codes (get_or symbols i 0) (record { number = number; len = len })) (one_length len (number + 1) (drop (i + 1) symbols) ++ rest)
set_next codes len number i symbols rest h s =
    let e = drop-cons symbols i 0 h in
    let s' = rw e at s in
    rw (add-one i) (set_one codes (record { symbol = get_or symbols i 0; len = len; number = number }) (one_length len (number + 1) (drop (suc i) symbols) ++ rest) s')

-- nothing is set
pub set_none : IsSetBut (replicate 257 (record { number = 0; len = 0 })) (codes_from 0 0 COUNTS SYMBOLS)
set_none = record {
  enough = refl;
  right = λ symbol d h. inl (ap (λ b. b.len) (get_or-replicate 257 symbol (record { number = 0; len = 0 }) d h));
  set = λ code d i. inl (subst (λ xs. Contains xs code) from_begin i);
  known = λ code i. subst (λ xs. Contains xs code) (sym from_begin) i;
}

-- ---- the codes of each length

end_of-le : (first : ℕ) (counts : List ℕ) → first ≤ end_of first counts
end_of-le first [] = omega arith
end_of-le first (count ∷ counts) = omega (arith, end_of-le (2 * first + count) counts)

are_small : list_all (λ s. nat_lt s 257) SYMBOLS ≡ true
are_small = refl

small_any : (k d : ℕ) → k < 257 → get_or SYMBOLS k d < 257
small_any k d h = ltb-true (get_or SYMBOLS k d) 257 (AllPass-from_list_all (λ s. nat_lt s 257) SYMBOLS are_small k d h)

module _ (first at len count : ℕ) (room : end_of first (drop len COUNTS) ≡ 2 ^ 30) (symbols : at + sum (drop len COUNTS) ≡ 257) (less : len < 30) (is : count ≡ get_or COUNTS len 0) where
  cons : drop len COUNTS ≡ count ∷ drop (len + 1) COUNTS
  cons = rw is (counts_cons len less)

  pub next_room : end_of (2 * first + count) (drop (len + 1) COUNTS) ≡ 2 ^ 30
  next_room = ap (end_of first) (sym cons) ∙ room

  pub next_first : 2 * first + count ≤ 2 ^ 30
  next_first = rw next_room at (end_of-le (2 * first + count) (drop (len + 1) COUNTS))

  counted : at + (count + sum (drop (len + 1) COUNTS)) ≡ 257
  counted = ap (λ n. at + n) (sym (sum_by-cons (λ x. x) count (drop (len + 1) COUNTS))) ∙ ap (λ xs. at + sum xs) (sym cons) ∙ symbols

  pub next_symbols : (at + count) + sum (drop (len + 1) COUNTS) ≡ 257
  next_symbols = omega (arith, counted)

  pub next_at : at + count ≤ 257
  next_at = omega (arith, counted)

  pub length-next : length (take count (drop at SYMBOLS)) ≡ count
  length-next =
      let lt : count ≤ length (drop at SYMBOLS) = omega (arith, next_at, length-drop at SYMBOLS, length-SYMBOLS) in
      length-take-le count (drop at SYMBOLS) lt

  pub next_small : All (λ symbol. symbol < 257) (take count (drop at SYMBOLS))
  next_small k d h =
      let lt : k < count = omega (arith, length-next) in
      let within : at + k < 257 = omega (arith, next_at) in
      let e = get_or-take count (drop at SYMBOLS) k d lt ∙ get_or-drop at SYMBOLS k d in
      rw e (small_any (at + k) d within)

  pub next_codes : (codes : List Bits) → IsSetBut codes (codes_from len first (drop len COUNTS) (drop at SYMBOLS)) →
      IsSetBut codes (one_length (len + 1) (2 * first) (take count (drop at SYMBOLS)) ++ codes_from (len + 1) (2 * first + count) (drop (len + 1) COUNTS) (drop (at + count) SYMBOLS))
  next_codes codes s = rw (← drop-drop count at SYMBOLS) (rw cons at s)

-- ---- a code that is looked up

pub code_is_set : (codes : List Bits) (symbol : ℕ) (d : Bits) → IsSetBut codes [] → symbol < 257 →
    IsShort (get_or codes symbol d) × (bits_in (get_or codes symbol d) ≡ code_of symbol)
code_is_set codes symbol d s h =
    let found = code_for symbol h in
    elim (s.right symbol d h) [
      | inl none ↦
          (let i = contains-from_is_in all_codes found.0 found.1 in
          elim (s.set found.0 d i) [
            | inl left ↦ absurd (is_in-from_Contains [] found.0 left)
            | inr some ↦ (let some' = rw found.2 at some in absurd (omega arith))
          ])
      | inr i ↦
          (let is = code_in (with_symbol symbol (get_or codes symbol d)) i in
          (record { few = is.short; fits = is.fits }, sym is.unique))
    ]

-- ---- bits that are appended

bits_of-push : (items : List ℕ) (b : ℕ) → bits_of (items ++ b ∷ []) ≡ bits_of items ++ number_bits 8 b
bits_of-push items b = flat_map-append (number_bits 8) items (b ∷ []) ∙ ap (λ bits. bits_of items ++ bits) (append-nil (number_bits 8 b))

pub push_byte : (items : List ℕ) (left number : ℕ) → 8 ≤ left →
    bits_of (items ++ (number / 2 ^ (left - 8) % 256) ∷ []) ++ number_bits (left - 8) number ≡ bits_of items ++ number_bits left number
push_byte items left number h =
    let n = left - 8 in
    let e : 8 + n ≡ left = omega arith in
    let a = number_bits-add 8 n number in
    let a' = rw e at a in
    rw (bits_of-push items (number / 2 ^ n % 256), append_assoc (bits_of items) (number_bits 8 (number / 2 ^ n % 256)) (number_bits n number))
    (ap (λ bits. bits_of items ++ bits) (ap (λ bits. bits ++ number_bits n number) (number_bits-mod 0 8 (number / 2 ^ n)) ∙ sym a'))

low_bits : (k x : ℕ) → number_bits k (x % 2 ^ k) ≡ number_bits k x
low_bits k x =
    let z : 0 + k ≡ k = omega arith in
    rw z at (number_bits-mod 0 k x)

-- a number in front of another of so many bits
two_numbers : (m n x y : ℕ) → y < 2 ^ n → number_bits (m + n) (x * 2 ^ n + y) ≡ number_bits m x ++ number_bits n y
two_numbers m n x y h =
    number_bits-add m n (x * 2 ^ n + y)
    ∙ ap (λ z. number_bits m z ++ number_bits n (x * 2 ^ n + y)) (div-mul-add x (2 ^ n) y h)
    ∙ ap (λ bits. number_bits m x ++ bits) (sym (low_bits n (x * 2 ^ n + y)) ∙ ap (number_bits n) (mod-mul-add x (2 ^ n) y h))

-- two runs of bits as one number
pub joined : (before code : Bits) → IsRest before → IsShort code → (number : ℕ) → number ≡ (before.number * 2 ^ code.len) % 2 ^ 64 + code.number →
    number_bits (before.len + code.len) number ≡ bits_in before ++ bits_in code
joined before code p q number e =
    let few = p.few in
    let short = q.few in
    let within : before.len + code.len ≤ 64 = omega arith in
    let whole = shl_whole before.number before.len code.len 64 p.fits within in
    let e' : number ≡ before.number * 2 ^ code.len + code.number = e ∙ ap (λ n. n + code.number) whole in
    ap (number_bits (before.len + code.len)) e' ∙ two_numbers before.len code.len before.number code.number q.fits

-- the bits that are left
pub left_bits : (left number : ℕ) → left < 8 → IsRest (record { number = number % (1 * 2 ^ left % 2 ^ 64); len = left }) × (number_bits left (number % (1 * 2 ^ left % 2 ^ 64)) ≡ number_bits left number)
left_bits left number h =
    let below : left < 64 = omega arith in
    rw (one_shl left 64 below) (record { few = h; fits = mod-lt number (pow_pos left) }, low_bits left number)

ones_bits : (n : ℕ) → number_bits n (2 ^ n - 1) ≡ replicate n true
ones_bits n =
    let bits = number_bits n (2 ^ n - 1) in
    let less : 2 ^ n - 1 < 2 ^ n = omega (arith, pow_pos n) in
    let v = value-number_bits n (2 ^ n - 1) ∙ mod-eq_of_lt less in
    let l = length-number_bits n (2 ^ n - 1) in
    let t = all_ones bits ∙ eq-eqb (value bits + 1) (2 ^ length bits) (omega (arith, v, ap (λ k. 2 ^ k) l, pow_pos n)) in
    all_true bits t ∙ ap (λ k. replicate k true) l

pub with_ones : (rest : Bits) → IsRest rest → number_bits 8 (rest.number * 2 ^ (8 - rest.len) + (2 ^ (8 - rest.len) - 1)) ≡ bits_in rest ++ replicate (8 - rest.len) true
with_ones rest p =
    let few = p.few in
    let n = 8 - rest.len in
    let less : 2 ^ n - 1 < 2 ^ n = omega (arith, pow_pos n) in
    let e : 8 ≡ rest.len + n = omega arith in
    ap (λ k. number_bits k (rest.number * 2 ^ n + (2 ^ n - 1))) e
    ∙ two_numbers rest.len n rest.number (2 ^ n - 1) less
    ∙ ap (λ bits. bits_in rest ++ bits) (ones_bits n)

-- the last byte
pub last_number : (rest : Bits) → IsRest rest → ((rest.number * 2 ^ (8 - rest.len)) % 2 ^ 32 + ((1 * 2 ^ (8 - rest.len)) % 2 ^ 32 - 1) ≡ rest.number * 2 ^ (8 - rest.len) + (2 ^ (8 - rest.len) - 1)) × (rest.number * 2 ^ (8 - rest.len) + (2 ^ (8 - rest.len) - 1) < 256)
last_number rest p =
    let few = p.few in
    let n = 8 - rest.len in
    let within : rest.len + n ≤ 32 = omega arith in
    let below : n < 32 = omega arith in
    let e : rest.len + n ≡ 8 = omega arith in
    let a = shl_whole rest.number rest.len n 32 p.fits within in
    let b = one_shl n 32 below in
    let fits = p.fits in
    let more : rest.number + 1 ≤ 2 ^ rest.len = omega arith in
    let up : (rest.number + 1) * 2 ^ n ≤ 2 ^ rest.len * 2 ^ n = mul-le-mul_right (2 ^ n) more in
    let whole = sym (pow-add 2 rest.len n) ∙ ap (λ k. 2 ^ k) e in
    (ap (λ x. x + ((1 * 2 ^ n) % 2 ^ 32 - 1)) a ∙ ap (λ y. rest.number * 2 ^ n + (y - 1)) b, omega (arith, up, whole, pow_pos n))

pub padded : (items : List ℕ) (rest : Bits) (byte : ℕ) (more : List ℕ) → IsRest rest → more ≡ items ++ byte ∷ [] → 0 < rest.len →
    byte ≡ (rest.number * 2 ^ (8 - rest.len)) % 2 ^ 32 + ((1 * 2 ^ (8 - rest.len)) % 2 ^ 32 - 1) → IsPadded (bits_of more) (bits_of items ++ bits_in rest)
padded items rest byte more p e some b = record {
  ones = 8 - rest.len;
  few = omega arith;
  padded =
      ap bits_of e ∙ bits_of-push items byte
      ∙ ap (λ x. bits_of items ++ number_bits 8 x) (b ∙ (last_number rest p).0)
      ∙ ap (λ bits. bits_of items ++ bits) (with_ones rest p)
      ∙ sym (append_assoc (bits_of items) (bits_in rest) (replicate (8 - rest.len) true));
}

-- one code more
pub next_text : (codes : List Bits) (bytes : List ℕ) (i : ℕ) (d : Bits) (old new before after : List Bool) → i < length bytes →
    bits_in (get_or codes (get_or bytes i 0) d) ≡ code_of (get_or bytes i 0) →
    old ++ before ≡ flat_map code_of (take i bytes) → new ++ after ≡ old ++ (before ++ bits_in (get_or codes (get_or bytes i 0) d)) →
    new ++ after ≡ flat_map code_of (take (i + 1) bytes)
next_text codes bytes i d old new before after h code so_far e =
    e
    ∙ sym (append_assoc old before (bits_in (get_or codes (get_or bytes i 0) d)))
    ∙ ap (λ bits. bits ++ bits_in (get_or codes (get_or bytes i 0) d)) so_far
    ∙ ap (λ bits. flat_map code_of (take i bytes) ++ bits) (code ∙ sym (append-nil (code_of (get_or bytes i 0))))
    ∙ sym (flat_map-append code_of (take i bytes) (get_or bytes i 0 ∷ []))
    ∙ ap (flat_map code_of) (sym (take_more bytes i 0 h))

pub coded : (bytes items : List ℕ) (rest : Bits) (i : ℕ) (last : List ℕ) → IsBytes bytes → length bytes ≤ i →
    bits_of items ++ bits_in rest ≡ flat_map code_of (take i bytes) → IsPadded (bits_of last) (bits_of items ++ bits_in rest) → IsHuffman last bytes
coded bytes items rest i last small done so_far p = record {
  ones = p.ones;
  few = p.few;
  symbols = small;
  bits = p.padded ∙ ap (λ bits. bits ++ replicate p.ones true) (so_far ∙ ap (flat_map code_of) (take_all i bytes done));
}
