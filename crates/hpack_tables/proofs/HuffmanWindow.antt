-- The bits that are not read yet, and the code in front of them.
use Rattle.std.proofs.Common.{◌≡◌, ℕ, ◌+◌, ◌-◌, ◌*◌, ◌/◌, ◌%◌, ◌^◌, ◌<◌, ◌≤◌, Bool, true, false, cond, List, [], ◌∷◌, ◌++◌, length, get_or, take, drop, Option, Some, None, refl, sym, length-append, ◌∙◌, ap, arith, append_assoc, append-nil}
use Rattle.std.specs.Prelude.{◌==◌, ◌&&◌, nat_lt}
use Rattle.std.proofs.lemmas.Bool.{ne_eqb, eq-eqb, and_parts, ltb-true, lt-ltb, le-ltb}
use Rattle.std.proofs.lemmas.List.{take_rest}
use Rattle.std.proofs.lemmas.Nat.{pow_pos, one_shl}
use Rattle.std.specs.List.{list_all}
use Rattle.std.proofs.Math.Nat.{mod-lt}
use Rattle.proto_wire.specs.Reading.{IsBytes}
use Rattle.hpack_tables.specs.Huffman.{Code, all_codes, code_bits, code_of, code_with, same_bits, number_bits, bits_of, text_behind, before_text, is_padding}
use Rattle.hpack_tables.specs.HuffmanWalk.{IsFront, IsShortCode, IsWalk, ReadsTo, StepsTo, taken, bits_left, later}
use Rattle.hpack_tables.specs.declared.huffman.Walk.{Walk}
use Rattle.hpack_tables.specs.declared.huffman.Window.{Window}
use Rattle.hpack_tables.specs.declared.huffman.Step.TheVariants.{More, Symbol}
use Rattle.hpack_tables.specs.declared.huffman.TheConstants.{COUNTS}
use Rattle.hpack_tables.specs.declared.short_codes.TheConstants.{SHORT_SYMBOLS, SHORT_LENS}
use Rattle.hpack_tables.proofs.HuffmanBits.{number_bits-add, number_bits-mod, same_bits-true, length-number_bits}
use Rattle.hpack_tables.proofs.HuffmanCode.{Found, some, each_below, each_below-at, is_code, is_in-from_Contains, contains-from_is_in, code_for, code_with-Found}
use Rattle.hpack_tables.proofs.HuffmanText.{number_bits_front, later_symbol, text_behind-nil, begin_walk, padding}
use Rattle.hpack_tables.proofs.HuffmanLaws.{all_true, text_code, text_padding}
use Rattle.hpack_tables.proofs.HuffmanSteps.{steps_to_more}

-- ---- the table of the short codes

abbrev is_short : ℕ → Bool
is_short byte =
    let len = get_or SHORT_LENS byte 0 in
    let symbol = get_or SHORT_SYMBOLS byte 0 in
    nat_lt len 9 && (nat_lt symbol 256 && cond (len == 0) (nat_lt 253 byte) (same_bits (number_bits len (byte / 2 ^ (8 - len))) (code_of symbol)))

all_short : each_below 256 is_short ≡ true
unfolding code_of all_codes
all_short = refl

pub short : (byte symbol len : ℕ) → byte < 256 → len ≡ get_or SHORT_LENS byte 0 → symbol ≡ get_or SHORT_SYMBOLS byte 0 → (len ≡ 0 → ⊥) → IsShortCode byte symbol len
short byte symbol len h is_len is_symbol more =
    let l = get_or SHORT_LENS byte 0 in
    let s = get_or SHORT_SYMBOLS byte 0 in
    let same = same_bits (number_bits l (byte / 2 ^ (8 - l))) (code_of s) in
    let p = and_parts (nat_lt l 9) (nat_lt s 256 && cond (l == 0) (nat_lt 253 byte) same) (each_below-at 256 byte is_short all_short h) in
    let q = and_parts (nat_lt s 256) (cond (l == 0) (nat_lt 253 byte) same) p.1 in
    let no : l == 0 ≡ false = ne_eqb l 0 (λ e. more (is_len ∙ e)) in
    let t : same ≡ true = rw no at q.1 in
    let less : l < 9 = ltb-true l 9 p.0 in
    let is_byte : s < 256 = ltb-true s 256 q.0 in
    rw (is_len, is_symbol) (record {
      some = omega (arith, more, is_len);
      short = omega arith;
      is_byte = is_byte;
      code = same_bits-true (number_bits l (byte / 2 ^ (8 - l))) (code_of s) t;
    })

pub long : (byte len : ℕ) → byte < 256 → len ≡ get_or SHORT_LENS byte 0 → len ≡ 0 → 254 ≤ byte
long byte len h is_len none =
    let l = get_or SHORT_LENS byte 0 in
    let s = get_or SHORT_SYMBOLS byte 0 in
    let same = same_bits (number_bits l (byte / 2 ^ (8 - l))) (code_of s) in
    let p = and_parts (nat_lt l 9) (nat_lt s 256 && cond (l == 0) (nat_lt 253 byte) same) (each_below-at 256 byte is_short all_short h) in
    let q = and_parts (nat_lt s 256) (cond (l == 0) (nat_lt 253 byte) same) p.1 in
    let yes : l == 0 ≡ true = eq-eqb l 0 (sym is_len ∙ none) in
    let t : nat_lt 253 byte ≡ true = rw yes at q.1 in
    let more : 253 < byte = ltb-true 253 byte t in
    omega arith

-- ---- the bits of a window

-- higher bits don't count
masked : (len number : ℕ) → len < 30 → number_bits len (number % 2 ^ 30) ≡ number_bits len number
masked len number h =
    let within : 30 - len + len ≡ 30 = omega arith in
    ap (λ n. number_bits len (number % 2 ^ n)) (sym within) ∙ number_bits-mod (30 - len) len number

-- one byte more
byte_more : (len number byte : ℕ) → byte < 256 → number_bits (len + 8) (number * 256 + byte) ≡ number_bits len number ++ number_bits 8 byte
byte_more len number byte is =
    let high : (number * 256 + byte) / 2 ^ 8 ≡ number = omega arith in
    let low : (number * 256 + byte) % 2 ^ 8 ≡ byte = omega arith in
    let last : number_bits 8 (number * 256 + byte) ≡ number_bits 8 byte = sym (number_bits-mod 0 8 (number * 256 + byte)) ∙ ap (number_bits 8) low in
    number_bits-add len 8 (number * 256 + byte) ∙ ap (λ n. number_bits len n ++ number_bits 8 (number * 256 + byte)) high ∙ ap (λ bits. number_bits len number ++ bits) last

behind : (len number byte : ℕ) (rest : List ℕ) → byte < 256 → number_bits (len + 8) (number * 256 + byte) ++ bits_of rest ≡ number_bits len number ++ bits_of (byte ∷ rest)
behind len number byte rest is =
    ap (λ bits. bits ++ bits_of rest) (byte_more len number byte is) ∙ append_assoc (number_bits len number) (number_bits 8 byte) (bits_of rest)

-- one byte in front of others
one_more : (len number byte : ℕ) (rest : List ℕ) → len < 30 → byte < 256 → number_bits (len + 8) (number % 2 ^ 30 * 256 + byte) ++ bits_of rest ≡ number_bits len number ++ bits_of (byte ∷ rest)
one_more len number byte rest h is =
    behind len (number % 2 ^ 30) byte rest is ∙ ap (λ bits. bits ++ bits_of (byte ∷ rest)) (masked len number h)

-- four of them
four_more : (len number a b c d : ℕ) (rest : List ℕ) → len < 30 → a < 256 → b < 256 → c < 256 → d < 256 →
    number_bits (len + 32) ((((number % 2 ^ 30 * 256 + a) * 256 + b) * 256 + c) * 256 + d) ++ bits_of rest ≡ number_bits len number ++ bits_of (a ∷ b ∷ c ∷ d ∷ rest)
four_more len number a b c d rest h is_a is_b is_c is_d =
    let x = number % 2 ^ 30 in
    let y = (x * 256 + a) * 256 + b in
    let lens : len + 8 + 8 + 8 + 8 ≡ len + 32 = omega arith in
    ap (λ n. number_bits n ((y * 256 + c) * 256 + d) ++ bits_of rest) (sym lens)
    ∙ behind (len + 8 + 8 + 8) (y * 256 + c) d rest is_d
    ∙ behind (len + 8 + 8) y c (d ∷ rest) is_c
    ∙ behind (len + 8) (x * 256 + a) b (c ∷ d ∷ rest) is_b
    ∙ behind len x a (b ∷ c ∷ d ∷ rest) is_a
    ∙ ap (λ bits. bits ++ bits_of (a ∷ b ∷ c ∷ d ∷ rest)) (masked len number h)

-- the same, with the bytes as they stand in a slice
pub one_refilled : (len number a : ℕ) (bytes : List ℕ) → len < 30 → IsBytes bytes → 1 ≤ length bytes → a ≡ get_or bytes 0 0 →
    number_bits (len + 8) (number % 2 ^ 30 * 256 + a) ++ bits_of (take (length bytes - 1) (drop 1 bytes)) ≡ number_bits len number ++ bits_of bytes
one_refilled len number a [] h fits long e = absurd (omega arith)
one_refilled len number a (x ∷ rest) h fits long e =
    rw (take_rest (x ∷ rest) 1, e) (one_more len number x rest h (fits 0))

pub four_refilled : (len number a b c d : ℕ) (bytes : List ℕ) → len < 30 → IsBytes bytes → 4 ≤ length bytes → a ≡ get_or bytes 0 0 → b ≡ get_or bytes 1 0 → c ≡ get_or bytes 2 0 → d ≡ get_or bytes 3 0 →
    number_bits (len + 32) ((((number % 2 ^ 30 * 256 + a) * 256 + b) * 256 + c) * 256 + d) ++ bits_of (take (length bytes - 4) (drop 4 bytes)) ≡ number_bits len number ++ bits_of bytes
four_refilled len number a b c d [] h fits long is_a is_b is_c is_d = absurd (omega arith)
four_refilled len number a b c d (x ∷ []) h fits long is_a is_b is_c is_d = absurd (omega arith)
four_refilled len number a b c d (x ∷ y ∷ []) h fits long is_a is_b is_c is_d = absurd (omega arith)
four_refilled len number a b c d (x ∷ y ∷ z ∷ []) h fits long is_a is_b is_c is_d = absurd (omega arith)
four_refilled len number a b c d (x ∷ y ∷ z ∷ w ∷ rest) h fits long is_a is_b is_c is_d =
    rw (take_rest (x ∷ y ∷ z ∷ w ∷ rest) 4, is_a, is_b, is_c, is_d) (four_more len number x y z w rest h (fits 0) (fits 1) (fits 2) (fits 3))

-- so many bits of the first eight, and the others
first_bits : (len number byte k : ℕ) → 8 ≤ len → k ≤ 8 → byte ≡ number / 2 ^ (len - 8) % 256 → number_bits len number ≡ number_bits k (byte / 2 ^ (8 - k)) ++ number_bits (len - k) number
first_bits len number byte k long short is =
    let high = number / 2 ^ (len - 8) in
    let a : 8 + (len - 8) ≡ len = omega arith in
    let b : k + (8 - k) ≡ 8 = omega arith in
    let c : 8 - k + (len - 8) ≡ len - k = omega arith in
    let whole : number_bits len number ≡ number_bits 8 high ++ number_bits (len - 8) number = ap (λ n. number_bits n number) (sym a) ∙ number_bits-add 8 (len - 8) number in
    let eight : number_bits 8 high ≡ number_bits 8 byte = sym (number_bits-mod 0 8 high) ∙ ap (number_bits 8) (sym is) in
    let parts : number_bits 8 byte ≡ number_bits k (byte / 2 ^ (8 - k)) ++ number_bits (8 - k) byte = ap (λ n. number_bits n byte) (sym b) ∙ number_bits-add k (8 - k) byte in
    let low : number_bits (8 - k) byte ≡ number_bits (8 - k) high = ap (number_bits (8 - k)) is ∙ ap (λ n. number_bits (8 - k) (high % 2 ^ n)) (sym b) ∙ number_bits-mod k (8 - k) high in
    let rest : number_bits (8 - k) high ++ number_bits (len - 8) number ≡ number_bits (len - k) number = sym (number_bits-add (8 - k) (len - 8) number) ∙ ap (λ n. number_bits n number) c in
    whole ∙ ap (λ bits. bits ++ number_bits (len - 8) number) (eight ∙ parts ∙ ap (λ bits. number_bits k (byte / 2 ^ (8 - k)) ++ bits) low)
    ∙ append_assoc (number_bits k (byte / 2 ^ (8 - k))) (number_bits (8 - k) high) (number_bits (len - 8) number)
    ∙ ap (λ bits. number_bits k (byte / 2 ^ (8 - k)) ++ bits) rest

-- seven ones in front
pub ones_front : (len number : ℕ) → 8 ≤ len → 254 ≤ number / 2 ^ (len - 8) % 256 → number_bits len number ≡ number_bits 7 127 ++ number_bits (len - 7) number
ones_front len number h large =
    let byte = number / 2 ^ (len - 8) % 256 in
    let half : byte / 2 ^ 1 ≡ 127 = omega arith in
    first_bits len number byte 7 h (omega arith) refl ∙ ap (λ n. number_bits 7 n ++ number_bits (len - 7) number) half

-- a bit more of a walk that is no code
on : (number len first at count : ℕ) → IsWalk (record { number = number; len = len; first = first; at = at }) → count ≡ get_or COUNTS len 0 → count ≤ 2 * number + 1 - 2 * first
    → IsWalk (record { number = 2 * number + 1; len = len + 1; first = 2 * first + count; at = at + count })
on number len first at count walk is h = (steps_to_more (record { number = number; len = len; first = first; at = at }) walk true count 1 is refl h).0

-- the walk behind seven ones
pub seven_ones : IsWalk (record { number = 127; len = 7; first = 124; at = 68 })
seven_ones =
    on 63 6 46 36 32 (on 31 5 10 10 26 (on 15 4 0 0 10 (on 7 3 0 0 0 (on 3 2 0 0 0 (on 1 1 0 0 0 (on 0 0 0 0 0 begin_walk refl (omega arith)) refl (omega arith)) refl (omega arith)) refl (omega arith)) refl (omega arith)) refl (omega arith)) refl (omega arith)

-- ---- the code in front

pub short_front : (len number byte symbol k : ℕ) → 8 ≤ len → byte ≡ number / 2 ^ (len - 8) % 256 → IsShortCode byte symbol k → IsFront (number_bits len number) symbol (number_bits (len - k) number)
short_front len number byte symbol k long is s =
    let small = s.is_byte in
    let found = code_for symbol (omega arith) in
    let of : code_of symbol ≡ code_bits found.0 = ap code_of (sym found.2) ∙ (is_code found.0 found.1).unique in
    record {
      code = found.0;
      known = contains-from_is_in all_codes found.0 found.1;
      same = found.2;
      parts = first_bits len number byte k long s.short is ∙ ap (λ bits. bits ++ number_bits (len - k) number) (s.code ∙ of);
    }

walked_by : (bits : List Bool) (symbol : ℕ) (o : Option Code) → (code : Code) × (o ≡ Some code) × (code.symbol ≡ symbol) → Found (λ code. same_bits (code_bits code) bits) all_codes o
    → (rest whole : List Bool) → whole ≡ bits ++ rest → IsFront whole symbol rest
walked_by bits symbol None h f rest whole e = absurd (let n = h.1 in cc)
walked_by bits symbol (Some c) h (some i t) rest whole e =
    let same : c ≡ h.0 = (let s = h.1 in cc) in
    record {
      code = c;
      known = contains-from_is_in all_codes c i;
      same = ap (λ (d : Code). d.symbol) same ∙ h.2;
      parts = e ∙ ap (λ front. front ++ rest) (sym (same_bits-true (code_bits c) bits t));
    }

module _ (w : Walk) (left number : ℕ) (whole : List Bool) (more : 0 < left) (parts : whole ≡ taken w ++ number_bits left number) where
  one_bit : whole ≡ (taken w ++ (number / 2 ^ (left - 1) % 2 == 1) ∷ []) ++ number_bits (left - 1) number
  one_bit =
      parts ∙ ap (λ bits. taken w ++ bits) (number_bits_front left number more)
      ∙ sym (append_assoc (taken w) ((number / 2 ^ (left - 1) % 2 == 1) ∷ []) (number_bits (left - 1) number))

  pub walked_on : (next : Walk) → StepsTo w (number / 2 ^ (left - 1) % 2 == 1) (More next) → whole ≡ taken next ++ number_bits (left - 1) number
  walked_on next h = one_bit ∙ ap (λ bits. bits ++ number_bits (left - 1) number) (sym h.1)

  pub walked_len : (next : Walk) → StepsTo w (number / 2 ^ (left - 1) % 2 == 1) (More next) → next.len ≡ w.len + 1
  walked_len next h =
      omega (
        arith,
        ap length h.1,
        length-append (taken w) ((number / 2 ^ (left - 1) % 2 == 1) ∷ []),
        length-number_bits w.len w.number,
        length-number_bits next.len next.number,
      )

  pub walked_front : (symbol : ℕ) → StepsTo w (number / 2 ^ (left - 1) % 2 == 1) (Symbol symbol) → IsFront whole symbol (number_bits (left - 1) number)
  walked_front symbol h =
      walked_by (taken w ++ (number / 2 ^ (left - 1) % 2 == 1) ∷ []) symbol (code_with (taken w ++ (number / 2 ^ (left - 1) % 2 == 1) ∷ [])) h.1
      (code_with-Found (taken w ++ (number / 2 ^ (left - 1) % 2 == 1) ∷ [])) (number_bits (left - 1) number) whole one_bit

-- ---- what a code in front gives

front_text : (bits rest more : List Bool) (symbol : ℕ) → IsFront bits symbol rest →
    text_behind [] (bits ++ more) ≡ cond (symbol == 256) None (before_text symbol (text_behind [] (rest ++ more)))
front_text bits rest more symbol f =
    ap (λ whole. text_behind [] (whole ++ more)) f.parts ∙ ap (text_behind []) (append_assoc (code_bits f.code) rest more)
    ∙ text_code f.code (is_in-from_Contains all_codes f.code f.known) (rest ++ more)
    ∙ ap (λ s. cond (s == 256) None (before_text s (text_behind [] (rest ++ more)))) f.same

pub front_end : (bits rest : List Bool) (symbol : ℕ) → IsFront bits symbol rest → symbol ≡ 256 → (more : List Bool) → text_behind [] (bits ++ more) ≡ None
front_end bits rest symbol f e more = front_text bits rest more symbol f ∙ rw (eq-eqb symbol 256 e) refl

pub front_symbol : (before : List ℕ) (bits rest : List Bool) (symbol : ℕ) → IsFront bits symbol rest → (symbol ≡ 256 → ⊥) → (more : List Bool) →
    later before (text_behind [] (bits ++ more)) ≡ later (before ++ symbol ∷ []) (text_behind [] (rest ++ more))
front_symbol before bits rest symbol f ne more =
    ap (later before) (front_text bits rest more symbol f ∙ rw (ne_eqb symbol 256 ne) refl) ∙ later_symbol before symbol (text_behind [] (rest ++ more))

pub front_byte : (bits rest : List Bool) (symbol : ℕ) → IsFront bits symbol rest → symbol ≤ 256
front_byte bits rest symbol f =
    let is = is_code f.code (is_in-from_Contains all_codes f.code f.known) in
    omega (arith, is.symbol, f.same)

-- ---- the last bits

-- whether they are a padding
pub padded : (len number : ℕ) → is_padding (number_bits len number) ≡ (nat_lt len 8 && (number % 2 ^ len + 1 == 2 ^ len))
padded len number =
    let none : 0 + len ≡ len = omega arith in
    let low : number_bits len (number % 2 ^ len) ≡ number_bits len number = ap (λ n. number_bits len (number % 2 ^ n)) (sym none) ∙ number_bits-mod 0 len number in
    ap is_padding (sym low) ∙ padding len (number % 2 ^ len) (mod-lt number (pow_pos len))

pub padded_short : (len number : ℕ) → len < 8 → (number % ((1 * 2 ^ len) % 2 ^ 64) + 1 == (1 * 2 ^ len) % 2 ^ 64) ≡ is_padding (number_bits len number)
padded_short len number h =
    let below : len < 64 = omega arith in
    rw (padded len number, lt-ltb len 8 h, one_shl len 64 below) refl

pub padded_long : (len number : ℕ) → 8 ≤ len → nat_lt len 8 ≡ is_padding (number_bits len number)
padded_long len number h = rw (padded len number, le-ltb len 8 h) refl

-- when they are a padding, they end the text
pub last_padded : (before : List ℕ) (bits : List Bool) → true ≡ is_padding bits → later before (text_behind [] bits) ≡ Some before
last_padded before bits e =
    let p = and_parts (nat_lt (length bits) 8) (list_all (λ bit. bit) bits) (sym e) in
    ap (later before) (ap (text_behind []) (all_true bits p.1) ∙ text_padding (length bits) (ltb-true (length bits) 8 p.0)) ∙ ap Some (append-nil before)

-- before the first of them
pub last_begin : (before : List ℕ) (bits : List Bool) → later before (text_behind [] bits) ≡ later before (text_behind [] (bits ++ []))
last_begin before bits = ap (λ more. later before (text_behind [] more)) (sym (append-nil bits))

by_padding : (now : List ℕ) (whole : Bool) → later now (cond whole (Some []) None) ≡ cond whole (Some now) None
by_padding now true = ap Some (append-nil now)
by_padding now false = refl

-- behind the last of them
pub last_end : (before now : List ℕ) (bits taken : List Bool) (left number : ℕ) (whole : Bool) → left ≡ 0 → whole ≡ is_padding taken →
    later before (text_behind [] bits) ≡ later now (text_behind taken (number_bits left number ++ [])) → later before (text_behind [] bits) ≡ cond whole (Some now) None
last_end before now bits taken left number whole none is e =
    e ∙ ap (λ n. later now (text_behind taken (number_bits n number ++ []))) none ∙ ap (later now) (text_behind-nil taken) ∙ ap (λ b. later now (cond b (Some []) None)) (sym is) ∙ by_padding now whole

-- ---- more bytes

-- what is read of a refilled window
pub reads_on : (before after bytes rest : List ℕ) (left bits : List Bool) (whole : Option (List ℕ)) (next : Window) → later before (text_behind [] (left ++ bits_of bytes)) ≡ whole
    → bits ++ bits_of rest ≡ left ++ bits_of bytes → ReadsTo bits before after (Some next) → later after (text_behind [] (bits_left next ++ bits_of rest)) ≡ whole
reads_on before after bytes rest left bits whole next so_far parts reads =
    sym (reads.1 (bits_of rest)) ∙ ap (λ more. later before (text_behind [] more)) parts ∙ so_far

-- the end symbol
pub reads_none : (before after bytes rest : List ℕ) (left bits : List Bool) (whole : Option (List ℕ)) (next : Option Window) → later before (text_behind [] (left ++ bits_of bytes)) ≡ whole
    → bits ++ bits_of rest ≡ left ++ bits_of bytes → next ≡ None → ReadsTo bits before after next → None ≡ whole
reads_none before after bytes rest left bits whole (Some w) so_far parts none reads = absurd cc
reads_none before after bytes rest left bits whole None so_far parts none reads =
    sym (ap (later before) (reads (bits_of rest))) ∙ ap (λ more. later before (text_behind [] more)) parts ∙ so_far

-- the end
pub reads_last : (before bytes : List ℕ) (bits : List Bool) (whole last : Option (List ℕ)) → later before (text_behind [] (bits ++ bits_of bytes)) ≡ whole → length bytes ≡ 0
    → later before (text_behind [] bits) ≡ last → last ≡ whole
reads_last before [] bits whole last so_far none is = sym is ∙ ap (λ more. later before (text_behind [] more)) (sym (append-nil bits)) ∙ so_far
reads_last before (b ∷ bytes) bits whole last so_far none is = absurd (omega arith)
