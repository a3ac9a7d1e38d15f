-- Hex text in lower case: it gives the bytes that it was written of, and no other text does.
use Rattle.std.proofs.Common.{◌≡◌, ℕ, zero, suc, ◌+◌, ◌*◌, ◌/◌, ◌%◌, ◌<◌, Bool, true, false, cond, eqb, ltb, ◌&&◌, List, [], ◌∷◌, length, slice_index, Option, Some, None, Result, Ok, Err, refl, sym, ap, ◌∙◌, inl, inr, arith}
use Rattle.std.specs.List.{list_all}
use Rattle.std.specs.Result.{result_ok}
use Rattle.std.proofs.lemmas.Bool.{and_parts, cases_lt, eqb-true}
use Rattle.hex.specs.Hex.{IsBytes, lower_digits, encode_lower, encode_with, hex_digit_value, digit_or_error, value_at, pair_value, decode_pairs, decode_of}
use Rattle.hex.specs.declared.error.FromHexError.{FromHexError}
use Rattle.hex.proofs.HexLemmas.{length-encode_with, decode_of-encode_lower, decode_of-ok, decode_of-even}
use Rattle.proto_wire.proofs.Steps.{bind_ok, ok_is}
use Rattle.digest_types.specs.Hex.{is_lower_digit, unhex_of}
use Rattle.digest_types.specs.Reading.{hash_of}

-- ---- the digits

-- the digit of a value
abbrev digit_of : ℕ → ℕ
digit_of v = cond (ltb v 10) (48 + v) (87 + v)

abbrev all_glyphs : ℕ → Bool
all_glyphs zero = true
all_glyphs (suc n) = eqb (slice_index lower_digits n) (digit_of n) && all_glyphs n

glyph_below : (n k : ℕ) → all_glyphs n ≡ true → k < n → slice_index lower_digits k ≡ digit_of k
glyph_below zero k h lt = absurd (omega arith)
glyph_below (suc n) k h lt =
    let parts = and_parts (eqb (slice_index lower_digits n) (digit_of n)) (all_glyphs n) h in
    elim (cases_lt k n) [
      | inl below ↦ glyph_below n k parts.1 below
      | inr top ↦
          let e : k ≡ n = omega arith in
          rw e (eqb-true (slice_index lower_digits n) (digit_of n) parts.0)
    ]

glyph : (k : ℕ) → k < 16 → slice_index lower_digits k ≡ digit_of k
glyph k lt = glyph_below 16 k refl lt

digit_of-lower : (k : ℕ) → k < 16 → is_lower_digit (digit_of k) ≡ true
digit_of-lower k lt = grind (arith)

glyph-lower : (k : ℕ) → k < 16 → is_lower_digit (slice_index lower_digits k) ≡ true
glyph-lower k lt = rw (glyph k lt) (digit_of-lower k lt)

-- a digit of lower case is the digit of its value
value_digit : (c v : ℕ) → is_lower_digit c ≡ true → hex_digit_value c ≡ Some v → (v < 16) × (digit_of v ≡ c)
value_digit c v lower read = grind (arith)

value_glyph : (c v : ℕ) → is_lower_digit c ≡ true → hex_digit_value c ≡ Some v → (v < 16) × (slice_index lower_digits v ≡ c)
value_glyph c v lower read =
    let d = value_digit c v lower read in
    (d.0, glyph v d.0 ∙ d.1)

-- ---- what is written is read

pub encode_lower-digits : (bytes : List ℕ) → IsBytes bytes → list_all is_lower_digit (encode_lower bytes) ≡ true
unfolding encode_with
encode_lower-digits [] fits = refl
encode_lower-digits (b ∷ bs) fits =
    let small : b < 256 = fits 0 in
    let high = glyph-lower (b / 16) (omega arith) in
    let low = glyph-lower (b % 16) (omega arith) in
    rw (high, low) (encode_lower-digits bs (λ i. fits (suc i)))

pub unhex_of-again : (bytes : List ℕ) → IsBytes bytes → unhex_of (encode_lower bytes) ≡ Some bytes
unfolding unhex_of
unhex_of-again bytes fits = rw (encode_lower-digits bytes fits, decode_of-encode_lower bytes fits) refl

-- ---- what is read was written so

digit_read : (c i : ℕ) (o : Option ℕ) (v : ℕ) → digit_or_error c i o ≡ Ok v → o ≡ Some v
digit_read c i (Some w) v e = cc
digit_read c i None v e = absurd cc

decode_pairs-found : (i : ℕ) (text bytes : List ℕ) → list_all is_lower_digit text ≡ true → decode_pairs i text ≡ Ok bytes → encode_lower bytes ≡ text
unfolding decode_pairs encode_with
decode_pairs-found i [] bytes lower e =
    let same : [] ≡ bytes = cc in
    rw (← same) refl
decode_pairs-found i (a ∷ []) bytes lower e = absurd cc
decode_pairs-found i (a ∷ b ∷ rest) bytes lower e =
    let tests = and_parts (is_lower_digit a) (list_all is_lower_digit (b ∷ rest)) lower in
    let others = and_parts (is_lower_digit b) (list_all is_lower_digit rest) tests.1 in
    let p0 = bind_ok (pair_value a b i) _ bytes e in
    let p1 = bind_ok (value_at a i) _ p0.0 p0.1 in
    let p2 = bind_ok (value_at b (i + 1)) _ p0.0 p1.2 in
    let p3 = bind_ok (decode_pairs (i + 2) rest) _ bytes p0.2 in
    let ih = decode_pairs-found (i + 2) rest p3.0 others.1 p3.1 in
    let high = value_glyph a p1.0 tests.0 (digit_read a i (hex_digit_value a) p1.0 p1.1) in
    let low = value_glyph b p2.0 others.0 (digit_read b (i + 1) (hex_digit_value b) p2.0 p2.1) in
    let byte : p1.0 * 16 + p2.0 ≡ p0.0 = ok_is _ _ p2.2 in
    let same : p0.0 ∷ p3.0 ≡ bytes = ok_is _ _ p3.2 in
    let first : p0.0 / 16 ≡ p1.0 = omega (arith, high.0, low.0, byte) in
    let second : p0.0 % 16 ≡ p2.0 = omega (arith, high.0, low.0, byte) in
    rw (← same, first, second, high.1, low.1, ih) refl

result_ok-some : (r : Result (List ℕ) FromHexError) (x : List ℕ) → result_ok r ≡ Some x → r ≡ Ok x
result_ok-some (Ok y) x e = cc
result_ok-some (Err d) x e = absurd cc

if_some : (t : Bool) (o : Option (List ℕ)) (x : List ℕ) → cond t o None ≡ Some x → (t ≡ true) × (o ≡ Some x)
if_some true o x e = (refl, e)
if_some false o x e = absurd cc

pub unhex_of-found : (text bytes : List ℕ) → unhex_of text ≡ Some bytes → IsBytes bytes × (encode_lower bytes ≡ text)
unfolding unhex_of
unhex_of-found text bytes e =
    let parts = if_some (list_all is_lower_digit text) (result_ok (decode_of text)) bytes e in
    let read = result_ok-some (decode_of text) bytes parts.1 in
    let ok = decode_of-ok text bytes read in
    (ok.3, decode_pairs-found 0 text bytes parts.0 (sym (decode_of-even text ok.0) ∙ read))

-- what a hash that is read says of its text
pub record IsHash (text hash : List ℕ) : Type 0 where
  pub len : length hash ≡ 32
  pub bytes : IsBytes hash
  pub text_is : encode_lower hash ≡ text

pub hash_found : (text hash : List ℕ) → hash_of text ≡ Some hash → IsHash text hash
unfolding hash_of
hash_found text hash e =
    let parts = if_some (eqb (length text) 64) (unhex_of text) hash e in
    let found = unhex_of-found text hash parts.1 in
    let long = eqb-true (length text) 64 parts.0 in
    record { len = omega (arith, long, ap length found.1, length-encode_with lower_digits hash); bytes = found.0; text_is = found.1 }
