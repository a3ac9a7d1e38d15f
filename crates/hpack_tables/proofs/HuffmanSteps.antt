-- The walk finds the code with the bits that it took.
use Rattle.std.proofs.Common.{◌≡◌, ℕ, zero, suc, ◌+◌, ◌-◌, ◌*◌, ◌^◌, ◌<◌, ◌≤◌, Bool, true, false, cond, List, [], ◌∷◌, ◌++◌, length, get_or, take, drop, Option, Some, None, inl, inr, refl, sym, ◌∙◌, ap, arith, length-drop, drop-cons, add-one}
use Rattle.std.specs.Prelude.{find, sum}
use Rattle.std.proofs.lemmas.Bool.{false_from_ne_true, cases_lt}
use Rattle.std.proofs.lemmas.List.{drop-drop, get_or-take, get_or-drop, length-take-le}
use Rattle.std.proofs.lemmas.List.Folds.{find-append}
use Rattle.std.proofs.lemmas.List.Sums.{sum_by-cons}
use Rattle.std.proofs.Math.Nat.{pow-suc, mod-eq_of_lt}
use Rattle.hpack_tables.specs.Huffman.{Code, one_length, all_codes, code_bits, code_with, same_bits, number_bits}
use Rattle.hpack_tables.specs.HuffmanWalk.{codes_from, end_of, taken, IsWalk, StepsTo}
use Rattle.hpack_tables.specs.declared.huffman.Walk.{Walk}
use Rattle.hpack_tables.specs.declared.huffman.Step.TheVariants.{More, Symbol}
use Rattle.hpack_tables.specs.declared.huffman.TheConstants.{COUNTS, SYMBOLS}
use Rattle.hpack_tables.proofs.HuffmanBits.{value, length-number_bits, value-number_bits, same_bits-true, same_bits-refl, number_bits-more}
use Rattle.hpack_tables.proofs.HuffmanCode.{Found, some, is_code, code_with-Found}

-- the tables of the code are the standard's
pub from_begin : all_codes ≡ codes_from 0 0 COUNTS SYMBOLS
unfolding all_codes
from_begin = refl

abbrev has_bits : List Bool → Code → Bool
has_bits bits code = same_bits (code_bits code) bits

other_len : (len number : ℕ) (bits : List Bool) → (length bits ≡ len → ⊥) → same_bits (number_bits len number) bits ≡ false
other_len len number bits h =
    false_from_ne_true _ (λ t. h (sym (ap length (same_bits-true _ _ t)) ∙ length-number_bits len number))

other_number : (len a b : ℕ) → a < b → b < 2 ^ len → same_bits (number_bits len a) (number_bits len b) ≡ false
other_number len a b h l =
    false_from_ne_true _ (λ t.
    let e = ap value (same_bits-true (number_bits len a) (number_bits len b) t) in
    let small : a < 2 ^ len = omega arith in
    let f = rw (value-number_bits len a, value-number_bits len b, mod-eq_of_lt small, mod-eq_of_lt l) at e in
    omega arith)

not_of_len : (len first : ℕ) (symbols : List ℕ) (bits : List Bool) → (length bits ≡ len → ⊥) → find (has_bits bits) (one_length len first symbols) ≡ None
not_of_len len first [] bits h = refl
not_of_len len first (s ∷ symbols) bits h = rw (other_len len first bits h) (not_of_len len (first + 1) symbols bits h)

hit : (len first number k : ℕ) (symbols : List ℕ) → first + k ≡ number → k < length symbols → number < 2 ^ len →
    find (has_bits (number_bits len number)) (one_length len first symbols) ≡ Some (record { symbol = get_or symbols k 0; len = len; number = number })
hit len first number k [] e h l = absurd (omega arith)
hit len first number zero (s ∷ symbols) e h l =
    let same : first ≡ number = omega arith in
    rw (same, same_bits-refl (number_bits len number)) refl
hit len first number (suc k) (s ∷ symbols) e h l =
    rw (other_number len first number (omega arith) l) (hit len (first + 1) number k symbols (omega arith) (omega arith) l)

miss : (len first number : ℕ) (symbols : List ℕ) → first + length symbols ≤ number → number < 2 ^ len →
    find (has_bits (number_bits len number)) (one_length len first symbols) ≡ None
miss len first number [] h l = refl
miss len first number (s ∷ symbols) h l =
    rw (other_number len first number (omega arith) l) (miss len (first + 1) number symbols (omega arith) l)

-- all of these codes are longer
short : (len first : ℕ) (counts symbols : List ℕ) (bits : List Bool) → length bits ≤ len → find (has_bits bits) (codes_from len first counts symbols) ≡ None
short len first [] symbols bits h = refl
short len first (count ∷ counts) symbols bits h =
    rw (
      find-append (has_bits bits) (one_length (len + 1) (2 * first) (take count symbols)) (codes_from (len + 1) (2 * first + count) counts (drop count symbols)),
      not_of_len (len + 1) (2 * first) (take count symbols) bits (λ e. omega arith),
    )
    (short (len + 1) (2 * first + count) counts (drop count symbols) bits (omega arith))

module _ (len first count : ℕ) (counts symbols : List ℕ) where
  later_codes : (bits : List Bool) → len + 1 < length bits →
      find (has_bits bits) (codes_from len first (count ∷ counts) symbols) ≡ find (has_bits bits) (codes_from (len + 1) (2 * first + count) counts (drop count symbols))
  later_codes bits h =
      rw (
        find-append (has_bits bits) (one_length (len + 1) (2 * first) (take count symbols)) (codes_from (len + 1) (2 * first + count) counts (drop count symbols)),
        not_of_len (len + 1) (2 * first) (take count symbols) bits (λ e. omega arith),
      )
      refl

  hit_step : (number k : ℕ) → 2 * first + k ≡ number → k < count → count ≤ length symbols → number < 2 ^ (len + 1) →
      find (has_bits (number_bits (len + 1) number)) (codes_from len first (count ∷ counts) symbols) ≡ Some (record { symbol = get_or symbols k 0; len = len + 1; number = number })
  hit_step number k e h c l =
      let size = length-take-le count symbols c in
      rw (
        find-append (has_bits (number_bits (len + 1) number)) (one_length (len + 1) (2 * first) (take count symbols)) (codes_from (len + 1) (2 * first + count) counts (drop count symbols)),
        hit (len + 1) (2 * first) number k (take count symbols) e (omega arith) l,
        get_or-take count symbols k 0 h,
      )
      refl

  miss_step : (number : ℕ) → 2 * first + count ≤ number → count ≤ length symbols → number < 2 ^ (len + 1) →
      find (has_bits (number_bits (len + 1) number)) (codes_from len first (count ∷ counts) symbols) ≡ None
  miss_step number h c l =
      let size = length-take-le count symbols c in
      let bits = length-number_bits (len + 1) number in
      rw (
        find-append (has_bits (number_bits (len + 1) number)) (one_length (len + 1) (2 * first) (take count symbols)) (codes_from (len + 1) (2 * first + count) counts (drop count symbols)),
        miss (len + 1) (2 * first) number (take count symbols) (omega arith) l,
      )
      (short (len + 1) (2 * first + count) counts (drop count symbols) (number_bits (len + 1) number) (omega arith))

-- ---- the steps

found_le : (bits : List Bool) (o : Option Code) (c : Code) → o ≡ Some c → Found (has_bits bits) all_codes o → c.symbol ≤ 256
found_le bits None c e f = cc
found_le bits (Some b) c e (some i t) = let same : b ≡ c = cc in rw (← same) (is_code b i).symbol

symbol_le : (bits : List Bool) (c : Code) → code_with bits ≡ Some c → c.symbol ≤ 256
symbol_le bits c e = found_le bits (code_with bits) c e (code_with-Found bits)

-- at 30 bits no number is left
counts_end : (first len : ℕ) → len ≡ 30 → end_of first (drop len COUNTS) ≡ first
counts_end first len e = rw e refl

pub more_bits : (w : Walk) → IsWalk w → w.len < 30
more_bits w walk = elim (cases_lt w.len 30) [
  | inl h ↦ h
  | inr h ↦
      (let few = walk.few in
      let e : w.len ≡ 30 = omega arith in
      let fits = rw e at walk.fits in
      let room = sym (counts_end w.first w.len e) ∙ walk.room in
      let least = walk.least in
      absurd (omega arith))
]

pub counts_cons : (len : ℕ) → len < 30 → drop len COUNTS ≡ get_or COUNTS len 0 ∷ drop (len + 1) COUNTS
counts_cons len h = rw (add-one) (drop-cons COUNTS len 0 h)

pub length-SYMBOLS : length SYMBOLS ≡ 257
length-SYMBOLS = refl

module _ (w : Walk) (walk : IsWalk w) (bit : Bool) (count d : ℕ) (is : count ≡ get_or COUNTS w.len 0) (is_bit : d ≡ cond bit 1 0) where
  len-lt : w.len < 30
  len-lt = more_bits w walk

  cons : drop w.len COUNTS ≡ count ∷ drop (w.len + 1) COUNTS
  cons = rw is (counts_cons w.len len-lt)

  d-lt : d < 2
  d-lt = rw is_bit (elim bit as (λ b. cond b 1 0 < 2) [ true ↦ omega arith | false ↦ omega arith ])

  next_fits : 2 * w.number + d < 2 ^ (w.len + 1)
  next_fits = rw (add-one, pow-suc) (omega (arith, walk.fits, d-lt))

  counted : w.at + (count + sum (drop (w.len + 1) COUNTS)) ≡ 257
  counted = ap (λ n. w.at + n) (sym (sum_by-cons (λ x. x) count (drop (w.len + 1) COUNTS))) ∙ ap (λ xs. w.at + sum xs) (sym cons) ∙ walk.symbols

  enough : count ≤ length (drop w.at SYMBOLS)
  enough = omega (arith, counted, length-drop w.at SYMBOLS, length-SYMBOLS)

  bits : number_bits (w.len + 1) (2 * w.number + d) ≡ taken w ++ bit ∷ []
  bits = rw is_bit (number_bits-more w.len w.number bit)

  code : code_with (taken w ++ bit ∷ []) ≡ find (has_bits (number_bits (w.len + 1) (2 * w.number + d))) (codes_from w.len w.first (count ∷ drop (w.len + 1) COUNTS) (drop w.at SYMBOLS))
  code =
      rw (← bits)
      (walk.codes (number_bits (w.len + 1) (2 * w.number + d)) (omega (arith, length-number_bits (w.len + 1) (2 * w.number + d)))
      ∙ ap (λ xs. find (has_bits (number_bits (w.len + 1) (2 * w.number + d))) (codes_from w.len w.first xs (drop w.at SYMBOLS))) cons)

  pub symbol_place : 2 * w.number + d - 2 * w.first < count → w.at + (2 * w.number + d - 2 * w.first) < 257
  symbol_place h = omega (arith, counted)

  pub steps_to_symbol : (symbol : ℕ) → 2 * w.number + d - 2 * w.first < count → symbol ≡ get_or SYMBOLS (w.at + (2 * w.number + d - 2 * w.first)) 0 → StepsTo w bit (Symbol symbol)
  steps_to_symbol symbol h e =
      let k = 2 * w.number + d - 2 * w.first in
      let least = walk.least in
      let f = code ∙ hit_step w.len w.first count (drop (w.len + 1) COUNTS) (drop w.at SYMBOLS) (2 * w.number + d) k (omega arith) h enough next_fits in
      let same : get_or (drop w.at SYMBOLS) k 0 ≡ symbol = get_or-drop w.at SYMBOLS k 0 ∙ sym e in
      ((rw (← same) (symbol_le _ _ f)), (_, f, same))

  next_codes : (more : List Bool) → w.len + 1 < length more →
      code_with more ≡ find (has_bits more) (codes_from (w.len + 1) (2 * w.first + count) (drop (w.len + 1) COUNTS) (drop (w.at + count) SYMBOLS))
  next_codes more h =
      walk.codes more (omega arith)
      ∙ ap (λ xs. find (has_bits more) (codes_from w.len w.first xs (drop w.at SYMBOLS))) cons
      ∙ later_codes w.len w.first count (drop (w.len + 1) COUNTS) (drop w.at SYMBOLS) more h
      ∙ ap (λ xs. find (has_bits more) (codes_from (w.len + 1) (2 * w.first + count) (drop (w.len + 1) COUNTS) xs)) (drop-drop count w.at SYMBOLS)

  pub steps_to_more : count ≤ 2 * w.number + d - 2 * w.first → StepsTo w bit (More (record { number = 2 * w.number + d; len = w.len + 1; first = 2 * w.first + count; at = w.at + count }))
  steps_to_more h =
      let least = walk.least in
      let lt = len-lt in
      let size = counted in (
        (record {
          few = omega arith;
          fits = next_fits;
          least = omega arith;
          room = ap (end_of w.first) (sym cons) ∙ walk.room;
          symbols = omega arith;
          codes = next_codes;
        }),
        bits,
        code ∙ miss_step w.len w.first count (drop (w.len + 1) COUNTS) (drop w.at SYMBOLS) (2 * w.number + d) (omega arith) enough next_fits,
      )
