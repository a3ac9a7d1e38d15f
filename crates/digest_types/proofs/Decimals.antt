-- Decimal numbers without sign and leading zero: what is printed is one, and each one was printed so.
use Rattle.std.proofs.Common.{◌≡◌, ℕ, ◌^◌, ◌<◌, ◌≤◌, Bool, true, false, not, cond, eqb, ltb, leb, ◌&&◌, List, [], ◌∷◌, length, get_or, Some, None, Result, Ok, Err, ◌≢◌, refl, sym, ap, ◌∙◌, inl, inr, subst, arith}
use Rattle.std.specs.Fmt.{decimal}
use Rattle.std.specs.List.{list_all}
use Rattle.std.specs.Result.{OkIff}
use Rattle.std.specs.Str.Parse.{ParsesUnsigned}
use Rattle.std.proofs.Math.Bool.{and-true}
use Rattle.std.proofs.lemmas.Bool.{and_parts, cases_lt, eqb-false, ne_eqb, le-leb, leb-true, lt-ltb, le-ltb, ltb-true}
use Rattle.std.proofs.lemmas.Fmt.{digits_decimal, digits_value-decimal, decimal_nonempty, first_decimal, decimal_digit, decimal-digits_value}
use Rattle.std.proofs.lemmas.Str.Parse.{IsDigitsTest, FoldsDigits, IsNumeralModel, numerals_by_fold, parse_digits}
use Rattle.digest_types.specs.Parsing.{is_digit, is_decimal, value_of, size_of}

-- each byte is a decimal digit
abbrev pub AreDigits : List ℕ → Type 0
AreDigits text = list_all is_digit text ≡ true

digit_is : (c : ℕ) → 48 ≤ c → c ≤ 57 → is_digit c ≡ true
digit_is c low high = rw (le-leb 48 c low, le-leb c 57 high) refl

is_digits_test : IsDigitsTest AreDigits
is_digits_test = record {
  empty = refl;
  parts = λ c cs e.
      let both = and_parts (is_digit c) (list_all is_digit cs) e in
      let ends = and_parts (leb 48 c) (leb c 57) both.0 in
      ((leb-true 48 c ends.0, leb-true c 57 ends.1), both.1);
  more = λ c cs k e. rw (digit_is c k.0 k.1) e;
}

folds_digits : FoldsDigits value_of
unfolding value_of
folds_digits = record {
  empty = λ n. refl;
  more = λ n c cs k. ap (λ (m : ℕ). value_of m cs) (omega arith);
}

-- std's lemmas on decimal numbers hold in the words of this crate
pub numerals : IsNumeralModel AreDigits (value_of 0)
numerals = numerals_by_fold AreDigits is_digits_test value_of folds_digits

-- ---- what is printed is a decimal number

no_leading_zero : (c : ℕ) (rest : List ℕ) → AreDigits (c ∷ rest) → (0 < length rest → 48 < c) → is_decimal (c ∷ rest) ≡ true
no_leading_zero c [] digits lead = (and_parts (is_digit c) true digits).0
no_leading_zero c (d ∷ rest) digits lead =
    let parts = and_parts (is_digit c) (list_all is_digit (d ∷ rest)) digits in
    let first : 48 < c = lead (omega arith) in
    rw (parts.0, ne_eqb c 48 (λ e. omega arith), parts.1) refl

led : (text : List ℕ) → AreDigits text → 0 < length text → (1 < length text → 48 < get_or text 0 0) → is_decimal text ≡ true
led [] digits some lead = absurd (omega arith)
led (c ∷ rest) digits some lead = no_leading_zero c rest digits (λ h. lead (omega arith))

is_decimal-decimal : (n : ℕ) → n < 2 ^ 64 → is_decimal (decimal n) ≡ true
is_decimal-decimal n small =
    elim (cases_lt 0 n) [
      | inl some ↦ led (decimal n) (digits_decimal numerals n small) (decimal_nonempty n small) (λ h. first_decimal n some small)
      | inr none ↦
          let one = decimal_digit n (omega arith) in
          led (decimal n) (digits_decimal numerals n small) (decimal_nonempty n small) (λ h. absurd (omega (arith, ap length one)))
    ]

pub size_of-decimal : (n : ℕ) → n < 2 ^ 63 → size_of (decimal n) ≡ Some n
unfolding size_of
size_of-decimal n small = rw (is_decimal-decimal n (omega arith), digits_value-decimal numerals n (omega arith), lt-ltb n (2 ^ 63) small) refl

-- ---- what is a decimal number was printed so

record IsNumber (text : List ℕ) : Type 0 where
  digits : AreDigits text
  some : 0 < length text
  lead : get_or text 0 0 ≡ 48 → length text ≡ 1

not-true : (b : Bool) → not b ≡ true → b ≡ false
not-true true e = absurd cc
not-true false e = refl

is_number : (text : List ℕ) → is_decimal text ≡ true → IsNumber text
is_number [] e = absurd cc
is_number (c ∷ []) e = record { digits = rw e refl; some = omega arith; lead = λ z. refl }
is_number (c ∷ d ∷ rest) e =
    let parts = and_parts (is_digit c && not (eqb c 48)) (list_all is_digit (d ∷ rest)) e in
    let first = and_parts (is_digit c) (not (eqb c 48)) parts.0 in
    let ne = eqb-false c 48 (not-true (eqb c 48) first.1) in
    record { digits = rw first.0 parts.1; some = omega arith; lead = λ z. absurd (ne z) }

if_some : (t : Bool) (m n : ℕ) → cond t (Some m) None ≡ Some n → (t ≡ true) × (m ≡ n)
if_some true m n e = (refl, cc)
if_some false m n e = absurd cc

pub size_of-found : (text : List ℕ) (n : ℕ) → size_of text ≡ Some n → (n < 2 ^ 63) × (decimal n ≡ text)
unfolding size_of
size_of-found text n e =
    let s = if_some (is_decimal text && ltb (value_of 0 text) (2 ^ 63)) (value_of 0 text) n e in
    let parts = and_parts (is_decimal text) (ltb (value_of 0 text) (2 ^ 63)) s.0 in
    let small = ltb-true (value_of 0 text) (2 ^ 63) parts.1 in
    let number = is_number text parts.0 in
    (omega (arith, s.1), ap decimal (sym s.1) ∙ decimal-digits_value numerals text number.digits number.some number.lead (omega arith))

-- ---- as the code reads one

pub one_digit : (text : List ℕ) → length text ≡ 1 → list_all is_digit text ≡ is_decimal text
one_digit [] e = absurd (omega arith)
one_digit (c ∷ []) e = and-true (is_digit c)
one_digit (c ∷ d ∷ rest) e = absurd (omega arith)

pub no_zero_first : (text : List ℕ) → 0 < length text → get_or text 0 0 ≢ 48 → list_all is_digit text ≡ is_decimal text
no_zero_first [] some ne = absurd (omega arith)
no_zero_first (c ∷ []) some ne = and-true (is_digit c)
no_zero_first (c ∷ d ∷ rest) some ne = rw (ne_eqb c 48 ne, and-true (is_digit c)) refl

size_of-small : (text : List ℕ) → is_decimal text ≡ true → value_of 0 text < 2 ^ 63 → size_of text ≡ Some (value_of 0 text)
unfolding size_of
size_of-small text e small = rw (e, lt-ltb (value_of 0 text) (2 ^ 63) small) refl

size_of-large : (text : List ℕ) → is_decimal text ≡ true → 2 ^ 63 ≤ value_of 0 text → size_of text ≡ None
unfolding size_of
size_of-large text e large = rw (e, le-ltb (value_of 0 text) (2 ^ 63) large) refl

read_is : {E : Type 0} (text : List ℕ) (r : Result ℕ E) → is_decimal text ≡ true → ParsesUnsigned 64 10 text r → OkIff r ((0 < length text) × (value_of 0 text < 2 ^ 64)) (value_of 0 text)
read_is text r e h = parse_digits numerals 64 text r h (is_number text e).digits

pub read_small : {E : Type 0} (text : List ℕ) (r : Result ℕ E) (n : ℕ) → is_decimal text ≡ true → r ≡ Ok n → ParsesUnsigned 64 10 text r → n < 2 ^ 63 → Some n ≡ size_of text
read_small {E = E} text r n e is h small =
    let k = subst (λ (x : Result ℕ E). OkIff x ((0 < length text) × (value_of 0 text < 2 ^ 64)) (value_of 0 text)) is (read_is text r e h) in
    ap (λ (m : ℕ). Some m) k.1 ∙ sym (size_of-small text e (omega (arith, k.1)))

pub read_large : {E : Type 0} (text : List ℕ) (r : Result ℕ E) (n : ℕ) → is_decimal text ≡ true → r ≡ Ok n → ParsesUnsigned 64 10 text r → 2 ^ 63 ≤ n → None ≡ size_of text
read_large {E = E} text r n e is h large =
    let k = subst (λ (x : Result ℕ E). OkIff x ((0 < length text) × (value_of 0 text < 2 ^ 64)) (value_of 0 text)) is (read_is text r e h) in
    sym (size_of-large text e (omega (arith, k.1)))

pub read_err : {E : Type 0} (text : List ℕ) (r : Result ℕ E) (d : E) → is_decimal text ≡ true → r ≡ Err d → ParsesUnsigned 64 10 text r → None ≡ size_of text
read_err {E = E} text r d e is h =
    let k = subst (λ (x : Result ℕ E). OkIff x ((0 < length text) × (value_of 0 text < 2 ^ 64)) (value_of 0 text)) is (read_is text r e h) in
    elim (cases_lt (value_of 0 text) (2 ^ 64)) [
      | inl small ↦ absurd (k ((is_number text e).some, small))
      | inr large ↦ sym (size_of-large text e (omega arith))
    ]
