-- How words are cut and read.
use Rattle.std.proofs.Common.{◌≡◌, ℕ, ◌<◌, ◌≤◌, ◌^◌, true, Bor, take, List, [], ◌∷◌, length, Option, Some, None, Result, Ok, Err, refl, sym, ap, subst, ◌∙◌, inl, inr, arith, ltb}
use Rattle.std.specs.Prelude.{MatchOption}
use Rattle.std.specs.List.{list_all, position_or_len}
use Rattle.std.specs.Result.{OkIff}
use Rattle.std.specs.Str.Parse.{ParsesUnsigned}
use Rattle.std.proofs.lemmas.Bool.{and_parts, cases_lt, lt-ltb, le-ltb, ltb-true}
use Rattle.std.proofs.lemmas.List.{take_all}
use Rattle.std.proofs.lemmas.Str.Parse.{parse_digits}
use Rattle.std.proofs.lemmas.Str.Pattern.{IsSplitOnceResult, split_once_first}
use Rattle.digest_types.specs.Parsing.{is_digit, value_of}
use Rattle.digest_types.proofs.Decimals.{numerals}
use Rattle.casd_daemon.specs.Words.{is_sign, before_sign, after_sign, is_number, number_of, then_words}

pub split_sign : (text : List ℕ) (r : Option (Bor (List ℕ) × Bor (List ℕ))) → IsSplitOnceResult 61 text r → MatchOption r ((before_sign text ≡ text) × (after_sign text ≡ None)) (λ x. (x.0.now ≡ before_sign text) × (after_sign text ≡ Some x.1.now))
split_sign text (Some x) h =
    let f = split_once_first 61 text (Some x) h (omega arith) in
    (f.1, rw (lt-ltb (position_or_len is_sign text) (length text) f.0) (ap (λ (t : List ℕ). Some t) (sym f.2)))
split_sign text None h =
    let f = split_once_first 61 text None h (omega arith) in
    (ap (λ (k : ℕ). take k text) f ∙ take_all (length text) text (omega arith), rw (le-ltb (position_or_len is_sign text) (length text) (omega (arith, f))) refl)

-- ---- numbers

number_small : (text : List ℕ) → is_number text ≡ true → value_of 0 text < 2 ^ 64 → number_of text ≡ Some (value_of 0 text)
unfolding number_of
number_small text e small = rw (e, lt-ltb (value_of 0 text) (2 ^ 64) small) refl

number_large : (text : List ℕ) → is_number text ≡ true → 2 ^ 64 ≤ value_of 0 text → number_of text ≡ None
unfolding number_of
number_large text e large = rw (e, le-ltb (value_of 0 text) (2 ^ 64) large) refl

digits_in : (text : List ℕ) → is_number text ≡ true → (0 < length text) × (list_all is_digit text ≡ true)
digits_in text e =
    let some = and_parts (ltb 0 (length text)) _ e in
    (ltb-true 0 (length text) some.0, (and_parts _ (list_all is_digit text) some.1).1)

read_is : {E : Type 0} (text : List ℕ) (r : Result ℕ E) → is_number text ≡ true → ParsesUnsigned 64 10 text r → OkIff r ((0 < length text) × (value_of 0 text < 2 ^ 64)) (value_of 0 text)
read_is text r e h = parse_digits numerals 64 text r h (digits_in text e).1

pub number_ok : {E : Type 0} (text : List ℕ) (r : Result ℕ E) (n : ℕ) → is_number text ≡ true → r ≡ Ok n → ParsesUnsigned 64 10 text r → Some n ≡ number_of text
number_ok {E = E} text r n e is h =
    let k = subst (λ (x : Result ℕ E). OkIff x ((0 < length text) × (value_of 0 text < 2 ^ 64)) (value_of 0 text)) is (read_is text r e h) in
    ap (λ (m : ℕ). Some m) k.1 ∙ sym (number_small text e k.0.1)

pub number_err : {E : Type 0} (text : List ℕ) (r : Result ℕ E) (d : E) → is_number text ≡ true → r ≡ Err d → ParsesUnsigned 64 10 text r → None ≡ number_of text
number_err {E = E} text r d e is h =
    let k = subst (λ (x : Result ℕ E). OkIff x ((0 < length text) × (value_of 0 text < 2 ^ 64)) (value_of 0 text)) is (read_is text r e h) in
    elim (cases_lt (value_of 0 text) (2 ^ 64)) [
      | inl small ↦ absurd (k ((digits_in text e).0, small))
      | inr large ↦ sym (number_large text e large)
    ]

-- ---- words that are refused

pub then_none : (words : List (List ℕ)) → then_words None words ≡ None
then_none [] = refl
then_none (word ∷ words) = refl
