-- Seats and their digits.
use Rattle.std.proofs.Common.{◌≡◌, ℕ, ◌+◌, ◌-◌, ◌*◌, ◌/◌, ◌%◌, ◌<◌, ◌≤◌, true, ◌&&◌, List, [], ◌∷◌, ◌++◌, Some, refl, sym, ap, subst, ◌∙◌, inl, inr, arith}
use Rattle.std.specs.Prelude.{nat_lt}
use Rattle.std.specs.Fmt.{decimal}
use Rattle.std.proofs.lemmas.Bool.{cases_lt, and_parts}
use Rattle.std.proofs.lemmas.Option.{cond_some}
use Rattle.std.proofs.lemmas.Fmt.{decimal_digit, decimal_step}
use Rattle.casd_server.specs.Cut.{NoByte}
use Rattle.casd_server.specs.Record.{is_digit_byte, seat_of}

-- two digits
decimal_two : (n : ℕ) → 10 ≤ n → n < 100 → decimal n ≡ (48 + n / 10) ∷ (48 + n % 10) ∷ []
decimal_two n ten lt = decimal_step n ten (omega arith) ∙ ap (λ (front : List ℕ). front ++ ((48 + n % 10) ∷ [])) (decimal_digit (n / 10) (omega arith))

digit_bounds : (a : ℕ) → is_digit_byte a ≡ true → (48 ≤ a) × (a ≤ 57)
digit_bounds a h = grind (arith)

above_zero : (a : ℕ) → nat_lt 48 a ≡ true → 48 < a
above_zero a h = grind (arith)

pub seat_of-found : (text : List ℕ) (n : ℕ) → seat_of text ≡ Some n → (n < 100) × (decimal n ≡ text)
unfolding seat_of
seat_of-found [] n e = absurd cc
seat_of-found (a ∷ []) n e =
    let parts = cond_some (is_digit_byte a) (a - 48) n e in
    let bounds = digit_bounds a parts.0 in
    let value = parts.1 in
    let same : 48 + n ≡ a = omega arith in
    (omega arith, decimal_digit n (omega arith) ∙ ap (λ (d : ℕ). d ∷ []) same)
seat_of-found (a ∷ b ∷ []) n e =
    let parts = cond_some (is_digit_byte a && is_digit_byte b && nat_lt 48 a) (10 * (a - 48) + (b - 48)) n e in
    let tests = and_parts (is_digit_byte a && is_digit_byte b) (nat_lt 48 a) parts.0 in
    let digits = and_parts (is_digit_byte a) (is_digit_byte b) tests.0 in
    let first = digit_bounds a digits.0 in
    let second = digit_bounds b digits.1 in
    let above = above_zero a tests.1 in
    let value = parts.1 in
    let high : 48 + n / 10 ≡ a = omega arith in
    let low : 48 + n % 10 ≡ b = omega arith in
    (omega arith, decimal_two n (omega arith) (omega arith) ∙ rw (high, low) refl)
seat_of-found (a ∷ b ∷ c ∷ rest) n e = absurd cc

one_digit : (n : ℕ) → n < 10 → is_digit_byte (48 + n) ≡ true
one_digit n lt = grind (arith)

two_digits : (a b : ℕ) → 0 < a → a < 10 → b < 10 → (is_digit_byte (48 + a) && is_digit_byte (48 + b) && nat_lt 48 (48 + a)) ≡ true
two_digits a b pos la lb = grind (arith)

pub seat_of-again : (n : ℕ) → n < 100 → seat_of (decimal n) ≡ Some n
unfolding seat_of
seat_of-again n lt =
    elim (cases_lt n 10) [
      | inl one ↦
          let value : 48 + n - 48 ≡ n = omega arith in
          ap seat_of (decimal_digit n one) ∙ rw (one_digit n one, value) refl
      | inr two ↦
          let value : 10 * (48 + n / 10 - 48) + (48 + n % 10 - 48) ≡ n = omega arith in
          ap seat_of (decimal_two n two lt) ∙ rw (two_digits (n / 10) (n % 10) (omega arith) (omega arith) (omega arith), value) refl
    ]

-- no seat's text has a space
pub NoByte-decimal : (n : ℕ) → n < 100 → NoByte 32 (decimal n)
NoByte-decimal n lt =
    elim (cases_lt n 10) [
      | inl one ↦ subst (NoByte 32) (sym (decimal_digit n one)) ((λ e. omega arith), tt)
      | inr two ↦ subst (NoByte 32) (sym (decimal_two n two lt)) ((λ e. omega arith), ((λ e. omega arith), tt))
    ]
