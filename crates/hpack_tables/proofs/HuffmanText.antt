-- What the steps of the walk give of the text.
use Rattle.std.proofs.Common.{◌≡◌, ℕ, zero, suc, ◌+◌, ◌-◌, ◌/◌, ◌%◌, ◌^◌, ◌<◌, Bool, true, false, cond, List, [], ◌∷◌, ◌++◌, length, Option, Some, None, inl, inr, refl, sym, ◌∙◌, ap, arith, append_assoc}
use Rattle.std.specs.Prelude.{find, ◌==◌, ◌&&◌, nat_lt}
use Rattle.std.specs.List.{list_all}
use Rattle.std.proofs.lemmas.Bool.{ne_eqb, eq-eqb, cases_eq}
use Rattle.std.proofs.lemmas.Nat.{pow_pos}
use Rattle.std.proofs.Math.Nat.{mod-eq_of_lt}
use Rattle.hpack_tables.specs.Huffman.{code_bits, code_with, same_bits, number_bits, bits_of, text_behind, text_of, before_text, is_padding}
use Rattle.hpack_tables.specs.HuffmanWalk.{taken, IsWalk, StepsTo, later}
use Rattle.hpack_tables.specs.declared.huffman.Walk.{Walk}
use Rattle.hpack_tables.specs.declared.huffman.Step.TheVariants.{More, Symbol}
use Rattle.hpack_tables.proofs.HuffmanBits.{value, value-lt, pow-one-add, length-number_bits, value-number_bits}
use Rattle.hpack_tables.proofs.HuffmanSteps.{from_begin}

pub number_bits_front : (n x : ℕ) → 0 < n → number_bits n x ≡ (x / 2 ^ (n - 1) % 2 == 1) ∷ number_bits (n - 1) x
number_bits_front zero x h = absurd (omega arith)
number_bits_front (suc n) x h = let e : suc n - 1 ≡ n = omega arith in rw e refl

-- before the first bit
pub begin_walk : IsWalk (record { number = 0; len = 0; first = 0; at = 0 })
unfolding code_with
begin_walk = record {
  few = omega arith;
  fits = omega arith;
  least = omega arith;
  room = refl;
  symbols = refl;
  codes = λ bits h. ap (find (λ code. same_bits (code_bits code) bits)) from_begin;
}

-- ---- one bit

step_more : (w next : Walk) (bit : Bool) (bits : List Bool) → StepsTo w bit (More next) → text_behind (taken w) (bit ∷ bits) ≡ text_behind (taken next) bits
unfolding text_behind
step_more w next bit bits h = rw (h.2, h.1) refl

step_symbol : (w : Walk) (symbol : ℕ) (bit : Bool) (bits : List Bool) → StepsTo w bit (Symbol symbol) →
    text_behind (taken w) (bit ∷ bits) ≡ cond (symbol == 256) None (before_text symbol (text_behind [] bits))
unfolding text_behind
step_symbol w symbol bit bits h = rw (h.1.1, h.1.2) refl

pub later_symbol : (front : List ℕ) (symbol : ℕ) (text : Option (List ℕ)) → later front (before_text symbol text) ≡ later (front ++ symbol ∷ []) text
later_symbol front symbol None = refl
later_symbol front symbol (Some text) = ap Some (sym (append_assoc front (symbol ∷ []) text))

pub none_from_later : (front : List ℕ) (text : Option (List ℕ)) → later front text ≡ None → text ≡ None
none_from_later front None h = refl
none_from_later front (Some text) h = cc

-- ---- one bit of a byte

module _ (w : Walk) (left byte : ℕ) (some : 0 < left) where
  front : (rest : List Bool) → number_bits left byte ++ rest ≡ (byte / 2 ^ (left - 1) % 2 == 1) ∷ (number_bits (left - 1) byte ++ rest)
  front rest = ap (λ bits. bits ++ rest) (number_bits_front left byte some)

  pub text_more : (next : Walk) → StepsTo w (byte / 2 ^ (left - 1) % 2 == 1) (More next) → (rest : List Bool) →
      text_behind (taken w) (number_bits left byte ++ rest) ≡ text_behind (taken next) (number_bits (left - 1) byte ++ rest)
  text_more next h rest = ap (text_behind (taken w)) (front rest) ∙ step_more w next _ _ h

  pub text_end : (symbol : ℕ) → StepsTo w (byte / 2 ^ (left - 1) % 2 == 1) (Symbol symbol) → symbol ≡ 256 → (rest : List Bool) →
      text_behind (taken w) (number_bits left byte ++ rest) ≡ None
  text_end symbol h e rest =
      ap (text_behind (taken w)) (front rest) ∙ step_symbol w symbol _ _ h ∙ rw (eq-eqb symbol 256 e) refl

  pub text_symbol : (symbol : ℕ) → StepsTo w (byte / 2 ^ (left - 1) % 2 == 1) (Symbol symbol) → (symbol ≡ 256 → ⊥) → (before : List ℕ) (rest : List Bool) →
      later before (text_behind (taken w) (number_bits left byte ++ rest)) ≡ later (before ++ symbol ∷ []) (text_behind [] (number_bits (left - 1) byte ++ rest))
  text_symbol symbol h e before rest =
      ap (later before) (ap (text_behind (taken w)) (front rest) ∙ step_symbol w symbol _ _ h ∙ rw (ne_eqb symbol 256 e) refl)
      ∙ later_symbol before symbol (text_behind [] (number_bits (left - 1) byte ++ rest))

-- ---- the padding

same_test : (a b c d : ℕ) → (a ≡ b → c ≡ d) → (c ≡ d → a ≡ b) → (a == b) ≡ (c == d)
same_test a b c d to back = elim (cases_eq a b) [
  | inl e ↦ eq-eqb a b e ∙ sym (eq-eqb c d (to e))
  | inr n ↦ ne_eqb a b n ∙ sym (ne_eqb c d (λ e. n (back e)))
]

pub all_ones : (bits : List Bool) → list_all (λ bit. bit) bits ≡ (value bits + 1 == 2 ^ length bits)
all_ones [] = refl
all_ones (true ∷ bits) =
    all_ones bits
    ∙ same_test (value bits + 1) (2 ^ length bits) (2 ^ length bits + value bits + 1) (2 ^ suc (length bits))
    (λ e. omega (arith, pow-one-add (length bits))) (λ e. omega (arith, pow-one-add (length bits)))
all_ones (false ∷ bits) =
    sym (ne_eqb (0 + value bits + 1) (2 ^ suc (length bits)) (λ e. omega (arith, pow-one-add (length bits), value-lt bits, pow_pos (length bits))))

pub padding : (len number : ℕ) → number < 2 ^ len → is_padding (number_bits len number) ≡ (nat_lt len 8 && (number + 1 == 2 ^ len))
padding len number h =
    rw (all_ones (number_bits len number), length-number_bits len number, value-number_bits len number, mod-eq_of_lt h) refl

pub text_behind-nil : (taken : List Bool) → text_behind taken [] ≡ cond (is_padding taken) (Some []) None
unfolding text_behind
text_behind-nil taken = refl

pub text_of-begin : (bytes : List ℕ) → text_of bytes ≡ text_behind [] (bits_of bytes)
unfolding text_of
text_of-begin bytes = refl

-- ---- a whole string

later-nil : (text : Option (List ℕ)) → later [] text ≡ text
later-nil None = refl
later-nil (Some text) = refl

pub text_begin : (before bytes : List ℕ) → before ≡ [] → later before (text_behind [] (bits_of bytes)) ≡ text_of bytes
text_begin before bytes e = rw e (later-nil (text_behind [] (bits_of bytes)) ∙ sym (text_of-begin bytes))
