-- Numbers and headers that are read.
use Rattle.std.proofs.Common.{◌≡◌, ℕ, ◌+◌, ◌*◌, ◌/◌, ◌%◌, ◌^◌, ◌<◌, ◌≤◌, List, [], ◌∷◌, ◌++◌, length, take, refl, sym, ap, ◌∙◌, arith}
use Rattle.std.specs.Int.{w32, from_be_bytes, to_be_bytes}
use Rattle.std.proofs.lemmas.Nat.{be_bytes_4}
use Rattle.proto_wire.specs.Reading.{IsBytes}
use Rattle.h2_frames.specs.declared.layout.Header.{Header}
use Rattle.h2_frames.specs.Layout.{header_of}
use Rattle.h2_frames.specs.Spelling.{three_bytes, header_bytes, IsNumber31}
use Rattle.h2_frames.proofs.Steps.{four_fit}

pub number_small : (a b c d : ℕ) → a < 256 → b < 256 → c < 256 → d < 256 → from_be_bytes w32 (a ∷ b ∷ c ∷ d ∷ []) < 2 ^ 32
number_small a b c d p q r s = omega arith

-- four bytes are a bit and a number of 31 bits
pub number_found : (a b c d : ℕ) → a < 256 → b < 256 → c < 256 → d < 256 → IsNumber31 (a ∷ b ∷ c ∷ d ∷ []) (from_be_bytes w32 (a ∷ b ∷ c ∷ d ∷ []) % 0x8000_0000)
number_found a b c d p q r s =
    let n : ℕ = from_be_bytes w32 (a ∷ b ∷ c ∷ d ∷ []) in
    let small : n < 2 ^ 32 = number_small a b c d p q r s in
    let again : to_be_bytes w32 n ≡ a ∷ b ∷ c ∷ d ∷ [] = be_bytes_4 (a ∷ b ∷ c ∷ d ∷ []) n refl (four_fit a b c d p q r s) refl in
    let parts : n / 2 ^ 31 * 2 ^ 31 + n % 0x8000_0000 ≡ n = omega arith in
    record {
      bit = n / 2 ^ 31;
      bit_small = omega (arith, small);
      small = omega arith;
      whole = sym (ap (to_be_bytes w32) parts ∙ again);
    }

-- the bytes of a header
pub record HeaderIs (text : List ℕ) (h : Header) : Type 0 where
  pub bit : ℕ
  pub bit_small : bit < 2
  pub on_small : h.stream < 2 ^ 31
  pub whole : take 9 text ≡ header_bytes h.len h.kind h.flags bit h.stream

pub three_found : (a b c : ℕ) → a < 256 → b < 256 → c < 256 → three_bytes (a * 65536 + b * 256 + c) ≡ a ∷ b ∷ c ∷ []
three_found a b c p q r =
    let n : ℕ = a * 65536 + b * 256 + c in
    let x : n / 65536 ≡ a = omega arith in
    let y : n / 256 % 256 ≡ b = omega arith in
    let z : n % 256 ≡ c = omega arith in
    rw (x, y, z) refl

pub header_found : (text : List ℕ) → IsBytes text → 9 ≤ length text → HeaderIs text (header_of text)
unfolding header_of
header_found (a ∷ b ∷ c ∷ k ∷ fl ∷ s ∷ t ∷ u ∷ v ∷ more) fits long =
    let x = number_found s t u v (fits 5) (fits 6) (fits 7) (fits 8) in
    record {
      bit = x.bit;
      bit_small = x.bit_small;
      on_small = x.small;
      whole = ap (λ (ys : List ℕ). a ∷ b ∷ c ∷ k ∷ fl ∷ ys) x.whole ∙ ap (λ (ys : List ℕ). ys ++ (k ∷ fl ∷ to_be_bytes w32 (x.bit * 2 ^ 31 + from_be_bytes w32 (s ∷ t ∷ u ∷ v ∷ []) % 0x8000_0000))) (sym (three_found a b c (fits 0) (fits 1) (fits 2)));
    }
header_found [] fits long = absurd (omega arith)
header_found (a ∷ []) fits long = absurd (omega arith)
header_found (a ∷ b ∷ []) fits long = absurd (omega arith)
header_found (a ∷ b ∷ c ∷ []) fits long = absurd (omega arith)
header_found (a ∷ b ∷ c ∷ k ∷ []) fits long = absurd (omega arith)
header_found (a ∷ b ∷ c ∷ k ∷ fl ∷ []) fits long = absurd (omega arith)
header_found (a ∷ b ∷ c ∷ k ∷ fl ∷ s ∷ []) fits long = absurd (omega arith)
header_found (a ∷ b ∷ c ∷ k ∷ fl ∷ s ∷ t ∷ []) fits long = absurd (omega arith)
header_found (a ∷ b ∷ c ∷ k ∷ fl ∷ s ∷ t ∷ u ∷ []) fits long = absurd (omega arith)
