-- Signed numbers as they are written and read: 64 bits, of which an int32 keeps the low 32.
use Rattle.std.proofs.Common.{◌≡◌, ℤ, ◌%◌, ◌^◌, ◌<◌, List, [], ◌∷◌, map, refl, ap, ◌∙◌, arith}
use Rattle.std.specs.Int.{w32, w64, cast_unsigned, cast_signed}
use Rattle.std.specs.List.{AllByRecursion}
use Rattle.std.specs.Prelude.{FitsSigned}
use Rattle.std.proofs.lemmas.Int.{ints, to_z-of_z}
use Rattle.cas_messages.specs.Meaning.{int32_of}

pub int64_again : (z : ℤ) → FitsSigned w64 z → cast_signed w64 (cast_unsigned w64 z) ≡ z
int64_again z fits = to_z-of_z w64 z fits

pub int64_small : (z : ℤ) → FitsSigned w64 z → cast_unsigned w64 z < 2 ^ 64
int64_small z fits = omega (arith, ints)

pub int32_small : (z : ℤ) → FitsSigned w32 z → cast_unsigned w64 z < 2 ^ 64
int32_small z fits = omega (arith, ints)

low_bits : (z : ℤ) → FitsSigned w32 z → cast_unsigned w64 z % 2 ^ 32 ≡ cast_unsigned w32 z
low_bits z fits = omega (arith, ints)

pub int32_again : (z : ℤ) → FitsSigned w32 z → int32_of (cast_unsigned w64 z) ≡ z
int32_again z fits = ap (cast_signed w32) (low_bits z fits) ∙ to_z-of_z w32 z fits

pub int32s_again : (zs : List ℤ) → AllByRecursion (FitsSigned w32) zs → map int32_of (map (cast_unsigned w64) zs) ≡ zs
int32s_again [] fits = refl
int32s_again (z ∷ zs) fits = ap (λ (y : ℤ). y ∷ map int32_of (map (cast_unsigned w64) zs)) (int32_again z fits.0) ∙ ap (λ (ys : List ℤ). z ∷ ys) (int32s_again zs fits.1)

pub int32s_small : (zs : List ℤ) → AllByRecursion (FitsSigned w32) zs → AllByRecursion (λ n. n < 2 ^ 64) (map (cast_unsigned w64) zs)
int32s_small [] fits = tt
int32s_small (z ∷ zs) fits = (int32_small z fits.0, int32s_small zs fits.1)
