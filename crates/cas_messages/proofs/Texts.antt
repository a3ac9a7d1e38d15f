-- Texts: what the test of UTF-8 says of the texts of the code.
use Rattle.std.proofs.Common.{◌≡◌, ℕ, ◌<◌, ◌^◌, eqb, [], ◌∷◌, Bool, true, false, List, length, Ok, Err, refl, sym, arith}
use Rattle.std.proofs.lemmas.Bool.{eqb-true}
use Rattle.std.specs.Str.{IsUtf8, is_utf8}
use Rattle.std.proofs.lemmas.Str.{IsUtf8-from_is_utf8, is_utf8-from_IsUtf8}
use Rattle.cas_messages.specs.declared.error.MessageError.TheVariants as errors
use Rattle.cas_messages.specs.Meaning.{text_from}
use Rattle.cas_messages.specs.Fits.{IsText}

no_text : (t : Bool) → (t ≡ true → false ≡ true) → t ≡ false
no_text true h = sym (h refl)
no_text false h = refl

-- no text was found, as there is none
pub text_refused : (number : ℕ) (bytes : List ℕ) → (IsUtf8 bytes → false ≡ true) → text_from number bytes ≡ Err (errors.NotUtf8 number)
text_refused number bytes h = rw (no_text (is_utf8 bytes) (λ e. h (IsUtf8-from_is_utf8 bytes e))) refl

-- a text was found, and it is that
pub text_found : (number : ℕ) (bytes : List ℕ) → IsUtf8 bytes → text_from number bytes ≡ Ok bytes
text_found number bytes h = rw (is_utf8-from_IsUtf8 bytes h) refl

-- bytes that are text, and as few as a slice has
pub is_text : (bytes : List ℕ) → IsUtf8 bytes → length bytes < 2 ^ 64 → IsText bytes
is_text bytes h short = (is_utf8-from_IsUtf8 bytes h, short)

-- an empty text
pub empty_text : (bytes : List ℕ) → eqb (length bytes) 0 ≡ true → IsText bytes
empty_text [] h = is_text [] ([], (refl, refl)) (omega arith)
empty_text (b ∷ bs) h = absurd (omega (arith, eqb-true (length (b ∷ bs)) 0 h))
