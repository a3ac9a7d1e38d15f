-- Bytes, and what follows from a reading that gave a frame, step by step.
use Rattle.std.proofs.Common.{◌≡◌, ℕ, zero, suc, ◌<◌, Bool, true, false, cond, Result, Ok, Option, Some, None, List, [], ◌∷◌, take, refl, arith}
use Rattle.proto_wire.specs.Reading.{IsBytes}
use Rattle.h2_frames.specs.declared.fault.FrameFault.{FrameFault}
use Rattle.h2_frames.specs.Reading.{unless_fault}

-- ---- bytes

pub IsBytes-take : (n : ℕ) (text : List ℕ) → IsBytes text → IsBytes (take n text)
IsBytes-take zero text h i = omega arith
IsBytes-take (suc n) [] h i = omega arith
IsBytes-take (suc n) (b ∷ bs) h zero = h 0
IsBytes-take (suc n) (b ∷ bs) h (suc i) = IsBytes-take n bs (λ k. h (suc k)) i

pub two_fit : (a b : ℕ) → a < 256 → b < 256 → IsBytes (a ∷ b ∷ [])
two_fit a b p q zero = p
two_fit a b p q (suc zero) = q
two_fit a b p q (suc (suc i)) = omega arith

pub four_fit : (a b c d : ℕ) → a < 256 → b < 256 → c < 256 → d < 256 → IsBytes (a ∷ b ∷ c ∷ d ∷ [])
four_fit a b c d p q r s zero = p
four_fit a b c d p q r s (suc zero) = q
four_fit a b c d p q r s (suc (suc zero)) = r
four_fit a b c d p q r s (suc (suc (suc zero))) = s
four_fit a b c d p q r s (suc (suc (suc (suc i)))) = omega arith

-- ---- steps

pub not_none : {A : Type 0} (b : Bool) (r : Result (Option A) FrameFault) (x : A) → cond b (Ok None) r ≡ Ok (Some x) → (b ≡ false) × (r ≡ Ok (Some x))
not_none true r x e = absurd cc
not_none false r x e = (refl, e)

pub no_fault : {A : Type 0} (o : Option FrameFault) (r : Result A FrameFault) (x : A) → unless_fault o r ≡ Ok x → (o ≡ None) × (r ≡ Ok x)
no_fault None r x e = (refl, e)
no_fault (Some d) r x e = absurd cc
