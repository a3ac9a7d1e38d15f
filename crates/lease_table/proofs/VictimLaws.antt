-- How many digests a pass removes.
use Rattle.std.proofs.Common.{◌≡◌, ℕ, suc, ◌-◌, ◌<◌, ◌≤◌, Bool, true, false, cond, List, [], ◌∷◌, length, refl, ap, ◌∙◌, arith}
use Rattle.std.specs.Prelude.{nat_le}
use Rattle.std.proofs.lemmas.Bool.{le-leb, lt-leb}
use Rattle.digest_types.specs.Name.{HashAndSize}
use Rattle.store_core.specs.Pass.{least, victims}
use Rattle.store_core.proofs.MarkedRows.{frees_later}

-- none of no digests
pub victims_none : (bytes target : ℕ) → victims [] bytes target ≡ 0
unfolding victims least
victims_none bytes target = refl

first_by : (b : Bool) (n : ℕ) → b ≡ true → cond b 0 (suc n) ≡ 0
first_by true n e = refl
first_by false n e = absurd cc

later_by : (b : Bool) (n : ℕ) → b ≡ false → cond b 0 (suc n) ≡ suc n
later_by true n e = absurd cc
later_by false n e = refl

-- none where few enough bytes are used
pub victims_enough : (ds : List HashAndSize) (bytes target : ℕ) → bytes ≤ target → victims ds bytes target ≡ 0
unfolding victims least
victims_enough [] bytes target le = refl
victims_enough (d ∷ ds) bytes target le = first_by (nat_le (bytes - 0) target) _ (le-leb (bytes - 0) target (omega arith))

-- else the first one, and those of the others for what is left
pub victims_more : (d : HashAndSize) (ds : List HashAndSize) (bytes target : ℕ) → target < bytes → victims (d ∷ ds) bytes target ≡ suc (victims ds (bytes - d.size) target)
unfolding victims least
victims_more d ds bytes target lt =
    later_by (nat_le (bytes - 0) target) _ (lt-leb (bytes - 0) target (omega arith))
    ∙ ap (λ (p : ℕ → Bool). suc (least p (length ds))) (λ i k. frees_later d ds bytes target k i)
