-- Digests of equal hash and size are equal.
use Rattle.std.proofs.Common.{◌≡◌, ◌≢◌, ℕ, ◌<◌, Bool, true, false, ◌&&◌, List, [], length, refl, sym, ap, ◌∙◌, arith}
use Rattle.std.specs.Prelude.{nat_eq}
use Rattle.std.specs.Cmp.Lexicographic.{pointwise, same_text}
use Rattle.std.proofs.lemmas.Bool.{eqb-true, eq-eqb}
use Rattle.std.proofs.lemmas.Cmp.{nat_list_eq_equiv}
use Rattle.digest_types.specs.Name.{HashAndSize}
use Rattle.digest_types.specs.Digest.{digest_of}
use Rattle.store_core.specs.State.{same}

both : (p q : Bool) → (p && q) ≡ true → (p ≡ true) × (q ≡ true)
both true q e = (refl, e)
both false q e = absurd cc

pub named : List ℕ → ℕ → HashAndSize
named hash size = record { hash = hash; size = size }

pub named_is : (d : HashAndSize) → named d.hash d.size ≡ d
unfolding named
named_is d = refl

pub equal_from_same : (a b : HashAndSize) → same a b ≡ true → a ≡ b
equal_from_same a b e =
    let h = both (pointwise nat_eq a.hash b.hash) (nat_eq a.size b.size) e in
    let hash : a.hash ≡ b.hash = same_text a.hash b.hash (sym h.0) in
    let size : a.size ≡ b.size = eqb-true a.size b.size h.1 in
    let renamed : named a.hash a.size ≡ named b.hash b.size = cc in
    sym (named_is a) ∙ renamed ∙ named_is b

pub same_itself : (a : HashAndSize) → same a a ≡ true
same_itself a = rw (nat_list_eq_equiv.refl a.hash) (eq-eqb a.size a.size refl)

pub same_from_equal : (a b : HashAndSize) → a ≡ b → same a b ≡ true
same_from_equal a b e = ap (same a) (sym e) ∙ same_itself a

pub other_from_not_same : (a b : HashAndSize) → same a b ≡ false → a ≢ b
other_from_not_same a b e q = let t = same_from_equal a b q in cc

told : (t : Bool) → t ≢ true → t ≡ false
told true h = absurd (h refl)
told false h = refl

pub not_same_from_other : (a b : HashAndSize) → a ≢ b → same a b ≡ false
not_same_from_other a b other = told (same a b) (λ e. other (equal_from_same a b e))

size_of : (bytes : List ℕ) → (digest_of bytes).size ≡ length bytes
unfolding digest_of
size_of bytes = refl

-- a blob with bytes isn't the empty one
pub filled_from_size : (d : HashAndSize) → 0 < d.size → same d (digest_of []) ≡ false
filled_from_size d h = not_same_from_other d (digest_of []) (λ e. let s : d.size ≡ (digest_of []).size = ap (λ (x : HashAndSize). x.size) e in omega (arith, size_of []))
