-- Digests that are taken out one after the other, and the sum of those that are left.
use Rattle.std.proofs.Common.{◌≡◌, ℕ, suc, ◌+◌, ◌<◌, ◌≤◌, Bool, true, false, cond, not, ◌&&◌, ◌||◌, List, [], ◌∷◌, ◌++◌, length, get_or, take, Option, None, refl, sym, ap, ◌∙◌, arith}
use Rattle.std.specs.Prelude.{filter}
use Rattle.std.proofs.lemmas.List.{take_more}
use Rattle.std.proofs.lemmas.List.Folds.{list_any-append}
use Rattle.digest_types.specs.Name.{HashAndSize}
use Rattle.store_core.specs.State.{same, is_among, total}
use Rattle.store_core.proofs.Elements.{filter_all}
use Rattle.store_core.proofs.ReachLaws.{every}
use Rattle.store_core.proofs.FirstMentions.{neither}
use Rattle.store_core.proofs.Guarding.{same_swap}
use Rattle.lease_table.specs.Table.{DistinctDigests, other_digests}
use Rattle.indexed_core.specs.Joined.{Soundness, kept_flags}
use Rattle.lease_table.proofs.OrderLaws.{apart, all_others}
use Rattle.indexed_core.proofs.HeldLaws.{total_others}

-- ---- one digest

kept_fits : (b : Bool) (d : HashAndSize) (kept : List HashAndSize) (n : ℕ) → length kept ≤ n → length (cond b (d ∷ kept) kept) ≤ suc n
kept_fits true d kept n h = omega arith
kept_fits false d kept n h = omega arith

others_fit : (d : HashAndSize) (ds : List HashAndSize) → length (other_digests d ds) ≤ length ds
others_fit d [] = omega arith
others_fit d (first ∷ ds) = kept_fits (not (same first d)) first (other_digests d ds) (length ds) (others_fit d ds)

fewer_by : (b : Bool) (d first : HashAndSize) (ds : List HashAndSize) → same first d ≡ b → (is_among ds d ≡ true → length (other_digests d ds) < length ds) → is_among (first ∷ ds) d ≡ true
    → length (cond (not b) (first ∷ other_digests d ds) (other_digests d ds)) < suc (length ds)
fewer_by true d first ds e rest among = let fit = others_fit d ds in omega arith
fewer_by false d first ds e rest among =
    let later : is_among ds d ≡ true = ap (λ (b : Bool). b || is_among ds d) (sym (same_swap d first ∙ e)) ∙ among in
    let less = rest later in
    omega arith

-- where a digest goes, the list is shorter
fewer : (d : HashAndSize) (ds : List HashAndSize) → is_among ds d ≡ true → length (other_digests d ds) < length ds
fewer d [] among = absurd cc
fewer d (first ∷ ds) among = fewer_by (same first d) d first ds refl (fewer d ds) among

none_goes : (d : HashAndSize) (ds : List HashAndSize) → is_among ds d ≡ false → other_digests d ds ≡ ds
none_goes d ds none = all_others d ds (apart d ds none)

shorter_by : (b : Bool) (d : HashAndSize) (ds : List HashAndSize) → is_among ds d ≡ b → DistinctDigests ds → length (other_digests d ds) < length ds → total ds ≡ d.size + total (other_digests d ds)
shorter_by true d ds e distinct less = total_others d ds distinct e
shorter_by false d ds e distinct less = absurd (let same_len = ap length (none_goes d ds e) in omega arith)

as_long_by : (b : Bool) (d : HashAndSize) (ds : List HashAndSize) → is_among ds d ≡ b → length ds ≤ length (other_digests d ds) → total ds ≡ total (other_digests d ds)
as_long_by true d ds e long = absurd (let less = fewer d ds e in omega arith)
as_long_by false d ds e long = sym (ap total (none_goes d ds e))

-- where the list is shorter without a digest, the sum is less by its size
pub shorter_total : (d : HashAndSize) (ds : List HashAndSize) → DistinctDigests ds → length (other_digests d ds) < length ds → total ds ≡ d.size + total (other_digests d ds)
shorter_total d ds distinct less = shorter_by (is_among ds d) d ds refl distinct less

-- where it is as long, the sum is the same
pub as_long_total : (d : HashAndSize) (ds : List HashAndSize) → length ds ≤ length (other_digests d ds) → total ds ≡ total (other_digests d ds)
as_long_total d ds long = as_long_by (is_among ds d) d ds refl long

-- ---- one after the other

both_by : {X : Type 0} (p q : X → Bool) (x : X) (xs : List X) (b : Bool) → q x ≡ b → filter p (filter q xs) ≡ filter (λ y. q y && p y) xs
    → filter p (cond b (x ∷ filter q xs) (filter q xs)) ≡ cond (b && p x) (x ∷ filter (λ y. q y && p y) xs) (filter (λ y. q y && p y) xs)
both_by p q x xs true e h = ap (λ (ys : List _). cond (p x) (x ∷ ys) ys) h
both_by p q x xs false e h = h

-- two filters keep what passes both tests
filter_both : {X : Type 0} (p q : X → Bool) (xs : List X) → filter p (filter q xs) ≡ filter (λ x. q x && p x) xs
filter_both p q [] = refl
filter_both p q (x ∷ xs) = both_by p q x xs (q x) refl (filter_both p q xs)

among_more : (gone : List HashAndSize) (i : ℕ) (d x : HashAndSize) → i < length gone → d ≡ get_or gone i d → is_among (take (i + 1) gone) x ≡ (is_among (take i gone) x || (same x d || false))
among_more gone i d x lt here =
    ap (λ (ds : List HashAndSize). is_among ds x) (take_more gone i d lt ∙ ap (λ (e : HashAndSize). take i gone ++ e ∷ []) (sym here))
    ∙ list_any-append (same x) (take i gone) (d ∷ [])

-- before any goes
pub left_first : {X : Type 0} (key : X → HashAndSize) (gone : List HashAndSize) (xs : List X) → filter (λ x. not (is_among (take 0 gone) (key x))) xs ≡ xs
left_first key gone xs = filter_all (λ x. not (is_among (take 0 gone) (key x))) xs (every (λ x. not (is_among (take 0 gone) (key x)) ≡ true) (λ x. refl) xs)

-- one more goes
pub left_more : {X : Type 0} (key : X → HashAndSize) (gone : List HashAndSize) (i : ℕ) (d : HashAndSize) (xs : List X) → i < length gone → d ≡ get_or gone i d
    → filter (λ x. not (same (key x) d)) (filter (λ x. not (is_among (take i gone) (key x))) xs) ≡ filter (λ x. not (is_among (take (i + 1) gone) (key x))) xs
left_more key gone i d xs lt here =
    filter_both (λ x. not (same (key x) d)) (λ x. not (is_among (take i gone) (key x))) xs
    ∙ ap (λ (test : _ → Bool). filter test xs) (λ j x. (neither (is_among (take i gone) (key x)) (same (key x) d) ∙ ap not (sym (among_more gone i d (key x) lt here))) j)

-- one more goes from the flags
pub flags_more : (gone : List HashAndSize) (i : ℕ) (d : HashAndSize) (flags : Soundness) → i < length gone → d ≡ get_or gone i d
    → kept_flags (λ q. not (same q d)) (kept_flags (λ q. not (is_among (take i gone) q)) flags) ≡ kept_flags (λ q. not (is_among (take (i + 1) gone) q)) flags
flags_more gone i d flags lt here = (λ j q. (by (same q d) (is_among (take i gone) q) (flags q) ∙ ap (λ (b : Bool). cond (not b) (flags q) None) (sym (among_more gone i d q lt here))) j)
  where
    by : (a b : Bool) (o : Option Bool) → cond (not a) (cond (not b) o None) None ≡ cond (not (b || (a || false))) o None
    by true true o = refl
    by true false o = refl
    by false true o = refl
    by false false o = refl
