-- A list that is filled with the first mentions of digests.
use Rattle.std.proofs.Common.{◌≡◌, ℕ, ◌+◌, ◌<◌, ◌≤◌, Bool, true, false, cond, not, inl, inr, List, [], ◌∷◌, ◌++◌, length, get_or, drop, append_assoc, append-nil, refl, sym, ap, ◌∙◌}
use Rattle.std.specs.Prelude.{filter, ◌||◌, ◌&&◌}
use Rattle.std.proofs.lemmas.Bool.{cases_Bool, cond-true, cond-false, not_from_true, not_from_false}
use Rattle.std.proofs.lemmas.List.{at_drop_more, at_drop_all}
use Rattle.std.proofs.lemmas.List.Folds.{list_any-append}
use Rattle.digest_types.specs.Name.{HashAndSize}
use Rattle.store_core.specs.Ascending.{firsts}
use Rattle.store_core.specs.State.{same, is_among}
use Rattle.store_core.proofs.Elements.{every_has, filter_inner, filter_same_on, filter_all}
use Rattle.store_core.proofs.Same.{equal_from_same}

-- the first mentions that aren't among these
abbrev fresh : List HashAndSize → List HashAndSize → List HashAndSize
fresh ds rest = filter (λ d. not (is_among ds d)) (firsts same rest)

both_by : {X : Type 0} (p q : X → Bool) (x : X) (a b : Bool) (xs : List X) → p x ≡ a → q x ≡ b → filter p (filter q xs) ≡ filter (λ y. p y && q y) xs
    → filter p (cond b (x ∷ filter q xs) (filter q xs)) ≡ cond (a && b) (x ∷ filter (λ y. p y && q y) xs) (filter (λ y. p y && q y) xs)
both_by p q x true true xs e f h = cond-true (p x) (x ∷ filter p (filter q xs)) (filter p (filter q xs)) e ∙ ap (λ rest. x ∷ rest) h
both_by p q x false true xs e f h = cond-false (p x) (x ∷ filter p (filter q xs)) (filter p (filter q xs)) e ∙ h
both_by p q x true false xs e f h = h
both_by p q x false false xs e f h = h

pub filter_both : {X : Type 0} (p q : X → Bool) (xs : List X) → filter p (filter q xs) ≡ filter (λ y. p y && q y) xs
filter_both p q [] = refl
filter_both p q (x ∷ xs) = both_by p q x (p x) (q x) xs refl refl (filter_both p q xs)

pub neither : (a b : Bool) → (not a && not b) ≡ not (a || (b || false))
neither true b = refl
neither false true = refl
neither false false = refl

-- the next digest isn't among them, and is added
fresh_new : (ds : List HashAndSize) (d : HashAndSize) (rest : List HashAndSize) → is_among ds d ≡ false → ds ++ fresh ds (d ∷ rest) ≡ (ds ++ d ∷ []) ++ fresh (ds ++ d ∷ []) rest
fresh_new ds d rest new =
    let others = firsts same rest in
    let first : fresh ds (d ∷ rest) ≡ d ∷ filter (λ y. not (is_among ds y)) (filter (λ y. not (same y d)) others) =
    cond-true (not (is_among ds d)) _ _ (not_from_false (is_among ds d) new) in
    let more : filter (λ y. not (is_among ds y)) (filter (λ y. not (same y d)) others) ≡ fresh (ds ++ d ∷ []) rest =
    filter_both (λ y. not (is_among ds y)) (λ y. not (same y d)) others
    ∙ filter_same_on (λ y. not (is_among ds y) && not (same y d)) (λ y. not (is_among (ds ++ d ∷ []) y)) others
    (every_has (λ y. (not (is_among ds y) && not (same y d)) ≡ not (is_among (ds ++ d ∷ []) y)) others (λ y has. neither (is_among ds y) (same y d) ∙ ap not (sym (list_any-append (same y) ds (d ∷ []))))) in
    ap (λ xs. ds ++ xs) (first ∙ ap (λ xs. d ∷ xs) more) ∙ sym (append_assoc ds (d ∷ []) (fresh (ds ++ d ∷ []) rest))

kept_apart : (ds : List HashAndSize) (d y : HashAndSize) → is_among ds d ≡ true → not (is_among ds y) ≡ true → not (same y d) ≡ true
kept_apart ds d y known new =
    elim (cases_Bool (same y d)) [
      | inl is ↦ absurd (let e = ap (is_among ds) (equal_from_same y d is) in let f = not_from_true (is_among ds y) (e ∙ known) in cc)
      | inr other ↦ not_from_false (same y d) other
    ]

-- the next digest is among them
fresh_known : (ds : List HashAndSize) (d : HashAndSize) (rest : List HashAndSize) → is_among ds d ≡ true → fresh ds (d ∷ rest) ≡ fresh ds rest
fresh_known ds d rest known =
    cond-false (not (is_among ds d)) _ _ (not_from_true (is_among ds d) known)
    ∙ filter_inner (λ y. not (same y d)) (λ y. not (is_among ds y)) (firsts same rest)
    (every_has (λ y. not (is_among ds y) ≡ true → not (same y d) ≡ true) (firsts same rest) (λ y has new. kept_apart ds d y known new))

-- what a step of the loop leaves, where p tells which digests count
abbrev pub so_far : (HashAndSize → Bool) → List HashAndSize → List HashAndSize → List HashAndSize
so_far p ds rest = ds ++ filter (λ d. not (is_among ds d)) (firsts same (filter p rest))

pub so_far_none : (p : HashAndSize → Bool) (ds rest : List HashAndSize) → ds ≡ [] → so_far p ds rest ≡ firsts same (filter p rest)
so_far_none p ds rest none =
    ap (λ xs. so_far p xs rest) none ∙ filter_all (λ d. not (is_among [] d)) (firsts same (filter p rest)) (every_has (λ d. not (is_among [] d) ≡ true) (firsts same (filter p rest)) (λ d has. refl))

pub counts_not : (p : HashAndSize → Bool) (ds all : List HashAndSize) (i : ℕ) (d : HashAndSize) → i < length all → d ≡ get_or all i d → p d ≡ false → so_far p ds (drop (i + 1) all) ≡ so_far p ds (drop i all)
counts_not p ds all i d lt at e =
    sym (at_drop_more (so_far p ds) all i d lt ∙ ap (λ x. so_far p ds (x ∷ drop (i + 1) all)) (sym at)
    ∙ ap (λ xs. ds ++ fresh ds xs) (cond-false (p d) (d ∷ filter p (drop (i + 1) all)) (filter p (drop (i + 1) all)) e))

pub is_known : (p : HashAndSize → Bool) (ds all : List HashAndSize) (i : ℕ) (d : HashAndSize) → i < length all → d ≡ get_or all i d → p d ≡ true → is_among ds d ≡ true → so_far p ds (drop (i + 1) all) ≡ so_far p ds (drop i all)
is_known p ds all i d lt at e known =
    sym (at_drop_more (so_far p ds) all i d lt ∙ ap (λ x. so_far p ds (x ∷ drop (i + 1) all)) (sym at)
    ∙ ap (λ xs. ds ++ fresh ds xs) (cond-true (p d) (d ∷ filter p (drop (i + 1) all)) (filter p (drop (i + 1) all)) e)
    ∙ ap (λ xs. ds ++ xs) (fresh_known ds d (filter p (drop (i + 1) all)) known))

pub is_new : (p : HashAndSize → Bool) (ds all : List HashAndSize) (i : ℕ) (d : HashAndSize) → i < length all → d ≡ get_or all i d → p d ≡ true → is_among ds d ≡ false → so_far p (ds ++ d ∷ []) (drop (i + 1) all) ≡ so_far p ds (drop i all)
is_new p ds all i d lt at e new =
    sym (at_drop_more (so_far p ds) all i d lt ∙ ap (λ x. so_far p ds (x ∷ drop (i + 1) all)) (sym at)
    ∙ ap (λ xs. ds ++ fresh ds xs) (cond-true (p d) (d ∷ filter p (drop (i + 1) all)) (filter p (drop (i + 1) all)) e)
    ∙ fresh_new ds d (filter p (drop (i + 1) all)) new)

pub so_far_all : (p : HashAndSize → Bool) (ds all : List HashAndSize) (i : ℕ) → length all ≤ i → so_far p ds (drop i all) ≡ ds
so_far_all p ds all i past = at_drop_all (so_far p ds) all i past ∙ append-nil ds
