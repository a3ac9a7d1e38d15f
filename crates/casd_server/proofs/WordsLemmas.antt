-- Lists of texts that are compared text by text.
use Rattle.std.proofs.Common.{◌≡◌, ℕ, Bool, true, List, [], ◌∷◌, map, refl, sym}
use Rattle.std.specs.Prelude.{nat_eq}
use Rattle.std.specs.Borrow.{Bor}
use Rattle.std.specs.Cmp.Lexicographic.{pointwise, same_text}
use Rattle.std.proofs.Math.Bool.{and-eq-true_iff}
use Rattle.std.proofs.lemmas.Cmp.{nat_list_eq_equiv}

-- the texts that references point to
abbrev pub texts : List (Bor (List ℕ)) → List (List ℕ)
texts xs = map (λ w. w.now) xs

abbrev pub same_words : List (Bor (List ℕ)) → List (Bor (List ℕ)) → Bool
same_words xs ys = pointwise (λ a b. pointwise nat_eq a.now b.now) xs ys

pub texts_from_same : (xs ys : List (Bor (List ℕ))) → same_words xs ys ≡ true → texts xs ≡ texts ys
texts_from_same [] [] e = refl
texts_from_same [] (y ∷ ys) e = absurd cc
texts_from_same (x ∷ xs) [] e = absurd cc
texts_from_same (x ∷ xs) (y ∷ ys) e =
    let h = (and-eq-true_iff (pointwise nat_eq x.now y.now) (same_words xs ys)).0 e in
    let first : x.now ≡ y.now = same_text x.now y.now (sym h.0) in
    let others = texts_from_same xs ys h.1 in
    cc

pub same_from_texts : (xs ys : List (Bor (List ℕ))) → texts xs ≡ texts ys → same_words xs ys ≡ true
same_from_texts [] [] e = refl
same_from_texts [] (y ∷ ys) e = absurd cc
same_from_texts (x ∷ xs) [] e = absurd cc
same_from_texts (x ∷ xs) (y ∷ ys) e =
    let first : x.now ≡ y.now = cc in
    let others : texts xs ≡ texts ys = cc in
    let rest = same_from_texts xs ys others in
    let itself : pointwise nat_eq x.now y.now ≡ true = rw (← first) (nat_list_eq_equiv.refl x.now) in
    rw itself rest
