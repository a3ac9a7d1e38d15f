-- Fields written one after the other.
use Rattle.std.proofs.Common.{◌≡◌, ◌∙◌, ap, sym, ℕ, ◌+◌, ◌<◌, List, [], ◌∷◌, ◌++◌, take, length, get_or}
use Rattle.std.specs.List.{flat_map}
use Rattle.std.proofs.lemmas.List.{take_more, flat_map_more}

-- one more
pub one_more : {X : Type 0} (f : X → List ℕ) (bs : List ℕ) (xs : List X) (i : ℕ) (x : X) → i < length xs → x ≡ get_or xs i x → (bs ++ flat_map f (take i xs)) ++ f x ≡ bs ++ flat_map f (take (i + 1) xs)
one_more f bs xs i x lt e =
    flat_map_more f bs (take i xs) x
    ∙ ap (λ ys. bs ++ flat_map f ys) (ap (λ y. take i xs ++ y ∷ []) e ∙ sym (take_more xs i x lt))
