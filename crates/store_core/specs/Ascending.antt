-- Lists in order.
use Rattle.std.specs.Prelude.{Bool, not, List, [], ◌∷◌, filter}
use Rattle.std.specs.declared.cmp.Ordering.{Ordering}
use Rattle.std.specs.declared.cmp.Ordering.TheVariants.{Less, Equal, Greater}

-- by how a value compares: what goes with less, equal and greater
abbrev pub by_order : {X : Type 0} → Ordering → X → X → X → X
by_order Less less equal greater = less
by_order Equal less equal greater = equal
by_order Greater less equal greater = greater

-- ascending values with one more, unless it is there
abbrev pub placed : {X : Type 0} → (X → X → Ordering) → X → List X → List X
placed cmp x [] = x ∷ []
placed cmp x (y ∷ ys) = by_order (cmp x y) (x ∷ y ∷ ys) (y ∷ ys) (y ∷ placed cmp x ys)

-- the values in ascending order, each once
unfoldable pub ascending : {X : Type 0} → (X → X → Ordering) → List X → List X
ascending cmp [] = []
ascending cmp (x ∷ xs) = placed cmp x (ascending cmp xs)

-- the values in the order of their first mention, each once
abbrev pub firsts : {X : Type 0} → (X → X → Bool) → List X → List X
firsts eq [] = []
firsts eq (x ∷ xs) = x ∷ filter (λ y. not (eq y x)) (firsts eq xs)
