-- Lists cut at separators.
use Rattle.std.specs.Prelude.{◌≢◌, ◌+◌, ◌==◌, ℕ, List, [], ◌∷◌, take, drop, position, Option, if◌then◌else◌}
use Rattle.std.specs.Option.{option_map}

-- what stands before the first separator, and what stands behind it
abbrev pub cut_at : ℕ → List ℕ → Option (List ℕ × List ℕ)
cut_at separator xs = option_map (λ i. (take i xs, drop (i + 1) xs)) (position (λ b. b == separator) xs)

-- an element before the first of some pieces
abbrev pub onto_first : ℕ → List (List ℕ) → List (List ℕ)
onto_first b [] = (b ∷ []) ∷ []
onto_first b (piece ∷ pieces) = (b ∷ piece) ∷ pieces

-- the pieces round the separators: one more than there are separators
unfoldable pub pieces_of : ℕ → List ℕ → List (List ℕ)
pieces_of separator [] = [] ∷ []
pieces_of separator (b ∷ bs) = if b == separator then [] ∷ pieces_of separator bs else onto_first b (pieces_of separator bs)

-- The lines of some bytes: each ends at a newline or at the end, and behind a last newline there is no line.
unfoldable pub lines_of : List ℕ → List (List ℕ)
lines_of [] = []
lines_of (b ∷ bs) = if b == 10 then [] ∷ lines_of bs else onto_first b (lines_of bs)

-- no element is this byte
abbrev pub NoByte : ℕ → List ℕ → Type 0
NoByte c [] = Unit {0}
NoByte c (b ∷ bs) = (b ≢ c) × NoByte c bs
