-- Messages that are read one after the other, as a loop does.
use Rattle.std.proofs.Common.{◌≡◌, ℕ, ◌<◌, List, [], ◌∷◌, ◌++◌, length, Option, Some, None, refl, sym, ap, ◌∙◌, append_assoc, length-append, arith}
use Rattle.casd_server.specs.Cut.{cut_at, pieces_of}
use Rattle.casd_server.specs.Record.{message_of, both_of, each_of}
use Rattle.casd_server.proofs.CutLemmas.{cut_at-some, pieces_of-none, pieces_of-some}

-- messages before some more, where there are more
abbrev pub behind : List (List ℕ) → Option (List (List ℕ)) → Option (List (List ℕ))
behind front None = None
behind front (Some others) = Some (front ++ others)

behind-both : (front : List (List ℕ)) (m : List ℕ) (others : Option (List (List ℕ))) → behind front (both_of (Some m) others) ≡ behind (front ++ m ∷ []) others
behind-both front m None = refl
behind-both front m (Some ms) = ap Some (sym (append_assoc front (m ∷ []) ms))

-- a piece is a message, and the rest goes on
pub goes_on : (front : List (List ℕ)) (xs : List ℕ) (parts : List ℕ × List ℕ) (m : List ℕ) (all : Option (List (List ℕ))) → cut_at 44 xs ≡ Some parts → message_of parts.0 ≡ Some m
    → behind front (each_of (pieces_of 44 xs)) ≡ all → behind (front ++ m ∷ []) (each_of (pieces_of 44 parts.1)) ≡ all
unfolding each_of
goes_on front xs parts m all cuts read so_far =
    let others : Option (List (List ℕ)) = each_of (pieces_of 44 parts.1) in
    let one : each_of (pieces_of 44 xs) ≡ both_of (Some m) others = ap each_of (pieces_of-some 44 xs parts cuts) ∙ ap (λ (o : Option (List ℕ)). both_of o others) read in
    sym (behind-both front m others) ∙ sym (ap (behind front) one) ∙ so_far

-- a piece that is no message
pub ends : (front : List (List ℕ)) (xs : List ℕ) (parts : List ℕ × List ℕ) (all : Option (List (List ℕ))) → cut_at 44 xs ≡ Some parts → message_of parts.0 ≡ None
    → behind front (each_of (pieces_of 44 xs)) ≡ all → None ≡ all
unfolding each_of
ends front xs parts all cuts read so_far =
    let others : Option (List (List ℕ)) = each_of (pieces_of 44 parts.1) in
    let one : each_of (pieces_of 44 xs) ≡ both_of None others = ap each_of (pieces_of-some 44 xs parts cuts) ∙ ap (λ (o : Option (List ℕ)). both_of o others) read in
    sym (ap (behind front) one) ∙ so_far

-- the last piece is a message
pub is_done : (front : List (List ℕ)) (xs m : List ℕ) (all : Option (List (List ℕ))) → cut_at 44 xs ≡ None → message_of xs ≡ Some m
    → behind front (each_of (pieces_of 44 xs)) ≡ all → Some (front ++ m ∷ []) ≡ all
unfolding each_of
is_done front xs m all cuts read so_far =
    let one : each_of (pieces_of 44 xs) ≡ Some (m ∷ []) = ap each_of (pieces_of-none 44 xs cuts) ∙ ap (λ (o : Option (List ℕ)). both_of o (Some [])) read in
    sym (ap (behind front) one) ∙ so_far

-- the last piece is no message
pub is_not_done : (front : List (List ℕ)) (xs : List ℕ) (all : Option (List (List ℕ))) → cut_at 44 xs ≡ None → message_of xs ≡ None
    → behind front (each_of (pieces_of 44 xs)) ≡ all → None ≡ all
unfolding each_of
is_not_done front xs all cuts read so_far =
    let one : each_of (pieces_of 44 xs) ≡ None = ap each_of (pieces_of-none 44 xs cuts) ∙ ap (λ (o : Option (List ℕ)). both_of o (Some [])) read in
    sym (ap (behind front) one) ∙ so_far

-- what stands behind a cut is shorter
pub shorter : (xs : List ℕ) (parts : List ℕ × List ℕ) → cut_at 44 xs ≡ Some parts → length parts.1 < length xs
shorter xs parts cuts =
    let whole = ap length (cut_at-some 44 xs parts cuts).whole in
    omega (arith, whole, length-append parts.0 (44 ∷ parts.1))

-- nothing is read yet
pub at_start : (all : Option (List (List ℕ))) → behind [] all ≡ all
at_start None = refl
at_start (Some ms) = refl
