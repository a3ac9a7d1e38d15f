-- Reading the elements of a list one after the other, as a loop does.
use Rattle.std.proofs.Common.{◌≡◌, ℕ, ◌+◌, ◌<◌, ◌≤◌, List, [], ◌∷◌, ◌++◌, length, map, get_or, drop, Result, Ok, Err, refl, sym, ap, ◌∙◌, add-one, drop-cons}
use Rattle.std.proofs.lemmas.List.{append-nil, drop_all, get_or-map, length-map}
use Rattle.cas_messages.specs.declared.error.MessageError.{MessageError}
use Rattle.proto_wire.specs.Steps.{with_front}
use Rattle.proto_wire.proofs.Steps.{fails_along, regroup}
use Rattle.cas_messages.specs.Fault.{wants_memory, Fails}
use Rattle.cas_messages.specs.Meaning.{each}

-- the contents from the i-th on, of which the i-th is that of xs
opens : {X : Type 0} (f : X → List ℕ) (xs : List X) (i : ℕ) (d : X) → i < length xs → drop i (map f xs) ≡ f (get_or xs i d) ∷ drop (i + 1) (map f xs)
opens f xs i d lt =
    let short : i < length (map f xs) = rw length-map lt in
    rw (add-one, drop-cons (map f xs) i [] short, get_or-map f xs i d [] lt) refl

-- an element was read, and the rest goes on
pub goes_on : {A X : Type 0} (read : ℕ → List ℕ → Result A MessageError) (f : X → List ℕ) (xs : List X) (i : ℕ) (d : X) (front : List A) (x : A) (total : Result (List A) MessageError) → i < length xs
    → read i (f (get_or xs i d)) ≡ Ok x → with_front front (each read i (drop i (map f xs))) ≡ total → with_front (front ++ x ∷ []) (each read (i + 1) (drop (i + 1) (map f xs))) ≡ total
unfolding each
goes_on read f xs i d front x total lt h so_far =
    let one : with_front front (each read i (drop i (map f xs))) ≡ with_front (front ++ x ∷ []) (each read (i + 1) (drop (i + 1) (map f xs))) =
    rw (opens f xs i d lt, h) (regroup front x (each read (i + 1) (drop (i + 1) (map f xs))))
    in
    sym one ∙ so_far

stops : {A X : Type 0} (read : ℕ → List ℕ → Result A MessageError) (f : X → List ℕ) (xs : List X) (i : ℕ) (d : X) (e : MessageError) (front : List A) (total : Result (List A) MessageError) → i < length xs
    → read i (f (get_or xs i d)) ≡ Err e → with_front front (each read i (drop i (map f xs))) ≡ total → total ≡ Err e
unfolding each
stops read f xs i d e front total lt h so_far =
    let one : with_front front (each read i (drop i (map f xs))) ≡ Err e = rw (opens f xs i d lt, h) refl in
    sym so_far ∙ one

-- an element was refused, and that is the answer
pub ends : {A X : Type 0} (read : ℕ → List ℕ → Result A MessageError) (f : X → List ℕ) (xs : List X) (i : ℕ) (d : X) (e : MessageError) (front : List A) (total : Result (List A) MessageError) → i < length xs
    → Fails e (read i (f (get_or xs i d))) → with_front front (each read i (drop i (map f xs))) ≡ total → Fails e total
ends read f xs i d e front total lt h so_far = fails_along wants_memory e (read i (f (get_or xs i d))) total (λ fault. stops read f xs i d e front total lt fault so_far) h

-- all elements were read
pub is_done : {A X : Type 0} (read : ℕ → List ℕ → Result A MessageError) (f : X → List ℕ) (xs : List X) (i : ℕ) (front : List A) (total : Result (List A) MessageError) → length xs ≤ i
    → with_front front (each read i (drop i (map f xs))) ≡ total → total ≡ Ok front
unfolding each
is_done read f xs i front total le so_far =
    let past : length (map f xs) ≤ i = rw length-map le in
    let one : with_front front (each read i (drop i (map f xs))) ≡ Ok front = rw (drop_all i (map f xs) past) (ap Ok (append-nil front)) in
    sym so_far ∙ one
