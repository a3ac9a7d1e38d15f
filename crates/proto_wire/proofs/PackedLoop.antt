-- Reading varints one after the other, as a loop does.
use Rattle.std.proofs.Common.{◌≡◌, ℕ, zero, suc, ◌+◌, ◌<◌, ◌≤◌, List, [], ◌∷◌, ◌++◌, length, get_or, map, drop, Result, Ok, Err, refl, sym, ap, ◌∙◌, append_assoc, add-one, drop-cons, arith}
use Rattle.std.proofs.lemmas.List.{append-nil, drop_all}
use Rattle.proto_wire.specs.declared.fault.WireError.{WireError}
use Rattle.proto_wire.specs.Field.{WireField}
use Rattle.proto_wire.specs.Steps.{◌>>=◌, with_front}
use Rattle.proto_wire.specs.Reading.{wants_memory, Fails, varint_at}
use Rattle.proto_wire.specs.Packed.{varints_in, numbers_of, packed_of}
use Rattle.proto_wire.proofs.Steps.{bind_same, fails_along, regroup}
use Rattle.proto_wire.proofs.Shrinks.{varint_shrinks}

-- how much fuel there is makes no difference once it is enough
varints_fuel : (fuel more at : ℕ) (text : List ℕ) → length text ≤ fuel → length text ≤ more → varints_in fuel at text ≡ varints_in more at text
unfolding varints_in
varints_fuel fuel more at [] a b = refl
varints_fuel zero more at (c ∷ cs) a b = absurd (omega arith)
varints_fuel (suc fuel) zero at (c ∷ cs) a b = absurd (omega arith)
varints_fuel (suc fuel) (suc more) at (c ∷ cs) a b =
    bind_same (varint_at at 10 (c ∷ cs))
    (λ first. varints_in fuel at first.1 >>= λ others. Ok (first.0 ∷ others))
    (λ first. varints_in more at first.1 >>= λ others. Ok (first.0 ∷ others))
    (λ first e.
    let shorter = varint_shrinks at 10 (c ∷ cs) first e in
    ap (λ (r : Result (List ℕ) WireError). r >>= λ others. Ok (first.0 ∷ others)) (varints_fuel fuel more at first.1 (omega (arith, shorter)) (omega (arith, shorter))))

-- the first varint, then the others
pub varints_more : (at : ℕ) (text : List ℕ) (first : ℕ × List ℕ) → 0 < length text → varint_at at 10 text ≡ Ok first
    → varints_in (length text) at text ≡ (varints_in (length first.1) at first.1 >>= λ others. Ok (first.0 ∷ others))
unfolding varints_in
varints_more at [] first lt e = absurd (omega arith)
varints_more at (c ∷ cs) first lt e =
    let shorter = varint_shrinks at 10 (c ∷ cs) first e in
    rw e (ap (λ (r : Result (List ℕ) WireError). r >>= λ others. Ok (first.0 ∷ others)) (varints_fuel (length cs) (length first.1) at first.1 (omega (arith, shorter)) (omega arith)))

-- no varint, so none of all
varints_stop : (at : ℕ) (text : List ℕ) (e : WireError) → 0 < length text → varint_at at 10 text ≡ Err e → varints_in (length text) at text ≡ Err e
unfolding varints_in
varints_stop at [] e lt h = absurd (omega arith)
varints_stop at (c ∷ cs) e lt h = rw h refl

-- what was read before, and what is still read of the rest of a packed list
abbrev pub read_varints : List ℕ → ℕ → List ℕ → Result (List ℕ) WireError
read_varints front at rest = with_front front (varints_in (length rest) at rest)

pub varint_goes_on : (front : List ℕ) (at : ℕ) (rest after : List ℕ) (n : ℕ) (total : Result (List ℕ) WireError) → 0 < length rest → varint_at at 10 rest ≡ Ok (n, after)
    → read_varints front at rest ≡ total → read_varints (front ++ n ∷ []) at after ≡ total
varint_goes_on front at rest after n total lt h so_far =
    sym (regroup front n (varints_in (length after) at after)) ∙ sym (ap (with_front front) (varints_more at rest (n, after) lt h)) ∙ so_far

pub varint_ends : (e : WireError) (front : List ℕ) (at : ℕ) (rest : List ℕ) (total : Result (List ℕ) WireError) → 0 < length rest → Fails e (varint_at at 10 rest)
    → read_varints front at rest ≡ total → Fails e total
varint_ends e front at rest total lt h so_far =
    fails_along wants_memory e (varint_at at 10 rest) total (λ fault. sym so_far ∙ ap (with_front front) (varints_stop at rest e lt fault)) h

pub varints_done : (front : List ℕ) (at : ℕ) (rest : List ℕ) (total : Result (List ℕ) WireError) → length rest ≡ 0 → read_varints front at rest ≡ total → total ≡ Ok front
unfolding varints_in
varints_done front at [] total len so_far = sym so_far ∙ ap (λ (ns : List ℕ). Ok ns) (append-nil front)
varints_done front at (c ∷ cs) total len so_far = absurd (omega arith)

-- what was read before, and what is still read of the other fields
abbrev pub read_packed : ℕ → List ℕ → List WireField → Result (List ℕ) WireError
read_packed number front fs = with_front front (packed_of number fs)

-- the numbers of one field, then those of the others
two_parts : (front new : List ℕ) (first others : Result (List ℕ) WireError) → with_front front first ≡ Ok new → with_front front (first >>= λ ns. others >>= λ ms. Ok (ns ++ ms)) ≡ with_front new others
two_parts front new (Ok ns) (Ok ms) e =
    let same : front ++ ns ≡ new = cc in
    ap (λ (x : List ℕ). Ok x) (sym (append_assoc front ns ms) ∙ ap (λ (x : List ℕ). x ++ ms) same)
two_parts front new (Ok ns) (Err d) e = refl
two_parts front new (Err d) others e = absurd cc

part_fails : (front : List ℕ) (e : WireError) (first others : Result (List ℕ) WireError) → with_front front first ≡ Err e → with_front front (first >>= λ ns. others >>= λ ms. Ok (ns ++ ms)) ≡ Err e
part_fails front e (Ok ns) others h = absurd cc
part_fails front e (Err d) others h = h

field_goes_on : (number : ℕ) (front new : List ℕ) (f : WireField) (fs : List WireField) (total : Result (List ℕ) WireError) → with_front front (numbers_of number f) ≡ Ok new
    → read_packed number front (f ∷ fs) ≡ total → read_packed number new fs ≡ total
unfolding packed_of
field_goes_on number front new f fs total h so_far = sym (two_parts front new (numbers_of number f) (packed_of number fs) h) ∙ so_far

field_ends : (e : WireError) (number : ℕ) (front : List ℕ) (f : WireField) (fs : List WireField) (total : Result (List ℕ) WireError) → Fails e (with_front front (numbers_of number f))
    → read_packed number front (f ∷ fs) ≡ total → Fails e total
unfolding packed_of
field_ends e number front f fs total h so_far =
    fails_along wants_memory e (with_front front (numbers_of number f)) total (λ fault. sym so_far ∙ part_fails front e (numbers_of number f) (packed_of number fs) fault) h

-- the rest of a list, as a loop over it sees it
rest_cons : {X Y : Type 0} (v : X → Y) (items : List X) (i : ℕ) (d : X) → i < length items → map v (drop i items) ≡ v (get_or items i d) ∷ map v (drop (i + 1) items)
rest_cons v items i d lt = rw (add-one, drop-cons items i d) refl

pub item_goes_on : {X : Type 0} (number : ℕ) (front new : List ℕ) (v : X → WireField) (items : List X) (i : ℕ) (d : X) (total : Result (List ℕ) WireError) → i < length items
    → with_front front (numbers_of number (v (get_or items i d))) ≡ Ok new → read_packed number front (map v (drop i items)) ≡ total → read_packed number new (map v (drop (i + 1) items)) ≡ total
item_goes_on number front new v items i d total lt h so_far =
    field_goes_on number front new (v (get_or items i d)) (map v (drop (i + 1) items)) total h (ap (read_packed number front) (sym (rest_cons v items i d lt)) ∙ so_far)

pub item_ends : {X : Type 0} (e : WireError) (number : ℕ) (front : List ℕ) (v : X → WireField) (items : List X) (i : ℕ) (d : X) (total : Result (List ℕ) WireError) → i < length items
    → Fails e (with_front front (numbers_of number (v (get_or items i d)))) → read_packed number front (map v (drop i items)) ≡ total → Fails e total
item_ends e number front v items i d total lt h so_far =
    field_ends e number front (v (get_or items i d)) (map v (drop (i + 1) items)) total h (ap (read_packed number front) (sym (rest_cons v items i d lt)) ∙ so_far)

pub items_done : {X : Type 0} (number : ℕ) (front : List ℕ) (v : X → WireField) (items : List X) (i : ℕ) (total : Result (List ℕ) WireError) → length items ≤ i → read_packed number front (map v (drop i items)) ≡ total → total ≡ Ok front
unfolding packed_of
items_done number front v items i total le so_far =
    sym so_far ∙ ap (λ fs. read_packed number front (map v fs)) (drop_all i items le) ∙ ap (λ (ns : List ℕ). Ok ns) (append-nil front)
