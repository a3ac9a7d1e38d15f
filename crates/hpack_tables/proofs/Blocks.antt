-- Reading a block step by step, as a loop does.
use Rattle.std.proofs.Common.{◌≡◌, ℕ, zero, suc, ◌+◌, ◌-◌, ◌<◌, ◌≤◌, Bool, true, false, cond, ltb, eqb, List, [], ◌∷◌, ◌++◌, length, Option, Some, None, Result, Ok, Err, refl, sym, ap, ◌∙◌, append_assoc, arith}
use Rattle.std.specs.Option.{option_to_list}
use Rattle.std.proofs.lemmas.Bool.{eqb-true, eqb-false, ltb-false}
use Rattle.std.proofs.lemmas.List.{append-nil}
use Rattle.hpack_tables.specs.declared.header.Header.{Header}
use Rattle.hpack_tables.specs.declared.offence.Offence.{Offence}
use Rattle.hpack_tables.specs.declared.offence.Offence.TheVariants as offences
use Rattle.hpack_tables.specs.declared.fault.HpackFault.{HpackFault}
use Rattle.hpack_tables.specs.declared.fault.HpackFault.TheVariants as faults
use Rattle.hpack_tables.specs.Block.{max_list}
use Rattle.hpack_tables.specs.Table.{HeaderTable}
use Rattle.hpack_tables.specs.Reading.{Fails, BlockFails, Given, given, Place, behind, begin, size_if, goes_on, fault_at, with_header, go_on, representation_at, headers_from, block_at}
use Rattle.hpack_tables.proofs.Shrinks.{representation_shrinks}

-- two ways to go on that do the same with what was read
go_on_same : (p : Place) (r : Result Given Offence) (f h : Given → Result (List Header × HeaderTable) HpackFault) → ((g : Given) → r ≡ Ok g → f g ≡ h g) → go_on p r f ≡ go_on p r h
go_on_same p (Err e) f h same = refl
go_on_same p (Ok g) f h same = ap (λ (x : Result (List Header × HeaderTable) HpackFault). cond (ltb max_list (p.size + size_if g.header)) (Err (faults.ListTooLong p.at)) x) (same g refl)

-- how much fuel there is makes no difference once it is enough
fuel_is_enough : (fuel more : ℕ) (p : Place) (bytes : List ℕ) → length bytes ≤ fuel → length bytes ≤ more → headers_from fuel p bytes ≡ headers_from more p bytes
unfolding headers_from
fuel_is_enough zero zero p [] a b = refl
fuel_is_enough zero (suc more) p [] a b = refl
fuel_is_enough (suc fuel) zero p [] a b = refl
fuel_is_enough (suc fuel) (suc more) p [] a b = refl
fuel_is_enough zero more p (c ∷ cs) a b = absurd (omega arith)
fuel_is_enough (suc fuel) zero p (c ∷ cs) a b = absurd (omega arith)
fuel_is_enough (suc fuel) (suc more) p (c ∷ cs) a b =
    go_on_same p (representation_at p.table p.may_update (c ∷ cs))
    (λ g. with_header g.header (headers_from fuel (behind p (length (c ∷ cs) - length g.rest) g) g.rest))
    (λ g. with_header g.header (headers_from more (behind p (length (c ∷ cs) - length g.rest) g) g.rest))
    (λ g e.
    let shorter = representation_shrinks p.table p.may_update (c ∷ cs) g e in
    ap (with_header g.header) (fuel_is_enough fuel more (behind p (length (c ∷ cs) - length g.rest) g) g.rest (omega (arith, shorter)) (omega (arith, shorter))))

-- the first representation, then the others
first_then : (p : Place) (bytes : List ℕ) → 0 < length bytes → headers_from (length bytes) p bytes
    ≡ go_on p (representation_at p.table p.may_update bytes) (λ g. with_header g.header (headers_from (length g.rest) (behind p (length bytes - length g.rest) g) g.rest))
unfolding headers_from
first_then p [] lt = absurd (omega arith)
first_then p (c ∷ cs) lt =
    go_on_same p (representation_at p.table p.may_update (c ∷ cs))
    (λ g. with_header g.header (headers_from (length cs) (behind p (length (c ∷ cs) - length g.rest) g) g.rest))
    (λ g. with_header g.header (headers_from (length g.rest) (behind p (length (c ∷ cs) - length g.rest) g) g.rest))
    (λ g e.
    let shorter = representation_shrinks p.table p.may_update (c ∷ cs) g e in
    ap (with_header g.header) (fuel_is_enough (length cs) (length g.rest) (behind p (length (c ∷ cs) - length g.rest) g) g.rest (omega (arith, shorter)) (omega arith)))

-- headers before what follows
abbrev pub with_all : List Header → Result (List Header × HeaderTable) HpackFault → Result (List Header × HeaderTable) HpackFault
with_all front (Ok read) = Ok (front ++ read.0, read.1)
with_all front (Err e) = Err e

-- a place of a block of so many bytes
abbrev pub place : ℕ → ℕ → Bool → HeaderTable → List ℕ → Place
place whole size may_update t rest = record { at = whole - length rest; size = size; may_update = may_update; table = t }

-- what was read before, and what is still read of the rest of so many bytes
abbrev pub read_all : List Header → ℕ → ℕ → Bool → HeaderTable → List ℕ → Result (List Header × HeaderTable) HpackFault
read_all front whole size may_update t rest = with_all front (headers_from (length rest) (place whole size may_update t rest) rest)

regroup : (front : List Header) (h : Option Header) (read : Result (List Header × HeaderTable) HpackFault) → with_all front (with_header h read) ≡ with_all (front ++ option_to_list h) read
regroup front None read = ap (λ (f : List Header). with_all f read) (sym (append-nil front))
regroup front (Some header) (Ok read) = ap (λ (hs : List Header). Ok (hs, read.1)) (sym (append_assoc front (header ∷ []) read.0))
regroup front (Some header) (Err e) = refl

nothing_before : (read : Result (List Header × HeaderTable) HpackFault) → with_all [] read ≡ read
nothing_before (Ok read) = refl
nothing_before (Err e) = refl

-- at the beginning
pub begins : (front : List Header) (t : HeaderTable) (block : List ℕ) → front ≡ [] → read_all front (length block) 0 true t block ≡ block_at t block
unfolding block_at
begins front t block e =
    let at : length block - length block ≡ 0 = omega arith in
    rw (e, at) (nothing_before (headers_from (length block) (begin t) block))

-- what the loop's test says of the rest
pub goes : (n : ℕ) (b : Bool) → b ≡ eqb n 0 → b ≡ false → 0 < n
goes n b e f = let ne : n ≡ 0 → ⊥ = eqb-false n 0 (sym e ∙ f) in omega arith

pub is_over : (n : ℕ) (b : Bool) → b ≡ eqb n 0 → b ≡ true → n ≡ 0
is_over n b e f = eqb-true n 0 (sym e ∙ f)

by_test : (b : Bool) (size more : ℕ) → Some more ≡ cond b None (Some size) → (b ≡ false) × (more ≡ size)
by_test true size more e = absurd cc
by_test false size more e = (refl, cc)

-- the size with one more header, where it isn't too large
pub size_more : (size more : ℕ) → Some more ≡ cond (ltb max_list size) None (Some size) → (ltb max_list size ≡ false) × (more ≡ size)
size_more size more e = by_test (ltb max_list size) size more e

pub size_small : (size more : ℕ) → Some more ≡ cond (ltb max_list size) None (Some size) → more ≤ max_list
size_small size more e = let s = size_more size more e in omega (arith, ltb-false max_list size s.0, s.1)

pub size_none : (b : Bool) (size : ℕ) → None ≡ cond b None (Some size) → b ≡ true
size_none true size e = refl
size_none false size e = absurd cc

abbrev place_at : ℕ → ℕ → Bool → HeaderTable → Place
place_at at size may t = record { at = at; size = size; may_update = may; table = t }

place_is : (at at' size size' : ℕ) (may may' : Bool) (t : HeaderTable) → at ≡ at' → size ≡ size' → may ≡ may' → place_at at size may t ≡ place_at at' size' may' t
place_is at at' size size' may may' t a s m = rw (a, s, m) refl

-- what is read from a place, by its first representation
abbrev next_of : ℕ → ℕ → Bool → HeaderTable → List ℕ → Given → Result (List Header × HeaderTable) HpackFault
next_of whole size may_update t rest g = with_header g.header (headers_from (length g.rest) (behind (place whole size may_update t rest) (length rest - length g.rest) g) g.rest)

total_by : (front : List Header) (whole size : ℕ) (may_update : Bool) (t : HeaderTable) (rest : List ℕ) (read : Result Given Offence) (total : Result (List Header × HeaderTable) HpackFault)
    → 0 < length rest → representation_at t may_update rest ≡ read → read_all front whole size may_update t rest ≡ total
    → total ≡ with_all front (go_on (place whole size may_update t rest) read (next_of whole size may_update t rest))
total_by front whole size may_update t rest read total lt h so_far =
    sym so_far ∙ ap (with_all front) (first_then (place whole size may_update t rest) rest lt ∙ ap (λ (r : Result Given Offence). go_on (place whole size may_update t rest) r (next_of whole size may_update t rest)) h)

-- one more representation
pub one_more : (front : List Header) (whole size : ℕ) (may_update : Bool) (t : HeaderTable) (rest after : List ℕ) (header : Option Header) (t' : HeaderTable) (more : ℕ) (may : Bool) (total : Result (List Header × HeaderTable) HpackFault)
    → 0 < length rest → length rest ≤ whole → representation_at t may_update rest ≡ Ok (given header t' after)
    → Some more ≡ cond (ltb max_list (size + size_if header)) None (Some (size + size_if header)) → may ≡ goes_on header may_update
    → read_all front whole size may_update t rest ≡ total → read_all (front ++ option_to_list header) whole more may t' after ≡ total
one_more front whole size may_update t rest after header t' more may total lt within h sized m so_far =
    let s = size_more (size + size_if header) more sized in
    let shorter : length after < length rest = representation_shrinks t may_update rest (given header t' after) h in
    let at : whole - length rest + (length rest - length after) ≡ whole - length after = omega arith in
    let p = place_is (whole - length rest + (length rest - length after)) (whole - length after) (size + size_if header) more (goes_on header may_update) may t' at (sym s.1) (sym m) in
    sym (total_by front whole size may_update t rest (Ok (given header t' after)) total lt h so_far
    ∙ ap (λ (b : Bool). with_all front (cond b (Err (faults.ListTooLong (whole - length rest))) (next_of whole size may_update t rest (given header t' after)))) s.0
    ∙ ap (λ (q : Place). with_all front (with_header header (headers_from (length after) q after))) p
    ∙ regroup front header (headers_from (length after) (place whole more may t' after) after))

-- a representation whose header makes the list too large
pub too_large : (front : List Header) (whole size : ℕ) (may_update : Bool) (t : HeaderTable) (rest after : List ℕ) (header : Option Header) (t' : HeaderTable) (total : Result (List Header × HeaderTable) HpackFault)
    → 0 < length rest → representation_at t may_update rest ≡ Ok (given header t' after)
    → None ≡ cond (ltb max_list (size + size_if header)) None (Some (size + size_if header))
    → read_all front whole size may_update t rest ≡ total → total ≡ Err (faults.ListTooLong (whole - length rest))
too_large front whole size may_update t rest after header t' total lt h sized so_far =
    total_by front whole size may_update t rest (Ok (given header t' after)) total lt h so_far
    ∙ ap (λ (b : Bool). with_all front (cond b (Err (faults.ListTooLong (whole - length rest))) (next_of whole size may_update t rest (given header t' after)))) (size_none (ltb max_list (size + size_if header)) (size + size_if header) sized)

-- a refusal of a representation refuses the block, at its place
refused : (d : Offence) (at : ℕ) (read : Result Given Offence) (total : Result (List Header × HeaderTable) HpackFault) → ((e : Offence) → read ≡ Err e → total ≡ Err (fault_at at e)) → Fails d read → BlockFails (fault_at at d) total
refused offences.OutOfMemory at read total along h = tt
refused offences.Index at read total along h = along offences.Index h
refused offences.Int at read total along h = along offences.Int h
refused offences.Huffman at read total along h = along offences.Huffman h
refused offences.Update at read total along h = along offences.Update h
refused offences.Truncated at read total along h = along offences.Truncated h

pub offends : (front : List Header) (whole size : ℕ) (may_update : Bool) (t : HeaderTable) (rest : List ℕ) (d : Offence) (fault : HpackFault) (total : Result (List Header × HeaderTable) HpackFault)
    → 0 < length rest → Fails d (representation_at t may_update rest) → fault ≡ fault_at (whole - length rest) d
    → read_all front whole size may_update t rest ≡ total → BlockFails fault total
offends front whole size may_update t rest d fault total lt h is so_far =
    rw is (refused d (whole - length rest) (representation_at t may_update rest) total (λ e at. total_by front whole size may_update t rest (Err e) total lt at so_far) h)

-- at the end
pub ended : (front : List Header) (whole size : ℕ) (may_update : Bool) (t : HeaderTable) (rest : List ℕ) (total : Result (List Header × HeaderTable) HpackFault) → length rest ≡ 0
    → read_all front whole size may_update t rest ≡ total → total ≡ Ok (front, t)
unfolding headers_from
ended front whole size may_update t [] total e so_far = sym so_far ∙ ap (λ (hs : List Header). Ok (hs, t)) (append-nil front)
ended front whole size may_update t (b ∷ bs) total e so_far = absurd (omega arith)
