-- Reading fields one after the other, as a loop does.
use Rattle.std.proofs.Common.{◌≡◌, ℕ, ◌-◌, ◌<◌, Bool, true, false, eqb, List, [], ◌∷◌, ◌++◌, length, Result, Ok, Err, sym, ap, ◌∙◌, arith}
use Rattle.std.proofs.lemmas.Bool.{eqb-true, eqb-false}
use Rattle.std.proofs.lemmas.List.{append-nil}
use Rattle.proto_wire.specs.declared.fault.WireError.{WireError}
use Rattle.proto_wire.specs.Field.{WireField}
use Rattle.proto_wire.specs.Steps.{with_front}
use Rattle.proto_wire.specs.Reading.{wants_memory, Fails, field_at, fields_in}
use Rattle.proto_wire.proofs.Steps.{fails_along, regroup, same}
use Rattle.proto_wire.proofs.Shrinks.{fields_more, fields_stop}

-- what was read before, and what is still read of the rest of so many bytes
abbrev pub read_all : List WireField → ℕ → List ℕ → Result (List WireField) WireError
read_all front whole rest = with_front front (fields_in (length rest) whole rest)

pub goes_on : (front : List WireField) (whole : ℕ) (rest after : List ℕ) (f : WireField) (total : Result (List WireField) WireError) → 0 < length rest → field_at (whole - length rest) rest ≡ Ok (f, after)
    → read_all front whole rest ≡ total → read_all (front ++ f ∷ []) whole after ≡ total
goes_on front whole rest after f total lt h so_far =
    sym (regroup front f (fields_in (length after) whole after)) ∙ sym (ap (with_front front) (fields_more whole rest (f, after) lt h)) ∙ so_far

stops : (e : WireError) (front : List WireField) (whole : ℕ) (rest : List ℕ) (total : Result (List WireField) WireError) → 0 < length rest → field_at (whole - length rest) rest ≡ Err e
    → read_all front whole rest ≡ total → total ≡ Err e
stops e front whole rest total lt h so_far = sym so_far ∙ ap (with_front front) (fields_stop whole rest e lt h)

pub ends : (e : WireError) (front : List WireField) (whole : ℕ) (rest : List ℕ) (total : Result (List WireField) WireError) → 0 < length rest → Fails e (field_at (whole - length rest) rest)
    → read_all front whole rest ≡ total → Fails e total
ends e front whole rest total lt h so_far = fails_along wants_memory e (field_at (whole - length rest) rest) total (λ fault. stops e front whole rest total lt fault so_far) h

pub is_done : (front : List WireField) (whole : ℕ) (rest : List ℕ) (total : Result (List WireField) WireError) → length rest ≡ 0 → read_all front whole rest ≡ total → total ≡ Ok front
unfolding fields_in
is_done front whole [] total len so_far = sym so_far ∙ ap (λ (fs : List WireField). Ok fs) (append-nil front)
is_done front whole (c ∷ cs) total len so_far = absurd (omega arith)

pub starts : (whole : ℕ) (text : List ℕ) → read_all [] whole text ≡ fields_in (length text) whole text
starts whole text = same (fields_in (length text) whole text)

-- what the loop's test says of the rest
pub goes : (n : ℕ) (b : Bool) → b ≡ eqb n 0 → b ≡ false → 0 < n
goes n b e f = let ne : n ≡ 0 → ⊥ = eqb-false n 0 (sym e ∙ f) in omega arith

pub is_over : (n : ℕ) (b : Bool) → b ≡ eqb n 0 → b ≡ true → n ≡ 0
is_over n b e f = eqb-true n 0 (sym e ∙ f)
