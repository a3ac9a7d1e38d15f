-- Header blocks as a relation and as they are read.
use Rattle.std.proofs.Common.{◌≡◌, ℕ, zero, suc, ◌+◌, ◌-◌, ◌<◌, ◌≤◌, Bool, false, true, ltb, Result, Ok, Err, Option, Some, None, List, [], ◌∷◌, length, refl, sym, ap, subst, arith, ◌∙◌}
use Rattle.std.specs.Prelude.{◌&&◌, is_none}
use Rattle.std.proofs.lemmas.Bool.{le-ltb, ltb-false}
use Rattle.std.proofs.lemmas.List.{length-append}
use Rattle.std.proofs.lemmas.List.Sums.{sum_by-cons}
use Rattle.proto_wire.specs.Reading.{IsBytes}
use Rattle.proto_wire.proofs.Steps.{ok_is, passed}
use Rattle.hpack_tables.specs.declared.header.Header.{Header}
use Rattle.hpack_tables.specs.declared.offence.Offence.{Offence}
use Rattle.hpack_tables.specs.declared.fault.HpackFault.{HpackFault}
use Rattle.hpack_tables.specs.declared.fault.HpackFault.TheVariants as faults
use Rattle.hpack_tables.specs.Table.{HeaderTable, size_of, list_size}
use Rattle.hpack_tables.specs.Block.{IsBlock, AreSteps, Step, onto, max_list}
use Rattle.hpack_tables.specs.Reading.{Given, Place, begin, size_if, goes_on, behind, with_header, go_on, representation_at, headers_from, block_at}
use Rattle.hpack_tables.proofs.LawString.{rest_bytes}
use Rattle.hpack_tables.proofs.LawRepresentation.{TakesRepresentation, representation_takes, representation_again, representation_some}

-- what follows from going on to a value
record WentOn (p : Place) (r : Result Given Offence) (next : Given → Result (List Header × HeaderTable) HpackFault) (y : List Header × HeaderTable) : Type 0 where
  pub g : Given
  pub read : r ≡ Ok g
  pub small : p.size + size_if g.header ≤ max_list
  pub gives : next g ≡ Ok y

went_on : (p : Place) (r : Result Given Offence) (next : Given → Result (List Header × HeaderTable) HpackFault) (y : List Header × HeaderTable)
    → go_on p r next ≡ Ok y → WentOn p r next y
went_on p (Err e) next y h = absurd cc
went_on p (Ok g) next y h =
    let p1 = passed (ltb max_list (p.size + size_if g.header)) (faults.ListTooLong p.at) (next g) y h in
    record { g = g; read = refl; small = ltb-false _ _ p1.0; gives = p1.1 }

onto_ok : (h : Option Header) (r : Result (List Header × HeaderTable) HpackFault) (headers : List Header) (t' : HeaderTable) → with_header h r ≡ Ok (headers, t')
    → (later : List Header) × (r ≡ Ok (later, t')) × (headers ≡ onto h later)
onto_ok None r headers t' e = (headers, e, refl)
onto_ok (Some header) (Ok (later, last)) headers t' e =
    let same = ok_is (header ∷ later, last) (headers, t') e in
    let ends : last ≡ t' = ap (λ (y : List Header × HeaderTable). y.1) same in
    (later, ap (λ (t : HeaderTable). Ok (later, t)) ends, sym (ap (λ (y : List Header × HeaderTable). y.0) same))
onto_ok (Some header) (Err f) headers t' e = absurd cc

onto_again : (h : Option Header) (later : List Header) (t' : HeaderTable) → with_header h (Ok (later, t')) ≡ Ok (onto h later, t')
onto_again None later t' = refl
onto_again (Some header) later t' = refl

pub goes_on_is : (h : Option Header) (may_update : Bool) → goes_on h may_update ≡ (may_update && is_none h)
goes_on_is None true = refl
goes_on_is None false = refl
goes_on_is (Some header) true = refl
goes_on_is (Some header) false = refl

pub size_onto : (h : Option Header) (later : List Header) → list_size (onto h later) ≡ size_if h + list_size later
size_onto None later = omega arith
size_onto (Some header) later = sum_by-cons size_of header later

-- ---- what is read is spelled so

record TakesSteps (p : Place) (bytes : List ℕ) (headers : List Header) (t' : HeaderTable) : Type 0 where
  pub steps : List Step
  pub are : AreSteps p.table p.may_update steps bytes headers t'
  pub small : p.size + list_size headers ≤ max_list

no_headers : (p : Place) → p.size ≤ max_list → p.size + list_size [] ≤ max_list
no_headers p small = omega arith

takes_none : (p : Place) (y : List Header × HeaderTable) → p.size ≤ max_list → ◌≡◌ {A = List Header × HeaderTable} ([], p.table) y → TakesSteps p [] y.0 y.1
takes_none p y small e =
    subst (λ (z : List Header × HeaderTable). TakesSteps p [] z.0 z.1) e (record { steps = []; are = (refl, refl, refl); small = no_headers p small })

takes_step : (p : Place) (bytes : List ℕ) (n : ℕ) (g : Given) (headers later : List Header) (t' : HeaderTable) → TakesRepresentation p.table p.may_update bytes g
    → headers ≡ onto g.header later → TakesSteps (behind p n g) g.rest later t' → TakesSteps p bytes headers t'
takes_step p bytes n g headers later t' r e s =
    let step : Step = record { bytes = r.front; header = g.header; table = g.table } in
    record {
      steps = step ∷ s.steps;
      are = (g.rest, later, r.parts, e, r.is, subst (λ (m : Bool). AreSteps g.table m s.steps g.rest later t') (goes_on_is g.header p.may_update) s.are);
      small = omega (arith, s.small, size_onto g.header later, ap list_size e);
    }

steps_take : (most : ℕ) (p : Place) (bytes : List ℕ) (headers : List Header) (t' : HeaderTable) → IsBytes bytes → p.size ≤ max_list
    → headers_from most p bytes ≡ Ok (headers, t') → TakesSteps p bytes headers t'
unfolding headers_from
steps_take most p [] headers t' fits small e = takes_none p (headers, t') small (ok_is ([], p.table) (headers, t') e)
steps_take zero p (b ∷ rest) headers t' fits small e = absurd cc
steps_take (suc most) p (b ∷ rest) headers t' fits small e =
    let w = went_on p (representation_at p.table p.may_update (b ∷ rest)) (λ g. with_header g.header (headers_from most (behind p (length (b ∷ rest) - length g.rest) g) g.rest)) (headers, t') e in
    let r = representation_takes p.table p.may_update (b ∷ rest) w.g fits w.read in
    let n = length (b ∷ rest) - length w.g.rest in
    let o = onto_ok w.g.header (headers_from most (behind p n w.g) w.g.rest) headers t' w.gives in
    let s = steps_take most (behind p n w.g) w.g.rest o.0 t' (rest_bytes (b ∷ rest) r.front w.g.rest r.parts fits) w.small o.1 in
    takes_step p (b ∷ rest) n w.g headers o.0 t' r o.2 s

pub block_takes : (t t' : HeaderTable) (bytes : List ℕ) (headers : List Header) → IsBytes bytes → block_at t bytes ≡ Ok (headers, t') → IsBlock t bytes headers t' × (list_size headers ≤ max_list)
unfolding block_at
block_takes t t' bytes headers fits e =
    let s = steps_take (length bytes) (begin t) bytes headers t' fits (omega arith) e in
    ((s.steps, s.are), omega (arith, s.small))

-- ---- what is spelled so is read

one_more : (most : ℕ) (p : Place) (bytes : List ℕ) (g : Given) → 0 < length bytes → representation_at p.table p.may_update bytes ≡ Ok g → p.size + size_if g.header ≤ max_list
    → headers_from (suc most) p bytes ≡ with_header g.header (headers_from most (behind p (length bytes - length g.rest) g) g.rest)
unfolding headers_from
one_more most p [] g some e small = absurd (omega arith)
one_more most p (b ∷ rest) g some e small = rw (e, le-ltb max_list (p.size + size_if g.header) small) refl

steps_again : (steps : List Step) (most : ℕ) (p : Place) (bytes : List ℕ) (headers : List Header) (t' : HeaderTable) → length bytes ≤ most
    → AreSteps p.table p.may_update steps bytes headers t' → p.size + list_size headers ≤ max_list → headers_from most p bytes ≡ Ok (headers, t')
unfolding headers_from
steps_again [] most p bytes headers t' fuel a small = rw (a.0, a.1, a.2) refl
steps_again (step ∷ steps) zero p bytes headers t' fuel a small =
    absurd (omega (arith, representation_some p.table p.may_update step.bytes step.header step.table a.4, length-append step.bytes a.0, ap length a.2))
steps_again (step ∷ steps) (suc most) p bytes headers t' fuel a small =
    let rest = a.0 in
    let later = a.1 in
    let g : Given = record { header = step.header; table = step.table; rest = rest } in
    let some = representation_some p.table p.may_update step.bytes step.header step.table a.4 in
    let lens : length bytes ≡ length step.bytes + length rest = ap length a.2 ∙ length-append step.bytes rest in
    let read : representation_at p.table p.may_update bytes ≡ Ok g =
    ap (representation_at p.table p.may_update) a.2 ∙ representation_again p.table p.may_update step.bytes step.header step.table rest a.4 in
    let sizes : list_size headers ≡ size_if step.header + list_size later = ap list_size a.3 ∙ size_onto step.header later in
    let n = length bytes - length rest in
    let others = steps_again steps most (behind p n g) rest later t' (omega (arith, some, lens))
    (subst (λ (m : Bool). AreSteps step.table m steps rest later t') (sym (goes_on_is step.header p.may_update)) a.5) (omega (arith, sizes)) in
    one_more most p bytes g (omega (arith, some, lens)) read (omega (arith, sizes))
    ∙ (ap (with_header step.header) others ∙ (onto_again step.header later t' ∙ ap (λ (hs : List Header). Ok (hs, t')) (sym a.3)))

pub block_again : (t t' : HeaderTable) (bytes : List ℕ) (headers : List Header) → IsBlock t bytes headers t' → list_size headers ≤ max_list → block_at t bytes ≡ Ok (headers, t')
unfolding block_at
block_again t t' bytes headers b small = steps_again b.0 (length bytes) (begin t) bytes headers t' (omega arith) b.1 (omega arith)
