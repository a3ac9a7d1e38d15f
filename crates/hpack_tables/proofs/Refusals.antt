-- Where reading a block stops.
use Rattle.std.proofs.Common.{◌≡◌, ◌≢◌, ℕ, zero, suc, ◌+◌, ◌-◌, ◌<◌, ◌≤◌, Bool, false, true, ltb, ◌⊎◌, inl, inr, Result, Ok, Err, Option, Some, None, List, [], ◌∷◌, ◌++◌, length, refl, sym, ap, subst, arith, ◌∙◌, append_assoc}
use Rattle.std.specs.Prelude.{◌&&◌}
use Rattle.std.proofs.lemmas.Bool.{ltb-true, ltb-false, cases_Bool}
use Rattle.std.proofs.lemmas.List.{length-append}
use Rattle.proto_wire.specs.Reading.{IsBytes}
use Rattle.hpack_tables.specs.declared.header.Header.{Header}
use Rattle.hpack_tables.specs.declared.offence.Offence.{Offence}
use Rattle.hpack_tables.specs.declared.offence.Offence.TheVariants as offences
use Rattle.hpack_tables.specs.declared.fault.HpackFault.{HpackFault}
use Rattle.hpack_tables.specs.declared.fault.HpackFault.TheVariants as faults
use Rattle.hpack_tables.specs.Table.{HeaderTable, list_size}
use Rattle.hpack_tables.specs.Block.{AreSteps, Step, onto, max_list}
use Rattle.hpack_tables.specs.Refusal.{HasLarge, HasNone, IsRefusal, Offends, may_update_behind, place_of}
use Rattle.hpack_tables.specs.Reading.{Given, Place, begin, size_if, goes_on, behind, fault_at, with_header, go_on, representation_at, headers_from, block_at}
use Rattle.hpack_tables.proofs.LawBlock.{goes_on_is, size_onto}
use Rattle.hpack_tables.proofs.LawString.{rest_bytes}
use Rattle.hpack_tables.proofs.LawRepresentation.{TakesRepresentation, representation_takes, representation_again}
use Rattle.hpack_tables.proofs.Shrinks.{representation_shrinks}

-- where reading from a place stops
record StopsAt (p : Place) (bytes : List ℕ) (fault : HpackFault) : Type 0 where
  pub front : List ℕ
  pub rest : List ℕ
  pub steps : List Step
  pub headers : List Header
  pub table : HeaderTable
  pub whole : bytes ≡ front ++ rest
  pub before : AreSteps p.table p.may_update steps front headers table
  pub small : p.size + list_size headers ≤ max_list
  pub goes_on : rest ≢ []
  pub place : place_of fault ≡ Some (p.at + length front)
  pub offends : Offends table (p.may_update && may_update_behind headers) (p.size + list_size headers) rest fault

-- ---- at the first representation

and_true : (b : Bool) → (b && true) ≡ b
and_true true = refl
and_true false = refl

stops_here : (p : Place) (bytes : List ℕ) (fault : HpackFault) → bytes ≢ [] → p.size ≤ max_list → place_of fault ≡ Some p.at → Offends p.table p.may_update p.size bytes fault → StopsAt p bytes fault
stops_here p bytes fault some small at offends =
    let none : p.at + 0 ≡ p.at = omega arith in
    let size : p.size + 0 ≡ p.size = omega arith in
    record {
      front = [];
      rest = bytes;
      steps = [];
      headers = [];
      table = p.table;
      whole = refl;
      before = (refl, refl, refl);
      small = omega arith;
      goes_on = some;
      place = at ∙ ap Some (sym none);
      offends = rw (and_true p.may_update, size) offends;
    }

-- no representation stands where none is read
none_stands : (t : HeaderTable) (may_update : Bool) (bytes : List ℕ) (d : Offence) → representation_at t may_update bytes ≡ Err d → HasNone t may_update bytes
none_stands t may_update bytes d e front rest header t' whole is =
    let again = representation_again t may_update front header t' rest is in
    let read = ap (representation_at t may_update) whole in
    absurd cc

stops_offended : (p : Place) (bytes : List ℕ) (d : Offence) (fault : HpackFault) → bytes ≢ [] → p.size ≤ max_list → HasNone p.table p.may_update bytes → fault_at p.at d ≡ fault → (fault ≡ faults.OutOfMemory) ⊎ StopsAt p bytes fault
stops_offended p bytes offences.OutOfMemory fault some small none e = inl (sym e)
stops_offended p bytes offences.Index fault some small none e = inr (subst (StopsAt p bytes) e (stops_here p bytes (faults.BadIndex p.at) some small refl none))
stops_offended p bytes offences.Int fault some small none e = inr (subst (StopsAt p bytes) e (stops_here p bytes (faults.BadInt p.at) some small refl none))
stops_offended p bytes offences.Huffman fault some small none e = inr (subst (StopsAt p bytes) e (stops_here p bytes (faults.BadHuffman p.at) some small refl none))
stops_offended p bytes offences.Update fault some small none e = inr (subst (StopsAt p bytes) e (stops_here p bytes (faults.BadUpdate p.at) some small refl none))
stops_offended p bytes offences.Truncated fault some small none e = inr (subst (StopsAt p bytes) e (stops_here p bytes (faults.Truncated p.at) some small refl none))

large_stands : (p : Place) (bytes rest : List ℕ) (header : Option Header) (t' : HeaderTable) → p.size ≤ max_list → TakesRepresentation p.table p.may_update bytes (record { header = header; table = t'; rest = rest }) → max_list < p.size + size_if header → HasLarge p.table p.may_update p.size bytes
large_stands p bytes rest None t' small r large = absurd (omega arith)
large_stands p bytes rest (Some header) t' small r large = record { front = r.front; rest = rest; header = header; table = t'; whole = r.parts; is = r.is; large = large }

-- ---- at a later one

may_onto : (h : Option Header) (may_update : Bool) (later : List Header) → (goes_on h may_update && may_update_behind later) ≡ (may_update && may_update_behind (onto h later))
may_onto None may_update later = refl
may_onto (Some header) true later = refl
may_onto (Some header) false later = refl

stops_later : (p : Place) (bytes : List ℕ) (n : ℕ) (g : Given) (fault : HpackFault) (r : TakesRepresentation p.table p.may_update bytes g) → n ≡ length r.front → StopsAt (behind p n g) g.rest fault → StopsAt p bytes fault
stops_later p bytes n g fault r len s =
    let step : Step = record { bytes = r.front; header = g.header; table = g.table } in
    let headers = onto g.header s.headers in
    let sizes : p.size + list_size headers ≡ p.size + size_if g.header + list_size s.headers = omega (arith, size_onto g.header s.headers) in
    let lens : p.at + n + length s.front ≡ p.at + length (r.front ++ s.front) = omega (arith, length-append r.front s.front) in
    record {
      front = r.front ++ s.front;
      rest = s.rest;
      steps = step ∷ s.steps;
      headers = headers;
      table = s.table;
      whole = r.parts ∙ ap (λ (more : List ℕ). r.front ++ more) s.whole ∙ sym (append_assoc r.front s.front s.rest);
      before = (s.front, s.headers, refl, refl, r.is, subst (λ (m : Bool). AreSteps g.table m s.steps s.front s.headers s.table) (goes_on_is g.header p.may_update) s.before);
      small = omega (arith, s.small);
      goes_on = s.goes_on;
      place = s.place ∙ ap Some lens;
      offends = rw (← may_onto g.header p.may_update s.headers, sizes) s.offends;
    }

later_fault : (h : Option Header) (r : Result (List Header × HeaderTable) HpackFault) (fault : HpackFault) → with_header h r ≡ Err fault → r ≡ Err fault
later_fault None r fault e = e
later_fault (Some header) (Ok x) fault e = absurd cc
later_fault (Some header) (Err f) fault e = e

not_nil : (b : ℕ) (rest : List ℕ) → (b ∷ rest) ≢ []
not_nil b rest e = absurd cc

-- what stops a step: its representation, its header, or what follows
stops_step : (p : Place) (bytes : List ℕ) (r : Result Given Offence) (next : Given → Result (List Header × HeaderTable) HpackFault) (fault : HpackFault) → IsBytes bytes → bytes ≢ [] → p.size ≤ max_list
    → representation_at p.table p.may_update bytes ≡ r → go_on p r next ≡ Err fault
    → ((g : Given) → representation_at p.table p.may_update bytes ≡ Ok g → p.size + size_if g.header ≤ max_list → next g ≡ Err fault → (fault ≡ faults.OutOfMemory) ⊎ StopsAt p bytes fault)
    → (fault ≡ faults.OutOfMemory) ⊎ StopsAt p bytes fault
stops_step p bytes (Err d) next fault fits some small read e later =
    stops_offended p bytes d fault some small (none_stands p.table p.may_update bytes d read) cc
stops_step p bytes (Ok g) next fault fits some small read e later =
    elim (cases_Bool (ltb max_list (p.size + size_if g.header))) [
      | inl t ↦
          let large = ltb-true max_list (p.size + size_if g.header) t in
          let here : ◌≡◌ {A = Result (List Header × HeaderTable) HpackFault} (Err (faults.ListTooLong p.at)) (Err fault) = rw t at e in
          let same : faults.ListTooLong p.at ≡ fault = cc in
          inr (subst (StopsAt p bytes) same (stops_here p bytes (faults.ListTooLong p.at) some small refl (large_stands p bytes g.rest g.header g.table small (representation_takes p.table p.may_update bytes g fits read) large)))
      | inr f ↦
          let on : next g ≡ Err fault = rw f at e in
          later g read (ltb-false max_list (p.size + size_if g.header) f) on
    ]

stops : (most : ℕ) (p : Place) (bytes : List ℕ) (fault : HpackFault) → length bytes ≤ most → IsBytes bytes → p.size ≤ max_list → headers_from most p bytes ≡ Err fault → (fault ≡ faults.OutOfMemory) ⊎ StopsAt p bytes fault
unfolding headers_from
stops most p [] fault fuel fits small e = absurd cc
stops zero p (b ∷ rest) fault fuel fits small e = absurd (omega arith)
stops (suc most) p (b ∷ rest) fault fuel fits small e =
    stops_step p (b ∷ rest) (representation_at p.table p.may_update (b ∷ rest)) (λ g. with_header g.header (headers_from most (behind p (length (b ∷ rest) - length g.rest) g) g.rest)) fault fits (not_nil b rest) small refl e
    (λ g read within on.
    let r = representation_takes p.table p.may_update (b ∷ rest) g fits read in
    let n = length (b ∷ rest) - length g.rest in
    let shorter = representation_shrinks p.table p.may_update (b ∷ rest) g read in
    let len : n ≡ length r.front = omega (arith, ap length r.parts, length-append r.front g.rest) in
    elim (stops most (behind p n g) g.rest fault (omega (arith, shorter)) (rest_bytes (b ∷ rest) r.front g.rest r.parts fits) within (later_fault g.header (headers_from most (behind p n g) g.rest) fault on)) [
      | inl none ↦ inl none
      | inr s ↦ inr (stops_later p (b ∷ rest) n g fault r len s)
    ])

refusal_of : (t : HeaderTable) (bytes : List ℕ) (fault : HpackFault) → StopsAt (begin t) bytes fault → IsRefusal t bytes fault
refusal_of t bytes fault s =
    let at : 0 + length s.front ≡ length s.front = omega arith in
    let size : 0 + list_size s.headers ≡ list_size s.headers = omega arith in
    record {
      front = s.front;
      rest = s.rest;
      steps = s.steps;
      headers = s.headers;
      table = s.table;
      whole = s.whole;
      before = s.before;
      small = omega (arith, s.small);
      goes_on = s.goes_on;
      place = s.place ∙ ap Some at;
      offends = rw (← size) s.offends;
    }

-- where a block is refused
pub block_refused : (t : HeaderTable) (bytes : List ℕ) (fault : HpackFault) → IsBytes bytes → block_at t bytes ≡ Err fault → (fault ≡ faults.OutOfMemory) ⊎ IsRefusal t bytes fault
unfolding block_at
block_refused t bytes fault fits e =
    elim (stops (length bytes) (begin t) bytes fault (omega arith) fits (omega arith) e) [ inl none ↦ inl none | inr s ↦ inr (refusal_of t bytes fault s) ]
