-- The laws that the crates above cite: what is read is spelled so, what is spelled so is read, and what is written is
-- a spelling.
use Rattle.std.proofs.Common.{◌≡◌, ℕ, ◌+◌, ◌*◌, ◌^◌, ◌<◌, ◌⊎◌, inl, inr, Result, Ok, Err, List, [], ◌∷◌, ◌++◌, length, refl, sym, ap, subst, ◌∙◌, append_assoc, arith}
use Rattle.std.specs.Prelude.{IfOk, IfErr}
use Rattle.std.proofs.lemmas.List.{append-nil, length-append}
use Rattle.proto_wire.specs.declared.fault.WireError.{WireError}
use Rattle.proto_wire.specs.declared.fault.WireError.TheVariants as errors
use Rattle.proto_wire.specs.Field.{WireField, int, bytes}
use Rattle.proto_wire.specs.Wire.{IsSpelling, Wire}
use Rattle.proto_wire.specs.Reading.{IsBytes, Gives, Refuses, field_at, fields_of}
use Rattle.proto_wire.specs.Spelling.{varint, int_field, bytes_field}
use Rattle.proto_wire.proofs.Found.{all_found, all_stops}
use Rattle.proto_wire.proofs.Again.{field_again, all_again}
use Rattle.proto_wire.proofs.Spelled.{spelled-spelling}

-- what is read is spelled so
pub wire_found : (text : List ℕ) (fs : List WireField) → IsBytes text → fields_of text ≡ Ok fs → Wire 0 text fs
unfolding fields_of
wire_found text fs fits e = all_found (length text) (length text) 0 text fs (omega arith) (omega arith) fits e

-- what is spelled so is read
pub wire_read : (text : List ℕ) (fs : List WireField) → Wire 0 text fs → fields_of text ≡ Ok fs
unfolding fields_of
wire_read text fs w = all_again (length text) 0 text fs (omega arith) w

not_both : (r : Result (WireField × List ℕ) WireError) (e : WireError) (x : WireField × List ℕ) → r ≡ Err e → r ≡ Ok x → ⊥
not_both r e x fault read = cc

-- where no field begins, none is spelled
no_spelling_at : (at : ℕ) (rest : List ℕ) (e : WireError) → field_at at rest ≡ Err e → (f : WireField) (first after : List ℕ) → IsSpelling first f → rest ≡ first ++ after → ⊥
no_spelling_at at rest e fault f first after s parts =
    not_both (field_at at rest) e (record { number = f.number; at = at; value = f.value }, after) fault (ap (field_at at) parts ∙ field_again at first after f s)

-- a refusal comes where no field begins
pub wire_refused : (text : List ℕ) (e : WireError) → IsBytes text → fields_of text ≡ Err e → Refuses text e
unfolding fields_of
wire_refused text e fits h =
    let s = all_stops (length text) (length text) 0 text e (omega arith) (omega arith) fits h in
    let here : 0 + length s.front ≡ length s.front = omega arith in
    let fault : field_at (length s.front) s.rest ≡ Err e = subst (λ (k : ℕ). field_at k s.rest ≡ Err e) here s.fault in
    record { front = s.front; rest = s.rest; fields = s.fields; whole = s.whole; before = s.before; goes_on = s.goes_on; fault = fault; no_spelling = no_spelling_at (length s.front) s.rest e fault }

-- the same laws of what the code returns
pub found : (text : List ℕ) (r : Result (List WireField) WireError) → IsBytes text → Gives (λ fs. fs) r (fields_of text) → IfOk r (Wire 0 text)
found text (Ok fs) fits h = wire_found text fs fits h
found text (Err e) fits h = tt

pub only : (text : List ℕ) (r : Result (List WireField) WireError) → Gives (λ fs. fs) r (fields_of text) → (fs : List WireField) → Wire 0 text fs → Gives (λ gs. gs) r (Ok fs)
only text r h fs w = subst (λ (read : Result (List WireField) WireError). Gives (λ gs. gs) r read) (wire_read text fs w) h

pub refused : (text : List ℕ) (r : Result (List WireField) WireError) → IsBytes text → Gives (λ fs. fs) r (fields_of text) → IfErr r (λ e. (e ≡ errors.OutOfMemory) ⊎ Refuses text e)
refused text (Ok fs) fits h = tt
refused text (Err errors.OutOfMemory) fits h = inl refl
refused text (Err (errors.Truncated at)) fits h = inr (wire_refused text (errors.Truncated at) fits h)
refused text (Err (errors.BadTag at)) fits h = inr (wire_refused text (errors.BadTag at) fits h)
refused text (Err (errors.BadVarint at)) fits h = inr (wire_refused text (errors.BadVarint at) fits h)
refused text (Err (errors.Group at)) fits h = inr (wire_refused text (errors.Group at) fits h)

-- what is written is a spelling
pub int_field-spelling : (number n at : ℕ) → 0 < number → number < 2 ^ 29 → n < 2 ^ 64 → IsSpelling (int_field number n) (record { number = number; at = at; value = int n })
int_field-spelling number n at low high small =
    let zero_type : 8 * number + 0 ≡ 8 * number = omega arith in
    let f : WireField = record { number = number; at = at; value = int n } in
    subst (λ (k : ℕ). IsSpelling (varint k ++ varint n) f) zero_type (spelled-spelling f (record { low = low; high = high; value = small }))

pub bytes_field-spelling : (number at : ℕ) (b : List ℕ) → 0 < number → number < 2 ^ 29 → length b < 2 ^ 64 → IsSpelling (bytes_field number b) (record { number = number; at = at; value = bytes b })
bytes_field-spelling number at b low high small = spelled-spelling (record { number = number; at = at; value = bytes b }) (record { low = low; high = high; value = small })

-- rows of fields one after the other
pub Wire-append : (at : ℕ) (a b : List ℕ) (fs gs : List WireField) → Wire at a fs → Wire (at + length a) b gs → Wire at (a ++ b) (fs ++ gs)
Wire-append at a b [] gs e w =
    let here : at + length a ≡ at = omega (arith, ap length e) in
    let same : b ≡ a ++ b = sym (ap (λ (x : List ℕ). x ++ b) e) in
    subst (λ (t : List ℕ). Wire at t gs) same (subst (λ (k : ℕ). Wire k b gs) here w)
Wire-append at a b (f ∷ fs) gs v w =
    let far : at + length a ≡ (at + length v.0) + length v.1 = omega (arith, ap length v.4, length-append v.0 v.1) in
    let parts : a ++ b ≡ v.0 ++ (v.1 ++ b) = ap (λ (x : List ℕ). x ++ b) v.4 ∙ append_assoc v.0 v.1 b in
    (v.0, v.1 ++ b, v.2, v.3, parts, Wire-append (at + length v.0) v.1 b fs gs v.5 (subst (λ (k : ℕ). Wire k b gs) far w))

-- a row of one field
pub Wire-one : (text : List ℕ) (f : WireField) → IsSpelling text f → Wire f.at text (f ∷ [])
Wire-one text f s = (text, [], s, refl, sym (append-nil text), refl)
