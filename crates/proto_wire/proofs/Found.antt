-- What is read is spelled so: a value, a field, and where no field begins.
use Rattle.std.proofs.Common.{◌≡◌, ◌≢◌, ℕ, zero, suc, ◌+◌, ◌-◌, ◌*◌, ◌/◌, ◌%◌, ◌≤◌, inl, inr, ltb, Ok, Err, List, [], ◌∷◌, ◌++◌, length, take, drop, refl, sym, ap, subst, ◌∙◌, append_assoc, arith}
use Rattle.std.specs.Int.{Width, w32, w64, byte_len, from_le_bytes}
use Rattle.std.proofs.lemmas.Bool.{eqb-false, ltb-false, or_parts}
use Rattle.std.proofs.lemmas.List.{length-append, length-take, take-append-drop, get_or-append-add}
use Rattle.proto_wire.specs.declared.fault.WireError.{WireError}
use Rattle.proto_wire.specs.declared.fault.WireError.TheVariants as errors
use Rattle.proto_wire.specs.Field.{WireField, WireValue, bytes}
use Rattle.proto_wire.specs.Wire.{IsVarint, IsContent, IsSpelling, Wire, wire_type}
use Rattle.proto_wire.specs.Steps.{◌>>=◌}
use Rattle.proto_wire.specs.Reading.{IsBytes, fixed_at, sized_at, value_at, field_at, fields_in}
use Rattle.proto_wire.proofs.Bounds.{bound_ten}
use Rattle.proto_wire.proofs.Varints.{TakesVarint, varint_takes}
use Rattle.proto_wire.proofs.Steps.{bind_ok, bind_err, guard_ok, ok_is}
use Rattle.proto_wire.proofs.Shrinks.{tag_is, sized_is, varint, eight, sized, four, value_is, field_is, field_shrinks}

pub IsBytes-behind : (first rest : List ℕ) → IsBytes (first ++ rest) → IsBytes rest
IsBytes-behind first rest h i = rw (← get_or-append-add first rest i 0) (h (length first + i))

IsBytes-after : (text first rest : List ℕ) → text ≡ first ++ rest → IsBytes text → IsBytes rest
IsBytes-after text first rest e h = IsBytes-behind first rest (subst IsBytes e h)

is_varint : (text rest : List ℕ) (n : ℕ) → (t : TakesVarint 10 text n rest) → IsVarint t.front n
is_varint text rest n t = record { groups = t.groups; short = t.short; small = omega (arith, t.small, bound_ten) }

-- what reading a number of so many bytes took
record TakesFixed (w : Width) (text : List ℕ) (x : ℕ × List ℕ) : Type 0 where
  front : List ℕ
  len : length front ≡ byte_len w
  value : x.0 ≡ from_le_bytes w front
  parts : text ≡ front ++ x.1

fixed_takes : (at : ℕ) (w : Width) (text : List ℕ) (x : ℕ × List ℕ) → fixed_at at w text ≡ Ok x → TakesFixed w text x
fixed_takes at w text x e =
    let g = guard_ok (ltb (length text) (byte_len w)) (errors.Truncated at) (from_le_bytes w (take (byte_len w) text), drop (byte_len w) text) x e in
    let long = ltb-false _ _ g.0 in
    subst (TakesFixed w text) g.1 (record { front = take (byte_len w) text; len = omega (arith, long, length-take (byte_len w) text); value = refl; parts = sym (take-append-drop (byte_len w) text) })

-- what reading a value took
record TakesValue (wire : ℕ) (text : List ℕ) (x : WireValue × List ℕ) : Type 0 where
  content : List ℕ
  is_content : IsContent content x.0
  parts : text ≡ content ++ x.1
  wire_is : wire_type x.0 ≡ wire

sized_takes : (at wire : ℕ) (text : List ℕ) (b : List ℕ × List ℕ) → IsBytes text → wire ≡ 2 → sized_at at text ≡ Ok b → TakesValue wire text (bytes b.0, b.1)
sized_takes at wire text b fits w e =
    let s = sized_is at text b e in
    let t = varint_takes at 10 text s.size fits (omega arith) s.read in
    let within = ltb-false _ _ s.within in
    let len : length (take s.size.0 s.size.1) ≡ s.size.0 = omega (arith, within, length-take s.size.0 s.size.1) in
    let size : IsVarint t.front (length (take s.size.0 s.size.1)) = subst (IsVarint t.front) (sym len) (is_varint text s.size.1 s.size.0 t) in
    let parts : text ≡ (t.front ++ take s.size.0 s.size.1) ++ drop s.size.0 s.size.1 = t.parts ∙ ap (λ (x : List ℕ). t.front ++ x) (sym (take-append-drop s.size.0 s.size.1)) ∙ sym (append_assoc t.front (take s.size.0 s.size.1) (drop s.size.0 s.size.1)) in
    subst (λ (y : List ℕ × List ℕ). TakesValue wire text (bytes y.0, y.1)) s.gives (record { content = t.front ++ take s.size.0 s.size.1; is_content = (t.front, size, refl); parts = parts; wire_is = sym w })

value_takes : (at wire : ℕ) (text : List ℕ) (x : WireValue × List ℕ) → IsBytes text → wire ≤ 5 → (wire ≡ 3 → ⊥) → (wire ≡ 4 → ⊥) → value_at at wire text ≡ Ok x → TakesValue wire text x
value_takes at wire text x fits five no3 no4 e =
    elim (value_is at wire text x e) [
      | varint n w read gives ↦
          let t = varint_takes at 10 text n fits (omega arith) read in
          subst (TakesValue wire text) gives (record { content = t.front; is_content = is_varint text n.1 n.0 t; parts = t.parts; wire_is = sym w })
      | eight n w read gives ↦
          let t = fixed_takes at w64 text n read in
          subst (TakesValue wire text) gives (record { content = t.front; is_content = (t.len, t.value); parts = t.parts; wire_is = sym w })
      | sized b w read gives ↦ subst (TakesValue wire text) gives (sized_takes at wire text b fits w read)
      | four n w0 w1 w2 read gives ↦
          let t = fixed_takes at w32 text n read in
          let five : 5 ≡ wire = omega (arith, w0, w1, w2, no3, no4) in
          subst (TakesValue wire text) gives (record { content = t.front; is_content = (t.len, t.value); parts = t.parts; wire_is = five })
    ]

-- what reading a field took
pub record TakesField (at : ℕ) (text : List ℕ) (x : WireField × List ℕ) : Type 0 where
  pub first : List ℕ
  pub spelling : IsSpelling first x.0
  pub place : x.0.at ≡ at
  pub parts : text ≡ first ++ x.1

pub field_takes : (at : ℕ) (text : List ℕ) (x : WireField × List ℕ) → IsBytes text → field_at at text ≡ Ok x → TakesField at text x
field_takes at text x fits e =
    let f = field_is at text x e in
    let t = tag_is at text f.tag f.tag_read in
    let k = varint_takes at 10 text t.key fits (omega arith) t.read in
    let rest_fits = IsBytes-after text k.front t.key.1 k.parts fits in
    let groups = or_parts _ _ t.no_group in
    let bad = or_parts _ _ t.good in
    let low = or_parts _ _ bad.0 in
    let no3 = eqb-false _ _ groups.0 in
    let no4 = eqb-false _ _ groups.1 in
    let five = ltb-false _ _ low.0 in
    let some = eqb-false _ _ low.1 in
    let high = ltb-false _ _ bad.1 in
    let read : value_at at (t.key.0 % 8) t.key.1 ≡ Ok f.value = subst (λ (y : (ℕ × ℕ) × List ℕ). value_at at y.0.1 y.1 ≡ Ok f.value) (sym t.gives) f.value_read in
    let v = value_takes at (t.key.0 % 8) t.key.1 f.value rest_fits five no3 no4 read in
    let key : t.key.0 ≡ 8 * (t.key.0 / 8) + wire_type f.value.0 = omega (arith, v.wire_is) in
    let made : WireField = record { number = t.key.0 / 8; at = at; value = f.value.0 } in
    let spelling : IsSpelling (k.front ++ v.content) made = record {
      tag = k.front;
      content = v.content;
      is_tag = subst (IsVarint k.front) key (is_varint text t.key.1 t.key.0 k);
      is_content = v.is_content;
      whole = refl;
      low = omega (arith, some);
      high = omega (arith, high);
    } in
    let parts : text ≡ (k.front ++ v.content) ++ f.value.1 = k.parts ∙ ap (λ (y : List ℕ). k.front ++ y) v.parts ∙ sym (append_assoc k.front v.content f.value.1) in
    let taken : TakesField at text (made, f.value.1) = record { first = k.front ++ v.content; spelling = spelling; place = refl; parts = parts } in
    subst (TakesField at text) f.gives (subst (λ (y : (ℕ × ℕ) × List ℕ). TakesField at text (record { number = y.0.0; at = at; value = f.value.0 }, f.value.1)) t.gives taken)

pub all_found : (fuel whole at : ℕ) (text : List ℕ) (fs : List WireField) → length text ≤ fuel → at + length text ≡ whole → IsBytes text → fields_in fuel whole text ≡ Ok fs → Wire at text fs
unfolding fields_in
all_found fuel whole at [] fs le len fits e = subst (Wire at []) (ok_is [] fs e) refl
all_found zero whole at (c ∷ cs) fs le len fits e = absurd (omega arith)
all_found (suc fuel) whole at (c ∷ cs) fs le len fits e =
    let a = bind_ok (field_at (whole - length (c ∷ cs)) (c ∷ cs)) (λ first. fields_in fuel whole first.1 >>= λ others. Ok (first.0 ∷ others)) fs e in
    let b = bind_ok (fields_in fuel whole a.0.1) (λ others. Ok (a.0.0 ∷ others)) fs a.2 in
    let here : whole - length (c ∷ cs) ≡ at = omega arith in
    let f = field_takes (whole - length (c ∷ cs)) (c ∷ cs) a.0 fits a.1 in
    let lens : length (c ∷ cs) ≡ length f.first + length a.0.1 = ap length f.parts ∙ length-append f.first a.0.1 in
    let later = all_found fuel whole (at + length f.first) a.0.1 b.0 (omega (arith, field_shrinks (whole - length (c ∷ cs)) (c ∷ cs) a.0 a.1)) (omega (arith, lens)) (IsBytes-after (c ∷ cs) f.first a.0.1 f.parts fits) b.1 in
    subst (Wire at (c ∷ cs)) (ok_is (a.0.0 ∷ b.0) fs b.2) (f.first, a.0.1, f.spelling, f.place ∙ here, f.parts, later)

-- the fields before the first fault, and the fault
pub record StopsAt (at : ℕ) (text : List ℕ) (e : WireError) : Type 0 where
  pub front : List ℕ
  pub rest : List ℕ
  pub fields : List WireField
  pub whole : text ≡ front ++ rest
  pub before : Wire at front fields
  pub goes_on : rest ≢ []
  pub fault : field_at (at + length front) rest ≡ Err e

no_nil : (c : ℕ) (cs : List ℕ) → (c ∷ cs) ≢ []
no_nil c cs h = absurd cc

no_err : (fs : List WireField) (e : WireError) → Ok fs ≡ Err e → ⊥
no_err fs e h = absurd cc

stops_later : (at : ℕ) (text first after : List ℕ) (f : WireField) (e : WireError) → IsSpelling first f → f.at ≡ at → text ≡ first ++ after → StopsAt (at + length first) after e → StopsAt at text e
stops_later at text first after f e spelling place parts s =
    let far : (at + length first) + length s.front ≡ at + length (first ++ s.front) = omega (arith, length-append first s.front) in
    record {
      front = first ++ s.front;
      rest = s.rest;
      fields = f ∷ s.fields;
      whole = parts ∙ ap (λ (x : List ℕ). first ++ x) s.whole ∙ sym (append_assoc first s.front s.rest);
      before = (first, s.front, spelling, place, refl, s.before);
      goes_on = s.goes_on;
      fault = subst (λ (k : ℕ). field_at k s.rest ≡ Err e) far s.fault;
    }

pub all_stops : (fuel whole at : ℕ) (text : List ℕ) (e : WireError) → length text ≤ fuel → at + length text ≡ whole → IsBytes text → fields_in fuel whole text ≡ Err e → StopsAt at text e
unfolding fields_in
all_stops fuel whole at [] e le len fits h = absurd cc
all_stops zero whole at (c ∷ cs) e le len fits h = absurd (omega arith)
all_stops (suc fuel) whole at (c ∷ cs) e le len fits h =
    let here : whole - length (c ∷ cs) ≡ at = omega arith in
    elim (bind_err (field_at (whole - length (c ∷ cs)) (c ∷ cs)) (λ first. fields_in fuel whole first.1 >>= λ others. Ok (first.0 ∷ others)) e h) [
      | inl p ↦
          let start : whole - length (c ∷ cs) ≡ at + 0 = omega arith in
          record { front = []; rest = c ∷ cs; fields = []; whole = refl; before = refl; goes_on = no_nil c cs; fault = subst (λ (k : ℕ). field_at k (c ∷ cs) ≡ Err e) start p }
      | inr p ↦
          let f = field_takes (whole - length (c ∷ cs)) (c ∷ cs) p.0 fits p.1 in
          let lens : length (c ∷ cs) ≡ length f.first + length p.0.1 = ap length f.parts ∙ length-append f.first p.0.1 in
          elim (bind_err (fields_in fuel whole p.0.1) (λ others. Ok (p.0.0 ∷ others)) e p.2) [
            | inl q ↦ stops_later at (c ∷ cs) f.first p.0.1 p.0.0 e f.spelling (f.place ∙ here) f.parts (all_stops fuel whole (at + length f.first) p.0.1 e (omega (arith, field_shrinks (whole - length (c ∷ cs)) (c ∷ cs) p.0 p.1)) (omega (arith, lens)) (IsBytes-after (c ∷ cs) f.first p.0.1 f.parts fits) q)
            | inr q ↦ absurd (no_err _ e q.2)
          ]
    ]
