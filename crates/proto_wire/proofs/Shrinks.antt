-- A field that is read leaves a shorter rest, so the length is fuel enough.
use Rattle.std.proofs.Common.{◌≡◌, ℕ, zero, suc, ◌+◌, ◌-◌, ◌*◌, ◌/◌, ◌%◌, ◌<◌, ◌≤◌, inl, inr, false, cond, ltb, leb, eqb, Result, Ok, Err, List, [], ◌∷◌, length, take, drop, refl, ap, arith}
use Rattle.std.specs.Prelude.{◌||◌}
use Rattle.std.specs.Int.{Width, w32, w64, byte_len, from_le_bytes}
use Rattle.std.proofs.lemmas.Bool.{eqb-true, eqb-false}
use Rattle.std.proofs.lemmas.List.{length-drop}
use Rattle.proto_wire.specs.declared.fault.WireError.{WireError}
use Rattle.proto_wire.specs.declared.fault.WireError.TheVariants as errors
use Rattle.proto_wire.specs.Field.{WireField, WireValue, int, fixed64, bytes, fixed32}
use Rattle.proto_wire.specs.Steps.{◌>>=◌}
use Rattle.proto_wire.specs.Reading.{varint_at, fixed_at, tag_at, sized_at, value_at, field_at, fields_in}
use Rattle.proto_wire.proofs.Steps.{bind_ok, bind_same, guard_ok, passed, chosen, ok_is}

pub varint_shrinks : (at more : ℕ) (text : List ℕ) (x : ℕ × List ℕ) → varint_at at more text ≡ Ok x → length x.1 < length text
unfolding varint_at
varint_shrinks at more [] x e = absurd cc
varint_shrinks at more (b ∷ rest) x e =
    elim (chosen (leb more 1) (cond (ltb 1 b) (Err (errors.BadVarint at)) (Ok (b, rest))) (cond (ltb b 128) (Ok (b, rest)) (varint_at at (more - 1) rest >>= λ high. Ok (b - 128 + 128 * high.0, high.1))) (Ok x) e) [
      | inl p ↦ omega (arith, ap (λ (y : ℕ × List ℕ). length y.1) (guard_ok (ltb 1 b) (errors.BadVarint at) (b, rest) x p.1).1)
      | inr p ↦
          elim (chosen (ltb b 128) (Ok (b, rest)) (varint_at at (more - 1) rest >>= λ high. Ok (b - 128 + 128 * high.0, high.1)) (Ok x) p.1) [
            | inl q ↦ omega (arith, ap (λ (y : ℕ × List ℕ). length y.1) (ok_is (b, rest) x q.1))
            | inr q ↦
                let h = bind_ok (varint_at at (more - 1) rest) (λ high. Ok (b - 128 + 128 * high.0, high.1)) x q.1 in
                omega (arith, varint_shrinks at (more - 1) rest h.0 h.1, ap (λ (y : ℕ × List ℕ). length y.1) (ok_is (b - 128 + 128 * h.0.0, h.0.1) x h.2))
          ]
    ]

fixed_shrinks : (at : ℕ) (w : Width) (text : List ℕ) (x : ℕ × List ℕ) → fixed_at at w text ≡ Ok x → length x.1 ≤ length text
fixed_shrinks at w text x e =
    let g = guard_ok (ltb (length text) (byte_len w)) (errors.Truncated at) (from_le_bytes w (take (byte_len w) text), drop (byte_len w) text) x e in
    omega (arith, length-drop (byte_len w) text, ap (λ (y : ℕ × List ℕ). length y.1) g.1)

-- the tests on a tag's varint, which say nothing of the rest
tag_tests : ℕ → ℕ × List ℕ → Result ((ℕ × ℕ) × List ℕ) WireError
tag_tests at key = cond (eqb (key.0 % 8) 3 || eqb (key.0 % 8) 4) (Err (errors.Group at)) (cond (ltb 5 (key.0 % 8) || eqb (key.0 / 8) 0 || ltb 0x1fff_ffff (key.0 / 8)) (Err (errors.BadTag at)) (Ok ((key.0 / 8, key.0 % 8), key.1)))

-- what a tag that is read says of its varint
pub record IsTag (at : ℕ) (text : List ℕ) (x : (ℕ × ℕ) × List ℕ) : Type 0 where
  pub key : ℕ × List ℕ
  pub read : varint_at at 10 text ≡ Ok key
  pub no_group : (eqb (key.0 % 8) 3 || eqb (key.0 % 8) 4) ≡ false
  pub good : (ltb 5 (key.0 % 8) || eqb (key.0 / 8) 0 || ltb 0x1fff_ffff (key.0 / 8)) ≡ false
  pub gives : ((key.0 / 8, key.0 % 8), key.1) ≡ x

pub tag_is : (at : ℕ) (text : List ℕ) (x : (ℕ × ℕ) × List ℕ) → tag_at at text ≡ Ok x → IsTag at text x
unfolding tag_at tag_tests
tag_is at text x e =
    let k = bind_ok (varint_at at 10 text) (tag_tests at) x e in
    let key = k.0 in
    let p = passed (eqb (key.0 % 8) 3 || eqb (key.0 % 8) 4) (errors.Group at) (cond (ltb 5 (key.0 % 8) || eqb (key.0 / 8) 0 || ltb 0x1fff_ffff (key.0 / 8)) (Err (errors.BadTag at)) (Ok ((key.0 / 8, key.0 % 8), key.1))) x k.2 in
    let g = guard_ok (ltb 5 (key.0 % 8) || eqb (key.0 / 8) 0 || ltb 0x1fff_ffff (key.0 / 8)) (errors.BadTag at) ((key.0 / 8, key.0 % 8), key.1) x p.1 in
    record { key = key; read = k.1; no_group = p.0; good = g.0; gives = g.1 }

-- what a content that is read says of its length
pub record IsSized (at : ℕ) (text : List ℕ) (x : List ℕ × List ℕ) : Type 0 where
  pub size : ℕ × List ℕ
  pub read : varint_at at 10 text ≡ Ok size
  pub within : ltb (length size.1) size.0 ≡ false
  pub gives : (take size.0 size.1, drop size.0 size.1) ≡ x

pub sized_is : (at : ℕ) (text : List ℕ) (x : List ℕ × List ℕ) → sized_at at text ≡ Ok x → IsSized at text x
unfolding sized_at
sized_is at text x e =
    let k = bind_ok (varint_at at 10 text) (λ size. cond (ltb (length size.1) size.0) (Err (errors.Truncated at)) (Ok (take size.0 size.1, drop size.0 size.1))) x e in
    let size = k.0 in
    let g = guard_ok (ltb (length size.1) size.0) (errors.Truncated at) (take size.0 size.1, drop size.0 size.1) x k.2 in
    record { size = size; read = k.1; within = g.0; gives = g.1 }

tag_shrinks : (at : ℕ) (text : List ℕ) (x : (ℕ × ℕ) × List ℕ) → tag_at at text ≡ Ok x → length x.1 < length text
tag_shrinks at text x e =
    let t = tag_is at text x e in
    omega (arith, varint_shrinks at 10 text t.key t.read, ap (λ (y : (ℕ × ℕ) × List ℕ). length y.1) t.gives)

sized_shrinks : (at : ℕ) (text : List ℕ) (x : List ℕ × List ℕ) → sized_at at text ≡ Ok x → length x.1 ≤ length text
sized_shrinks at text x e =
    let s = sized_is at text x e in
    omega (arith, varint_shrinks at 10 text s.size s.read, length-drop s.size.0 s.size.1, ap (λ (y : List ℕ × List ℕ). length y.1) s.gives)

-- a value that was read, by its wire type
pub data IsValue (at wire : ℕ) (text : List ℕ) (x : WireValue × List ℕ) : Type 0 where
  varint : (n : ℕ × List ℕ) → wire ≡ 0 → varint_at at 10 text ≡ Ok n → (int n.0, n.1) ≡ x → IsValue at wire text x
  eight : (n : ℕ × List ℕ) → wire ≡ 1 → fixed_at at w64 text ≡ Ok n → (fixed64 n.0, n.1) ≡ x → IsValue at wire text x
  sized : (b : List ℕ × List ℕ) → wire ≡ 2 → sized_at at text ≡ Ok b → (bytes b.0, b.1) ≡ x → IsValue at wire text x
  four : (n : ℕ × List ℕ) → (wire ≡ 0 → ⊥) → (wire ≡ 1 → ⊥) → (wire ≡ 2 → ⊥) → fixed_at at w32 text ≡ Ok n → (fixed32 n.0, n.1) ≡ x → IsValue at wire text x

pub value_is : (at wire : ℕ) (text : List ℕ) (x : WireValue × List ℕ) → value_at at wire text ≡ Ok x → IsValue at wire text x
unfolding value_at
value_is at wire text x e =
    let as_int : Result (WireValue × List ℕ) WireError = varint_at at 10 text >>= λ (n : ℕ × List ℕ). Ok (int n.0, n.1) in
    let as_eight : Result (WireValue × List ℕ) WireError = fixed_at at w64 text >>= λ (n : ℕ × List ℕ). Ok (fixed64 n.0, n.1) in
    let as_bytes : Result (WireValue × List ℕ) WireError = sized_at at text >>= λ (b : List ℕ × List ℕ). Ok (bytes b.0, b.1) in
    let as_four : Result (WireValue × List ℕ) WireError = fixed_at at w32 text >>= λ (n : ℕ × List ℕ). Ok (fixed32 n.0, n.1) in
    elim (chosen (eqb wire 0) as_int (cond (eqb wire 1) as_eight (cond (eqb wire 2) as_bytes as_four)) (Ok x) e) [
      | inl p ↦
          let h = bind_ok (varint_at at 10 text) (λ n. Ok (int n.0, n.1)) x p.1 in
          varint h.0 (eqb-true _ _ p.0) h.1 (ok_is (int h.0.0, h.0.1) x h.2)
      | inr p ↦
          elim (chosen (eqb wire 1) as_eight (cond (eqb wire 2) as_bytes as_four) (Ok x) p.1) [
            | inl q ↦
                let h = bind_ok (fixed_at at w64 text) (λ n. Ok (fixed64 n.0, n.1)) x q.1 in
                eight h.0 (eqb-true _ _ q.0) h.1 (ok_is (fixed64 h.0.0, h.0.1) x h.2)
            | inr q ↦
                elim (chosen (eqb wire 2) as_bytes as_four (Ok x) q.1) [
                  | inl r ↦
                      let h = bind_ok (sized_at at text) (λ b. Ok (bytes b.0, b.1)) x r.1 in
                      sized h.0 (eqb-true _ _ r.0) h.1 (ok_is (bytes h.0.0, h.0.1) x h.2)
                  | inr r ↦
                      let h = bind_ok (fixed_at at w32 text) (λ n. Ok (fixed32 n.0, n.1)) x r.1 in
                      four h.0 (eqb-false _ _ p.0) (eqb-false _ _ q.0) (eqb-false _ _ r.0) h.1 (ok_is (fixed32 h.0.0, h.0.1) x h.2)
                ]
          ]
    ]

value_shrinks : (at wire : ℕ) (text : List ℕ) (x : WireValue × List ℕ) → value_at at wire text ≡ Ok x → length x.1 ≤ length text
value_shrinks at wire text x e =
    elim (value_is at wire text x e) [
      | varint n w read gives ↦ omega (arith, varint_shrinks at 10 text n read, ap (λ (y : WireValue × List ℕ). length y.1) gives)
      | eight n w read gives ↦ omega (arith, fixed_shrinks at w64 text n read, ap (λ (y : WireValue × List ℕ). length y.1) gives)
      | sized b w read gives ↦ omega (arith, sized_shrinks at text b read, ap (λ (y : WireValue × List ℕ). length y.1) gives)
      | four n w0 w1 w2 read gives ↦ omega (arith, fixed_shrinks at w32 text n read, ap (λ (y : WireValue × List ℕ). length y.1) gives)
    ]

-- what a field that is read says of its tag and its value
pub record IsField (at : ℕ) (text : List ℕ) (x : WireField × List ℕ) : Type 0 where
  pub tag : (ℕ × ℕ) × List ℕ
  pub value : WireValue × List ℕ
  pub tag_read : tag_at at text ≡ Ok tag
  pub value_read : value_at at tag.0.1 tag.1 ≡ Ok value
  pub gives : (record { number = tag.0.0; at = at; value = value.0 }, value.1) ≡ x

pub field_is : (at : ℕ) (text : List ℕ) (x : WireField × List ℕ) → field_at at text ≡ Ok x → IsField at text x
unfolding field_at
field_is at text x e =
    let t = bind_ok (tag_at at text) (λ tag. value_at at tag.0.1 tag.1 >>= λ value. Ok (record { number = tag.0.0; at = at; value = value.0 }, value.1)) x e in
    let v = bind_ok (value_at at t.0.0.1 t.0.1) (λ value. Ok (record { number = t.0.0.0; at = at; value = value.0 }, value.1)) x t.2 in
    record { tag = t.0; value = v.0; tag_read = t.1; value_read = v.1; gives = ok_is (record { number = t.0.0.0; at = at; value = v.0.0 }, v.0.1) x v.2 }

pub field_shrinks : (at : ℕ) (text : List ℕ) (x : WireField × List ℕ) → field_at at text ≡ Ok x → length x.1 < length text
field_shrinks at text x e =
    let f = field_is at text x e in
    omega (arith, tag_shrinks at text f.tag f.tag_read, value_shrinks at f.tag.0.1 f.tag.1 f.value f.value_read, ap (λ (y : WireField × List ℕ). length y.1) f.gives)

-- how much fuel there is makes no difference once it is enough
pub fuel_is_enough : (fuel more whole : ℕ) (text : List ℕ) → length text ≤ fuel → length text ≤ more → fields_in fuel whole text ≡ fields_in more whole text
unfolding fields_in
fuel_is_enough fuel more whole [] a b = refl
fuel_is_enough zero more whole (c ∷ cs) a b = absurd (omega arith)
fuel_is_enough (suc fuel) zero whole (c ∷ cs) a b = absurd (omega arith)
fuel_is_enough (suc fuel) (suc more) whole (c ∷ cs) a b =
    bind_same (field_at (whole - length (c ∷ cs)) (c ∷ cs))
    (λ first. fields_in fuel whole first.1 >>= λ others. Ok (first.0 ∷ others))
    (λ first. fields_in more whole first.1 >>= λ others. Ok (first.0 ∷ others))
    (λ first e.
    let shorter = field_shrinks (whole - length (c ∷ cs)) (c ∷ cs) first e in
    ap (λ (r : Result (List WireField) WireError). r >>= λ others. Ok (first.0 ∷ others)) (fuel_is_enough fuel more whole first.1 (omega (arith, shorter)) (omega (arith, shorter))))

-- the first field, then the others
pub fields_more : (whole : ℕ) (text : List ℕ) (first : WireField × List ℕ) → 0 < length text → field_at (whole - length text) text ≡ Ok first
    → fields_in (length text) whole text ≡ (fields_in (length first.1) whole first.1 >>= λ others. Ok (first.0 ∷ others))
unfolding fields_in
fields_more whole [] first lt e = absurd (omega arith)
fields_more whole (c ∷ cs) first lt e =
    let shorter = field_shrinks (whole - length (c ∷ cs)) (c ∷ cs) first e in
    rw e (ap (λ (r : Result (List WireField) WireError). r >>= λ others. Ok (first.0 ∷ others)) (fuel_is_enough (length cs) (length first.1) whole first.1 (omega (arith, shorter)) (omega arith)))

-- no field, so none of all
pub fields_stop : (whole : ℕ) (text : List ℕ) (e : WireError) → 0 < length text → field_at (whole - length text) text ≡ Err e → fields_in (length text) whole text ≡ Err e
unfolding fields_in
fields_stop whole [] e lt h = absurd (omega arith)
fields_stop whole (c ∷ cs) e lt h = rw h refl
