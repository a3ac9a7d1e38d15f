-- What is spelled so is read.
use Rattle.std.proofs.Common.{◌≡◌, ℕ, ◌+◌, ◌-◌, ◌*◌, ◌/◌, ◌%◌, ◌^◌, ◌<◌, ◌≤◌, false, ltb, Result, Ok, List, [], ◌∷◌, ◌++◌, length, refl, sym, ap, subst, ◌∙◌, append_assoc, arith}
use Rattle.std.specs.Int.{Width, w32, w64, byte_len, from_le_bytes}
use Rattle.std.proofs.lemmas.Bool.{le-ltb, ne_eqb}
use Rattle.std.proofs.lemmas.List.{length-append, take_at, drop_at}
use Rattle.proto_wire.specs.declared.fault.WireError.{WireError}
use Rattle.proto_wire.specs.Field.{WireField, WireValue, int, fixed64, bytes, fixed32}
use Rattle.proto_wire.specs.Wire.{Groups, IsVarint, IsContent, IsSpelling, Wire, wire_type}
use Rattle.proto_wire.specs.Steps.{◌>>=◌}
use Rattle.proto_wire.specs.Reading.{varint_at, fixed_at, tag_at, sized_at, value_at, field_at, fields_in}
use Rattle.proto_wire.proofs.Bounds.{bound_ten}
use Rattle.proto_wire.proofs.Varints.{varint_again}
use Rattle.proto_wire.proofs.Shrinks.{fields_more}

pub ten_again : (at n : ℕ) (front rest : List ℕ) → IsVarint front n → varint_at at 10 (front ++ rest) ≡ Ok (n, rest)
ten_again at n front rest v = varint_again at 10 front rest n v.groups v.short (omega (arith, v.small, bound_ten))

fixed_again : (at n : ℕ) (w : Width) (front rest : List ℕ) → length front ≡ byte_len w → n ≡ from_le_bytes w front → fixed_at at w (front ++ rest) ≡ Ok (n, rest)
fixed_again at n w front rest len value =
    let long : ltb (length (front ++ rest)) (byte_len w) ≡ false = le-ltb _ _ (omega (arith, length-append front rest)) in
    rw (long, take_at front rest (byte_len w) len, drop_at front rest (byte_len w) len, value) refl

sized_again : (at : ℕ) (front b rest : List ℕ) → IsVarint front (length b) → sized_at at (front ++ (b ++ rest)) ≡ Ok (b, rest)
unfolding sized_at
sized_again at front b rest v =
    let long : ltb (length (b ++ rest)) (length b) ≡ false = le-ltb _ _ (omega (arith, length-append b rest)) in
    rw (ten_again at (length b) front (b ++ rest) v, long, take_at b rest (length b) refl, drop_at b rest (length b) refl) refl

value_again : (at : ℕ) (content rest : List ℕ) (v : WireValue) → IsContent content v → value_at at (wire_type v) (content ++ rest) ≡ Ok (v, rest)
unfolding value_at
value_again at content rest (int n) h = rw (ten_again at n content rest h) refl
value_again at content rest (fixed64 n) h = rw (fixed_again at n w64 content rest h.0 h.1) refl
value_again at content rest (bytes b) h =
    let parts : content ++ rest ≡ h.0 ++ (b ++ rest) = ap (λ (x : List ℕ). x ++ rest) h.2 ∙ append_assoc h.0 b rest in
    rw (parts, sized_again at h.0 b rest h.1) refl
value_again at content rest (fixed32 n) h = rw (fixed_again at n w32 content rest h.0 h.1) refl

-- the wire types of values are those that a tag may have
abbrev IsWireType : ℕ → Type 0
IsWireType wire = (wire ≤ 5) × (wire ≡ 3 → ⊥) × (wire ≡ 4 → ⊥)

is_wire_type : (v : WireValue) → IsWireType (wire_type v)
is_wire_type (int n) = (omega arith, λ e. omega arith, λ e. omega arith)
is_wire_type (fixed64 n) = (omega arith, λ e. omega arith, λ e. omega arith)
is_wire_type (bytes b) = (omega arith, λ e. omega arith, λ e. omega arith)
is_wire_type (fixed32 n) = (omega arith, λ e. omega arith, λ e. omega arith)

tag_again : (at number wire : ℕ) (front rest : List ℕ) → 0 < number → number < 2 ^ 29 → IsWireType wire → IsVarint front (8 * number + wire) → tag_at at (front ++ rest) ≡ Ok ((number, wire), rest)
unfolding tag_at
tag_again at number wire front rest low high kind v =
    let n : (8 * number + wire) / 8 ≡ number = omega (arith, kind.0) in
    let w : (8 * number + wire) % 8 ≡ wire = omega (arith, kind.0) in
    rw (ten_again at (8 * number + wire) front rest v, n, w, ne_eqb wire 3 kind.1, ne_eqb wire 4 kind.2, le-ltb 5 wire kind.0, ne_eqb number 0 (λ e. omega arith), le-ltb 0x1fff_ffff number (omega arith)) refl

pub field_again : (at : ℕ) (first rest : List ℕ) (f : WireField) → IsSpelling first f → field_at at (first ++ rest) ≡ Ok (record { number = f.number; at = at; value = f.value }, rest)
unfolding field_at
field_again at first rest f s =
    let parts : first ++ rest ≡ s.tag ++ (s.content ++ rest) = ap (λ (x : List ℕ). x ++ rest) s.whole ∙ append_assoc s.tag s.content rest in
    rw (parts, tag_again at f.number (wire_type f.value) s.tag (s.content ++ rest) s.low s.high (is_wire_type f.value) s.is_tag, value_again at s.content rest f.value s.is_content) refl

placed_again : (at : ℕ) (text first rest : List ℕ) (f : WireField) → IsSpelling first f → f.at ≡ at → text ≡ first ++ rest → field_at at text ≡ Ok (f, rest)
placed_again at text first rest f s place parts = subst (λ (k : ℕ). field_at k text ≡ Ok (f, rest)) place (ap (field_at f.at) parts ∙ field_again f.at first rest f s)

-- a spelling has a byte
pub some_groups : (text : List ℕ) (n : ℕ) → Groups text n → 0 < length text
some_groups [] n g = absurd g
some_groups (b ∷ bs) n g = omega arith

pub some_bytes : (first : List ℕ) (f : WireField) → IsSpelling first f → 0 < length first
some_bytes first f s = omega (arith, some_groups s.tag (8 * f.number + wire_type f.value) s.is_tag.groups, ap length s.whole, length-append s.tag s.content)

pub all_again : (whole at : ℕ) (text : List ℕ) (fs : List WireField) → at + length text ≡ whole → Wire at text fs → fields_in (length text) whole text ≡ Ok fs
unfolding fields_in
all_again whole at text [] len w = rw w refl
all_again whole at text (f ∷ fs) len w =
    let first = w.0 in
    let rest = w.1 in
    let lens : length text ≡ length first + length rest = ap length w.4 ∙ length-append first rest in
    let long : 0 < length text = omega (arith, lens, some_bytes first f w.2) in
    let here : whole - length text ≡ at = omega arith in
    let read = placed_again (whole - length text) text first rest f w.2 (w.3 ∙ sym here) w.4 in
    let others = all_again whole (at + length first) rest fs (omega (arith, lens)) w.5 in
    fields_more whole text (f, rest) long read ∙ ap (λ (r : Result (List WireField) WireError). r >>= λ gs. Ok (f ∷ gs)) others
