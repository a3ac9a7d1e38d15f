-- The shortest spelling of a field is a spelling, and no spelling is shorter.
use Rattle.std.proofs.Common.{ℕ, ◌+◌, ◌*◌, ◌^◌, ◌<◌, ◌≤◌, List, length, refl, sym, ap, arith}
use Rattle.std.proofs.lemmas.List.{length-append}
use Rattle.std.proofs.lemmas.Nat.{from_le_bytes-to_le_bytes_4, from_le_bytes-to_le_bytes_8}
use Rattle.proto_wire.specs.Field.{WireField, WireValue, int, fixed64, bytes, fixed32}
use Rattle.proto_wire.specs.Wire.{IsVarint, IsContent, IsSpelling, wire_type}
use Rattle.proto_wire.specs.Spelling.{varint, content_of, spelled, FitsValue, Fits}
use Rattle.proto_wire.proofs.Bounds.{bound_ten}
use Rattle.proto_wire.proofs.Varints.{groups_spell, groups_least}

pub varint-spelling : (n : ℕ) → n < 2 ^ 64 → IsVarint (varint n) n
varint-spelling n lt =
    let g = groups_spell 10 n (omega arith) (omega (arith, bound_ten)) in
    record { groups = g.0; short = g.1; small = lt }

content-spelling : (v : WireValue) → FitsValue v → IsContent (content_of v) v
content-spelling (int n) fits = varint-spelling n fits
content-spelling (fixed64 n) fits = (refl, sym (from_le_bytes-to_le_bytes_8 n fits))
content-spelling (bytes b) fits = (varint (length b), varint-spelling (length b) fits, refl)
content-spelling (fixed32 n) fits = (refl, sym (from_le_bytes-to_le_bytes_4 n fits))

wire_type_low : (v : WireValue) → wire_type v ≤ 5
wire_type_low (int n) = omega arith
wire_type_low (fixed64 n) = omega arith
wire_type_low (bytes b) = omega arith
wire_type_low (fixed32 n) = omega arith

pub spelled-spelling : (f : WireField) → Fits f → IsSpelling (spelled f) f
spelled-spelling f fits = record {
  tag = varint (8 * f.number + wire_type f.value);
  content = content_of f.value;
  is_tag = varint-spelling (8 * f.number + wire_type f.value) (omega (arith, fits.high, wire_type_low f.value));
  is_content = content-spelling f.value fits.value;
  whole = refl;
  low = fits.low;
  high = fits.high;
}

varint_least : (n : ℕ) (text : List ℕ) → IsVarint text n → length (varint n) ≤ length text
varint_least n text v = groups_least 10 n text v.groups

content_least : (v : WireValue) (text : List ℕ) → IsContent text v → length (content_of v) ≤ length text
content_least (int n) text h = varint_least n text h
content_least (fixed64 n) text h = omega (arith, h.0)
content_least (bytes b) text h = omega (arith, length-append (varint (length b)) b, ap length h.2, length-append h.0 b, varint_least (length b) h.0 h.1)
content_least (fixed32 n) text h = omega (arith, h.0)

pub spelled_least : (f : WireField) (text : List ℕ) → IsSpelling text f → length (spelled f) ≤ length text
spelled_least f text s = omega (
  arith,
  length-append (varint (8 * f.number + wire_type f.value)) (content_of f.value),
  ap length s.whole,
  length-append s.tag s.content,
  varint_least (8 * f.number + wire_type f.value) s.tag s.is_tag,
  content_least f.value s.content s.is_content,
)
