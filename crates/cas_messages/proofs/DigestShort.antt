-- The content of a digest is short.
use Rattle.std.proofs.Common.{◌≡◌, ℕ, ◌+◌, ◌*◌, ◌<◌, ◌≤◌, ◌^◌, Bool, true, false, cond, eqb, List, [], ◌++◌, length, arith}
use Rattle.std.proofs.lemmas.List.{length-append}
use Rattle.proto_wire.specs.Spelling.{varint, int_field, bytes_field}
use Rattle.proto_wire.proofs.Spelled.{varint-spelling}
use Rattle.digest_types.specs.Name.{HashAndSize}
use Rattle.digest_types.specs.Digest.{IsDigest, spelled}
use Rattle.digest_types.proofs.Written.{encoded_len}
use Rattle.cas_messages.specs.Fits.{Short}

varint_short : (n : ℕ) → n < 2 ^ 64 → length (varint n) ≤ 10
varint_short n lt =
    let v = varint-spelling n lt in
    v.short

chosen_short : (b : Bool) (t : List ℕ) → length (cond b [] t) ≤ length t
chosen_short true t = omega arith
chosen_short false t = omega arith

spelled_short : (hash : List ℕ) (size : ℕ) → length hash ≡ 64 → size < 2 ^ 63 → Short (bytes_field 1 hash ++ cond (eqb size 0) [] (int_field 2 size))
spelled_short hash size len lt = omega (
  arith,
  length-append (bytes_field 1 hash) (cond (eqb size 0) [] (int_field 2 size)),
  chosen_short (eqb size 0) (int_field 2 size),
  length-append (varint (8 * 1 + 2)) (varint (length hash) ++ hash),
  length-append (varint (length hash)) hash,
  length-append (varint (8 * 2)) (varint size),
  varint_short (8 * 1 + 2) (omega arith),
  varint_short (length hash) (omega arith),
  varint_short (8 * 2) (omega arith),
  varint_short size (omega arith),
)

pub digest_short : (d : HashAndSize) → IsDigest d → Short (spelled d)
digest_short d is = spelled_short _ d.size (encoded_len d is) is.size
