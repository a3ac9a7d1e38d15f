-- What is read as a digest is one.
use Rattle.std.proofs.Common.{◌≡◌, ℕ, ◌^◌, ltb, List, [], Option, Some, None, Result, Ok, Err, refl, subst, unwrap_or, ltb-true}
use Rattle.proto_wire.specs.declared.fault.WireError.{WireError}
use Rattle.proto_wire.specs.Field.{WireField, last_of, ints, contents_of}
use Rattle.proto_wire.specs.Reading.{fields_of}
use Rattle.proto_wire.proofs.Steps.{held_ok}
use Rattle.digest_types.specs.Name.{HashAndSize}
use Rattle.digest_types.specs.Digest.{IsDigest}
use Rattle.digest_types.specs.declared.error.DigestError.TheVariants as errors
use Rattle.digest_types.specs.Reading.{hash_of, made_of, meant_by, digest_in}
use Rattle.digest_types.proofs.HexText.{hash_found}

made_found : (text : List ℕ) (o : Option (List ℕ)) (size : ℕ) (d : HashAndSize) → hash_of text ≡ o → made_of o size ≡ Ok d → IsDigest d
made_found text None size d h e = absurd cc
made_found text (Some hash) size d h e =
    let made : HashAndSize = record { hash = hash; size = size } in
    let parts = held_ok (ltb size (2 ^ 63)) errors.NegativeSize made d e in
    let found = hash_found text hash h in
    subst IsDigest parts.1 (record { len = found.len; bytes = found.bytes; size = ltb-true size (2 ^ 63) parts.0 })

meant_found : (r : Result (List WireField) WireError) (d : HashAndSize) → meant_by r ≡ Ok d → IsDigest d
meant_found (Err e) d h = absurd cc
meant_found (Ok fs) d h =
    let text = unwrap_or (last_of (contents_of 1 fs)) [] in
    made_found text (hash_of text) (unwrap_or (last_of (ints 2 fs)) 0) d refl h

pub digest_in-is : (b : List ℕ) (d : HashAndSize) → digest_in b ≡ Ok d → IsDigest d
unfolding digest_in
digest_in-is b d e = meant_found (fields_of b) d e
