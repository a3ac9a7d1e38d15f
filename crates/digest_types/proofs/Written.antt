-- The written message of a digest gives the digest again.
use Rattle.std.proofs.Common.{◌≡◌, ℕ, ◌+◌, ◌^◌, Bool, true, false, cond, eqb, Ok, List, [], ◌∷◌, ◌++◌, length, Some, refl, sym, ap, ◌∙◌, arith}
use Rattle.std.proofs.lemmas.Bool.{lt-ltb, eqb-true}
use Rattle.std.proofs.lemmas.List.{append-nil}
use Rattle.hex.specs.Hex.{encode_lower, lower_digits}
use Rattle.hex.proofs.HexLemmas.{length-encode_with}
use Rattle.proto_wire.specs.Field.{WireField, int, bytes}
use Rattle.proto_wire.specs.Wire.{Wire}
use Rattle.proto_wire.specs.Reading.{fields_of}
use Rattle.proto_wire.specs.Spelling.{int_field, bytes_field}
use Rattle.proto_wire.proofs.WireLaws.{wire_read, int_field-spelling, bytes_field-spelling, Wire-append, Wire-one}
use Rattle.digest_types.specs.Name.{HashAndSize}
use Rattle.digest_types.specs.Digest.{IsDigest, spelled}
use Rattle.digest_types.specs.Reading.{hash_of, made_of, meant_by, digest_in}
use Rattle.digest_types.proofs.HexText.{unhex_of-again}

pub encoded_len : (d : HashAndSize) → IsDigest d → length (encode_lower d.hash) ≡ 64
encoded_len d is = omega (arith, length-encode_with lower_digits d.hash, is.len)

pub hash_again : (d : HashAndSize) → IsDigest d → hash_of (encode_lower d.hash) ≡ Some d.hash
unfolding hash_of
hash_again d is = rw (encoded_len d is, unhex_of-again d.hash is.bytes) refl

made_again : (d : HashAndSize) → IsDigest d → made_of (hash_of (encode_lower d.hash)) d.size ≡ Ok d
made_again d is = rw (hash_again d is, lt-ltb d.size (2 ^ 63) is.size) refl

abbrev hash_field : HashAndSize → WireField
hash_field d = record { number = 1; at = 0; value = bytes (encode_lower d.hash) }

hash_row : (d : HashAndSize) → IsDigest d → Wire 0 (bytes_field 1 (encode_lower d.hash)) (hash_field d ∷ [])
hash_row d is = Wire-one _ (hash_field d) (bytes_field-spelling 1 0 (encode_lower d.hash) (omega arith) (omega arith) (omega (arith, encoded_len d is)))

abbrev size_field : ℕ → HashAndSize → WireField
size_field at d = record { number = 2; at = at; value = int d.size }

size_row : (at : ℕ) (d : HashAndSize) → IsDigest d → Wire at (int_field 2 d.size) (size_field at d ∷ [])
size_row at d is = Wire-one _ (size_field at d) (int_field-spelling 2 d.size at (omega arith) (omega arith) (omega (arith, is.size)))

-- what the fields mean, where the size is written or not
meant_without : (d : HashAndSize) → IsDigest d → d.size ≡ 0 → meant_by (fields_of (bytes_field 1 (encode_lower d.hash))) ≡ Ok d
meant_without d is none =
    ap meant_by (wire_read _ (hash_field d ∷ []) (hash_row d is)) ∙ ap (made_of (hash_of (encode_lower d.hash))) (sym none) ∙ made_again d is

meant_with : (d : HashAndSize) → IsDigest d → meant_by (fields_of (bytes_field 1 (encode_lower d.hash) ++ int_field 2 d.size)) ≡ Ok d
meant_with d is =
    let at = 0 + length (bytes_field 1 (encode_lower d.hash)) in
    let row : List WireField = size_field at d ∷ [] in
    ap meant_by (wire_read _ (hash_field d ∷ row) (Wire-append 0 _ _ (hash_field d ∷ []) row (hash_row d is) (size_row at d is))) ∙ made_again d is

meant_either : (d : HashAndSize) → IsDigest d → (none : Bool) → eqb d.size 0 ≡ none → meant_by (fields_of (bytes_field 1 (encode_lower d.hash) ++ cond none [] (int_field 2 d.size))) ≡ Ok d
meant_either d is true e = ap (λ (text : List ℕ). meant_by (fields_of text)) (append-nil (bytes_field 1 (encode_lower d.hash))) ∙ meant_without d is (eqb-true d.size 0 e)
meant_either d is false e = meant_with d is

pub spelled-read : (d : HashAndSize) → IsDigest d → digest_in (spelled d) ≡ Ok d
unfolding digest_in
spelled-read d is = meant_either d is (eqb d.size 0) refl
