-- The digest of some bytes (Remote Execution API v2, Digest; FIPS 180-4), and its texts.
use Rattle.std.specs.Prelude.{◌≡◌, ◌<◌, ◌^◌, ◌==◌, ℕ, List, [], ◌∷◌, ◌++◌, length, slice_index, if◌then◌else◌}
use Rattle.std.specs.Cmp.Lexicographic.{slice_cmp}
use Rattle.std.specs.Fmt.{decimal}
use Rattle.std.specs.Ordering.{nat_cmp, ordering_then}
use Rattle.std.specs.declared.cmp.Ordering.{Ordering}
use Rattle.sha2.specs.Sha256.{sha256}
use Rattle.hex.specs.Hex.{encode_lower}
use Rattle.proto_wire.specs.Spelling.{int_field, bytes_field}
use Rattle.digest_types.specs.Name.{HashAndSize}

-- the SHA-256 hash of the bytes, and their number
unfoldable pub digest_of : List ℕ → HashAndSize
digest_of bytes = record { hash = sha256 bytes; size = length bytes }

-- what holds of each digest: the hash has 32 bytes, and the size is below 2^63
pub record IsDigest (d : HashAndSize) : Type 0 where
  pub len : length d.hash ≡ 32
  pub bytes : (i : ℕ) → slice_index d.hash i < 256
  pub size : d.size < 2 ^ 63

-- how two digests compare: by the bytes of the hash, the first ones first, then by size
abbrev pub digest_cmp : HashAndSize → HashAndSize → Ordering
digest_cmp a b = ordering_then (slice_cmp nat_cmp a.hash b.hash) (nat_cmp a.size b.size)

-- the hash in lower-case hex, a slash, and the size in decimal
abbrev pub printed : HashAndSize → List ℕ
printed d = encode_lower d.hash ++ (47 ∷ decimal d.size)

-- the content of its message: field 1 is the hash in lower-case hex, field 2 the size, left out if it is 0
abbrev pub spelled : HashAndSize → List ℕ
spelled d = bytes_field 1 (encode_lower d.hash) ++ (if d.size == 0 then [] else int_field 2 d.size)
