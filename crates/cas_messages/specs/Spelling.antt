-- Messages as this project writes them: by ascending number, with the shortest varints, and without defaults.
use Rattle.std.specs.Prelude.{◌≡◌, ◌==◌, map, ℕ, ℤ, List, [], ◌∷◌, ◌++◌, Option, Some, None, if◌then◌else◌}
use Rattle.std.specs.Int.{w64, cast_unsigned}
use Rattle.std.specs.List.{flat_map}
use Rattle.proto_wire.specs.Spelling.{varint, int_field, bytes_field}
use Rattle.digest_types.specs.Name.{HashAndSize}
use Rattle.digest_types.specs.Digest as digests
use Rattle.cas_messages.specs.Table.{Kind, int32, int64, bool, text, bytes, digest, optional_digest, int32_list, text_list, bytes_list, digest_list, Of, Table, end, field, message, message_list, Value}

-- a number of 64 bits; 0 is left out
abbrev pub number_spelled : ℕ → ℕ → List ℕ
number_spelled number n = if n == 0 then [] else int_field number n

-- a content; an empty one is left out
abbrev pub content_spelled : ℕ → List ℕ → List ℕ
content_spelled number [] = []
content_spelled number (b ∷ bs) = bytes_field number (b ∷ bs)

-- the content of a packed list
abbrev pub packed_content : List ℤ → List ℕ
packed_content zs = flat_map varint (map (cast_unsigned w64) zs)

-- a digest, which is always written
abbrev pub digest_spelled : ℕ → HashAndSize → List ℕ
digest_spelled number d = bytes_field number (digests.spelled d)

abbrev pub optional_spelled : ℕ → Option HashAndSize → List ℕ
optional_spelled number None = []
optional_spelled number (Some d) = digest_spelled number d

abbrev pub field_spelled : (kind : Kind) → ℕ → Of kind → List ℕ
field_spelled int32 number z = number_spelled number (cast_unsigned w64 z)
field_spelled int64 number z = number_spelled number (cast_unsigned w64 z)
field_spelled bool number b = if b then int_field number 1 else []
field_spelled text number b = content_spelled number b
field_spelled bytes number b = content_spelled number b
field_spelled digest number d = digest_spelled number d
field_spelled optional_digest number d = optional_spelled number d
field_spelled int32_list number zs = content_spelled number (packed_content zs)
field_spelled text_list number bs = flat_map (bytes_field number) bs
field_spelled bytes_list number bs = flat_map (bytes_field number) bs
field_spelled digest_list number ds = flat_map (digest_spelled number) ds

unfoldable pub spelled : (table : Table) → Value table → List ℕ
spelled end v = []
spelled (field number kind rows) v = field_spelled kind number v.0 ++ spelled rows v.1
spelled (message number inner rows) v = bytes_field number (spelled inner v.0) ++ spelled rows v.1
spelled (message_list number inner rows) v = flat_map (λ m. bytes_field number (spelled inner m)) v.0 ++ spelled rows v.1

-- A prefix of the bytes was added to what was there.
pub record AddsPart (old new added : List ℕ) : Type 0 where
  pub part : List ℕ
  pub rest : List ℕ
  pub adds : new ≡ old ++ part
  pub whole : added ≡ part ++ rest
