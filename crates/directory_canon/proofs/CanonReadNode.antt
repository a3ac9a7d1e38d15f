-- The content of a valid node is read as that node.
use Rattle.std.proofs.Common.{◌≡◌, ℕ, ◌+◌, ◌*◌, ◌^◌, ◌<◌, ◌≤◌, Bool, true, false, Ok, List, [], ◌∷◌, ◌++◌, length, Some, refl, ap, ◌∙◌, length-append, arith}
use Rattle.std.proofs.lemmas.List.{append-nil}
use Rattle.proto_wire.specs.Field.{WireField, int, bytes}
use Rattle.proto_wire.specs.Wire.{Wire}
use Rattle.proto_wire.specs.Reading.{fields_of}
use Rattle.proto_wire.specs.Spelling.{varint, int_field, bytes_field}
use Rattle.proto_wire.proofs.WireLaws.{wire_read, int_field-spelling, bytes_field-spelling, Wire-append, Wire-one}
use Rattle.digest_types.specs.Name.{HashAndSize}
use Rattle.digest_types.specs.Digest.{IsDigest}
use Rattle.digest_types.specs.Digest as digests
use Rattle.digest_types.proofs.Written.{spelled-read}
use Rattle.directory_canon.specs.declared.node.Node.{Node}
use Rattle.directory_canon.specs.declared.node.Node.TheVariants as nodes
use Rattle.directory_canon.specs.Node.{number_of, is_name, is_target, IsNode}
use Rattle.directory_canon.specs.Canon.{content_of}
use Rattle.directory_canon.specs.Reading.{digest_by, file_in, directory_in, symlink_in, node_in}

-- a length that a content may have
abbrev pub Short : List ℕ → Type 0
Short b = length b < 2 ^ 64

abbrev bytes_at : ℕ → ℕ → List ℕ → WireField
bytes_at number at b = record { number = number; at = at; value = bytes b }

bytes_row : (number at : ℕ) (b : List ℕ) → 0 < number → number < 2 ^ 29 → Short b → Wire at (bytes_field number b) (bytes_at number at b ∷ [])
bytes_row number at b low high short = Wire-one _ (bytes_at number at b) (bytes_field-spelling number at b low high short)

abbrev exec_at : ℕ → WireField
exec_at at = record { number = 4; at = at; value = int 1 }

exec_row : (at : ℕ) → Wire at (int_field 4 1) (exec_at at ∷ [])
exec_row at = Wire-one _ (exec_at at) (int_field-spelling 4 1 at (omega arith) (omega arith) (omega arith))

-- the name, and what stands behind it
two_row : (a b : List ℕ) → Short a → Short b → Wire 0 (bytes_field 1 a ++ bytes_field 2 b) (bytes_at 1 0 a ∷ bytes_at 2 (0 + length (bytes_field 1 a)) b ∷ [])
two_row a b left right =
    let next = 0 + length (bytes_field 1 a) in
    Wire-append 0 (bytes_field 1 a) (bytes_field 2 b) (bytes_at 1 0 a ∷ []) (bytes_at 2 next b ∷ []) (bytes_row 1 0 a (omega arith) (omega arith) left) (bytes_row 2 next b (omega arith) (omega arith) right)

two_fields : (a b : List ℕ) → Short a → Short b → fields_of (bytes_field 1 a ++ bytes_field 2 b) ≡ Ok (bytes_at 1 0 a ∷ bytes_at 2 (0 + length (bytes_field 1 a)) b ∷ [])
two_fields a b left right = wire_read _ _ (two_row a b left right)

three_fields : (a b : List ℕ) → Short a → Short b
    → fields_of (bytes_field 1 a ++ (bytes_field 2 b ++ int_field 4 1)) ≡ Ok (bytes_at 1 0 a ∷ bytes_at 2 (0 + length (bytes_field 1 a)) b ∷ exec_at ((0 + length (bytes_field 1 a)) + length (bytes_field 2 b)) ∷ [])
three_fields a b left right =
    let next = 0 + length (bytes_field 1 a) in
    let last = next + length (bytes_field 2 b) in
    let rest = Wire-append next (bytes_field 2 b) (int_field 4 1) (bytes_at 2 next b ∷ []) (exec_at last ∷ []) (bytes_row 2 next b (omega arith) (omega arith) right) (exec_row last) in
    wire_read _ _ (Wire-append 0 (bytes_field 1 a) (bytes_field 2 b ++ int_field 4 1) (bytes_at 1 0 a ∷ []) (bytes_at 2 next b ∷ exec_at last ∷ []) (bytes_row 1 0 a (omega arith) (omega arith) left) rest)

digest_again : (at : ℕ) (d : HashAndSize) → IsDigest d → digest_by at (Some (digests.spelled d ++ [])) ≡ Ok d
digest_again at d is = ap (λ (text : List ℕ). digest_by at (Some text)) (append-nil (digests.spelled d)) ∙ rw (spelled-read d is) refl

file_again : (at : ℕ) (name : List ℕ) (d : HashAndSize) (exec : Bool) → is_name name ≡ true → IsDigest d → Short name → Short (digests.spelled d)
    → file_in at (content_of (nodes.File name d exec)) ≡ Ok (nodes.File name d exec)
unfolding file_in
file_again at name d true good is left right = rw (three_fields name (digests.spelled d) left right, good, digest_again at d is) refl
file_again at name d false good is left right = rw (append-nil (bytes_field 2 (digests.spelled d)), two_fields name (digests.spelled d) left right, good, digest_again at d is) refl

directory_again : (at : ℕ) (name : List ℕ) (d : HashAndSize) → is_name name ≡ true → IsDigest d → Short name → Short (digests.spelled d)
    → directory_in at (content_of (nodes.Dir name d)) ≡ Ok (nodes.Dir name d)
unfolding directory_in
directory_again at name d good is left right = rw (two_fields name (digests.spelled d) left right, good, digest_again at d is) refl

symlink_again : (at : ℕ) (name target : List ℕ) → is_name name ≡ true → is_target target ≡ true → Short name → Short target
    → symlink_in at (content_of (nodes.Link name target)) ≡ Ok (nodes.Link name target)
unfolding symlink_in
symlink_again at name target good valid left right = rw (two_fields name target left right, good, valid) refl

-- a content is no longer than what it stands in
pub within_field : (number : ℕ) (b : List ℕ) → length b ≤ length (bytes_field number b)
within_field number b = omega (arith, length-append (varint (8 * number + 2)) (varint (length b) ++ b), length-append (varint (length b)) b)

short_left : (a b : List ℕ) → Short (bytes_field 1 a ++ b) → Short a
short_left a b short = omega (arith, length-append (bytes_field 1 a) b, within_field 1 a)

short_right : (a b rest : List ℕ) → Short (bytes_field 1 a ++ (bytes_field 2 b ++ rest)) → Short b
short_right a b rest short = omega (arith, length-append (bytes_field 1 a) (bytes_field 2 b ++ rest), length-append (bytes_field 2 b) rest, within_field 2 b)

short_last : (a b : List ℕ) → Short (bytes_field 1 a ++ bytes_field 2 b) → Short b
short_last a b short = omega (arith, length-append (bytes_field 1 a) (bytes_field 2 b), within_field 2 b)

abbrev pub field_of : ℕ → Node → WireField
field_of at node = bytes_at (number_of node) at (content_of node)

pub node_again : (at : ℕ) (node : Node) → IsNode node → Short (content_of node) → node_in (field_of at node) ≡ Ok node
unfolding node_in
node_again at (nodes.File name d exec) is short = file_again at name d exec is.0 is.1 (short_left name _ short) (short_right name (digests.spelled d) _ short)
node_again at (nodes.Dir name d) is short = directory_again at name d is.0 is.1 (short_left name _ short) (short_last name (digests.spelled d) short)
node_again at (nodes.Link name target) is short = symlink_again at name target is.0 is.1 (short_left name _ short) (short_last name target short)
