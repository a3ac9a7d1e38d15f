-- A node that was read is valid.
use Rattle.std.proofs.Common.{◌≡◌, ℕ, true, eqb, inl, inr, List, Option, Some, None, Result, Ok, Err, subst}
use Rattle.proto_wire.specs.Field.{WireField, WireValue, int, fixed64, bytes, fixed32, contents_of, joined_of}
use Rattle.proto_wire.specs.Reading.{fields_of}
use Rattle.proto_wire.proofs.Steps.{bind_ok, held_ok, passed, chosen, ok_is}
use Rattle.digest_types.specs.Name.{HashAndSize}
use Rattle.digest_types.specs.Digest.{IsDigest}
use Rattle.digest_types.specs.declared.error.DigestError.{DigestError}
use Rattle.digest_types.specs.Reading.{digest_in}
use Rattle.directory_canon.specs.declared.error.DirError.{DirError}
use Rattle.directory_canon.specs.declared.error.DirError.TheVariants as errors
use Rattle.directory_canon.specs.declared.node.Node.{Node}
use Rattle.directory_canon.specs.Node.{is_name, is_target, IsNode}
use Rattle.directory_canon.specs.Reading.{split, without, content_at, name_in, target_in, digest_or, digest_by, digest_of, file_in, directory_in, symlink_in, node_by, node_in}

-- ---- digests

-- a digest that is read is valid
abbrev pub ReadsDigests : Type 0
ReadsDigests = (b : List ℕ) (d : HashAndSize) → digest_in b ≡ Ok d → IsDigest d

digest_or-found : (at : ℕ) (r : Result HashAndSize DigestError) (d : HashAndSize) → digest_or at r ≡ Ok d → r ≡ Ok d
digest_or-found at (Ok x) d e = cc
digest_or-found at (Err f) d e = absurd cc

digest_by-found : ReadsDigests → (at : ℕ) (o : Option (List ℕ)) (d : HashAndSize) → digest_by at o ≡ Ok d → IsDigest d
digest_by-found read at None d e = absurd cc
digest_by-found read at (Some b) d e = read b d (digest_or-found at (digest_in b) d e)

digest_found : ReadsDigests → (at : ℕ) (fs : List WireField) (d : HashAndSize) → digest_of at fs ≡ Ok d → IsDigest d
digest_found read at fs d e = digest_by-found read at (joined_of (contents_of 2 fs)) d e

-- ---- names and targets

name_found : (at : ℕ) (fs : List WireField) (name : List ℕ) → name_in at fs ≡ Ok name → is_name name ≡ true
name_found at fs name e =
    let parts = held_ok (is_name (content_at 1 fs)) (errors.BadName at) (content_at 1 fs) name e in
    subst (λ (b : List ℕ). is_name b ≡ true) parts.1 parts.0

target_found : (at : ℕ) (fs : List WireField) (target : List ℕ) → target_in at fs ≡ Ok target → is_target target ≡ true
target_found at fs target e =
    let parts = held_ok (is_target (content_at 2 fs)) (errors.BadTarget at) (content_at 2 fs) target e in
    subst (λ (b : List ℕ). is_target b ≡ true) parts.1 parts.0

-- ---- nodes

file_found : ReadsDigests → (at : ℕ) (content : List ℕ) (node : Node) → file_in at content ≡ Ok node → IsNode node
unfolding file_in
file_found read at content node e =
    let p0 = bind_ok (split (fields_of content)) _ node e in
    let p1 = bind_ok (without 6 at p0.0) _ node p0.2 in
    let p2 = bind_ok (name_in at p1.0) _ node p1.2 in
    let p3 = bind_ok (digest_of at p1.0) _ node p2.2 in
    subst IsNode (ok_is _ node p3.2) (name_found at p1.0 p2.0 p2.1, digest_found read at p1.0 p3.0 p3.1)

directory_found : ReadsDigests → (at : ℕ) (content : List ℕ) (node : Node) → directory_in at content ≡ Ok node → IsNode node
unfolding directory_in
directory_found read at content node e =
    let p0 = bind_ok (split (fields_of content)) _ node e in
    let p1 = bind_ok (name_in at p0.0) _ node p0.2 in
    let p2 = bind_ok (digest_of at p0.0) _ node p1.2 in
    subst IsNode (ok_is _ node p2.2) (name_found at p0.0 p1.0 p1.1, digest_found read at p0.0 p2.0 p2.1)

symlink_found : (at : ℕ) (content : List ℕ) (node : Node) → symlink_in at content ≡ Ok node → IsNode node
unfolding symlink_in
symlink_found at content node e =
    let p0 = bind_ok (split (fields_of content)) _ node e in
    let p1 = bind_ok (without 4 at p0.0) _ node p0.2 in
    let p2 = bind_ok (name_in at p1.0) _ node p1.2 in
    let p3 = bind_ok (target_in at p1.0) _ node p2.2 in
    subst IsNode (ok_is _ node p3.2) (name_found at p1.0 p2.0 p2.1, target_found at p1.0 p3.0 p3.1)

none_read : (d : DirError) (node : Node) → Err d ≡ Ok node → ⊥
none_read d node e = cc

by_found : ReadsDigests → (at number : ℕ) (value : WireValue) (node : Node) → node_by at number value ≡ Ok node → IsNode node
by_found read at number (int n) node e = absurd (none_read (errors.NotCanonical at) node e)
by_found read at number (fixed64 n) node e = absurd (none_read (errors.NotCanonical at) node e)
by_found read at number (fixed32 n) node e = absurd (none_read (errors.NotCanonical at) node e)
by_found read at number (bytes content) node e =
    elim (chosen (eqb number 1) (file_in at content) _ (Ok node) e) [
      | inl p ↦ file_found read at content node p.1
      | inr p ↦
          elim (chosen (eqb number 2) (directory_in at content) _ (Ok node) p.1) [
            | inl q ↦ directory_found read at content node q.1
            | inr q ↦
                elim (chosen (eqb number 3) (symlink_in at content) (Err (errors.NotCanonical at)) (Ok node) q.1) [
                  | inl r ↦ symlink_found at content node r.1
                  | inr r ↦ absurd (none_read (errors.NotCanonical at) node r.1)
                ]
          ]
    ]

pub node_found : ReadsDigests → (f : WireField) (node : Node) → node_in f ≡ Ok node → IsNode node
unfolding node_in
node_found read f node e = by_found read f.at f.number f.value node (passed (eqb f.number 5) (errors.HasProperties f.at) (node_by f.at f.number f.value) node e).1
