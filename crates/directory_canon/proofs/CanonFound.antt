-- What is read as a Directory is the canonical form of that Directory.
use Rattle.std.proofs.Common.{◌≡◌, ℕ, ◌≤◌, ltb, ltb-false, find, List, [], length, Option, Some, None, Result, Ok, Err, refl, ap, subst, arith}
use Rattle.std.proofs.lemmas.List.Elements.{All-from_recursion}
use Rattle.proto_wire.specs.declared.fault.WireError.{WireError}
use Rattle.proto_wire.specs.Field.{WireField}
use Rattle.proto_wire.specs.Reading.{IsBytes, fields_of}
use Rattle.proto_wire.proofs.Steps.{bind_ok, passed, ok_is}
use Rattle.proto_wire.proofs.WireLaws.{wire_found}
use Rattle.digest_types.proofs.ReadDigest.{digest_in-is}
use Rattle.directory_canon.specs.declared.error.DirError.TheVariants as errors
use Rattle.directory_canon.specs.declared.node.Node.{Node}
use Rattle.directory_canon.specs.Node.{IsNode}
use Rattle.directory_canon.specs.Canon.{max_len, Canon, IsDirectory}
use Rattle.directory_canon.specs.Reading.{Entry, split, entries_in, is_twice, unless_twice, canon_of}
use Rattle.directory_canon.proofs.CanonReadOrder.{ascending_from_chain}
use Rattle.directory_canon.proofs.CanonReadTwice.{nodes_of}
use Rattle.directory_canon.proofs.CanonFoundNode.{ReadsDigests}
use Rattle.directory_canon.proofs.CanonFoundEntries.{Found, entries_found}
use Rattle.directory_canon.proofs.CanonFoundOrder.{lists_found, list_found, names_apart}

split_ok : (r : Result (List WireField) WireError) (fs : List WireField) → split r ≡ Ok fs → r ≡ Ok fs
split_ok (Ok gs) fs e = cc
split_ok (Err f) fs e = absurd cc

unless_ok : (o : Option Entry) (all : List Entry) (dir : List Node) → unless_twice o all ≡ Ok dir → (o ≡ None) × (nodes_of all ≡ dir)
unless_ok None all dir e = (refl, ok_is (nodes_of all) dir e)
unless_ok (Some f) all dir e = absurd cc

made_of : (whole : List ℕ) (all : List Entry) → length whole ≤ max_len → Found None whole (nodes_of all) → find (is_twice all) all ≡ None → Canon (nodes_of all) whole
made_of whole all small found none =
    let dir = nodes_of all in
    let up = ascending_from_chain dir found.chain in
    let is : IsDirectory dir = record {
      parts = lists_found dir up;
      valid = All-from_recursion IsNode dir found.valid;
      files = list_found 1 dir up;
      directories = list_found 2 dir up;
      symlinks = list_found 3 dir up;
      distinct = names_apart all up none;
      short = omega (arith, ap length found.whole, small);
    } in
    (is, found.whole)

pub canon_found_given : ReadsDigests → (whole : List ℕ) (dir : List Node) → IsBytes whole → canon_of whole ≡ Ok dir → Canon dir whole
unfolding canon_of
canon_found_given read whole dir fits e =
    let p = passed (ltb max_len (length whole)) errors.TooLong _ dir e in
    let small : length whole ≤ max_len = ltb-false max_len (length whole) p.0 in
    let fields = bind_ok (split (fields_of whole)) _ dir p.1 in
    let fs = fields.0 in
    let entries = bind_ok (entries_in whole None fs) _ dir fields.2 in
    let all = entries.0 in
    let last = unless_ok (find (is_twice all) all) all dir entries.2 in
    let found = entries_found read whole None [] whole fs all refl (omega (arith, small)) (wire_found whole fs fits (split_ok (fields_of whole) fs fields.1)) entries.1 in
    subst (λ (nodes : List Node). Canon nodes whole) last.1 (made_of whole all small found last.0)

pub canon_found : (whole : List ℕ) (dir : List Node) → IsBytes whole → canon_of whole ≡ Ok dir → Canon dir whole
canon_found = canon_found_given digest_in-is
