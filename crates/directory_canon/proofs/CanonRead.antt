-- The canonical form of a Directory is read as that Directory.
use Rattle.std.proofs.Common.{◌≡◌, ◌↔◌, ℕ, false, ltb, List, [], Ok, length, AllPairs, None, refl, sym, ap, ◌∙◌, subst, le-ltb, arith}
use Rattle.std.proofs.lemmas.List.Elements.{recursion_from_All}
use Rattle.proto_wire.proofs.Steps.{ok_is}
use Rattle.proto_wire.proofs.WireLaws.{wire_read}
use Rattle.directory_canon.specs.declared.node.Node.{Node}
use Rattle.directory_canon.specs.Node.{IsNode}
use Rattle.directory_canon.specs.Canon.{max_len, Canon, IsDirectory, spelled}
use Rattle.directory_canon.specs.Reading.{canon_of}
use Rattle.directory_canon.proofs.CanonReadOrder.{directory_ascends, chain_from_ascending}
use Rattle.directory_canon.proofs.CanonReadEntries.{node_fields, placed, placed-nodes, node_fields-wire, entries_again}
use Rattle.directory_canon.proofs.CanonReadTwice.{Apart, none_twice}

directory_read : (dir : List Node) → IsDirectory dir → canon_of (spelled dir) ≡ Ok dir
unfolding canon_of
directory_read dir is =
    let fits : ltb max_len (length (spelled dir)) ≡ false = le-ltb _ _ is.short in
    let fields = wire_read (spelled dir) (node_fields 0 dir) (node_fields-wire 0 dir (omega (arith, is.short))) in
    let entries = entries_again (spelled dir) None [] dir refl (recursion_from_All IsNode dir is.valid) (omega (arith, is.short)) (chain_from_ascending dir (directory_ascends dir is)) in
    let nodes = placed-nodes 0 dir in
    let none = none_twice (placed 0 dir) (subst (λ (nodes : List Node). AllPairs Apart nodes) (sym nodes) is.distinct) in
    rw (fits, fields, entries, none, nodes) refl

pub canon_read : (whole : List ℕ) (dir : List Node) → Canon dir whole → canon_of whole ≡ Ok dir
canon_read whole dir canon = ap canon_of canon.1 ∙ directory_read dir canon.0

-- each Directory has one canonical form, and no two share one
pub canon_unique : (a b : List Node) (x y : List ℕ) → Canon a x → Canon b y → (a ≡ b) ↔ (x ≡ y)
canon_unique a b x y left right =
    (λ e. left.1 ∙ ap spelled e ∙ sym right.1, λ e. ok_is a b (sym (canon_read x a left) ∙ ap canon_of e ∙ canon_read y b right))
