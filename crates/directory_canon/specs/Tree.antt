-- The message Tree (Remote Execution API v2, Tree): a root Directory and those below it.
use Rattle.std.specs.Prelude.{◌≡◌, ◌↔◌, Contains, ℕ, List, ◌++◌}
use Rattle.std.specs.Ordering.{nat_cmp, ordering_then}
use Rattle.std.specs.declared.cmp.Ordering.{Ordering}
use Rattle.std.specs.List.{flat_map}
use Rattle.std.specs.List.Sorted.{IsStrictlySortedBy}
use Rattle.std.specs.Cmp.Lexicographic.{slice_cmp}
use Rattle.proto_wire.specs.Spelling.{bytes_field}
pub use Rattle.digest_types.specs.Digest.{digest_cmp}
use Rattle.digest_types.specs.Digest as digests
use Rattle.directory_canon.specs.declared.node.Node.{Node}
use Rattle.directory_canon.specs.declared.tree.TreeMsg.{TreeMsg}
use Rattle.directory_canon.specs.Canon.{spelled}

-- Directories ascend by the digests of their canonical bytes, and by these bytes if the digests are equal.
abbrev pub tree_cmp : List Node → List Node → Ordering
tree_cmp a b =
    ordering_then (digest_cmp (digests.digest_of (spelled a)) (digests.digest_of (spelled b))) (slice_cmp nat_cmp (spelled a) (spelled b))

-- The tree of a root and the Directories below it: the children are these, each once, ascending by digest.
pub record IsTree (top : List Node) (below : List (List Node)) (tree : TreeMsg) : Type 0 where
  pub root : tree.root ≡ top
  pub children : (dir : List Node) → Contains tree.children dir ↔ Contains below dir
  pub ascending : IsStrictlySortedBy tree_cmp tree.children

-- the message: field 1 is the root, field 2 the children, each by its canonical bytes
abbrev pub tree_spelled : TreeMsg → List ℕ
tree_spelled tree = bytes_field 1 (spelled tree.root) ++ flat_map (λ dir. bytes_field 2 (spelled dir)) tree.children
