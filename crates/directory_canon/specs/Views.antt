-- Nodes of the code that borrow their texts, as plain nodes.
use Rattle.std.specs.Prelude.{◌==◌, ◌&&◌, nat_eq, ℕ, Bool, List, Option, Some, None, Result, Ok}
use Rattle.std.specs.Borrow.{Bor}
use Rattle.std.specs.Ordering.{nat_cmp, ordering_then}
use Rattle.std.specs.declared.cmp.Ordering.{Ordering}
use Rattle.std.specs.Cmp.Lexicographic.{slice_cmp, pointwise}
use Rattle.std.specs.List.Sorted.{IsSortedByKey}
use Rattle.proto_wire.specs.Field.{WireField}
use Rattle.proto_wire.specs.Steps.{◌>>=◌}
use Rattle.directory_canon.specs.declared.borrowed.NodeRef.{NodeRef}
use Rattle.directory_canon.specs.declared.borrowed.NodeRef.TheVariants as refs
use Rattle.directory_canon.specs.declared.borrowed.Placed.{Placed}
use Rattle.directory_canon.specs.declared.node.Node.{Node}
use Rattle.directory_canon.specs.declared.node.Node.TheVariants as nodes
use Rattle.directory_canon.specs.declared.error.DirError.{DirError}
use Rattle.directory_canon.specs.Node.{number_of, name_of}
use Rattle.directory_canon.specs.Reading.{Entry, spelled_in, after}

-- a node without the places of its texts in memory
abbrev pub node_view : NodeRef → Node
node_view (refs.File name digest exec) = nodes.File name.now digest exec
node_view (refs.Dir name digest) = nodes.Dir name.now digest
node_view (refs.Link name target) = nodes.Link name.now target.now

-- the same with its place
abbrev pub entry_view : Placed → Entry
entry_view p = record { at = p.at; node = node_view p.node }

-- the node before, if there is one
abbrev pub before_view : Option (Bor Placed) → Option Node
before_view None = None
before_view (Some p) = Some (node_view p.now.node)

-- one node, behind the node before it, if there is one
abbrev pub entry_after : List ℕ → Option Node → WireField → Result Entry DirError
entry_after whole before f = do
  spelled_node ← spelled_in whole f
  node ← after before f.at spelled_node
  Ok (record { at = f.at; node = node })

-- where a node stands among the others: by its list, then by its name
abbrev pub place_of : Placed → ℕ × List ℕ
place_of p = (number_of (node_view p.node), name_of (node_view p.node))

abbrev pub place_cmp : ℕ × List ℕ → ℕ × List ℕ → Ordering
place_cmp a b = ordering_then (nat_cmp a.0 b.0) (slice_cmp nat_cmp a.1 b.1)

-- the nodes stand in their order
unfoldable pub AreInOrder : List Placed → Type 0
AreInOrder all = IsSortedByKey place_of place_cmp all

-- a node of this list has this name
abbrev pub has_name : ℕ → List ℕ → Placed → Bool
has_name number name p = number_of (node_view p.node) == number && pointwise nat_eq (name_of (node_view p.node)) name

-- the node alone
abbrev pub node_of : Placed → Node
node_of p = node_view p.node
