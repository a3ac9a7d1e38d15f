use Rattle.std.proofs.Common.{◌≡◌, map, take}
use Rattle.directory_canon.specs.Views.{node_of}
use Rattle.directory_canon.proofs.read.nodes_of.Given as goal

abbrev pub invariant-entries : goal.invariant-entries
invariant-entries l = l.nodes.items ≡ map node_of (take l.entry-index l.entries)
