use Rattle.std.proofs.Common.{◌≡◌, map, take}
use Rattle.std.specs.List.{filter_map}
use Rattle.directory_canon.specs.Node.{edge_of}
use Rattle.directory_canon.specs.Views.{node_of}
use Rattle.directory_canon.proofs.read.edges_of.Given as goal

abbrev pub invariant-entries : goal.invariant-entries
invariant-entries l = l.edges.items ≡ filter_map edge_of (map node_of (take l.entry-index l.entries))
