use Rattle.std.proofs.Common.{◌≡◌, take}
use Rattle.directory_canon.specs.Canon.{spelled}
use Rattle.directory_canon.proofs.write.write_nodes.Given as goal

abbrev pub invariant-nodes : goal.invariant-nodes
invariant-nodes l = l.out ≡ spelled (take l.node-index l.nodes)
