use Rattle.std.proofs.Common.{◌≡◌, ◌||◌, length, take}
use Rattle.directory_canon.specs.declared.node.Edge.{Edge}
use Rattle.lease_table.specs.Pairs.{has}
use Rattle.lease_table.proofs.walk.add_all.Given as goal

abbrev pub invariant-edges : goal.invariant-edges
invariant-edges l = record {
  begins : take (length l.fn.pairs) l.pairs ≡ l.fn.pairs;
  adds : (pair : Edge) → has l.pairs pair ≡ (has l.fn.pairs pair || has (take l.edge-index l.edges) pair);
}
