use Rattle.std.proofs.Common.{◌≡◌, ◌-◌, ◌||◌, length, take, drop}
use Rattle.directory_canon.specs.declared.node.Edge.{Edge}
use Rattle.lease_table.specs.Pairs.{has, lead}
use Rattle.lease_table.proofs.depth.follow.Given as goal

abbrev pub invariant-at : goal.invariant-at
invariant-at l = record {
  begins : take (length l.fn.pairs) l.pairs ≡ l.fn.pairs;
  adds : (pair : Edge) → has l.pairs pair ≡ (has l.fn.pairs pair || lead l.rows (take (l.at - l.from) (drop l.from l.fn.pairs)) pair);
}
