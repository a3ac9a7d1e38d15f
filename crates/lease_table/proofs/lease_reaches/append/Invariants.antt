use Rattle.std.proofs.Common.{◌≡◌, ◌++◌, take}
use Rattle.lease_table.proofs.lease_reaches.append.Given as goal

abbrev pub invariant-pairs : goal.invariant-pairs
invariant-pairs l = l.all.items ≡ l.fn.all.items ++ take l.at l.pairs
