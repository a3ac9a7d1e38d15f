use Rattle.std.proofs.Common.{◌≡◌, length, take}
use Rattle.lease_table.specs.Table.{without}
use Rattle.lease_table.specs.Pairs.{IsWalked}
use Rattle.lease_table.proofs.walk.walk.Given as goal

abbrev pub invariant-at : goal.invariant-at
invariant-at l = record {
  begins : take (length l.fn.pairs) l.pairs ≡ l.fn.pairs;
  walked : IsWalked (without l.gone l.rows) l.root l.pairs l.at;
}
