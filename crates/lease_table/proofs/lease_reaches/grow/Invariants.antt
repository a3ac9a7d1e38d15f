use Rattle.std.proofs.Common.{◌≡◌, take, drop}
use Rattle.std.specs.List.{AllByRecursion}
use Rattle.lease_table.specs.Table.{without}
use Rattle.lease_table.specs.Pairs.{IsReach}
use Rattle.lease_table.specs.LeaseReaches.{shares, AreFull}
use Rattle.lease_table.proofs.lease_reaches.grow.Given as goal

abbrev pub invariant-kept : goal.invariant-kept
invariant-kept l = record {
  same : shares l.kept.items ≡ shares l.fn.kept.items;
  full : AreFull (drop l.i l.kept.items);
  done : AllByRecursion (λ reach. IsReach (without l.gone l.rows) reach.lease.root reach.pairs) (take l.i l.kept.items);
}
