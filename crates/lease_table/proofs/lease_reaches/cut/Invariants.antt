use Rattle.std.proofs.Common.{◌≡◌, take}
use Rattle.lease_table.specs.LeaseReaches.{shares, AreFull}
use Rattle.lease_table.proofs.lease_reaches.cut.Given as goal

abbrev pub invariant-kept : goal.invariant-kept
invariant-kept l = record {
  same : shares l.kept.items ≡ shares l.fn.kept.items;
  full : AreFull (take l.i l.kept.items);
}
