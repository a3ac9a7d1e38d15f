use Rattle.std.proofs.Common.{◌≡◌, ◌+◌, drop}
use Rattle.lease_table.specs.LeaseReaches.{uncounted}
use Rattle.lease_table.proofs.lease_reaches.uncounted.Given as goal

abbrev pub invariant-kept : goal.invariant-kept
invariant-kept l = l.sum + uncounted (drop l.reach-index l.kept) ≡ uncounted l.kept
