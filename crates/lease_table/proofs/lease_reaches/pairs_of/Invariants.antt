use Rattle.std.proofs.Common.{◌≡◌, ◌++◌, drop}
use Rattle.lease_table.specs.LeaseReaches.{pairs_of}
use Rattle.lease_table.proofs.lease_reaches.pairs_of.Given as goal

abbrev pub invariant-kept : goal.invariant-kept
invariant-kept l = l.all.items ++ pairs_of l.id (drop l.reach-index l.kept) ≡ pairs_of l.id l.kept
