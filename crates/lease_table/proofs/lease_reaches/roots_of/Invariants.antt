use Rattle.std.proofs.Common.{◌≡◌, ◌++◌, drop, filter}
use Rattle.lease_table.specs.Table.{has_id, roots}
use Rattle.lease_table.specs.LeaseReaches.{leases_of}
use Rattle.lease_table.proofs.lease_reaches.roots_of.Given as goal

abbrev pub invariant-kept : goal.invariant-kept
invariant-kept l = l.all.items ++ roots (filter (has_id l.id) (leases_of (drop l.reach-index l.kept))) ≡ roots (filter (has_id l.id) (leases_of l.kept))
