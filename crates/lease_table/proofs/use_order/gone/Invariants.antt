use Rattle.std.proofs.Common.{◌≡◌, ◌++◌, drop, take}
use Rattle.lease_table.specs.Table.{unguarded}
use Rattle.lease_table.specs.Slots.{live}
use Rattle.lease_table.proofs.use_order.gone.Given as goal

abbrev pub invariant-slots : goal.invariant-slots
invariant-slots l = l.digests.items ++ take l.left (unguarded l.leases (live (drop l.slot-index l.slots))) ≡ take l.count (unguarded l.leases (live l.slots))
