use Rattle.std.proofs.Common.{◌≡◌, drop}
use Rattle.lease_table.specs.Table.{unguarded}
use Rattle.lease_table.specs.Slots.{live}
use Rattle.lease_table.proofs.use_order.first_unguarded.Given as goal

abbrev pub invariant-slots : goal.invariant-slots
invariant-slots l = unguarded l.leases (live (drop l.slot-index l.slots)) ≡ unguarded l.leases (live l.slots)
