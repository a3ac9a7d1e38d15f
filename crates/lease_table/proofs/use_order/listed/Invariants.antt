use Rattle.std.proofs.Common.{◌≡◌, ◌++◌, drop}
use Rattle.lease_table.specs.Slots.{live}
use Rattle.lease_table.proofs.use_order.listed.Given as goal

abbrev pub invariant-slots : goal.invariant-slots
invariant-slots l = l.digests.items ++ live (drop l.slot-index l.slots) ≡ live l.slots
