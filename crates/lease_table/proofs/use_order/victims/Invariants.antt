use Rattle.std.proofs.Common.{◌≡◌, ◌+◌, ◌≤◌, drop}
use Rattle.store_core.specs.Pass.{victims}
use Rattle.lease_table.specs.Table.{unguarded}
use Rattle.lease_table.specs.Slots.{live}
use Rattle.lease_table.proofs.use_order.victims.Given as goal

abbrev pub invariant-slots : goal.invariant-slots
invariant-slots l = record {
  counted : l.count + victims (unguarded l.leases (live (drop l.slot-index l.slots))) l.left l.target ≡ victims (unguarded l.leases (live l.slots)) l.used l.target;
  few : l.count ≤ l.slot-index;
}
