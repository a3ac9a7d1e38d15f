use Rattle.std.proofs.Common.{◌≡◌, drop}
use Rattle.std.specs.Prelude.{slice_get}
use Rattle.lease_table.specs.Slots.{live}
use Rattle.lease_table.proofs.slots.first_of.Given as goal

abbrev pub invariant-slots : goal.invariant-slots
invariant-slots l = slice_get (live (drop l.slot-index l.slots)) 0 ≡ slice_get (live l.slots) 0
