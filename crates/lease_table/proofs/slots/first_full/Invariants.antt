use Rattle.std.proofs.Common.{◌≡◌, [], take}
use Rattle.lease_table.specs.Slots.{live}
use Rattle.lease_table.proofs.slots.first_full.Given as goal

abbrev pub invariant-slots : goal.invariant-slots
invariant-slots l = live (take l.place l.slots) ≡ []
