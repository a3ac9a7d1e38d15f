use Rattle.indexmap.specs.IndexMap.{spare}
use Rattle.lease_table.proofs.SlotLaws.{IsNumbered}
use Rattle.lease_table.proofs.slots.number.Given as goal

abbrev pub invariant-slots : goal.invariant-slots
invariant-slots l = IsNumbered l.slots l.place l.places.entries (spare l.places)
