use Rattle.std.proofs.Common.{arith}
use Rattle.lease_table.proofs.SlotLaws.{fewer_live}
use Rattle.lease_table.proofs.slots.Slots.add.Goals as goal

pub grow-requires : goal.grow-requires
grow-requires c =
    let n = c.self.invariant.placed.count in
    let len = c.len.ensures.len in
    let few = fewer_live c.self.inside.slots.items in
    omega (arith, n, len, few)
