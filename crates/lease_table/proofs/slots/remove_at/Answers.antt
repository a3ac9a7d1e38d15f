use Rattle.std.proofs.Common.{◌∙◌, sym, arith}
use Rattle.lease_table.proofs.SlotLaws.{emptied, placed_without, not_placed, front_set}
use Rattle.lease_table.proofs.slots.remove_at.Goals as goal

pub index_mut-requires : goal.index_mut-requires
index_mut-requires c =
    let d = c.args.digest.now in
    let h = (emptied d c.args.slots.now.items c.in-Some.place c.requires.placed.distinct (sym (c.requires.placed.placed d) ∙ sym c.swap_remove.ensures.value ∙ c.in-Some.is)).within in
    omega (arith, h)

pub returns-in-Some-clause-placed : goal.returns-in-Some-clause-placed
returns-in-Some-clause-placed c =
    let d = c.args.digest.now in
    let count = c.in-Some.ensures.len in
    placed_without d c.args.slots.now.items c.args.places.now.entries c.swap_remove.new.self.entries c.requires.placed c.in-Some.place (sym c.swap_remove.ensures.value ∙ c.in-Some.is) c.swap_remove.ensures.updates.0 (omega (arith, count))

pub returns-in-Some-clause-live : goal.returns-in-Some-clause-live
returns-in-Some-clause-live c =
    let d = c.args.digest.now in
    (emptied d c.args.slots.now.items c.in-Some.place c.requires.placed.distinct (sym (c.requires.placed.placed d) ∙ sym c.swap_remove.ensures.value ∙ c.in-Some.is)).live_is

pub returns-in_default-clause-live : goal.returns-in_default-clause-live
returns-in_default-clause-live c =
    not_placed c.args.digest.now c.args.slots.now.items c.args.places.now.entries c.requires.placed (sym c.swap_remove.ensures.value ∙ c.in_default.is)

pub returns-in-Some-clause-front : goal.returns-in-Some-clause-front
returns-in-Some-clause-front c = λ n le e. front_set c.args.slots.now.items c.in-Some.place n e
