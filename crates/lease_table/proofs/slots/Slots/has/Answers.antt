use Rattle.std.proofs.Common.{◌∙◌, ap}
use Rattle.store_core.specs.State.{is_among}
use Rattle.lease_table.proofs.SlotLaws.{has_told}
use Rattle.lease_table.proofs.slots.Slots.has.Goals as goal

pub returns : goal.returns
returns c =
    c.contains_key.ensures ∙ has_told c.args.digest.now c.self.inside.slots.items c.self.inside.places.entries c.self.invariant.placed
    ∙ ap (λ ds. is_among ds c.args.digest.now) c.self.view_is
