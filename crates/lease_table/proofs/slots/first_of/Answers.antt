use Rattle.std.proofs.Common.{◌∙◌, List, sym, ap, arith}
use Rattle.std.specs.Prelude.{slice_get}
use Rattle.digest_types.specs.Name.{HashAndSize}
use Rattle.lease_table.proofs.SlotLaws.{live_some, live_skip, live_done}
use Rattle.lease_table.proofs.slots.first_of.Goals as goal

pub returns-in-Some : goal.returns-in-Some
returns-in-Some c =
    ap (λ (ds : List HashAndSize). slice_get ds 0) (sym (live_some c.args.slots.now c.slots.slot-index c.slot-item.result c.in-Some.digest c.slots-test.true c.slot-item.is c.in-Some.is))
    ∙ c.slots.invariant

pub slots-preserved : goal.slots-preserved
slots-preserved c =
    ap (λ (ds : List HashAndSize). slice_get ds 0) (sym (live_skip c.args.slots.now c.slots.slot-index c.slot-item.result c.slots-test.true c.slot-item.is c.in_default.is))
    ∙ c.slots.invariant

pub returns : goal.returns
returns c =
    ap (λ (ds : List HashAndSize). slice_get ds 0) (sym (live_done c.args.slots.now c.slots.slot-index (omega arith)))
    ∙ c.slots.invariant
