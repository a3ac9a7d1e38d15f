use Rattle.std.proofs.Common.{◌∙◌, sym, ap, slice_get, arith}
use Rattle.lease_table.proofs.SlotLaws.{free_here, free_later, free_done}
use Rattle.lease_table.proofs.use_order.first_unguarded.Goals as goal

pub returns-in-Some : goal.returns-in-Some
returns-in-Some c =
    ap (λ ds. slice_get ds 0) (sym (free_here c.args.leases.now c.args.slots.now c.slots.slot-index c.slot-item.result c.in-Some.digest c.slots-test.true c.slot-item.is (sym c.loose.ensures ∙ c.in-Some.is)))
    ∙ ap (λ ds. slice_get ds 0) c.slots.invariant

pub slots-preserved : goal.slots-preserved
slots-preserved c =
    sym (free_later c.args.leases.now c.args.slots.now c.slots.slot-index c.slot-item.result c.slots-test.true c.slot-item.is (sym c.loose.ensures ∙ c.in_default.is)) ∙ c.slots.invariant

pub returns : goal.returns
returns c =
    ap (λ ds. slice_get ds 0) (sym (free_done c.args.leases.now c.args.slots.now c.slots.slot-index (omega arith)))
    ∙ ap (λ ds. slice_get ds 0) c.slots.invariant
