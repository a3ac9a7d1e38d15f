use Rattle.std.proofs.Common.{◌+◌, ◌-◌, ◌∙◌, ℕ, sym, ap, drop, arith}
use Rattle.digest_types.specs.Name.{HashAndSize}
use Rattle.store_core.specs.Pass.{victims}
use Rattle.lease_table.specs.Table.{unguarded}
use Rattle.lease_table.specs.Slots.{live}
use Rattle.lease_table.proofs.VictimLaws.{victims_none, victims_enough, victims_more}
use Rattle.lease_table.proofs.SlotLaws.{free_here, free_later, free_done}
use Rattle.lease_table.proofs.use_order.victims.Goals as goal
use Rattle.lease_table.proofs.use_order.victims.Goals.{in-Some, in_default}

pub returns-then-left-target : goal.returns-then-left-target
returns-then-left-target c =
    let none = victims_enough (unguarded c.args.leases.now (live (drop c.slots.slot-index c.args.slots.now))) c.slots.left c.args.target c.if-left-target.true in
    omega (arith, c.slots.invariant.counted, none)

pub slots-preserved : goal.slots-preserved
slots-preserved c = elim c.match-loose.branch [
  | in-Some w ↦
      let d = w.in-Some.digest in
      let rest = unguarded c.args.leases.now (live (drop (c.slots.slot-index + 1) c.args.slots.now)) in
      let here = ap (λ ds. victims ds c.slots.left c.args.target) (free_here c.args.leases.now c.args.slots.now c.slots.slot-index c.slot-item.result d c.slots-test.true c.slot-item.is (sym c.loose.ensures ∙ w.in-Some.is)) in
      let more = victims_more d rest c.slots.left c.args.target c.if-left-target.false in
      let now = ap (λ (n : ℕ). victims rest n c.args.target) (w.left-is ∙ w.saturating_sub-left.ensures ∙ ap (λ (x : HashAndSize). c.slots.left - x.size) w.digest.view_is) in
      record { counted = omega (arith, c.slots.invariant.counted, here, more, now, w.count-is); few = omega (arith, c.slots.invariant.few, w.count-is) }
  | in_default w ↦
      let here = ap (λ ds. victims ds c.slots.left c.args.target) (free_later c.args.leases.now c.args.slots.now c.slots.slot-index c.slot-item.result c.slots-test.true c.slot-item.is (sym c.loose.ensures ∙ w.in_default.is)) in
      let now = ap (λ (n : ℕ). victims (unguarded c.args.leases.now (live (drop (c.slots.slot-index + 1) c.args.slots.now))) n c.args.target) w.left-is in
      record { counted = omega (arith, c.slots.invariant.counted, here, now, w.count-is); few = omega (arith, c.slots.invariant.few, w.count-is) }
]

pub returns : goal.returns
returns c =
    let none = ap (λ ds. victims ds c.slots.left c.args.target) (free_done c.args.leases.now c.args.slots.now c.slots.slot-index (omega arith)) ∙ victims_none c.slots.left c.args.target in
    omega (arith, c.slots.invariant.counted, none)
