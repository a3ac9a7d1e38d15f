use Rattle.std.proofs.Common.{◌+◌, ◌-◌, ◌++◌, ◌∙◌, List, sym, ap, drop, take, arith}
use Rattle.digest_types.specs.Name.{HashAndSize}
use Rattle.lease_table.specs.Table.{unguarded}
use Rattle.lease_table.specs.Slots.{live}
use Rattle.lease_table.proofs.SlotLaws.{free_here, free_later, free_done, take_here, take_end, take_none}
use Rattle.lease_table.proofs.use_order.gone.Goals as goal
use Rattle.lease_table.proofs.use_order.gone.Goals.{in-Some+in_ok-push, in_default}

pub slots-init : goal.slots-init
slots-init c = ap (λ (ds : List HashAndSize). ds ++ take c.args.count (unguarded c.args.leases.now (live c.args.slots.now))) c.new-digests.ensures.items

pub returns-then-left-eq0 : goal.returns-then-left-eq0
returns-then-left-eq0 c = sym (take_none c.slots.left c.slots.digests.items _ c.if-left-eq0.true) ∙ c.slots.invariant

pub slots-preserved : goal.slots-preserved
slots-preserved c = elim c.match-loose.branch [
  | in-Some+in_ok-push w ↦
      let rest = unguarded c.args.leases.now (live (drop (c.slots.slot-index + 1) c.args.slots.now)) in
      (λ i. (w.digests-is i).items ++ take (w.left-is i) rest)
      ∙ ap (λ (ds : List HashAndSize). ds ++ take (c.slots.left - 1) rest) w.in_ok-push.ensures.items
      ∙ take_here c.slots.left c.slots.digests.items w.in-Some.digest rest c.if-left-eq0.false
      ∙ ap (λ (ds : List HashAndSize). c.slots.digests.items ++ take c.slots.left ds) (sym (free_here c.args.leases.now c.args.slots.now c.slots.slot-index c.slot-item.result w.in-Some.digest c.slots-test.true c.slot-item.is (sym c.loose.ensures ∙ w.in-Some.is)))
      ∙ c.slots.invariant
  | in_default w ↦
      let rest = unguarded c.args.leases.now (live (drop (c.slots.slot-index + 1) c.args.slots.now)) in
      (λ i. (w.digests-is i).items ++ take (w.left-is i) rest)
      ∙ ap (λ (ds : List HashAndSize). c.slots.digests.items ++ take c.slots.left ds) (sym (free_later c.args.leases.now c.args.slots.now c.slots.slot-index c.slot-item.result c.slots-test.true c.slot-item.is (sym c.loose.ensures ∙ w.in_default.is)))
      ∙ c.slots.invariant
]

pub returns : goal.returns
returns c = sym (take_end c.slots.left c.slots.digests.items _ (free_done c.args.leases.now c.args.slots.now c.slots.slot-index (omega arith))) ∙ c.slots.invariant
