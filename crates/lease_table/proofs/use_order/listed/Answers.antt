use Rattle.std.proofs.Common.{◌+◌, ◌++◌, ◌∷◌, ◌∙◌, [], List, sym, ap, drop, arith}
use Rattle.std.proofs.lemmas.List.{append_assoc}
use Rattle.digest_types.specs.Name.{HashAndSize}
use Rattle.lease_table.specs.Slots.{live}
use Rattle.lease_table.proofs.SlotLaws.{live_some, live_skip, live_done, none_more}
use Rattle.lease_table.proofs.use_order.listed.Goals as goal
use Rattle.lease_table.proofs.use_order.listed.Goals.{in-Some+in_ok-push, in_default}

pub slots-init : goal.slots-init
slots-init c = ap (λ (ds : List HashAndSize). ds ++ live c.args.slots.now) c.new-digests.ensures.items

pub slots-preserved : goal.slots-preserved
slots-preserved c =
    let slots = c.args.slots.now in
    let i = c.slots.slot-index in
    let rest = live (drop (i + 1) slots) in
    elim c.match-slot.branch [
      | in-Some+in_ok-push w ↦
          (λ j. (w.digests-is j).items ++ rest)
          ∙ ap (λ (ds : List HashAndSize). ds ++ rest) w.in_ok-push.ensures.items
          ∙ append_assoc c.slots.digests.items (w.in-Some.digest ∷ []) rest
          ∙ ap (λ (ds : List HashAndSize). c.slots.digests.items ++ ds) (sym (live_some slots i c.slot-item.result w.in-Some.digest c.slots-test.true c.slot-item.is w.in-Some.is))
          ∙ c.slots.invariant
      | in_default w ↦
          (λ j. (w.digests-is j).items ++ rest)
          ∙ ap (λ (ds : List HashAndSize). c.slots.digests.items ++ ds) (sym (live_skip slots i c.slot-item.result c.slots-test.true c.slot-item.is w.in_default.is))
          ∙ c.slots.invariant
    ]

pub returns : goal.returns
returns c =
    sym (none_more c.slots.digests.items)
    ∙ ap (λ (ds : List HashAndSize). c.slots.digests.items ++ ds) (sym (live_done c.args.slots.now c.slots.slot-index (omega arith)))
    ∙ c.slots.invariant
