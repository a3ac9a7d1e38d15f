use Rattle.std.proofs.Common.{◌≡◌, ◌+◌, ◌∙◌, ℕ, Option, None, is_some, sym, ap, subst, cond, take, length, arith}
use Rattle.indexmap.specs.IndexMap.{spare}
use Rattle.lease_table.proofs.SlotLaws.{IsNumbered, none_numbered, numbered_skip, numbered_more, numbered_all, numbered_spare, at_default, no_place, not_before}
use Rattle.lease_table.proofs.slots.number.Goals as goal
use Rattle.lease_table.proofs.slots.number.Goals.{in-Some+in-Ok, in_default}

pub slots-init : goal.slots-init
slots-init c =
    let room = c.clear.ensures.capacity in
    none_numbered c.args.slots.now c.clear.new.self.entries (spare c.clear.new.self) c.clear.ensures.empty (omega (arith, room, c.requires.count))

pub slots-preserved : goal.slots-preserved
slots-preserved c = elim c.match-slot.branch [
  | in-Some+in-Ok w ↦
      let d = w.in-Some.digest in
      let places = c.slots.places.entries in
      let at = at_default c.args.slots.now c.slots.place c.index-slots-place.result c.slots-test.true ∙ sym c.index-slots-place.is ∙ w.in-Some.is in
      let none : w.in-Ok.field-0 ≡ None = w.in-Ok.ensures.old ∙ c.slots.invariant.placed.placed d ∙ no_place d (take c.slots.place c.args.slots.now) (not_before d c.args.slots.now c.slots.place None c.requires.distinct c.slots-test.true at) in
      let len = w.in-Ok.ensures.len ∙ ap (λ (o : Option ℕ). length places + cond (is_some o) 0 1) none in
      subst (λ m. IsNumbered c.args.slots.now (c.slots.place + 1) m.entries (spare m)) (sym w.places-is)
      (numbered_more c.args.slots.now c.slots.place d places w.insert.new.self.entries (spare c.slots.places) (spare w.insert.new.self) c.requires.distinct c.slots-test.true at
      w.in-Ok.ensures.updates.0 (omega (arith, len)) w.in-Ok.ensures.spare c.slots.invariant)
  | in_default w ↦
      let at = at_default c.args.slots.now c.slots.place c.index-slots-place.result c.slots-test.true ∙ sym c.index-slots-place.is ∙ w.in_default.is in
      subst (λ m. IsNumbered c.args.slots.now (c.slots.place + 1) m.entries (spare m)) (sym w.places-is)
      (numbered_skip c.args.slots.now c.slots.place c.slots.places.entries (spare c.slots.places) c.slots-test.true at c.slots.invariant)
]

pub returns : goal.returns
returns c = numbered_all c.args.slots.now c.slots.place c.slots.places.entries (spare c.slots.places) (omega arith) c.slots.invariant

pub returns-in-Err : goal.returns-in-Err
returns-in-Err c =
    let d = c.in-Some.digest in
    let at = at_default c.args.slots.now c.slots.place c.index-slots-place.result c.slots-test.true ∙ sym c.index-slots-place.is ∙ c.in-Some.is in
    let room = numbered_spare c.args.slots.now c.slots.place d c.slots.places.entries (spare c.slots.places) c.slots-test.true at c.slots.invariant in
    let ok = c.in-Err.ensures.succeeds room in
    absurd cc
