use Rattle.std.proofs.Common.{◌≡◌, ◌+◌, ◌∙◌, ℕ, suc, List, Option, sym, ap, length, drop, arith}
use Rattle.std.specs.Prelude.{slice_get}
use Rattle.digest_types.specs.Name.{HashAndSize}
use Rattle.lease_table.specs.Table.{behind}
use Rattle.lease_table.specs.Slots.{live}
use Rattle.lease_table.proofs.SlotLaws.{from_place, from_none, not_among}
use Rattle.lease_table.proofs.slots.Slots.behind.Goals as goal

pub overflow_add-place : goal.overflow_add-place
overflow_add-place c =
    let d = c.args.digest.now in
    let slots = c.self.inside.slots.items in
    let h = (from_place d slots c.in-Some.place.now (sym (c.self.invariant.placed.placed d) ∙ sym c.in-Some.ensures.value)).within in
    omega (arith, h)

pub rest-requires : goal.rest-requires
rest-requires c =
    let d = c.args.digest.now in
    let slots = c.self.inside.slots.items in
    let h = (from_place d slots c.in-Some.place.now (sym (c.self.invariant.placed.placed d) ∙ sym c.in-Some.ensures.value)).within in
    let n = ap length c.deref.ensures.value in
    omega (arith, h, n)

one_more : (n : ℕ) → n + 1 ≡ suc n
one_more n = omega arith

pub returns-in-Some-clause-behind : goal.returns-in-Some-clause-behind
returns-in-Some-clause-behind c =
    let d = c.args.digest.now in
    let slots = c.self.inside.slots.items in
    let place = c.in-Some.place.now in
    c.first_of.ensures
    ∙ ap (λ (xs : List (Option HashAndSize)). slice_get (live xs) 0) (c.rest.ensures ∙ ap (drop (place + 1)) c.deref.ensures.value)
    ∙ ap (λ (n : ℕ). slice_get (live (drop n slots)) 0) (one_more place)
    ∙ (from_place d slots place (sym (c.self.invariant.placed.placed d) ∙ sym c.in-Some.ensures.value)).next
    ∙ ap (behind d) c.self.view_is

pub returns-in-None-clause-behind : goal.returns-in-None-clause-behind
returns-in-None-clause-behind c =
    let d = c.args.digest.now in
    let slots = c.self.inside.slots.items in
    sym (ap (λ (ds : List HashAndSize). slice_get ds 1) (from_none d (live slots) (not_among d slots (sym (c.self.invariant.placed.placed d) ∙ sym c.in-None.ensures.value))))
    ∙ ap (behind d) c.self.view_is
