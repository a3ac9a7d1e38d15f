use Rattle.std.proofs.Common.{◌∙◌, Option, sym, ap, length, drop, arith}
use Rattle.digest_types.specs.Name.{HashAndSize}
use Rattle.lease_table.specs.Table.{from_digest, from_on}
use Rattle.lease_table.specs.Slots.{live}
use Rattle.lease_table.proofs.SlotLaws.{front_dropped, from_place, from_none, not_among}
use Rattle.lease_table.proofs.slots.Slots.from_on.Goals as goal

pub returns-in-None : goal.returns-in-None
returns-in-None c =
    let start = c.self.inside.start in
    ap live (c.rest.ensures ∙ ap (drop start) c.deref.ensures.value)
    ∙ front_dropped c.self.inside.slots.items start c.self.invariant.front
    ∙ c.self.view_is ∙ ap (λ (o : Option HashAndSize). from_on o c.args.self.now) (sym c.in-None.is)

pub rest-requires-in-Some-get : goal.rest-requires-in-Some-get
rest-requires-in-Some-get c =
    let d = c.in-Some.digest in
    let slots = c.self.inside.slots.items in
    let h = (from_place d slots c.in-Some-get.place.now (sym (c.self.invariant.placed.placed d) ∙ sym c.in-Some-get.ensures.value)).within in
    let n = ap length c.deref-in-Some-get.ensures.value in
    omega (arith, h, n)

pub returns-in-Some-get : goal.returns-in-Some-get
returns-in-Some-get c =
    let d = c.in-Some.digest in
    let slots = c.self.inside.slots.items in
    let place = c.in-Some-get.place.now in
    ap live (c.rest-in-Some-get.ensures ∙ ap (drop place) c.deref-in-Some-get.ensures.value)
    ∙ (from_place d slots place (sym (c.self.invariant.placed.placed d) ∙ sym c.in-Some-get.ensures.value)).from
    ∙ ap (from_digest d) c.self.view_is ∙ ap (λ (o : Option HashAndSize). from_on o c.args.self.now) (sym c.in-Some.is)

pub returns-in-None-get : goal.returns-in-None-get
returns-in-None-get c =
    let d = c.in-Some.digest in
    let slots = c.self.inside.slots.items in
    sym (from_none d (live slots) (not_among d slots (sym (c.self.invariant.placed.placed d) ∙ sym c.in-None-get.ensures.value)))
    ∙ ap (from_digest d) c.self.view_is ∙ ap (λ (o : Option HashAndSize). from_on o c.args.self.now) (sym c.in-Some.is)
