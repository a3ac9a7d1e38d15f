use Rattle.std.proofs.Common.{◌≡◌, ◌∙◌, [], Option, false, None, Some, refl, sym, is_some, subst, take, arith}
use Rattle.digest_types.specs.Name.{HashAndSize}
use Rattle.lease_table.specs.Slots.{live}
use Rattle.lease_table.proofs.SlotLaws.{front_more, at_default}
use Rattle.lease_table.proofs.slots.first_full.Goals as goal

none_from : (o : Option HashAndSize) → is_some o ≡ false → o ≡ None
none_from None e = refl
none_from (Some d) e = absurd cc

pub slots-preserved : goal.slots-preserved
slots-preserved c =
    let slots = c.args.slots.now in
    let x = c.index-slots-place.result in
    front_more slots c.slots.place c.slots-test.true
    (at_default slots c.slots.place x c.slots-test.true ∙ sym c.index-slots-place.is ∙ none_from x (sym c.is_some.ensures ∙ c.if-is_some.false))
    c.slots.invariant

pub returns-clause-front : goal.returns-clause-front
returns-clause-front c = subst (λ n. live (take n c.args.slots.now) ≡ []) (omega arith) c.slots.invariant
