use Rattle.std.proofs.Common.{◌∷◌, ◌++◌, ◌∙◌, [], sym, ap, set}
use Rattle.std.specs.Prelude.{position}
use Rattle.store_core.specs.State.{Holds, is_holder, with_digest}
use Rattle.lease_table.proofs.HoldLaws.{hold_at, holders_at, hold_first}
use Rattle.lease_table.proofs.holder.hold.Goals as goal

pub returns-in_ok-add-in-Some-clause-ok : goal.returns-in_ok-add-in-Some-clause-ok
returns-in_ok-add-in-Some-clause-ok c =
    let holds = c.args.holds.now.items in
    let there = ap (position (is_holder c.args.owner)) (sym c.deref.ensures.value) ∙ sym c.place_of.ensures ∙ c.in-Some.is in
    ap (set holds c.in-Some.place) c.in_ok-add-in-Some.ensures.ok
    ∙ sym (hold_at c.args.owner c.args.digest.now holds c.in-Some.place c.index_mut.result.now there c.index_mut.ensures.value)

pub returns-in_ok-add-in-Some-clause-new : goal.returns-in_ok-add-in-Some-clause-new
returns-in_ok-add-in-Some-clause-new c = λ q.
    let there = ap (position (is_holder c.args.owner)) (sym c.deref.ensures.value) ∙ sym c.place_of.ensures ∙ c.in-Some.is in
    holders_at c.args.owner c.args.digest.now q c.args.holds.now.items c.in-Some.place c.index_mut.result.now c.add.new.self c.in_ok-add-in-Some.field-0
    there c.index_mut.ensures.value c.in_ok-add-in-Some.ensures.ok c.in_ok-add-in-Some.ensures.new

pub returns-in_ok-push-in-None-clause-ok : goal.returns-in_ok-push-in-None-clause-ok
returns-in_ok-push-in-None-clause-ok c =
    let holds = c.args.holds.now.items in
    let d = c.args.digest.now in
    let none = ap (position (is_holder c.args.owner)) (sym c.deref.ensures.value) ∙ sym c.place_of.ensures ∙ c.in-None.is in
    c.in_ok-push-in-None.ensures.items
    ∙ ap (λ (h : Holds). holds ++ h ∷ []) (c.in_ok-new-in-None.ensures.ok ∙ ap (λ (h : Holds). record h { digests = with_digest d h.digests }) c.new-holder.ensures)
    ∙ sym (hold_first c.args.owner d holds none)
