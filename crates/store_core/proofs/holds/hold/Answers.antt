use Rattle.std.proofs.Common.{◌∙◌, ◌∷◌, ◌++◌, [], List, set, sym, ap}
use Rattle.std.specs.Prelude.{position}
use Rattle.digest_types.specs.Name.{HashAndSize}
use Rattle.store_core.specs.State.{Holds, is_holder}
use Rattle.store_core.proofs.HoldLaws.{hold_at, hold_first}
use Rattle.store_core.proofs.holds.hold.Goals as goal

pub returns-in-Some-clause-ok : goal.returns-in-Some-clause-ok
returns-in-Some-clause-ok c =
    let holds = c.args.holds.now.items in
    let at = ap (λ (hs : List Holds). position (is_holder c.args.owner) hs) (sym c.deref.ensures.value) ∙ sym c.in-Some.ensures in
    ap (λ (y : Holds). set holds c.in-Some.place y) c.in_ok-add.ensures.ok
    ∙ sym (hold_at c.args.owner c.args.digest.now holds c.in-Some.place c.index_mut.result.now at c.index_mut.ensures.value)

pub returns-clause-ok : goal.returns-clause-ok
returns-clause-ok c =
    let holds = c.args.holds.now.items in
    let at = ap (λ (hs : List Holds). position (is_holder c.args.owner) hs) (sym c.deref.ensures.value) ∙ sym c.in_default.ensures in
    c.in_ok-push.ensures.items
    ∙ ap (λ (ds : List HashAndSize). holds ++ record { owner = c.args.owner; digests = ds } ∷ []) c.in_ok-digests.ensures.items
    ∙ sym (hold_first c.args.owner c.args.digest.now holds at)
