-- Whether it is too large, and else by the pairs.
use Rattle.std.proofs.Common.{◌≡◌, ◌∙◌, IfOk, ap, arith, sym, length, subst}
use Rattle.store_core.specs.declared.event.Standing.{Standing}
use Rattle.store_core.proofs.StandingLaws.{too_many, too_deep, not_too_large}
use Rattle.store_core.proofs.standing.standing.Goals as goal

pub returns-then-len : goal.returns-then-len
returns-then-len c =
    too_many c.args.rows.now c.args.root.now c.args.files c.in_ok-pairs.pairs.items c.in_ok-pairs.pairs.len
    (record { all = c.in_ok-pairs.ensures; count = c.in_ok-pairs.pairs.ok.0 }) (omega (arith, c.len.ensures))

pub returns-then-branch : goal.returns-then-branch
returns-then-branch c =
    too_deep c.args.rows.now c.args.root.now c.args.files c.in_ok-pairs.pairs.items c.in_ok-pairs.pairs.len
    (record { all = c.in_ok-pairs.ensures; count = c.in_ok-pairs.pairs.ok.0 }) (omega (arith, c.len.ensures)) (sym c.in_ok-is_deep.ensures ∙ c.if-branch.true)

pub returns : goal.returns
returns c =
    subst (λ (s : Standing). IfOk c.standing_by.result (λ t. t ≡ s))
    (not_too_large c.args.rows.now c.args.root.now c.args.files c.deref-2.result.now c.in_ok-pairs.pairs.len
    (record { all = c.deref-2.ensures.value ∙ c.in_ok-pairs.ensures; count = c.in_ok-pairs.pairs.ok.0 ∙ ap length (sym c.deref-2.ensures.value) })
    (omega (arith, c.len.ensures)) (sym c.in_ok-is_deep.ensures ∙ c.if-branch.false))
    c.standing_by.ensures
