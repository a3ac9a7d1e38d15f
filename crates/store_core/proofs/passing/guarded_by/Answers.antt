use Rattle.std.proofs.Common.{ap, arith, rules}
use Rattle.std.proofs.lemmas.Slice.Zip.{either_empty_from_Zip}
use Rattle.store_core.specs.declared.state.Row.{Row}
use Rattle.store_core.proofs.MarkedRows.{sums_none, sums_marked, sums_other, sums_fit, sums_all}
use Rattle.store_core.proofs.passing.guarded_by.Goals as goal

pub loop-row-init : goal.loop-row-init
loop-row-init c = sums_none _ c.args.rows.now _ c.args.guards.now (search rules) (search rules)

pub overflow_add-bytes : goal.overflow_add-bytes
overflow_add-bytes c =
    let steps = c.in-Some.ensures.steps in
    let fit =
    sums_fit c.loop-row.bytes c.row.inside.0.0.size c.in-Some.row.now c.in-Some.guard.now _ _ c.args.rows.now _ _ c.args.guards.now
    c.if-guard.true (ap (λ (r : Row). r.digest.size) c.row.view_is) steps.0 steps.1 c.loop-row.invariant in
    omega (arith, fit, c.requires.small)

pub loop-row-preserved : goal.loop-row-preserved
loop-row-preserved c =
    let steps = c.in-Some.ensures.steps in
    sums_other c.loop-row.bytes c.in-Some.row.now c.in-Some.guard.now _ _ c.args.rows.now _ _ c.args.guards.now c.if-guard.false steps.0 steps.1 c.loop-row.invariant

pub loop-row-preserved-then-guard : goal.loop-row-preserved-then-guard
loop-row-preserved-then-guard c =
    let steps = c.in-Some.ensures.steps in
    sums_marked c.loop-row.bytes c.row.inside.0.0.size c.in-Some.row.now c.in-Some.guard.now _ _ c.args.rows.now _ _ c.args.guards.now
    c.if-guard.true (ap (λ (r : Row). r.digest.size) c.row.view_is) steps.0 steps.1 c.loop-row.invariant

pub returns : goal.returns
returns c = λ s e f.
    sums_all c.loop-row.bytes _ c.args.rows.now _ c.args.guards.now s (either_empty_from_Zip c.loop-row.row-iterator c.next.new.self c.next.result c.in-None.is c.next.ensures.steps) e f c.loop-row.invariant
