use Rattle.std.proofs.Common.{ap, rules}
use Rattle.std.proofs.lemmas.Slice.Zip.{either_empty_from_Zip}
use Rattle.store_core.specs.declared.state.Row.{Row}
use Rattle.store_core.proofs.MarkedRows.{goes_none, goes_past, size_counted, goes_more, goes_all, goes_enough}
use Rattle.store_core.proofs.passing.gone.Goals as goal
use Rattle.store_core.proofs.passing.gone.Goals.{in-None, in-Some+then-left-target}

pub loop-row-init : goal.loop-row-init
loop-row-init c = goes_none _ c.args.target _ _ c.args.used c.args.rows.now c.args.guards.now c.new-digests.ensures.items (search rules) (search rules) c.requires.all

pub overflow_sub-left : goal.overflow_sub-left
overflow_sub-left c =
    let steps = c.in-Some.ensures.steps in
    size_counted c.loop-row.digests.items c.loop-row.left c.args.target _ _ c.args.used c.args.rows.now c.args.guards.now c.in-Some.row.now c.in-Some.guard.now _ _ steps.0 steps.1 c.loop-row.invariant
    c.row.inside.0.0.size (ap (λ (r : Row). r.digest.size) c.row.view_is)

pub loop-row-preserved : goal.loop-row-preserved
loop-row-preserved c =
    let steps = c.in-Some.ensures.steps in
    goes_past c.loop-row.digests.items c.loop-row.left c.args.target _ _ c.args.used c.args.rows.now c.args.guards.now c.in-Some.row.now c.in-Some.guard.now _ _ steps.0 steps.1 c.loop-row.invariant c.if-not-guard.false

pub loop-row-preserved-then-not-guard : goal.loop-row-preserved-then-not-guard
loop-row-preserved-then-not-guard c =
    let steps = c.in-Some.ensures.steps in
    goes_more c.loop-row.digests.items c.loop-row.left c.args.target _ _ c.args.used c.args.rows.now c.args.guards.now c.in-Some.row.now c.in-Some.guard.now _ _ steps.0 steps.1 c.loop-row.invariant
    c.row.inside.0.0.size c.push.new.self.items (ap (λ (r : Row). r.digest.size) c.row.view_is) c.if-not-guard.true c.if-left-target.false c.in_ok-push.ensures.items

pub returns : goal.returns
returns c = λ s e f.
    elim c.match-next.branch [
      | in-None w ↦
          goes_all c.loop-row.digests.items c.loop-row.left c.args.target _ _ c.args.used c.args.rows.now c.args.guards.now s
          (either_empty_from_Zip c.loop-row.row-iterator c.next.new.self c.next.result w.in-None.is c.next.ensures.steps) e f c.requires.all c.loop-row.invariant
      | in-Some+then-left-target w ↦
          goes_enough c.loop-row.digests.items c.loop-row.left c.args.target _ _ c.args.used c.args.rows.now c.args.guards.now s w.if-left-target.true e f c.requires.all c.loop-row.invariant
    ]
