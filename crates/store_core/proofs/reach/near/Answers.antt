-- Each turn does one step, and the first that changes nothing is the last.
use Rattle.std.proofs.Common.{◌∙◌, arith}
use Rattle.store_core.proofs.WalkLaws.{first_is, step_is, done_early}
use Rattle.store_core.proofs.reach.near.Goals as goal

pub steps-init : goal.steps-init
steps-init c = c.in_ok-marks.ensures ∙ first_is _ _

pub returns-then-eq : goal.returns-then-eq
returns-then-eq c = done_early _ _ c.steps.counter _ _ c.in_ok-next.next.items c.deref.result.now c.steps.invariant c.deref.ensures.value c.in_ok-next.ensures c.if-eq.ensures (omega arith)

pub steps-preserved : goal.steps-preserved
steps-preserved c = step_is _ _ c.steps.counter c.steps.marks.items c.in_ok-next.next.items c.deref.result.now c.steps.invariant c.deref.ensures.value c.in_ok-next.ensures
