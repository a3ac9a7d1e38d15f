use Rattle.std.proofs.Common.{◌≡◌, ◌++◌, take, drop}
use Rattle.store_core.specs.Step.{damaged}
use Rattle.store_core.proofs.finding.damage.Given as goal

abbrev pub invariant-loop-row : goal.invariant-loop-row
invariant-loop-row l = l.row-items ≡ damaged l.digest (take l.row-index l.initial.row-items) ++ drop l.row-index l.initial.row-items
