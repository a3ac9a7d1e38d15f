use Rattle.std.proofs.Common.{le_refl}
use Rattle.store_core.proofs.Kept.{follows_step}
use Rattle.store_core.proofs.laws.step_keeps.Goals as goal

pub returns-clause-valid : goal.returns-clause-valid
returns-clause-valid c s owner event = (follows_step s owner event).valid

pub returns-clause-within : goal.returns-clause-within
returns-clause-within c s owner event = λ v h. (follows_step s owner event).within s.high v (le_refl s.high) h

pub returns-clause-marks : goal.returns-clause-marks
returns-clause-marks c s owner event = let f = follows_step s owner event in (f.low, f.high, f.guard)

pub returns-clause-owners : goal.returns-clause-owners
returns-clause-owners c s owner event = (follows_step s owner event).owners

pub returns-clause-leases : goal.returns-clause-leases
returns-clause-leases c s owner event = (follows_step s owner event).leases
