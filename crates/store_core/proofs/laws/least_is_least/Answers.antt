use Rattle.store_core.proofs.Least.{least_bound, least_passes, least_none_below}
use Rattle.store_core.proofs.laws.least_is_least.Goals as goal

pub returns-clause-bound : goal.returns-clause-bound
returns-clause-bound c = least_bound

pub returns-clause-passes : goal.returns-clause-passes
returns-clause-passes c = least_passes

pub returns-clause-none_below : goal.returns-clause-none_below
returns-clause-none_below c = least_none_below
