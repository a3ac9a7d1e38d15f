use Rattle.store_core.proofs.Passes.{pass_down, guarded_kept, pass_guards}
use Rattle.store_core.proofs.laws.pass_takes_the_unguarded.Goals as goal

pub returns-clause-down : goal.returns-clause-down
returns-clause-down c s target v = pass_down s target v.distinct

pub returns-clause-guard : goal.returns-clause-guard
returns-clause-guard c s target row v has is = guarded_kept s target row has is

pub returns-clause-same : goal.returns-clause-same
returns-clause-same c s target d v = pass_guards s target d
