use Rattle.store_core.proofs.ReachedLaws.{counted_sound, all_listed}
use Rattle.store_core.proofs.laws.complete_is_there.Goals as goal

pub returns-clause-counted : goal.returns-clause-counted
returns-clause-counted c = counted_sound

pub returns-clause-all : goal.returns-clause-all
returns-clause-all c = all_listed
