use Rattle.store_core.proofs.ReachedLaws.{reached_members, reached_sorted}
use Rattle.store_core.proofs.laws.reached_is_all.Goals as goal

pub returns-clause-members : goal.returns-clause-members
returns-clause-members c = reached_members

pub returns-clause-ascending : goal.returns-clause-ascending
returns-clause-ascending c = reached_sorted
