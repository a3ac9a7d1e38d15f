use Rattle.store_core.proofs.ReachLaws.{removal}
use Rattle.store_core.proofs.laws.removal_changes_no_reach.Goals as goal

pub returns : goal.returns
returns c = removal
