use Rattle.store_core.proofs.ReachLaws.{roots_apart}
use Rattle.store_core.proofs.laws.roots_reach_apart.Goals as goal

pub returns : goal.returns
returns c = roots_apart
