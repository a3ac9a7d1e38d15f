use Rattle.store_core.proofs.ReachLaws.{order_changes_nothing}
use Rattle.store_core.proofs.laws.order_changes_no_reach.Goals as goal

pub returns : goal.returns
returns c = order_changes_nothing
