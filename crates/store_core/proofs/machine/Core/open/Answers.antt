use Rattle.store_core.specs.contracts.machine.Core.{the_view}
use Rattle.store_core.proofs.Changes.{kept_follows}
use Rattle.store_core.proofs.Kept.{follows_opened}
use Rattle.store_core.proofs.machine.Core.open.Goals as goal

pub invariant_of-self-2 : goal.invariant_of-self-2
invariant_of-self-2 c = rw c.in_ok-push.ensures.items (kept_follows (the_view c.self.inside) _ (follows_opened (the_view c.self.inside)) c.self.invariant)
