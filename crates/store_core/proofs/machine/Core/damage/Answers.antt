use Rattle.store_core.specs.contracts.machine.Core.{the_view}
use Rattle.store_core.proofs.Changes.{kept_follows}
use Rattle.store_core.proofs.Kept.{follows_damaged}
use Rattle.store_core.proofs.machine.Core.damage.Goals as goal

pub invariant_of-self : goal.invariant_of-self
invariant_of-self c = rw c.damage.ensures (kept_follows (the_view c.self.inside) _ (follows_damaged (the_view c.self.inside) c.args.digest.now) c.self.invariant)
