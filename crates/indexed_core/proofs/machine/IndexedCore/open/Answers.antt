use Rattle.store_core.proofs.Changes.{kept_follows}
use Rattle.store_core.proofs.Kept.{follows_opened}
use Rattle.indexed_core.specs.contracts.machine.IndexedCore.{the_view}
use Rattle.indexed_core.proofs.machine.IndexedCore.open.Goals as goal

pub invariant_of-self-2 : goal.invariant_of-self-2
invariant_of-self-2 c =
    let s = the_view c.self.inside in
    (c.self.invariant.0, rw c.in_ok-push.ensures.items (kept_follows s _ (follows_opened s) c.self.invariant.1))
