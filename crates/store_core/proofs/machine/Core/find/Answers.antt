use Rattle.store_core.specs.contracts.machine.Core.{the_view}
use Rattle.store_core.proofs.Changes.{kept_follows}
use Rattle.store_core.proofs.Kept.{follows_turned}
use Rattle.store_core.proofs.RowLaws.{turned_touched_all}
use Rattle.store_core.proofs.machine.Core.find.Goals as goal

pub invariant_of-self : goal.invariant_of-self
invariant_of-self c =
    let s = the_view c.self.inside in
    rw c.touch_all.ensures (kept_follows s _ (follows_turned s _ (turned_touched_all c.args.digests.now s.rows)) c.self.invariant)
