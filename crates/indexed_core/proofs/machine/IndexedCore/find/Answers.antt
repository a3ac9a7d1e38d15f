use Rattle.store_core.specs.Step.{touched_all}
use Rattle.std.proofs.Common.{refl}
use Rattle.indexed_core.proofs.MachineLaws.{guards_are}
use Rattle.store_core.proofs.Changes.{kept_follows}
use Rattle.store_core.proofs.Kept.{follows_turned}
use Rattle.store_core.proofs.RowLaws.{turned_touched_all}
use Rattle.indexed_core.specs.contracts.machine.IndexedCore.{the_view}
use Rattle.indexed_core.proofs.MachineChanges.{rows_change}
use Rattle.indexed_core.proofs.machine.IndexedCore.find.Goals as goal

pub invariant_of-self : goal.invariant_of-self
invariant_of-self c =
    let s = the_view c.self.inside in
    let ds = c.args.digests.now in
    rows_change s c.touch_all.new.index c.self.inside.index.guards (touched_all ds s.rows) (guards_are (the_view c.self.inside) c.self.inside.index.guards c.self.invariant.0 refl) c.touch_all.ensures (kept_follows s _ (follows_turned s _ (turned_touched_all ds s.rows)) c.self.invariant.1)
