use Rattle.store_core.specs.Step.{damaged}
use Rattle.std.proofs.Common.{refl}
use Rattle.indexed_core.proofs.MachineLaws.{guards_are}
use Rattle.store_core.proofs.Changes.{kept_follows}
use Rattle.store_core.proofs.Kept.{follows_damaged}
use Rattle.indexed_core.specs.contracts.machine.IndexedCore.{the_view}
use Rattle.indexed_core.proofs.MachineChanges.{rows_change}
use Rattle.indexed_core.proofs.machine.IndexedCore.damage.Goals as goal

pub invariant_of-self : goal.invariant_of-self
invariant_of-self c =
    let s = the_view c.self.inside in
    rows_change s c.damage.new.self c.self.inside.index.guards (damaged c.args.digest.now s.rows) (guards_are (the_view c.self.inside) c.self.inside.index.guards c.self.invariant.0 refl) c.damage.ensures (kept_follows s _ (follows_damaged s c.args.digest.now) c.self.invariant.1)
