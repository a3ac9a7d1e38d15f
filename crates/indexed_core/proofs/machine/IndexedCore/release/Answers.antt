use Rattle.std.proofs.Common.{not, refl}
use Rattle.indexed_core.proofs.MachineLaws.{guards_are}
use Rattle.store_core.specs.State.{has_id}
use Rattle.store_core.proofs.Kept.{valid_released}
use Rattle.indexed_core.specs.contracts.machine.IndexedCore.{the_view}
use Rattle.indexed_core.proofs.MachineChanges.{release_change}
use Rattle.indexed_core.proofs.machine.IndexedCore.release.Goals as goal

pub invariant_of-self : goal.invariant_of-self
invariant_of-self c =
    let s = the_view c.self.inside in
    release_change s c.release-2.new.self c.self.inside.index.guards c.release.new.leases.items c.args.id (guards_are (the_view c.self.inside) c.self.inside.index.guards c.self.invariant.0 refl) c.release-2.ensures c.release.ensures
    (record { valid = valid_released s (λ other. not (has_id c.args.id other)) c.self.invariant.1.valid; within = c.self.invariant.1.within })
