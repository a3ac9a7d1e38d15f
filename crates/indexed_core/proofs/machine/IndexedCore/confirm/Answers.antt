use Rattle.std.proofs.Common.{◌∙◌, ◌&&◌, List, ap, refl}
use Rattle.indexed_core.proofs.MachineLaws.{guards_are}
use Rattle.std.specs.Prelude.{find}
use Rattle.store_core.specs.declared.state.Lease.{Lease}
use Rattle.store_core.specs.State.{has_id, is_of_owner}
use Rattle.indexed_core.specs.contracts.machine.IndexedCore.{the_view}
use Rattle.indexed_core.proofs.MachineChanges.{confirm_is}
use Rattle.indexed_core.proofs.machine.IndexedCore.confirm.Goals as goal

pub returns-clause-ok : goal.returns-clause-ok
returns-clause-ok c =
    let own = c.own_lease.ensures ∙ ap (λ (ls : List Lease). find (λ lease. has_id c.args.id lease && is_of_owner c.args.owner lease) ls) c.deref.ensures.value in
    confirm_is (the_view c.self.inside) c.args.self.now c.self.inside.index.guards c.args.owner c.args.id c.args.files c.own_lease.result c.in_ok-standing.standing
    c.self.view_is (guards_are (the_view c.self.inside) c.self.inside.index.guards c.self.invariant.0 refl) c.self.invariant.1.valid.lease_ids own c.if-is_none.ensures c.in_ok-standing.ensures
