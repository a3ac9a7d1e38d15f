use Rattle.std.proofs.Common.{sym, ap, ◌∙◌, List, refl}
use Rattle.indexed_core.proofs.MachineLaws.{guards_are}
use Rattle.std.specs.List.{list_any}
use Rattle.store_core.specs.declared.state.Lease.{Lease}
use Rattle.store_core.specs.State.{is_of_owner}
use Rattle.store_core.proofs.Kept.{valid_gone}
use Rattle.indexed_core.proofs.MachineChanges.{close_change}
use Rattle.indexed_core.specs.contracts.machine.IndexedCore.{the_view}
use Rattle.indexed_core.proofs.machine.IndexedCore.close.Goals as goal

pub invariant_of-self : goal.invariant_of-self
invariant_of-self c =
    let none = ap (λ (leases : List Lease). list_any (is_of_owner c.args.owner) leases) (sym c.deref.ensures.value) ∙ sym c.has_lease.ensures ∙ c.if-has_lease.false in
    close_change (the_view c.self.inside) c.drop_holds.new.self c.self.inside.index.guards c.args.owner c.leave.new.owners.items (guards_are (the_view c.self.inside) c.self.inside.index.guards c.self.invariant.0 refl) c.drop_holds.ensures c.leave.ensures
    (record { valid = valid_gone (the_view c.self.inside) c.args.owner none c.self.invariant.1.valid; within = c.self.invariant.1.within })
