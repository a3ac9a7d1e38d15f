use Rattle.std.proofs.Common.{sym, ap, ◌∙◌, List}
use Rattle.std.specs.List.{list_any}
use Rattle.store_core.specs.declared.state.Lease.{Lease}
use Rattle.store_core.specs.State.{is_of_owner}
use Rattle.store_core.specs.contracts.machine.Core.{the_view}
use Rattle.store_core.proofs.Kept.{valid_gone}
use Rattle.store_core.proofs.machine.Core.close.Goals as goal

pub invariant_of-self : goal.invariant_of-self
invariant_of-self c =
    let none = ap (λ (leases : List Lease). list_any (is_of_owner c.args.owner) leases) (sym c.deref.ensures.value) ∙ sym c.has_lease.ensures ∙ c.if-has_lease.false in
    rw (c.leave.ensures, c.drop_holds.ensures) (record { valid = valid_gone (the_view c.self.inside) c.args.owner none c.self.invariant.valid; within = c.self.invariant.within })
