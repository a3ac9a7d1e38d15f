use Rattle.std.proofs.Common.{◌≡◌, ◌∙◌, ◌++◌, ◌∷◌, [], true, List, sym, ap, subst, refl}
use Rattle.indexed_core.proofs.MachineLaws.{guards_are}
use Rattle.store_core.specs.declared.state.Lease.{Lease}
use Rattle.store_core.specs.State.{State}
use Rattle.store_core.specs.Step.{is_open}
use Rattle.store_core.proofs.Changes.{kept_follows}
use Rattle.store_core.proofs.Kept.{follows_leased}
use Rattle.store_core.proofs.OwnerLaws.{open_has}
use Rattle.indexed_core.specs.contracts.machine.IndexedCore.{the_view}
use Rattle.indexed_core.proofs.MachineChanges.{lease_change}
use Rattle.indexed_core.proofs.machine.IndexedCore.lease.Goals as goal

pub invariant_of-self-2 : goal.invariant_of-self-2
invariant_of-self-2 c =
    let s = the_view c.self.inside in
    let open_here = subst (λ (t : State). is_open t c.args.owner ≡ true) (sym c.self.view_is) c.requires.open in
    let lease : Lease = record { id = s.next_lease; owner = c.args.owner; root = c.args.root } in
    let taken = c.push_reserved.ensures.items ∙ ap (λ (ls : List Lease). ls ++ lease ∷ []) c.in_ok-reserve.ensures.items in
    lease_change s c.lease.new.self c.self.inside.index.guards c.push_reserved.new.self.items c.args.owner c.args.root (guards_are (the_view c.self.inside) c.self.inside.index.guards c.self.invariant.0 refl) c.in_ok-lease.ensures.ok taken
    (kept_follows s _ (follows_leased s c.args.owner c.args.root (open_has s c.args.owner open_here)) c.self.invariant.1)
