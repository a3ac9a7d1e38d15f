use Rattle.store_core.specs.contracts.machine.Core.{the_view}
use Rattle.store_core.proofs.Changes.{kept_follows}
use Rattle.std.proofs.Common.{◌≡◌, true, sym, subst}
use Rattle.store_core.specs.State.{State}
use Rattle.store_core.specs.Step.{is_open}
use Rattle.store_core.proofs.Kept.{follows_leased}
use Rattle.store_core.proofs.OwnerLaws.{open_has}
use Rattle.store_core.proofs.machine.Core.lease.Goals as goal

pub invariant_of-self-2 : goal.invariant_of-self-2
invariant_of-self-2 c =
    let s = the_view c.self.inside in
    let open_here = subst (λ (t : State). is_open t c.args.owner ≡ true) (sym c.self.view_is) c.requires.open in
    rw c.in_ok-push.ensures.items (kept_follows s _ (follows_leased s c.args.owner c.args.root (open_has s c.args.owner open_here)) c.self.invariant)
