use Rattle.std.proofs.Common.{not}
use Rattle.store_core.specs.State.{has_id}
use Rattle.store_core.specs.contracts.machine.Core.{the_view}
use Rattle.store_core.proofs.Kept.{valid_released}
use Rattle.store_core.proofs.machine.Core.release.Goals as goal

pub invariant_of-self : goal.invariant_of-self
invariant_of-self c =
    rw c.release.ensures (record { valid = valid_released (the_view c.self.inside) (λ other. not (has_id c.args.id other)) c.self.invariant.valid; within = c.self.invariant.within })
