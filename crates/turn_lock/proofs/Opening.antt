-- The first entry of a new store.
use Rattle.std.proofs.Common.{[], refl}
use Rattle.store_core.specs.declared.event.Event.TheVariants as events
use Rattle.store_core.specs.declared.event.Reply.TheVariants as replies
use Rattle.store_core.specs.State.{new_state}
use Rattle.store_core.specs.declared.state.Guard.TheVariants as guards
use Rattle.store_core.specs.Step.{step, served}
use Rattle.store_core.specs.History.{state, IsLegalAt}
use Rattle.turn_lock.specs.Noted.{entry}

-- the first owner has the number 1
pub opens : IsLegalAt (state (new_state 10 20 guards.Leases) []) (entry 1 events.Open (replies.Opened 1))
unfolding state step served
opens = record { reply = refl; served = λ e. absurd cc; numbered = refl }
