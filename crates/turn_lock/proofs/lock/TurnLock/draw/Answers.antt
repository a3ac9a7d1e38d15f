use Rattle.std.proofs.Common.{arith, sym, ◌∙◌}
use Rattle.turn_lock.proofs.LockSteps.{draws}
use Rattle.turn_lock.proofs.lock.TurnLock.draw.Goals as goal

pub fetch_add-requires : goal.fetch_add-requires
fetch_add-requires g c = let wide = c.self.invariant.0 in (c.requires.seat ∙ sym c.self.view_is, omega arith, draws g.S.Stands.state _ _ _ c.requires.idle.0 c.requires.idle.1)
