use Rattle.std.proofs.Common.{arith, sym, ◌∙◌}
use Rattle.turn_lock.proofs.LockSteps.{looks}
use Rattle.turn_lock.proofs.lock.TurnLock.look.Goals as goal

pub load-requires : goal.load-requires
load-requires g c = let wide = c.self.invariant.0 in let w = c.requires.waits in (c.requires.seat ∙ sym c.self.view_is, omega arith, looks g.S.Stands.state _ _ _ _ w.0 w.1 w.2)
