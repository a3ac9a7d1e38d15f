use Rattle.std.proofs.Common.{arith}
use Rattle.casd_daemon.proofs.OneWorker.{works_more}
use Rattle.casd_daemon.proofs.worker.expiry_worker.Goals as goal

pub loop-round-preserved : goal.loop-round-preserved
loop-round-preserved g c = (
  works_more (g.D.Door.view c.args.door.now) (g.D.Door.view c.loop-round.door) (g.D.Door.view c.pass.new.self) c.loop-round.round c.pass.result.removed c.pass.result.used c.loop-round.invariant.0 c.pass.ensures.made,
  omega (arith, c.in-Pass.ensures.passes, c.loop-round.invariant.1),
  omega (arith, c.in-Pass.ensures.stops, c.loop-round.invariant.2),
  omega (arith, c.pass.ensures.made.turns.used, c.if-left-le1.false, c.left.ensures.left),
)
