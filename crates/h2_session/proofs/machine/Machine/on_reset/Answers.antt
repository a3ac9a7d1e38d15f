use Rattle.std.proofs.Common.{List, subst, sym}
use Rattle.h2_session.specs.declared.stream.Stream.{Stream}
use Rattle.h2_session.specs.Rows.{Rises, top_of}
use Rattle.h2_session.proofs.RowLaws.{Rises-remove}
use Rattle.h2_session.proofs.machine.Machine.on_reset.Goals as goal

pub invariant_of-self-clause-rises : goal.invariant_of-self-clause-rises
invariant_of-self-clause-rises c = subst (λ (x : List Stream). Rises 0 x (top_of c.args.self.now.block c.args.self.now.highest)) (sym c.remove.ensures) (Rises-remove 0 c.args.self.now.streams (top_of c.args.self.now.block c.args.self.now.highest) c.in-Some.i c.args.self.now.rises)
