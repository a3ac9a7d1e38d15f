use Rattle.std.proofs.Common.{arith}
use Rattle.h2_session.specs.Rows.{top_of}
use Rattle.h2_session.proofs.RowLaws.{Rises-higher, opens_none, top_none, top_small}
use Rattle.h2_session.proofs.machine.Machine.on_continuation.Goals as goal

pub invariant_of-self-clause-opening : goal.invariant_of-self-clause-opening
invariant_of-self-clause-opening c = let m = c.args.self.now in opens_none m.role c.take.new.self m.highest c.take.ensures.after

pub invariant_of-self-clause-rises : goal.invariant_of-self-clause-rises
invariant_of-self-clause-rises c =
    let m = c.args.self.now in
    let t = top_none c.take.new.self m.highest c.take.ensures.after in
    let l = top_small m.role m.block m.highest m.opening in
    Rises-higher 0 m.streams (top_of m.block m.highest) (top_of c.take.new.self m.highest) (omega (arith, t, l)) m.rises
