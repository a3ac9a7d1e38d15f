use Rattle.std.proofs.Common.{List, subst, sym}
use Rattle.std.proofs.lemmas.Option.{MatchOption-at_some}
use Rattle.h2_session.specs.declared.stream.Stream.{Stream}
use Rattle.h2_session.specs.Rows.{Rises, top_of, rows_ended}
use Rattle.h2_session.proofs.RowLaws.{Rises-ended, Rises-if}
use Rattle.h2_session.proofs.machine.Machine.on_further_headers.Goals as goal

pub invariant_of-self-clause-rises : goal.invariant_of-self-clause-rises
invariant_of-self-clause-rises c =
    let m = c.args.self.now in
    let r = c.in-Some.ensures.row in
    let e = MatchOption-at_some _ _ r.row r.at c.end_if.ensures in
    subst (λ (x : List Stream). Rises 0 x (top_of c.args.self.now.block c.args.self.now.highest)) (sym e)
    (Rises-if 0 (top_of c.args.self.now.block c.args.self.now.highest) c.args.end (rows_ended c.in-Some.i r.row m.streams) m.streams (Rises-ended 0 m.streams (top_of c.args.self.now.block c.args.self.now.highest) c.in-Some.i r.row r.at m.rises) m.rises)
