use Rattle.std.proofs.Common.{List, refl, subst, sym, ap, append-nil}
use Rattle.std.proofs.lemmas.Option.{MatchOption-at_some}
use Rattle.h2_session.specs.declared.stream.Stream.{Stream}
use Rattle.h2_session.specs.Machine.{part_of}
use Rattle.h2_session.specs.Rows.{Rises, top_of}
use Rattle.h2_session.proofs.RowLaws.{Rises-set}
use Rattle.h2_session.proofs.PartLaws.{pays_by}
use Rattle.h2_session.proofs.SaidLaws.{trailers_said}
use Rattle.h2_session.proofs.machine.Machine.say_trailers.Goals as goal

pub invariant_of-self-clause-rises : goal.invariant_of-self-clause-rises
invariant_of-self-clause-rises c =
    let r = c.requires.row in
    let e = MatchOption-at_some _ _ r.row r.at c.set_trailers.ensures in
    subst (λ (x : List Stream). Rises 0 x (top_of c.args.self.now.block c.args.self.now.highest)) (sym e) (Rises-set 0 c.args.self.now.streams (top_of c.args.self.now.block c.args.self.now.highest) c.args.i r.row _ r.at refl c.args.self.now.rises)

pub returns-clause-pays : goal.returns-clause-pays
returns-clause-pays c =
    let r = c.requires.row in
    let m = c.args.self.now in
    let e = MatchOption-at_some _ _ r.row r.at c.set_trailers.ensures in
    let h = MatchOption-at_some _ _ r.row r.at c.requires.opened in
    pays_by _ _ _ _ _ (trailers_said c.args.stream c.args.headers c.args.end (part_of m) c.args.i r h)
    (ap (λ (x : List Stream). record (part_of m) { streams = x }) e) (sym (append-nil c.args.out.now))
