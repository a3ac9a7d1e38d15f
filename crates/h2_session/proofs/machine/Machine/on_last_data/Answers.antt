use Rattle.std.proofs.Common.{List, subst, sym, ap}
use Rattle.std.proofs.lemmas.Option.{MatchOption-at_some}
use Rattle.h2_session.specs.declared.stream.Stream.{Stream}
use Rattle.h2_session.specs.Machine.{part_of}
use Rattle.h2_session.specs.Rows.{Rises, top_of}
use Rattle.h2_session.specs.Heard.{Heard}
use Rattle.h2_session.proofs.RowLaws.{Rises-ended}
use Rattle.h2_session.proofs.PartLaws.{pays_by}
use Rattle.h2_session.proofs.HeardLaws.{data_end}
use Rattle.h2_session.proofs.machine.Machine.on_last_data.Goals as goal

pub invariant_of-self-clause-rises : goal.invariant_of-self-clause-rises
invariant_of-self-clause-rises c =
    let r = c.requires.row in
    let e = MatchOption-at_some _ _ r.row r.at c.end_by_peer.ensures in
    subst (λ (x : List Stream). Rises 0 x (top_of c.args.self.now.block c.args.self.now.highest)) (sym e) (Rises-ended 0 c.args.self.now.streams (top_of c.args.self.now.block c.args.self.now.highest) c.args.i r.row r.at c.args.self.now.rises)

pub returns-clause-pays : goal.returns-clause-pays
returns-clause-pays c = λ bytes.
    let r = c.requires.row in
    let m = c.args.self.now in
    let e = MatchOption-at_some _ _ r.row r.at c.end_by_peer.ensures in
    pays_by _ _ _ _ _ (ap (λ (x : Heard). x.part) (data_end c.args.stream bytes c.args.size (part_of m) c.args.i r))
    (ap (λ (x : List Stream). record (part_of m) { streams = x }) e) c.in_ok-grant.ensures
