use Rattle.std.proofs.Common.{List, subst, sym, ap, append-nil}
use Rattle.std.proofs.lemmas.Option.{MatchOption-at_some}
use Rattle.h2_session.specs.declared.stream.Stream.{Stream}
use Rattle.h2_session.specs.Machine.{part_of}
use Rattle.h2_session.specs.Rows.{Rises, top_of}
use Rattle.h2_session.proofs.RowLaws.{Rises-said, either}
use Rattle.h2_session.proofs.PartLaws.{pays_by}
use Rattle.h2_session.proofs.SaidLaws.{piece_said}
use Rattle.h2_session.proofs.machine.Machine.say_piece.Goals as goal

pub invariant_of-self-clause-rises : goal.invariant_of-self-clause-rises
invariant_of-self-clause-rises c =
    let r = c.requires in
    let m = c.args.self.now in
    either c.add_piece.result c.add_piece.ensures.ok c.add_piece.ensures.err
    (λ h. let e = MatchOption-at_some _ _ r.row r.at h in subst (λ (x : List Stream). Rises 0 x (top_of c.args.self.now.block c.args.self.now.highest)) (sym e) (Rises-said 0 m.streams (top_of c.args.self.now.block c.args.self.now.highest) c.args.i c.args.bytes c.args.end r.row r.at m.rises))
    (λ h. subst (λ (x : List Stream). Rises 0 x (top_of c.args.self.now.block c.args.self.now.highest)) (sym h) m.rises)

pub returns-clause-pays : goal.returns-clause-pays
returns-clause-pays c =
    let r = c.requires in
    let m = c.args.self.now in
    let e = MatchOption-at_some _ _ r.row r.at c.in_ok-add_piece.ensures.ok in
    pays_by _ _ _ _ _ (piece_said c.args.stream c.args.bytes c.args.end (part_of m) c.args.i r)
    (ap (λ (x : List Stream). record (part_of m) { streams = x }) e) (sym (append-nil c.args.out.now))
