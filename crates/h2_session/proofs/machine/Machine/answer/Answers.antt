use Rattle.std.proofs.Common.{◌≡◌, List, ◌∷◌, ◌++◌, true, false, subst, sym, ap}
use Rattle.std.proofs.lemmas.Option.{MatchOption-at_some}
use Rattle.h2_frames.specs.declared.frame.Frame.TheVariants as frames
use Rattle.hpack_tables.specs.Encoding.{block_spelled}
use Rattle.h2_session.specs.declared.stream.Stream.{Stream}
use Rattle.h2_session.specs.Machine.{part_of}
use Rattle.h2_session.specs.Rows.{Rises, top_of}
use Rattle.h2_session.specs.Sent.{spellings, ending}
use Rattle.h2_session.proofs.RowLaws.{Rises-answered, same_row}
use Rattle.h2_session.proofs.PartLaws.{pays_by}
use Rattle.h2_session.proofs.SaidLaws.{answer_said}
use Rattle.h2_session.proofs.machine.Machine.answer.Goals as goal

pub invariant_of-self-clause-rises : goal.invariant_of-self-clause-rises
invariant_of-self-clause-rises c =
    let r = c.requires.row in
    let e = MatchOption-at_some _ _ r.row r.at c.set_answered.ensures in
    subst (λ (x : List Stream). Rises 0 x (top_of c.args.self.now.block c.args.self.now.highest)) (sym e) (Rises-answered 0 c.args.self.now.streams (top_of c.args.self.now.block c.args.self.now.highest) c.args.i c.args.end r.row r.at c.args.self.now.rises)

pub returns-clause-pays : goal.returns-clause-pays
returns-clause-pays c =
    let r = c.requires.row in
    let m = c.args.self.now in
    let e = MatchOption-at_some _ _ r.row r.at c.set_answered.ensures in
    let h = MatchOption-at_some _ _ r.row r.at c.requires.unopened in
    let is = same_row m.streams c.args.i c.get.result.now r.row c.get.ensures r.at in
    pays_by _ _ _ _ _ (answer_said c.args.stream c.args.headers c.args.end (part_of m) c.args.i r h)
    (ap (λ (x : List Stream). record (part_of m) { shrink = false; streams = x }) e)
    (subst (λ (x : Stream). c.write_answer.new.out ≡ c.args.out.now ++ spellings (frames.Headers x.number (block_spelled c.args.headers m.shrink) c.args.end true ∷ ending c.args.end x)) is c.in_ok-write_answer.ensures)
