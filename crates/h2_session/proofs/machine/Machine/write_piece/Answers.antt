use Rattle.std.proofs.Common.{◌≡◌, List, subst, sym, ap, ◌++◌, ◌<◌, ◌-◌, length, take, false}
use Rattle.std.specs.Prelude.{◌==◌, if◌then◌else◌}
use Rattle.std.proofs.lemmas.Option.{MatchOption-at_some}
use Rattle.h2_frames.specs.Spelling.{spelled}
use Rattle.h2_frames.specs.declared.frame.Frame.TheVariants as frames
use Rattle.h2_session.specs.declared.stream.Stream.{Stream}
use Rattle.h2_session.specs.Machine.{part_of}
use Rattle.h2_session.specs.Rows.{top_of, Rises, left_in}
use Rattle.h2_session.specs.Sent.{is_closing}
use Rattle.h2_session.proofs.RowLaws.{Rises-after, place_found, same_row, left_after}
use Rattle.h2_session.proofs.PartLaws.{piece_writes}
use Rattle.h2_session.proofs.machine.Machine.write_piece.Goals as goal

pub invariant_of-self-clause-rises : goal.invariant_of-self-clause-rises
invariant_of-self-clause-rises c =
    let r = c.requires in
    let e = MatchOption-at_some _ _ r.row r.at c.advance.ensures in
    subst (λ (x : List Stream). Rises 0 x (top_of c.args.self.now.block c.args.self.now.highest)) (sym e) (Rises-after 0 c.args.self.now.streams (top_of c.args.self.now.block c.args.self.now.highest) c.args.i c.args.size r.row c.ends-end.result r.at c.args.self.now.rises)

pub returns-clause-writes : goal.returns-clause-writes
returns-clause-writes c =
    let r = c.requires in
    let m = c.args.self.now in
    let e = MatchOption-at_some _ _ r.row r.at c.advance.ensures in
    let is = same_row m.streams c.args.i c.get-stream.result.now r.row c.get-stream.ensures r.at in
    let first = place_found 0 m.streams (top_of m.block m.highest) c.args.i r.row r.at m.rises in
    piece_writes (part_of m) c.args.i c.args.size r.row c.ends-end.result _ c.args.out.now c.write_row.new.out r.at first r.may
    (subst (λ (x : Stream). c.ends-end.result ≡ (if c.args.size == length x.waits then is_closing x.sending else false)) is c.ends-end.ensures)
    (ap (λ (x : List Stream). record (part_of m) { window = m.window - c.args.size; streams = x }) e)
    (subst (λ (x : Stream). c.write_row.new.out ≡ c.args.out.now ++ spelled (frames.Data x.number (take c.args.size x.waits) c.args.size c.ends-end.result)) is c.in_ok-write_row.ensures)

pub returns-clause-less : goal.returns-clause-less
returns-clause-less c =
    let r = c.requires in
    let m = c.args.self.now in
    let e = MatchOption-at_some _ _ r.row r.at c.advance.ensures in
    let is = same_row m.streams c.args.i c.get-stream.result.now r.row c.get-stream.ensures r.at in
    subst (λ (x : List Stream). left_in x < left_in m.streams) (sym e)
    (left_after m.streams c.args.i c.args.size r.row c.ends-end.result m.window m.initial r.at r.may
    (subst (λ (x : Stream). c.ends-end.result ≡ (if c.args.size == length x.waits then is_closing x.sending else false)) is c.ends-end.ensures))
