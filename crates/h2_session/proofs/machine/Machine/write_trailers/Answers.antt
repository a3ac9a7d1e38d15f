use Rattle.std.proofs.Common.{List, ◌<◌, subst, sym, ap, false}
use Rattle.h2_session.specs.declared.stream.Stream.{Stream}
use Rattle.h2_session.specs.Machine.{part_of}
use Rattle.h2_session.specs.Sent.{AreLast}
use Rattle.h2_session.specs.Rows.{top_of, Rises, left_in}
use Rattle.h2_session.proofs.RowLaws.{Rises-remove, place_found, same_row, left_trailers}
use Rattle.h2_session.proofs.PartLaws.{trailers_write}
use Rattle.h2_session.proofs.machine.Machine.write_trailers.Goals as goal

pub invariant_of-self-clause-rises : goal.invariant_of-self-clause-rises
invariant_of-self-clause-rises c = subst (λ (x : List Stream). Rises 0 x (top_of c.args.self.now.block c.args.self.now.highest)) (sym c.remove.ensures) (Rises-remove 0 c.args.self.now.streams (top_of c.args.self.now.block c.args.self.now.highest) c.args.i c.args.self.now.rises)

pub returns-clause-writes : goal.returns-clause-writes
returns-clause-writes c =
    let r = c.requires in
    let m = c.args.self.now in
    let first = place_found 0 m.streams (top_of m.block m.highest) c.args.i r.row r.at m.rises in
    let is = same_row m.streams c.args.i c.get.result.now r.row c.get.ensures r.at in
    let last : AreLast r.row m.shrink c.args.out.now c.write_last.new.out = subst (λ (x : Stream). AreLast x m.shrink c.args.out.now c.write_last.new.out) is c.in_ok-write_last.ensures in
    trailers_write (part_of m) c.args.i r.row last.headers _ c.args.out.now c.write_last.new.out r.at first r.may.0 last.are
    (ap (λ (x : List Stream). record (part_of m) { shrink = false; streams = x }) c.remove.ensures) last.output

pub returns-clause-less : goal.returns-clause-less
returns-clause-less c =
    let r = c.requires in
    let m = c.args.self.now in
    subst (λ (x : List Stream). left_in x < left_in m.streams) (sym c.remove.ensures) (left_trailers m.streams c.args.i r.row r.at r.may.1)
