use Rattle.std.proofs.Common.{◌≡◌, ℕ, List, ◌++◌, subst, sym, ap, ◌∙◌}
use Rattle.h2_frames.specs.Spelling.{spelled}
use Rattle.h2_frames.specs.declared.frame.Frame.TheVariants as frames
use Rattle.h2_session.specs.declared.stream.Stream.{Stream}
use Rattle.h2_session.specs.Machine.{part_of}
use Rattle.h2_session.specs.Rows.{Rises, top_of}
use Rattle.h2_session.proofs.RowLaws.{Rises-remove, same_row}
use Rattle.h2_session.proofs.PartLaws.{pays_by, spellings_one}
use Rattle.h2_session.proofs.SaidLaws.{cancel_said}
use Rattle.h2_session.proofs.machine.Machine.drop_stream.Goals as goal

pub invariant_of-self-clause-rises : goal.invariant_of-self-clause-rises
invariant_of-self-clause-rises c = subst (λ (x : List Stream). Rises 0 x (top_of c.args.self.now.block c.args.self.now.highest)) (sym c.remove.ensures) (Rises-remove 0 c.args.self.now.streams (top_of c.args.self.now.block c.args.self.now.highest) c.in-Some.i c.args.self.now.rises)

pub returns-clause-pays : goal.returns-clause-pays
returns-clause-pays c =
    let m = c.args.self.now in
    let r = c.in-Some.ensures.row in
    let is = same_row m.streams c.in-Some.i c.get.result.now r.row c.get.ensures r.at in
    pays_by _ _ _ _ _ (cancel_said c.args.stream c.args.code (part_of m) c.in-Some.i r)
    (ap (λ (x : List Stream). record (part_of m) { streams = x }) c.remove.ensures)
    (subst (λ (x : Stream). c.write_reset.new.out ≡ c.args.out.now ++ spelled (frames.Reset x.number c.args.code)) is c.in_ok-write_reset.ensures ∙ ap (λ (x : List ℕ). c.args.out.now ++ x) (sym (spellings_one (frames.Reset r.row.number c.args.code))))
