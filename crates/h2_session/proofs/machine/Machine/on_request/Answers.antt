use Rattle.std.proofs.Common.{◌-◌, List, subst, sym, arith}
use Rattle.h2_session.specs.declared.stream.Stream.{Stream}
use Rattle.h2_session.specs.Rows.{Rises, top_of}
use Rattle.h2_session.proofs.RowLaws.{Rises-add, either, top_none}
use Rattle.h2_session.proofs.machine.Machine.on_request.Goals as goal

pub invariant_of-self-clause-rises : goal.invariant_of-self-clause-rises
invariant_of-self-clause-rises c =
    let m = c.args.self.now in
    let t = top_none m.block m.highest c.requires.block in
    either c.add.result c.add.ensures.ok c.add.ensures.err
    (λ h. subst (λ (x : List Stream). Rises 0 x (top_of c.args.self.now.block c.args.self.now.highest)) (sym h) (Rises-add 0 m.streams (c.args.number - 1) (top_of c.args.self.now.block c.args.self.now.highest) _ (let l = c.get-stream.ensures.range.0 in let v = c.get-stream.ensures.value in omega arith) (omega (arith, t, c.requires.number)) c.requires.rises))
    (λ h. subst (λ (x : List Stream). Rises 0 x (top_of c.args.self.now.block c.args.self.now.highest)) (sym h) m.rises)
