use Rattle.std.proofs.Common.{ℕ, ◌+◌, ◌<◌, List, subst, sym, arith}
use Rattle.std.specs.Prelude.{◌==◌, if◌then◌else◌}
use Rattle.std.proofs.lemmas.Bool.Decides.{nat_tests}
use Rattle.h2_session.specs.declared.stream.Stream.{Stream}
use Rattle.h2_session.specs.Rows.{Rises, top_of}
use Rattle.h2_session.proofs.RowLaws.{Rises-add, Rises-higher, either, top_client, open_client}
use Rattle.h2_session.proofs.machine.Machine.open.Goals as goal

above : (h : ℕ) → h < (if h == 0 then 1 else h + 2)
above h = grind (arith, nat_tests)

pub invariant_of-self-clause-opening : goal.invariant_of-self-clause-opening
invariant_of-self-clause-opening c = let m = c.args.self.now in open_client m.role m.block m.highest c.args.number c.requires.client m.opening

pub invariant_of-self-clause-rises : goal.invariant_of-self-clause-rises
invariant_of-self-clause-rises c =
    let m = c.args.self.now in
    let t = top_client m.role m.block m.highest c.requires.client m.opening in
    let u = top_client m.role m.block c.args.number c.requires.client (open_client m.role m.block m.highest c.args.number c.requires.client m.opening) in
    let l : m.highest < c.args.number = subst (λ (x : ℕ). m.highest < x) (sym c.requires.number.0) (above m.highest) in
    let k = subst (λ (x : ℕ). Rises 0 m.streams x) t m.rises in
    either c.add.result c.add.ensures.ok c.add.ensures.err
    (λ h. subst (λ (x : List Stream). Rises 0 x (top_of m.block c.args.number)) (sym h) (Rises-add 0 m.streams m.highest (top_of m.block c.args.number) _ (omega (arith, l, c.new.ensures)) (omega (arith, u, c.new.ensures)) k))
    (λ h. subst (λ (x : List Stream). Rises 0 x (top_of m.block c.args.number)) (sym h) (subst (λ (x : ℕ). Rises 0 m.streams x) (sym u) (Rises-higher 0 m.streams m.highest c.args.number (omega arith) k)))
