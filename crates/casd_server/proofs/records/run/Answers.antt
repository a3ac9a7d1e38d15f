use Rattle.std.proofs.Common.{◌≡◌, ◌≤◌, ◌⊎◌, Option, IfSome, sym, subst, arith}
use Rattle.casd_server.specs.declared.records.End.{End}
use Rattle.casd_server.specs.declared.records.End.TheVariants as ends
use Rattle.std.proofs.lemmas.Result.{err_from_is_err_and}
use Rattle.casd_server.specs.Going.{Going}
use Rattle.casd_server.specs.Pending.{Pending}
use Rattle.casd_server.specs.Answer.{Seated}
use Rattle.casd_server.proofs.Running.{Going-start}
use Rattle.casd_server.proofs.Stepping.{nothing, at_some}
use Rattle.casd_server.proofs.records.run.Goals as goal

pub lines-init : goal.lines-init
lines-init g c =
    let left = g.S.Source.left c.args.source.now in
    let written = g.W.Sink.written c.args.sink.now in
    record {
      going = subst (λ (s : Seated). Going left left written written c.new.result s 1) (sym c.in_ok-new.ensures)
          (subst (λ (p : Pending). Going left left written written p _ 1) (sym c.new.ensures) (Going-start left written));
      bounded = subst (λ (p : Pending). p.read ≤ 1125899906842624) (sym c.new.ensures) (omega arith);
      later = omega arith;
      written = omega arith;
    }

pub returns-in_err-new-clause-err : goal.returns-in_err-new-clause-err
returns-in_err-new-clause-err g c =
    let p = err_from_is_err_and c.from_residual.result c.from_residual.ensures.1 in
    rw p.1 (nothing _ _ p.0 p.2)

pub returns-in-Some-clause-ok : goal.returns-in-Some-clause-ok
returns-in-Some-clause-ok g c = at_some _ _ c.in_ok-end.field-0 c.in-Some.end c.in-Some.is (c.in_ok-end.ensures.ok _ _ c.lines.invariant.going)

pub returns-in_err-end-clause-err : goal.returns-in_err-end-clause-err
returns-in_err-end-clause-err g c =
    let p = err_from_is_err_and c.from_residual-in_err-end.result c.from_residual-in_err-end.ensures.1 in
    rw (p.1, p.2) (c.in_err-end.ensures.err _ _ c.lines.invariant.going)

pub returns-in_err-end-clause-faults : goal.returns-in_err-end-clause-faults
returns-in_err-end-clause-faults g c =
    let p = err_from_is_err_and c.from_residual-in_err-end.result c.from_residual-in_err-end.ensures.1 in
    rw (p.1, p.2) c.in_err-end.ensures.faults

pub returns-in-Some-clause-ends : goal.returns-in-Some-clause-ends
returns-in-Some-clause-ends g c = subst (λ (o : Option End). IfSome o (λ e. (e ≡ ends.Done) ⊎ (e ≡ ends.Malformed))) c.in-Some.is c.in_ok-end.ensures.ends
