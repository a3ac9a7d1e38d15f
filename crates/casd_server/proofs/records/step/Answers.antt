use Rattle.std.proofs.Common.{◌≡◌, ◌+◌, cond, List, ℕ, length, eqb, true, false, Some, None, sym, subst, ◌∙◌}
use Rattle.std.proofs.lemmas.Result.{err_from_is_err_and}
use Rattle.casd_base.specs.Streams.{Adds}
use Rattle.casd_server.specs.Record.{record_of}
use Rattle.casd_server.specs.Run.{line_result}
use Rattle.casd_server.specs.Pending.{Pending}
use Rattle.casd_server.specs.Output.{AddsPart}
use Rattle.casd_server.specs.Input.{Begins}
use Rattle.casd_server.specs.Going.{Going}
use Rattle.casd_server.specs.declared.input.Found.{Found}
use Rattle.casd_server.proofs.Running.{Going-reads}
use Rattle.casd_server.proofs.Stepping.{ends-stop, fails-of, nil-of, filled-of, step-line, step-malformed, step-part, last-line, last-malformed, last-part, no-line, long-line, long-part}
use Rattle.casd_server.proofs.records.step.Goals as goal

pub returns-in_err-len-clause-err : goal.returns-in_err-len-clause-err
returns-in_err-len-clause-err g c =
    λ left written going.
    let p = err_from_is_err_and c.from_residual.result c.from_residual.ensures.1 in
    rw (p.1, p.2)
    (ends-stop left _ (g.S.Source.left c.fill.new.source) written _ c.args.running.now.input c.fill.new.self c.args.running.now.seats c.args.running.now.number c.in_err-len.field-0.0 going c.in_err-len.ensures.err (fails-of c.in_err-len.field-0.0 _ c.in_err-len.ensures.spent))

pub returns-in_err-answer-in-Line-clause-err : goal.returns-in_err-answer-in-Line-clause-err
returns-in_err-answer-in-Line-clause-err g c =
    λ left written going.
    let p = err_from_is_err_and c.from_residual-in_err-answer-in-Line.result c.from_residual-in_err-answer-in-Line.ensures.1 in
    rw (p.1, p.2)
    (step-part left (g.S.Source.left c.fill.new.source) written _ _ c.fill.new.self c.args.running.now.seats c.args.running.now.number c.in-Line.len c.in_err-answer-in-Line.field-0.0 (Going-reads left _ (g.S.Source.left c.fill.new.source) written _ c.args.running.now.input c.fill.new.self c.args.running.now.seats c.args.running.now.number going c.in_ok-len.ensures.ok c.fill.ensures.bounded) (subst (λ (f : Found). Begins f c.fill.new.self.bytes (g.S.Source.left c.fill.new.source)) c.in-Line.is c.in_ok-len.ensures.begins)
    (subst (λ (line : List ℕ). AddsPart (g.W.Sink.written c.args.sink.now) (g.W.Sink.written c.answer.new.sink) (line_result c.args.running.now.seats c.args.running.now.number (record_of line)).0) c.front.ensures c.in_err-answer-in-Line.ensures.err) c.in_err-answer-in-Line.ensures.end)

pub returns-in_err-answer-in-End-clause-err : goal.returns-in_err-answer-in-End-clause-err
returns-in_err-answer-in-End-clause-err g c =
    λ left written going.
    let p = err_from_is_err_and c.from_residual-in_err-answer-in-End.result c.from_residual-in_err-answer-in-End.ensures.1 in
    rw (p.1, p.2)
    (last-part left (g.S.Source.left c.fill.new.source) written _ _ c.fill.new.self c.args.running.now.seats c.args.running.now.number c.in_err-answer-in-End.field-0.0 (Going-reads left _ (g.S.Source.left c.fill.new.source) written _ c.args.running.now.input c.fill.new.self c.args.running.now.seats c.args.running.now.number going c.in_ok-len.ensures.ok c.fill.ensures.bounded) (subst (λ (f : Found). Begins f c.fill.new.self.bytes (g.S.Source.left c.fill.new.source)) c.in-End.is c.in_ok-len.ensures.begins) (filled-of c.fill.new.self.bytes (subst (λ (xs : List ℕ). eqb (length xs) 0 ≡ false) c.pending.ensures.value (sym c.is_empty.ensures ∙ c.if-is_empty.false)))
    (subst (λ (line : List ℕ). AddsPart (g.W.Sink.written c.args.sink.now) (g.W.Sink.written c.answer-in-End.new.sink) (line_result c.args.running.now.seats c.args.running.now.number (record_of line)).0) c.pending-in-End.ensures.value c.in_err-answer-in-End.ensures.err) c.in_err-answer-in-End.ensures.end)

pub returns-in_err-write_malformed-in-TooLong-clause-err : goal.returns-in_err-write_malformed-in-TooLong-clause-err
returns-in_err-write_malformed-in-TooLong-clause-err g c =
    λ left written going.
    let p = err_from_is_err_and c.from_residual-in_err-write_malformed-in-TooLong.result c.from_residual-in_err-write_malformed-in-TooLong.ensures.1 in
    rw (p.1, p.2)
    (long-part left (g.S.Source.left c.fill.new.source) written _ _ c.fill.new.self c.args.running.now.seats c.args.running.now.number c.in_err-write_malformed-in-TooLong.field-0.0 (Going-reads left _ (g.S.Source.left c.fill.new.source) written _ c.args.running.now.input c.fill.new.self c.args.running.now.seats c.args.running.now.number going c.in_ok-len.ensures.ok c.fill.ensures.bounded) (subst (λ (f : Found). Begins f c.fill.new.self.bytes (g.S.Source.left c.fill.new.source)) c.in-TooLong.is c.in_ok-len.ensures.begins)
    c.in_err-write_malformed-in-TooLong.ensures.err c.in_err-write_malformed-in-TooLong.ensures.end)

pub returns-then-not-branch-clause-ok : goal.returns-then-not-branch-clause-ok
returns-then-not-branch-clause-ok g c =
    λ left written going.
    step-malformed left (g.S.Source.left c.fill.new.source) written _ _ c.fill.new.self c.args.running.now.seats c.answer.new.seats c.args.running.now.number c.in-Line.len c.in_ok-answer-in-Line.field-0 (Going-reads left _ (g.S.Source.left c.fill.new.source) written _ c.args.running.now.input c.fill.new.self c.args.running.now.seats c.args.running.now.number going c.in_ok-len.ensures.ok c.fill.ensures.bounded) (subst (λ (f : Found). Begins f c.fill.new.self.bytes (g.S.Source.left c.fill.new.source)) c.in-Line.is c.in_ok-len.ensures.begins)
    (subst (λ (line : List ℕ). Adds (g.W.Sink.written c.args.sink.now) (g.W.Sink.written c.answer.new.sink) (line_result c.args.running.now.seats c.args.running.now.number (record_of line)).0) c.front.ensures c.in_ok-answer-in-Line.ensures.ok)
    (subst (λ (line : List ℕ). (line_result c.args.running.now.seats c.args.running.now.number (record_of line)).1 ≡ cond c.in_ok-answer-in-Line.field-0 (Some c.answer.new.seats) None) c.front.ensures c.in_ok-answer-in-Line.ensures.kept) c.if-not-branch.true

pub returns-else-not-branch-clause-ok : goal.returns-else-not-branch-clause-ok
returns-else-not-branch-clause-ok g c =
    λ left written going.
    subst (λ (p : Pending). Going left (g.S.Source.left c.fill.new.source) written (g.W.Sink.written c.answer.new.sink) p c.answer.new.seats (c.args.running.now.number + 1)) (sym c.advance.ensures)
    (step-line left (g.S.Source.left c.fill.new.source) written _ _ c.fill.new.self c.args.running.now.seats c.answer.new.seats c.args.running.now.number c.in-Line.len c.in_ok-answer-in-Line.field-0 (Going-reads left _ (g.S.Source.left c.fill.new.source) written _ c.args.running.now.input c.fill.new.self c.args.running.now.seats c.args.running.now.number going c.in_ok-len.ensures.ok c.fill.ensures.bounded) (subst (λ (f : Found). Begins f c.fill.new.self.bytes (g.S.Source.left c.fill.new.source)) c.in-Line.is c.in_ok-len.ensures.begins)
    (subst (λ (line : List ℕ). Adds (g.W.Sink.written c.args.sink.now) (g.W.Sink.written c.answer.new.sink) (line_result c.args.running.now.seats c.args.running.now.number (record_of line)).0) c.front.ensures c.in_ok-answer-in-Line.ensures.ok)
    (subst (λ (line : List ℕ). (line_result c.args.running.now.seats c.args.running.now.number (record_of line)).1 ≡ cond c.in_ok-answer-in-Line.field-0 (Some c.answer.new.seats) None) c.front.ensures c.in_ok-answer-in-Line.ensures.kept) c.if-not-branch.false)

pub returns-in_ok-write_malformed-in-TooLong-clause-ok : goal.returns-in_ok-write_malformed-in-TooLong-clause-ok
returns-in_ok-write_malformed-in-TooLong-clause-ok g c =
    λ left written going.
    long-line left (g.S.Source.left c.fill.new.source) written _ _ c.fill.new.self c.args.running.now.seats c.args.running.now.number (Going-reads left _ (g.S.Source.left c.fill.new.source) written _ c.args.running.now.input c.fill.new.self c.args.running.now.seats c.args.running.now.number going c.in_ok-len.ensures.ok c.fill.ensures.bounded) (subst (λ (f : Found). Begins f c.fill.new.self.bytes (g.S.Source.left c.fill.new.source)) c.in-TooLong.is c.in_ok-len.ensures.begins) c.in_ok-write_malformed-in-TooLong.ensures.ok

pub returns-then-is_empty-clause-ok : goal.returns-then-is_empty-clause-ok
returns-then-is_empty-clause-ok g c =
    λ left written going.
    no-line left (g.S.Source.left c.fill.new.source) written _ c.fill.new.self c.args.running.now.seats c.args.running.now.number (Going-reads left _ (g.S.Source.left c.fill.new.source) written _ c.args.running.now.input c.fill.new.self c.args.running.now.seats c.args.running.now.number going c.in_ok-len.ensures.ok c.fill.ensures.bounded) (subst (λ (f : Found). Begins f c.fill.new.self.bytes (g.S.Source.left c.fill.new.source)) c.in-End.is c.in_ok-len.ensures.begins)
    (nil-of c.fill.new.self.bytes (subst (λ (xs : List ℕ). eqb (length xs) 0 ≡ true) c.pending.ensures.value (sym c.is_empty.ensures ∙ c.if-is_empty.true)))

pub returns-then-not-branch-2-clause-ok : goal.returns-then-not-branch-2-clause-ok
returns-then-not-branch-2-clause-ok g c =
    λ left written going.
    last-malformed left (g.S.Source.left c.fill.new.source) written _ _ c.fill.new.self c.args.running.now.seats c.answer-in-End.new.seats c.args.running.now.number c.in_ok-answer-in-End.field-0 (Going-reads left _ (g.S.Source.left c.fill.new.source) written _ c.args.running.now.input c.fill.new.self c.args.running.now.seats c.args.running.now.number going c.in_ok-len.ensures.ok c.fill.ensures.bounded) (subst (λ (f : Found). Begins f c.fill.new.self.bytes (g.S.Source.left c.fill.new.source)) c.in-End.is c.in_ok-len.ensures.begins) (filled-of c.fill.new.self.bytes (subst (λ (xs : List ℕ). eqb (length xs) 0 ≡ false) c.pending.ensures.value (sym c.is_empty.ensures ∙ c.if-is_empty.false)))
    (subst (λ (line : List ℕ). Adds (g.W.Sink.written c.args.sink.now) (g.W.Sink.written c.answer-in-End.new.sink) (line_result c.args.running.now.seats c.args.running.now.number (record_of line)).0) c.pending-in-End.ensures.value c.in_ok-answer-in-End.ensures.ok)
    (subst (λ (line : List ℕ). (line_result c.args.running.now.seats c.args.running.now.number (record_of line)).1 ≡ cond c.in_ok-answer-in-End.field-0 (Some c.answer-in-End.new.seats) None) c.pending-in-End.ensures.value c.in_ok-answer-in-End.ensures.kept) c.if-not-branch-2.true

pub returns-else-not-branch-2-clause-ok : goal.returns-else-not-branch-2-clause-ok
returns-else-not-branch-2-clause-ok g c =
    λ left written going.
    last-line left (g.S.Source.left c.fill.new.source) written _ _ c.fill.new.self c.args.running.now.seats c.answer-in-End.new.seats c.args.running.now.number c.in_ok-answer-in-End.field-0 (Going-reads left _ (g.S.Source.left c.fill.new.source) written _ c.args.running.now.input c.fill.new.self c.args.running.now.seats c.args.running.now.number going c.in_ok-len.ensures.ok c.fill.ensures.bounded) (subst (λ (f : Found). Begins f c.fill.new.self.bytes (g.S.Source.left c.fill.new.source)) c.in-End.is c.in_ok-len.ensures.begins) (filled-of c.fill.new.self.bytes (subst (λ (xs : List ℕ). eqb (length xs) 0 ≡ false) c.pending.ensures.value (sym c.is_empty.ensures ∙ c.if-is_empty.false)))
    (subst (λ (line : List ℕ). Adds (g.W.Sink.written c.args.sink.now) (g.W.Sink.written c.answer-in-End.new.sink) (line_result c.args.running.now.seats c.args.running.now.number (record_of line)).0) c.pending-in-End.ensures.value c.in_ok-answer-in-End.ensures.ok)
    (subst (λ (line : List ℕ). (line_result c.args.running.now.seats c.args.running.now.number (record_of line)).1 ≡ cond c.in_ok-answer-in-End.field-0 (Some c.answer-in-End.new.seats) None) c.pending-in-End.ensures.value c.in_ok-answer-in-End.ensures.kept) c.if-not-branch-2.false
