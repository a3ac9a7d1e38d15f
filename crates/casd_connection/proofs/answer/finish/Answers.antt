use Rattle.std.proofs.Common.{sym, ◌∙◌}
use Rattle.casd_connection.proofs.TurnLaws.{on_ok}
use Rattle.casd_connection.proofs.AnswerLaws.{finish_speaks, finish_passes}
use Rattle.casd_connection.proofs.answer.finish.Goals as goal

pub returns-then-not-is_live : goal.returns-then-not-is_live
returns-then-not-is_live c = finish_passes c.args.stream c.args.status.now c.args.calls.now c.requires.serving (sym c.is_live.ensures ∙ c.if-not-is_live.true)

pub returns : goal.returns
returns c =
    on_ok c.finish.result
    (λ r. finish_speaks c.args.stream c.args.status.now c.args.calls.now c.finish.new.self c.requires.serving (sym c.is_live.ensures ∙ c.if-not-is_live.false) r c.finish.ensures.reader c.finish.ensures.role)
    c.finish.ensures.ok
