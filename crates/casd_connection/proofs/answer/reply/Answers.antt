use Rattle.std.proofs.Common.{sym, ◌∙◌}
use Rattle.casd_connection.proofs.TurnLaws.{on_ok}
use Rattle.casd_connection.proofs.AnswerLaws.{reply_speaks, reply_passes}
use Rattle.casd_connection.proofs.answer.reply.Goals as goal

pub returns-then-not-is_live : goal.returns-then-not-is_live
returns-then-not-is_live c = reply_passes c.args.stream c.args.message.now c.args.calls.now c.requires.serving (sym c.is_live.ensures ∙ c.if-not-is_live.true)

pub returns : goal.returns
returns c =
    on_ok c.reply.result
    (λ r. reply_speaks c.args.stream c.args.message.now c.args.calls.now c.reply.new.self c.requires.serving (sym c.is_live.ensures ∙ c.if-not-is_live.false) r c.reply.ensures.reader c.reply.ensures.role)
    c.reply.ensures.ok
