use Rattle.casd_connection.proofs.TurnLaws.{on_ok}
use Rattle.casd_connection.proofs.AnswerLaws.{answer_speaks}
use Rattle.casd_connection.proofs.answer.reply_and_finish.Goals as goal

pub returns : goal.returns
returns c =
    on_ok c.finish.result (λ q. answer_speaks c.args.stream c.args.message.now c.args.status.now c.args.calls.now c.reply.new.calls c.finish.new.calls c.in_ok-reply.ensures q) c.finish.ensures
