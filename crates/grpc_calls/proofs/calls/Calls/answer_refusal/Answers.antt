use Rattle.std.proofs.Common.{true}
use Rattle.grpc_calls.proofs.ReplyLaws.{fresh_says, fresh_sayable}
use Rattle.grpc_calls.proofs.calls.Calls.answer_refusal.Goals as goal

pub send-requires-clause-live : goal.send-requires-clause-live
send-requires-clause-live c = fresh_says c.args.stream c.args.self.now.session.part c.requires.fresh

pub send-requires-clause-sayable : goal.send-requires-clause-sayable
send-requires-clause-sayable c = fresh_sayable c.args.stream c.args.self.now.session.part c.in-Ok.headers true c.requires.fresh c.in-Ok.ensures.small
