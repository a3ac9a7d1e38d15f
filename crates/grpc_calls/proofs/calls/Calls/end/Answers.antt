use Rattle.grpc_calls.proofs.ReplyLaws.{open_says, trailers_sayable}
use Rattle.grpc_calls.proofs.calls.Calls.end.Goals as goal

pub send-requires-clause-live : goal.send-requires-clause-live
send-requires-clause-live c = open_says c.args.stream c.args.self.now.session.part c.requires.is_open

pub send-requires-clause-sayable : goal.send-requires-clause-sayable
send-requires-clause-sayable c = trailers_sayable c.args.self.now.session.part.role c.in-Ok.headers c.args.stream c.args.self.now.session.part c.requires.server c.in-Ok.ensures.small c.requires.is_open
