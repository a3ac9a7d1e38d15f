use Rattle.grpc_calls.proofs.ReplyLaws.{live_sound, client_open, open_says, last_sayable}
use Rattle.grpc_calls.proofs.calls.Calls.half_close.Goals as goal

pub send-requires-clause-sound : goal.send-requires-clause-sound
send-requires-clause-sound c = live_sound c.args.stream c.args.self.now c.requires.live

pub send-requires-clause-live : goal.send-requires-clause-live
send-requires-clause-live c = open_says c.args.stream c.args.self.now.session.part (client_open c.args.stream c.args.self.now c.requires.live c.requires.client)

pub send-requires-clause-sayable : goal.send-requires-clause-sayable
send-requires-clause-sayable c = last_sayable c.args.self.now.session.part.role c.new-bytes.result c.args.stream c.args.self.now.session.part c.requires.client (client_open c.args.stream c.args.self.now c.requires.live c.requires.client)
