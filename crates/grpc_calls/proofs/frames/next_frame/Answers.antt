use Rattle.grpc_calls.proofs.FrameLaws.{answers_bytes, answers_spelled, answers_less, none_is}
use Rattle.grpc_calls.proofs.frames.next_frame.Goals as goal

pub returns-clause-bytes : goal.returns-clause-bytes
returns-clause-bytes c = answers_bytes c.args.reader.now c.next.new.self c.next.result c.requires.bytes (c.next.ensures.exact (none_is c.args.reader.now.fault c.requires.sound))

pub returns-clause-spelled : goal.returns-clause-spelled
returns-clause-spelled c = answers_spelled c.args.reader.now c.next.new.self c.next.result c.requires.bytes (c.next.ensures.exact (none_is c.args.reader.now.fault c.requires.sound))

pub returns-clause-less : goal.returns-clause-less
returns-clause-less c = answers_less c.args.reader.now c.next.new.self c.next.result (c.next.ensures.exact (none_is c.args.reader.now.fault c.requires.sound))
