use Rattle.call_bench.proofs.FrameLaws.{bytes_by, spelled_by}
use Rattle.call_bench.proofs.alone.next_frame.Goals as goal

pub returns-clause-bytes : goal.returns-clause-bytes
returns-clause-bytes c = bytes_by c.args.reader.now.fault c.args.reader.now c.next.new.self c.next.result c.requires c.next.ensures.latched c.next.ensures.exact

pub returns-clause-spelled : goal.returns-clause-spelled
returns-clause-spelled c = spelled_by c.args.reader.now.fault c.args.reader.now c.next.new.self c.next.result c.requires c.next.ensures.latched c.next.ensures.exact
