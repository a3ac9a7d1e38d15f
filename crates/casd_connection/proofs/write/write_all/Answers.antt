use Rattle.std.proofs.Common.{arith}
use Rattle.casd_connection.specs.Linked.{linked}
use Rattle.casd_connection.proofs.LinkLaws.{writes_more}
use Rattle.casd_connection.proofs.write.write_all.Goals as goal

pub writes-preserved : goal.writes-preserved
writes-preserved g c = (
  omega (arith, c.writes.invariant.0, c.writes-test.true, c.in-Ok.ensures.bound),
  writes_more (linked (g.L.Link.left c.args.link.now) (g.L.Link.written c.args.link.now) (g.L.Link.read_faults c.args.link.now) (g.L.Link.write_faults c.args.link.now) (g.L.Link.sent c.args.link.now) (g.L.Link.at_end c.args.link.now)) (linked (g.L.Link.left c.writes.link) (g.L.Link.written c.writes.link) (g.L.Link.read_faults c.writes.link) (g.L.Link.write_faults c.writes.link) (g.L.Link.sent c.writes.link) (g.L.Link.at_end c.writes.link)) (linked (g.L.Link.left c.write.new.self) (g.L.Link.written c.write.new.self) (g.L.Link.read_faults c.write.new.self) (g.L.Link.write_faults c.write.new.self) (g.L.Link.sent c.write.new.self) (g.L.Link.at_end c.write.new.self)) c.args.bytes.now c.writes.done c.in-Ok.n c.writes.invariant.1 c.in-Ok.ensures.bytes c.in-Ok.ensures.left c.in-Ok.ensures.read_faults c.in-Ok.ensures.cause.later c.in-Ok.ensures.at_end,
)
