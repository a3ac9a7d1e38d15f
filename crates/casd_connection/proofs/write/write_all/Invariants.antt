use Rattle.std.proofs.Common.{◌-◌, ◌≤◌, length, take}
use Rattle.casd_connection.specs.Linked.{linked}
use Rattle.casd_connection.specs.Writes.{Writes}
use Rattle.casd_connection.proofs.write.write_all.Given as goal

abbrev pub invariant-writes : goal.invariant-writes
invariant-writes g l =
    (l.done ≤ length l.bytes)
    × Writes (linked (g.L.Link.left l.fn.link) (g.L.Link.written l.fn.link) (g.L.Link.read_faults l.fn.link) (g.L.Link.write_faults l.fn.link) (g.L.Link.sent l.fn.link) (g.L.Link.at_end l.fn.link))
    (linked (g.L.Link.left l.link) (g.L.Link.written l.link) (g.L.Link.read_faults l.link) (g.L.Link.write_faults l.link) (g.L.Link.sent l.link) (g.L.Link.at_end l.link)) (take l.done l.bytes)

abbrev pub decreases-writes : goal.decreases-writes
decreases-writes g l = length l.bytes - l.done
