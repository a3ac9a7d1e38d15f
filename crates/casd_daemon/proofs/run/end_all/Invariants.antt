use Rattle.std.proofs.Common.{◌≡◌, ◌≤◌}
use Rattle.std.specs.VecDeque.{deque_len}
use Rattle.casd_daemon.specs.Hosting.{tellers}
use Rattle.casd_daemon.specs.Running.{Runs}
use Rattle.casd_daemon.proofs.run.end_all.Given as goal

abbrev pub invariant-loop : goal.invariant-loop
invariant-loop g l =
    Runs (tellers g.K.Shelf.shelved g.L.Link.left g.L.Link.written g.L.Link.read_faults g.L.Link.write_faults g.L.Link.sent g.L.Link.at_end) l.lock l.first.seat.value l.seat l.children.items (g.H.HostOf.hosted l.first.host.value) (g.H.HostOf.hosted l.host) l.count
    × ((g.H.HostOf.hosted l.host).told.left ≡ (g.H.HostOf.hosted l.initial.host).told.left)
    × ((g.H.HostOf.hosted l.initial.host).counts.accepting ≤ (g.H.HostOf.hosted l.host).counts.accepting)

abbrev pub decreases-loop : goal.decreases-loop
decreases-loop g l = deque_len l.children
