use Rattle.std.proofs.Common.{◌≡◌}
use Rattle.casd_daemon.specs.declared.run.RunEnd.TheVariants.{Done}
use Rattle.casd_daemon.specs.Hosting.{tellers}
use Rattle.casd_daemon.specs.Running.{Runs}
use Rattle.casd_daemon.proofs.run.fn.serve_conns.scope.Given as goal

abbrev pub invariant-loop : goal.invariant-loop
invariant-loop g l =
    Runs (tellers g.K.Shelf.shelved g.L.Link.left g.L.Link.written g.L.Link.read_faults g.L.Link.write_faults g.L.Link.sent g.L.Link.at_end) l.lock l.first.seat.value l.seat l.children.items (g.H.HostOf.hosted l.first.host.value) (g.H.HostOf.hosted l.host) l.count
    × (l.count ≡ l.counter) × (l.end ≡ Done)
