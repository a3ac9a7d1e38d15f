use Rattle.std.proofs.Common.{List, length, ap, subst, arith}
use Rattle.casd_daemon.specs.Hosting.{tellers}
use Rattle.casd_daemon.specs.Running.{Runs}
use Rattle.casd_daemon.proofs.Runs.{runs_ends}
use Rattle.casd_daemon.proofs.run.end_oldest.Goals as goal

pub returns-clause-runs : goal.returns-clause-runs
returns-clause-runs g c =
    let tell = (tellers g.K.Shelf.shelved g.L.Link.left g.L.Link.written g.L.Link.read_faults g.L.Link.write_faults g.L.Link.sent g.L.Link.at_end) in
    let before = g.H.HostOf.hosted c.args.first.now.host.value in
    runs_ends tell c.args.lock.now c.args.first.now.seat.value c.args.seat.now c.join-theirs.result.seat c.join.new.into c.in-Some.child c.pop_front.new.self.items
    before (g.H.HostOf.hosted c.args.host.now) (g.H.HostOf.hosted c.ended.new.self) c.args.count c.join-theirs.result.conn c.join-theirs.result.report
    (subst (λ (waiting : List _). Runs tell c.args.lock.now c.args.first.now.seat.value c.args.seat.now waiting before (g.H.HostOf.hosted c.args.host.now) c.args.count) c.in-Some.ensures.items c.requires)
    c.join-theirs.ensures c.join.ensures.joined c.ended.ensures.ended c.ended.ensures.later c.ended.ensures.name

pub ended-requires : goal.ended-requires
ended-requires g c = omega (arith, c.requires.out, ap length c.in-Some.ensures.items)
