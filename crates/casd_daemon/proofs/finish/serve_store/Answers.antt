use Rattle.std.proofs.Common.{◌≡◌, nat_lt, rules, sym, ap, subst, ◌∙◌}
use Rattle.store_core.specs.State.{State, used}
use Rattle.casd_daemon.specs.Closing.{is_over}
use Rattle.casd_daemon.specs.Hosting.{tellers}
use Rattle.casd_daemon.specs.Serving.{ServesStore}
use Rattle.casd_daemon.proofs.Serves.{serves_end, over_by_usage}
use Rattle.casd_daemon.proofs.finish.serve_store.Goals as goal

pub returns-in-Ok-run_lock-clause-serves : goal.returns-in-Ok-run_lock-clause-serves
returns-in-Ok-run_lock-clause-serves g c =
    let tell = (tellers g.K.Shelf.shelved g.L.Link.left g.L.Link.written g.L.Link.read_faults g.L.Link.write_faults g.L.Link.sent g.L.Link.at_end) in
    let sums = c.in-Ok-run_lock.sums in
    let start = c.in-Ok.seat.view.start in
    let start_is : start ≡ c.args.store.state = search rules in
    let due_is = over_by_usage c.args.store.state c.usage-usage.result c.usage-usage.ensures in
    let old = g.H.HostOf.hosted c.args.host in
    let new = g.H.HostOf.hosted c.finish.result.0 in
    subst (λ (s : State). ServesStore tell s c.args.most c.finish.result.1 old.told new.told old.counts new.counts) start_is
    (serves_end tell start c.args.most (nat_lt c.usage-usage.result.high c.usage-usage.result.used) sums.end c.finish.result.1 old (g.H.HostOf.hosted sums.host) new sums.store.state sums.count sums.entries
    (due_is ∙ ap is_over (sym start_is)) c.in-Ok-run_lock.ensures.ok c.in-Ok-run_lock.ensures.all c.in-Ok-run_lock.ensures.cause c.in-Ok-run_lock.ensures.later c.finish.ensures.later c.finish.ensures.concludes)
