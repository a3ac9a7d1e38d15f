use Rattle.std.proofs.Common.{◌≡◌, [], ◌∙◌, sym, ap, subst}
use Rattle.store_core.specs.State.{Valid}
use Rattle.turn_lock.specs.Seats.{AtLock}
use Rattle.casd_daemon.specs.Hosting.{tellers}
use Rattle.casd_daemon.specs.Running.{Runs}
use Rattle.casd_daemon.specs.Closing.{first_passes}
use Rattle.casd_daemon.proofs.Closes.{closes_all}
use Rattle.store_core.proofs.Histories.{valid_after}
use Rattle.casd_daemon.proofs.close.run_lock.Goals as goal

pub returns-clause-ok : goal.returns-clause-ok
returns-clause-ok g c =
    let tell = (tellers g.K.Shelf.shelved g.L.Link.left g.L.Link.written g.L.Link.read_faults g.L.Link.write_faults g.L.Link.sent g.L.Link.at_end) in
    let ran = c.serve_beside-ran.result.0 in
    let worked = c.serve_beside-ran.result.1 in
    let old = g.H.HostOf.hosted c.args.host in
    let now = g.H.HostOf.hosted ran.host in
    closes_all tell c.args.lock c.args.seat ran.seat worked.seat c.join.new.into c.in-Ok.door.view old now c.close-store.result.state ran.count worked.passes
    (first_passes c.args.due) c.made-entries.result c.requires.new c.in-Ok.ensures.begins
    (subst (λ (s : AtLock). Runs tell c.args.lock s ran.seat [] old now ran.count) c.begin.ensures.seat c.serve_beside-ran.ensures.runs)
    c.serve_beside-ran.ensures.worked c.join.ensures.joined c.close-store.ensures.made c.close-store.ensures.value c.made-entries.ensures

pub returns-clause-valid : goal.returns-clause-valid
returns-clause-valid g c =
    let view = c.join.new.into.view in
    let first : c.begin.new.seat.view.start ≡ c.args.seat.view.start = ap (λ (s : AtLock). s.view.start) c.begin.ensures.seat in
    subst Valid (sym c.close-store.ensures.value)
    (valid_after view.start view.seen
    (subst Valid (sym (c.join.ensures.joined.start ∙ c.serve_beside-ran.ensures.runs.start ∙ first)) c.requires.new.begin.valid))
