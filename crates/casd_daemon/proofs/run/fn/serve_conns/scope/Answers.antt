use Rattle.std.proofs.Common.{◌≡◌, ◌<◌, ◌-◌, ◌∙◌, ap, refl, arith, sym, subst, inl, inr, [], IfSome}
use Rattle.casd_daemon.specs.Hosting.{tellers}
use Rattle.casd_daemon.specs.declared.run.RunEnd.{RunEnd}
use Rattle.casd_daemon.specs.Running.{IsNext, HasCause, share}
use Rattle.std.specs.VecDeque.{deque_len, deque_capacity}
use Rattle.casd_daemon.proofs.Runs.{runs_first, runs_begun, at_none, at_some, cause_wider}
use Rattle.casd_daemon.proofs.run.fn.serve_conns.scope.Goals as goal
use Rattle.casd_daemon.proofs.run.fn.serve_conns.scope.Goals.{in-Ok, in-Err-spawn_with, else-loop-test, then-loop-test+in-Ok-None, then-loop-test+in-Err}

pub loop-init : goal.loop-init
loop-init g c = (
  rw (c.new-children.ensures.items, c.of.ensures, c.of-2.ensures) (runs_first (tellers g.K.Shelf.shelved g.L.Link.left g.L.Link.written g.L.Link.read_faults g.L.Link.write_faults g.L.Link.sent g.L.Link.at_end) c.captures.lock.now c.captures.seat (g.H.HostOf.hosted c.captures.host) c.requires.0),
  refl,
  refl,
)

pub loop-preserved : goal.loop-preserved
loop-preserved g c =
    let tell = (tellers g.K.Shelf.shelved g.L.Link.left g.L.Link.written g.L.Link.read_faults g.L.Link.write_faults g.L.Link.sent g.L.Link.at_end) in
    let child_is : c.match-spawn_with.child ≡ (c.of-in-loop.result.value, c.of-in-loop-2.result.value) =
    elim c.match-spawn_with.branch [
      | in-Ok w ↦ w.child-is ∙ w.there-child.ensures
      | in-Err-spawn_with w ↦ w.child-is ∙ w.here-child.ensures
    ] in
    let came = at_some
    (λ conn. IsNext tell c.captures.lock.now c.of-2.result.value c.next_conn.new.seat c.next_conn.new.children.items (g.H.HostOf.hosted c.of.result.value) (g.H.HostOf.hosted c.next_conn.new.host) c.loop.count conn
    × (share < c.next_conn.new.seat.view.left) × (deque_len c.next_conn.new.children < deque_capacity c.next_conn.new.children))
    c.in-Ok-Some.field-0 c.in-Ok-Some.conn c.in-Ok-Some.field-0-is c.in-Ok-Some.ensures.some in (
      runs_begun tell c.captures.lock.now c.of-2.result.value c.next_conn.new.seat c.seat-theirs.new.from c.seat-theirs.result c.match-spawn_with.child c.of-in-loop.result.value c.of-in-loop-2.result.value
          c.next_conn.new.children.items c.push_back_reserved.new.self.items (g.H.HostOf.hosted c.of.result.value) (g.H.HostOf.hosted c.next_conn.new.host) c.loop.count c.in-Ok-Some.conn
          came.0 came.1 c.seat-theirs.ensures.old c.seat-theirs.ensures.new child_is c.of-in-loop.ensures c.of-in-loop-2.ensures c.push_back_reserved.ensures.items,
      omega (arith, c.loop.invariant.1),
      c.loop.invariant.2,
    )

pub end_all-requires : goal.end_all-requires
end_all-requires g c =
    elim c.loop-test.branch [
      | else-loop-test w ↦ rw (w.host-is, w.seat-is, w.children-is) c.loop.invariant.0
      | then-loop-test+in-Ok-None w ↦ rw (w.host-is, w.seat-is, w.children-is) (at_none w.in-Ok-None.field-0 w.in-Ok-None.field-0-is w.in-Ok-None.ensures.none).0
      | then-loop-test+in-Err w ↦ rw (w.host-is, w.seat-is, w.children-is) w.in-Err.ensures.err.0
    ]

pub returns : goal.returns
returns g c =
    let first = (g.H.HostOf.hosted c.captures.host).counts in
    let last = (g.H.HostOf.hosted c.end_all.new.host).counts in
    record {
      all = λ is. elim c.loop-test.branch [
        | else-loop-test w ↦ inl (omega (arith, c.loop.invariant.1, w.loop-test, c.loop.auto.counter-end))
        | then-loop-test+in-Ok-None w ↦ inr (subst (λ left. IfSome left (λ left. left ≡ [])) (sym (c.end_all.ensures.left ∙ ap (λ h. (g.H.HostOf.hosted h).told.left) w.host-is))
            (at_none w.in-Ok-None.field-0 w.in-Ok-None.field-0-is w.in-Ok-None.ensures.none).1)
        | then-loop-test+in-Err w ↦ absurd (w.in-Err.ensures.err.2 (sym w.end-is ∙ is))
      ];
      runs = rw (← c.of.ensures, ← c.of-2.ensures) c.end_all.ensures.runs;
      cause = elim c.loop-test.branch [
        | else-loop-test w ↦ subst (λ (e : RunEnd). HasCause e first last) (sym (w.end-is ∙ c.loop.invariant.2)) tt
        | then-loop-test+in-Ok-None w ↦ subst (λ (e : RunEnd). HasCause e first last) (sym (w.end-is ∙ c.loop.invariant.2)) tt
        | then-loop-test+in-Err w ↦ subst (λ (e : RunEnd). HasCause e first last) (sym w.end-is)
            (cause_wider w.in-Err.e first (g.H.HostOf.hosted c.loop.host).counts (g.H.HostOf.hosted w.next_conn.new.host).counts last
            (omega (arith, c.loop.invariant.0.fell.accepting, ap (λ h. (g.H.HostOf.hosted h).counts.accepting) c.of.ensures))
            w.in-Err.ensures.err.1
            (omega (arith, c.end_all.ensures.later, ap (λ h. (g.H.HostOf.hosted h).counts.accepting) w.host-is)))
      ];
    }
