use Rattle.std.proofs.Common.{arith, inl, inr}
use Rattle.std.proofs.lemmas.Result.{on_ok_weaker}
use Rattle.proto_wire.proofs.Bounds.{bound_small, bound_step, groups_end, groups_pushed}
use Rattle.proto_wire.proofs.write.+push_groups.Goals as goal
use Rattle.proto_wire.proofs.write.+push_groups.Goals.{then-more-le1-via-then-more-le1, then-more-le1-via-else-more-le1+then-n-lt128}

pub overflow_cast-n : goal.overflow_cast-n
overflow_cast-n t c =
    elim c.then-more-le1.branch [
      | then-more-le1-via-then-more-le1 w ↦ omega (arith, c.requires.small, bound_small c.args.more w.if-more-le1.true)
      | then-more-le1-via-else-more-le1+then-n-lt128 w ↦ omega arith
    ]

pub returns-then-more-le1-clause-ok : goal.returns-then-more-le1-clause-ok
returns-then-more-le1-clause-ok t c =
    elim c.then-more-le1.branch [
      | then-more-le1-via-then-more-le1 w ↦ rw (groups_end c.args.more c.args.n (inl w.if-more-le1.true)) c.in_ok-push.ensures.items
      | then-more-le1-via-else-more-le1+then-n-lt128 w ↦ rw (groups_end c.args.more c.args.n (inr w.if-n-lt128.true)) c.in_ok-push.ensures.items
    ]

pub push_groups-requires : goal.push_groups-requires
push_groups-requires t c = (omega arith, (omega arith, omega (arith, c.requires.small, bound_step c.args.more (omega arith))))

pub returns-clause-ok : goal.returns-clause-ok
returns-clause-ok t c =
    on_ok_weaker c.push_groups.result (λ e. groups_pushed c.args.more c.args.n _ _ _ (omega arith) (omega arith) c.in_ok-push-2.ensures.items e) c.push_groups.ensures.ok
