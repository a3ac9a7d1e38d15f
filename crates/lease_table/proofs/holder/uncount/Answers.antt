use Rattle.std.proofs.Common.{◌+◌, ◌∙◌, cond, drop, sym, subst, arith}
use Rattle.store_core.specs.State.{is_among}
use Rattle.lease_table.specs.Tallies.{one_at, IsTallied}
use Rattle.lease_table.proofs.HoldLaws.{taken_one, taken_all, get_none}
use Rattle.lease_table.proofs.LeaseReachLaws.{tallied_same}
use Rattle.lease_table.proofs.holder.uncount.Goals as goal
use Rattle.lease_table.proofs.holder.uncount.Goals.{in-Some, in_default}

pub digests-preserved : goal.digests-preserved
digests-preserved c = λ f small tallied.
    let ds = c.args.holder.now.digests in
    let at = c.digests.at in
    let rows = c.args.rows.now in
    let n = c.len-len.ensures.len in
    elim c.match-get.branch [
      | in-Some w ↦
          let d = w.in-Some.digest in
          subst (λ t. IsTallied rows (λ q. f q + cond (is_among (drop (at + 1) ds) q) 1 0) t.counts.entries t.bytes) (sym w.tally-is)
          (w.take.ensures.tallied (λ q. f q + cond (is_among (drop (at + 1) ds) q) 1 0) small
          (tallied_same rows (λ q. f q + cond (is_among (drop at ds) q) 1 0) (λ q. (f q + cond (is_among (drop (at + 1) ds) q) 1 0) + one_at d q) c.digests.tally.counts.entries c.digests.tally.bytes
          (λ q. taken_one ds at d q (f q) c.len-len.ensures.distinct (sym c.get.ensures ∙ w.in-Some.is))
          (c.digests.invariant f small tallied)))
      | in_default w ↦ absurd (let le = get_none ds at (sym c.get.ensures ∙ w.in_default.is) in omega (arith, le, n, c.digests-test.true))
    ]

pub returns-clause-tallied : goal.returns-clause-tallied
returns-clause-tallied c = λ f small tallied.
    let ds = c.args.holder.now.digests in
    let n = c.len-len.ensures.len in
    tallied_same c.args.rows.now (λ q. f q + cond (is_among (drop c.digests.at ds) q) 1 0) f c.digests.tally.counts.entries c.digests.tally.bytes
    (λ q. taken_all ds c.digests.at q (f q) (omega (arith, n, c.digests-test.false)))
    (c.digests.invariant f small tallied)
