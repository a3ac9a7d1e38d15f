use Rattle.std.proofs.Common.{◌∙◌, ℕ, ap, arith}
use Rattle.store_core.specs.Reach.{within}
use Rattle.lease_table.proofs.DepthLaws.{near_roots, near_more, near_settled}
use Rattle.lease_table.proofs.depth.near.Goals as goal

pub steps-init : goal.steps-init
steps-init c = near_roots c.args.rows.now c.args.starts.now c.add_all.new.pairs c.new-pairs.result c.new-pairs.ensures c.in_ok-add_all.ensures.adds

pub follow-requires-clause-order : goal.follow-requires-clause-order
follow-requires-clause-order c = omega arith

pub follow-requires-clause-end : goal.follow-requires-clause-end
follow-requires-clause-end c = let n = c.len-to.ensures.len in omega (arith, n)

pub steps-preserved : goal.steps-preserved
steps-preserved c =
    near_more c.args.rows.now c.args.starts.now c.steps.pairs c.follow.new.pairs c.steps.counter c.steps.from c.len-to.result c.len-to.ensures.len c.follow.ensures.begins c.in_ok-follow.ensures.adds c.steps.invariant

pub returns-then-from-to : goal.returns-then-from-to
returns-then-from-to c = λ pair.
    let n = c.len-to.ensures.len in
    near_settled c.args.rows.now c.args.starts.now c.steps.pairs c.steps.counter c.steps.from c.args.steps (omega (arith, n, c.if-from-to.true)) (omega arith) c.steps.invariant pair

pub returns : goal.returns
returns c = λ pair. c.steps.invariant.near pair ∙ ap (λ (n : ℕ). within c.args.rows.now c.args.starts.now n pair) (omega arith)
