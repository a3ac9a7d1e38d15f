use Rattle.std.proofs.Common.{◌∙◌, List, not, refl, sym, ap, subst, arith}
use Rattle.digest_types.specs.Name.{HashAndSize}
use Rattle.store_core.specs.State.{same, is_among}
use Rattle.lease_table.proofs.PairSetLaws.{take_all}
use Rattle.lease_table.specs.Table.{DistinctDigests, other_digests}
use Rattle.lease_table.proofs.OrderLaws.{distinct_kept}
use Rattle.indexed_core.specs.Joined.{told, kept_flags}
use Rattle.indexed_core.proofs.HeldWithout.{left_first, left_more, flags_more}
use Rattle.indexed_core.proofs.index.forget.Goals as goal

pub gone-init : goal.gone-init
gone-init c = record {
  order_is = sym (left_first (λ (d : HashAndSize). d) c.args.gone.now c.args.order.now);
  flags_are = refl;
  distinct = c.requires.distinct;
  sum = c.requires.sum;
}

pub gone-preserved : goal.gone-preserved
gone-preserved c =
    let d = c.digest-item.result in
    let i = c.gone.digest-index in
    record {
      order_is = c.forget_one-left.ensures.order ∙ ap (other_digests d) c.gone.invariant.order_is ∙ left_more (λ (x : HashAndSize). x) c.args.gone.now i d c.args.order.now c.gone-test.true c.digest-item.is;
      flags_are = c.forget_one-left.ensures.flags ∙ ap (kept_flags (λ q. not (same q d))) c.gone.invariant.flags_are
          ∙ flags_more c.args.gone.now i d (told c.args.flags.now) c.gone-test.true c.digest-item.is;
      distinct = subst DistinctDigests (sym c.forget_one-left.ensures.order) (distinct_kept (λ other. not (same other d)) c.gone.order c.gone.invariant.distinct);
      sum = c.forget_one-left.ensures.used;
    }

pub returns-clause-flags : goal.returns-clause-flags
returns-clause-flags c =
    c.gone.invariant.flags_are
    ∙ ap (λ (ds : List HashAndSize). kept_flags (λ q. not (is_among ds q)) (told c.args.flags.now)) (take_all c.args.gone.now c.gone.digest-index (omega arith))
