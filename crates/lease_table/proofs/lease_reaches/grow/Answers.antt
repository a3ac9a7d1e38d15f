use Rattle.std.proofs.Common.{◌≡◌, ◌+◌, ◌<◌, ◌∙◌, List, length, take, drop, sym, ap, subst, arith}
use Rattle.lease_table.specs.declared.lease_reach.LeaseReach.{LeaseReach}
use Rattle.lease_table.specs.Table.{without, others}
use Rattle.lease_table.specs.Pairs.{IsReach}
use Rattle.lease_table.specs.LeaseReaches.{share, shares, AreReached, AreFull}
use Rattle.lease_table.proofs.LeaseReachesLaws.{same_length, map_kept, every_set, every_further, every_here, every_rest, every_later, every_all, reached_here, all_whole}
use Rattle.std.specs.List.{AllByRecursion}
use Rattle.store_core.specs.Reach.{Linked}
use Rattle.lease_table.proofs.PairSetLaws.{reach_more}
use Rattle.lease_table.proofs.lease_reaches.grow.Goals as goal
use Rattle.lease_table.proofs.lease_reaches.grow.Goals.{then-contains+in_ok-extend, else-contains}

pub extend-requires-clause-reach : goal.extend-requires-clause-reach
extend-requires-clause-reach c =
    let items = c.kept.kept.items in
    let x = c.index_mut.result.now in
    let n = same_length share items c.args.kept.now.items c.kept.invariant.same in
    let lt : c.kept.i < length items = omega (arith, n, c.kept-test.true) in
    let full = subst (λ (h : LeaseReach). h.len ≡ length h.pairs) (sym c.index_mut.ensures.value) (every_here (λ reach. reach.len ≡ length reach.pairs) items c.kept.i x lt c.kept.invariant.full) in
    reached_here (others c.args.digest.now (without c.args.gone.now c.args.rows.now)) items c.kept.i x lt c.index_mut.ensures.value full
    (subst (AreReached (others c.args.digest.now (without c.args.gone.now c.args.rows.now))) (sym c.kept.invariant.same) c.requires.reached)

pub returns-in_err-extend-clause-same : goal.returns-in_err-extend-clause-same
returns-in_err-extend-clause-same c =
    let items = c.kept.kept.items in
    let n = same_length share items c.args.kept.now.items c.kept.invariant.same in
    let lt : c.kept.i < length items = omega (arith, n, c.kept-test.true) in
    map_kept share items c.kept.i c.extend.new.reach c.index_mut.result.now lt (c.extend.ensures.same ∙ ap share c.index_mut.ensures.value) ∙ c.kept.invariant.same

pub kept-preserved : goal.kept-preserved
kept-preserved c =
    let items = c.kept.kept.items in
    let i = c.kept.i in
    let n = same_length share items c.args.kept.now.items c.kept.invariant.same in
    let lt : i < length items = omega (arith, n, c.kept-test.true) in
    let rows = (without c.args.gone.now c.args.rows.now) in
    let d = c.args.digest.now in
    elim c.if-contains.branch [
      | then-contains+in_ok-extend w ↦
          let y = w.extend.new.reach in
          let x = w.index_mut.result.now in
          subst (λ v. record {
            same : shares v.items ≡ shares c.args.kept.now.items;
            full : AreFull (drop (i + 1) v.items);
            done : AllByRecursion (λ reach. IsReach rows reach.lease.root reach.pairs) (take (i + 1) v.items);
          }) (sym w.kept-is)
          (record {
            same = map_kept share items i y x lt (w.extend.ensures.same ∙ ap share w.index_mut.ensures.value) ∙ c.kept.invariant.same;
            full = every_rest (λ reach. reach.len ≡ length reach.pairs) items i y lt c.kept.invariant.full;
            done = every_set (λ reach. IsReach rows reach.lease.root reach.pairs) items i y lt c.kept.invariant.done w.in_ok-extend.ensures.ok;
          })
      | else-contains w ↦
          let x = c.index.result.now in
          let full = subst (λ (h : LeaseReach). h.len ≡ length h.pairs) (sym c.index.ensures) (every_here (λ reach. reach.len ≡ length reach.pairs) items i x lt c.kept.invariant.full) in
          let reached = reached_here (others d rows) items i x lt c.index.ensures full (subst (AreReached (others d rows)) (sym c.kept.invariant.same) c.requires.reached) in
          let none = sym c.contains.ensures ∙ w.if-contains.false in
          let now = subst (λ (there : List Linked). IsReach there x.lease.root x.pairs) (sym c.requires.last) (reach_more (others d rows) _ x.lease.root x.pairs none reached) in
          subst (λ v. record {
            same : shares v.items ≡ shares c.args.kept.now.items;
            full : AreFull (drop (i + 1) v.items);
            done : AllByRecursion (λ reach. IsReach rows reach.lease.root reach.pairs) (take (i + 1) v.items);
          }) (sym w.kept-is)
          (record {
            same = c.kept.invariant.same;
            full = every_later (λ reach. reach.len ≡ length reach.pairs) items i lt c.kept.invariant.full;
            done = every_further (λ reach. IsReach rows reach.lease.root reach.pairs) items i x lt c.kept.invariant.done (subst (λ (h : LeaseReach). IsReach rows h.lease.root h.pairs) c.index.ensures now);
          })
    ]

pub returns-clause-ok : goal.returns-clause-ok
returns-clause-ok c =
    let n = same_length share c.kept.kept.items c.args.kept.now.items c.kept.invariant.same in
    all_whole (without c.args.gone.now c.args.rows.now) c.kept.kept.items (every_all (λ reach. IsReach (without c.args.gone.now c.args.rows.now) reach.lease.root reach.pairs) c.kept.kept.items c.kept.i (omega (arith, n, c.kept-test.false)) c.kept.invariant.done)
