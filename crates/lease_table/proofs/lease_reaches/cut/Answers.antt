use Rattle.std.proofs.Common.{◌≡◌, ◌<◌, ◌∙◌, length, ap, refl, arith}
use Rattle.lease_table.specs.declared.lease_reach.LeaseReach.{LeaseReach}
use Rattle.lease_table.specs.LeaseReaches.{share}
use Rattle.lease_table.proofs.LeaseReachesLaws.{same_length, map_kept, every_set, every_all, share_cut}
use Rattle.lease_table.proofs.lease_reaches.cut.Goals as goal

pub kept-preserved : goal.kept-preserved
kept-preserved c =
    let r = c.index_mut-reach.result.now in
    let y : LeaseReach = record { lease = r.lease; pairs = c.truncate.new.self; len = c.len-reach.result } in
    let items = c.kept.kept.items in
    let n = same_length share items c.args.kept.now.items c.kept.invariant.same in
    let lt : c.kept.i < length items = omega (arith, n, c.kept-test.true) in
    let cut = share_cut r y refl c.truncate.ensures c.len-reach.ensures.len in
    record {
      same = map_kept share items c.kept.i y r lt (cut ∙ ap share c.index_mut-reach.ensures.value) ∙ c.kept.invariant.same;
      full = every_set (λ reach. reach.len ≡ length reach.pairs) items c.kept.i y lt c.kept.invariant.full c.len-reach.ensures.len;
    }

pub returns-clause-full : goal.returns-clause-full
returns-clause-full c =
    let n = same_length share c.kept.kept.items c.args.kept.now.items c.kept.invariant.same in
    every_all (λ reach. reach.len ≡ length reach.pairs) c.kept.kept.items c.kept.i (omega (arith, n, c.kept-test.false)) c.kept.invariant.full
