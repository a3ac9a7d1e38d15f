use Rattle.std.proofs.Common.{◌≡◌, ◌+◌, ◌<◌, ◌∙◌, length, sym, ap, arith}
use Rattle.lease_table.specs.declared.lease_reach.LeaseReach.{LeaseReach}
use Rattle.lease_table.specs.LeaseReaches.{share, whole}
use Rattle.lease_table.proofs.LeaseReachesLaws.{same_length, map_kept, every_set, every_all, full_shares, uncounted_rest, of_others, others_small, tallied_apart, tallied_whole, whole_share}
use Rattle.lease_table.proofs.lease_reaches.count_all.Goals as goal

pub returns-clause-wholes : goal.returns-clause-wholes
returns-clause-wholes c =
    let n = same_length whole c.kept.kept.items c.args.kept.now.items c.kept.invariant.whole in
    full_shares c.kept.kept.items (every_all (λ reach. reach.len ≡ length reach.pairs) c.kept.kept.items c.kept.i (omega (arith, n, c.kept-test.false)) c.kept.invariant.full)
    ∙ c.kept.invariant.whole

pub returns-clause-full : goal.returns-clause-full
returns-clause-full c =
    let n = same_length whole c.kept.kept.items c.args.kept.now.items c.kept.invariant.whole in
    every_all (λ reach. reach.len ≡ length reach.pairs) c.kept.kept.items c.kept.i (omega (arith, n, c.kept-test.false)) c.kept.invariant.full

pub kept-preserved : goal.kept-preserved
kept-preserved c =
    let items = c.kept.kept.items in
    let i = c.kept.i in
    let rows = c.args.rows.now in
    let x = c.index_mut.result.now in
    let y = c.count_pairs.new.reach in
    let counts = c.kept.tally.counts.entries in
    let bytes = c.kept.tally.bytes in
    let is = c.index_mut.ensures.value in
    let n = same_length whole items c.args.kept.now.items c.kept.invariant.whole in
    let lt : i < length items = omega (arith, n, c.kept-test.true) in
    let reach = c.count_pairs.ensures.reach in
    let all : y.len ≡ length y.pairs = ap (λ (h : LeaseReach). h.len) reach ∙ sym (ap (λ (h : LeaseReach). length h.pairs) reach) in
    let whole_is : whole y ≡ whole x = ap whole reach in
    let share_is : share y ≡ whole x = ap share reach ∙ whole_share x in
    let rest = uncounted_rest items i x y lt is in
    let room = c.kept.invariant.room in
    let spent = c.count_pairs.ensures.spare in
    record {
      whole = map_kept whole items i y x lt (whole_is ∙ ap whole is) ∙ c.kept.invariant.whole;
      full = every_set (λ h. h.len ≡ length h.pairs) items i y lt c.kept.invariant.full all;
      room = omega (arith, rest, room, spent);
      used = let used = c.kept.invariant.used in omega (arith, rest, used, spent);
      tallied = λ others small tallied.
          tallied_whole rows items i x c.count_pairs.new.tally.counts.entries c.count_pairs.new.tally.bytes lt is others y share_is
          (c.count_pairs.ensures.tallied (λ q. of_others rows items i x counts bytes lt is q + others q)
          (λ q. let few = others_small rows items i x counts bytes lt is q in let less = small q in omega (arith, few, less))
          c.requires.small
          (tallied_apart rows items i x counts bytes lt is others (c.kept.invariant.tallied others small tallied)));
    }

pub count_pairs-requires : goal.count_pairs-requires
count_pairs-requires c =
    let items = c.kept.kept.items in
    let x = c.index_mut.result.now in
    let n = same_length whole items c.args.kept.now.items c.kept.invariant.whole in
    let lt : c.kept.i < length items = omega (arith, n, c.kept-test.true) in
    let rest = uncounted_rest items c.kept.i x x lt c.index_mut.ensures.value in
    let room = c.kept.invariant.room in
    omega (arith, rest, room)

pub returns-clause-spare : goal.returns-clause-spare
returns-clause-spare c = let used = c.kept.invariant.used in omega (arith, used)

pub returns-clause-tallied : goal.returns-clause-tallied
returns-clause-tallied c = λ others small tallied. c.kept.invariant.tallied others small tallied
