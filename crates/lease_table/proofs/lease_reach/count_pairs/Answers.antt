use Rattle.std.proofs.Common.{◌+◌, ◌<◌, ◌∙◌, ℕ, length, take, sym, ap, subst, arith}
use Rattle.lease_table.specs.Tallies.{touch, one_at, IsTallied}
use Rattle.indexmap.specs.IndexMap.{spare}
use Rattle.lease_table.specs.Pairs.{has}
use Rattle.lease_table.proofs.PairSetLaws.{pair_at, no_pair_at, take_all}
use Rattle.lease_table.proofs.LeaseReachLaws.{fresh, touch_again, touch_new, tallied_same, plus_assoc, sum_fits}
use Rattle.lease_table.proofs.lease_reach.count_pairs.Goals as goal
use Rattle.lease_table.proofs.lease_reach.count_pairs.Goals.{in-Some+then-not-is_before, in-Some+else-not-is_before, in_default}

pub add-requires : goal.add-requires
add-requires c = let room = c.pairs.invariant.room in omega (arith, room, c.pairs-test.true)

pub pairs-preserved : goal.pairs-preserved
pairs-preserved c =
    let keys = c.args.reach.now.pairs in
    let at = c.pairs.at in
    let rows = c.args.rows.now in
    let n = c.len-len.ensures.len in
    let lt : at < length keys = omega (arith, n, c.pairs-test.true) in
    let room = c.pairs.invariant.room in
    let used = c.pairs.invariant.used in
    elim c.match-get.branch [
      | in-Some+then-not-is_before w ↦
          let p = w.in-Some.pair in
          let h = pair_at keys at p (sym c.get.ensures ∙ w.in-Some.is) in
          let itself = ap (has (take at keys)) (sym h.1) ∙ fresh keys at p c.len-len.ensures.distinct lt in
          let other = sym w.is_before.ensures ∙ w.if-not-is_before.true in
          let spent = w.add.ensures.spare in
          let is = ap (λ t. spare t.counts) w.tally-is in
          record {
            room = omega (arith, room, spent, is, c.pairs-test.true);
            used = omega (arith, used, spent, is, c.pairs-test.true);
            tallied = λ f fits small tallied.
                let old = c.pairs.invariant.tallied f fits small tallied in
                subst (λ t. IsTallied rows (λ d. f d + touch (take (at + 1) keys) d) t.counts.entries t.bytes) (sym w.tally-is)
                (tallied_same rows (λ d. (f d + touch (take at keys) d) + one_at p.digest d) (λ d. f d + touch (take (at + 1) keys) d) w.add.new.self.counts.entries w.add.new.self.bytes
                (λ d. plus_assoc (f d) (touch (take at keys) d) (one_at p.digest d) ∙ ap (λ (k : ℕ). f d + k) (sym (touch_new keys at p d lt h.1 itself other)))
                (w.add.ensures.tallied (λ d. f d + touch (take at keys) d) (sum_fits (f p.digest) (take at keys) p itself other (fits p.digest)) small old));
          }
      | in-Some+else-not-is_before w ↦
          let p = w.in-Some.pair in
          let h = pair_at keys at p (sym c.get.ensures ∙ w.in-Some.is) in
          let other = sym w.is_before.ensures ∙ w.if-not-is_before.false in
          let is = ap (λ t. spare t.counts) w.tally-is in
          record {
            room = omega (arith, room, is, c.pairs-test.true);
            used = omega (arith, used, is, c.pairs-test.true);
            tallied = λ f fits small tallied.
                subst (λ t. IsTallied rows (λ d. f d + touch (take (at + 1) keys) d) t.counts.entries t.bytes) (sym w.tally-is)
                (tallied_same rows (λ d. f d + touch (take at keys) d) (λ d. f d + touch (take (at + 1) keys) d) c.pairs.tally.counts.entries c.pairs.tally.bytes
                (λ d. ap (λ (k : ℕ). f d + k) (sym (touch_again keys at p d lt h.1 other)))
                (c.pairs.invariant.tallied f fits small tallied));
          }
      | in_default w ↦ absurd (let le = no_pair_at keys at (sym c.get.ensures ∙ w.in_default.is) in omega (arith, le, lt))
    ]

pub returns-clause-tallied : goal.returns-clause-tallied
returns-clause-tallied c = λ f fits small tallied.
    let keys = c.args.reach.now.pairs in
    let n = c.len-len.ensures.len in
    tallied_same c.args.rows.now (λ d. f d + touch (take c.pairs.at keys) d) (λ d. f d + touch keys d) c.pairs.tally.counts.entries c.pairs.tally.bytes
    (λ d. ap (λ xs. f d + touch xs d) (take_all keys c.pairs.at (omega (arith, n))))
    (c.pairs.invariant.tallied f fits small tallied)

pub returns-clause-spare : goal.returns-clause-spare
returns-clause-spare c = let used = c.pairs.invariant.used in let n = c.len-len.ensures.len in omega (arith, used, n)
