use Rattle.std.proofs.Common.{◌≡◌, ◌+◌, ◌-◌, ◌<◌, ◌∙◌, ℕ, length, take, sym, ap, subst, arith}
use Rattle.lease_table.specs.Tallies.{touch, one_at, IsTallied}
use Rattle.lease_table.specs.Pairs.{has}
use Rattle.lease_table.proofs.PairSetLaws.{pair_at, no_pair_at}
use Rattle.lease_table.proofs.LeaseReachLaws.{fresh, touch_again, touch_new, tallied_same, plus_assoc, take_least, none_left}
use Rattle.lease_table.proofs.lease_reach.uncount_pairs.Goals as goal
use Rattle.lease_table.proofs.lease_reach.uncount_pairs.Goals.{in-Some+then-not-is_before, in-Some+else-not-is_before, in_default}

pub pairs-init : goal.pairs-init
pairs-init c = λ f small tallied.
    let keys = c.args.reach.now.pairs in
    let n = c.len.ensures.len in
    tallied_same c.args.rows.now (λ d. f d + touch (take c.args.reach.now.len keys) d) (λ d. f d + touch (take (c.min-len.result - 0) keys) d) c.args.tally.now.counts.entries c.args.tally.now.bytes
    (λ d. ap (λ xs. f d + touch xs d) (take_least keys c.args.reach.now.len (c.min-len.result - 0) (let m = c.min-len.ensures in omega (arith, m, n))))
    tallied

pub pairs-preserved : goal.pairs-preserved
pairs-preserved c = λ f small tallied.
    let keys = c.args.reach.now.pairs in
    let len = c.min-len.result in
    let done = c.pairs.done in
    let at = len - 1 - done in
    let rows = c.args.rows.now in
    let n = c.len.ensures.len in
    let m = c.min-len.ensures in
    let lt : at < length keys = omega (arith, n, m, c.pairs-test.true) in
    let more : len - done ≡ at + 1 = omega (arith, c.pairs-test.true) in
    let less : at ≡ len - (done + 1) = omega (arith, c.pairs-test.true) in
    let old = tallied_same rows (λ d. f d + touch (take (len - done) keys) d) (λ d. f d + touch (take (at + 1) keys) d) c.pairs.tally.counts.entries c.pairs.tally.bytes
    (λ d. ap (λ k. f d + touch (take k keys) d) more) (c.pairs.invariant f small tallied) in
    elim c.match-get.branch [
      | in-Some+then-not-is_before w ↦
          let p = w.in-Some.pair in
          let h = pair_at keys at p (sym c.get.ensures ∙ w.in-Some.is) in
          let itself = ap (has (take at keys)) (sym h.1) ∙ fresh keys at p c.len.ensures.distinct lt in
          let other = sym w.is_before.ensures ∙ w.if-not-is_before.true in
          subst (λ t. IsTallied rows (λ d. f d + touch (take (len - (done + 1)) keys) d) t.counts.entries t.bytes) (sym w.tally-is)
          (tallied_same rows (λ d. f d + touch (take at keys) d) (λ d. f d + touch (take (len - (done + 1)) keys) d) w.take.new.self.counts.entries w.take.new.self.bytes
          (λ d. ap (λ k. f d + touch (take k keys) d) less)
          (w.take.ensures.tallied (λ d. f d + touch (take at keys) d) small
          (tallied_same rows (λ d. f d + touch (take (at + 1) keys) d) (λ d. (f d + touch (take at keys) d) + one_at p.digest d) c.pairs.tally.counts.entries c.pairs.tally.bytes
          (λ d. ap (λ (k : ℕ). f d + k) (touch_new keys at p d lt h.1 itself other) ∙ sym (plus_assoc (f d) (touch (take at keys) d) (one_at p.digest d)))
          old)))
      | in-Some+else-not-is_before w ↦
          let p = w.in-Some.pair in
          let h = pair_at keys at p (sym c.get.ensures ∙ w.in-Some.is) in
          let other = sym w.is_before.ensures ∙ w.if-not-is_before.false in
          subst (λ t. IsTallied rows (λ d. f d + touch (take (len - (done + 1)) keys) d) t.counts.entries t.bytes) (sym w.tally-is)
          (tallied_same rows (λ d. f d + touch (take (at + 1) keys) d) (λ d. f d + touch (take (len - (done + 1)) keys) d) c.pairs.tally.counts.entries c.pairs.tally.bytes
          (λ d. ap (λ (k : ℕ). f d + k) (touch_again keys at p d lt h.1 other) ∙ ap (λ k. f d + touch (take k keys) d) less)
          old)
      | in_default w ↦ absurd (let le = no_pair_at keys at (sym c.get.ensures ∙ w.in_default.is) in omega (arith, le, lt))
    ]

pub returns-clause-tallied : goal.returns-clause-tallied
returns-clause-tallied c = λ f small tallied.
    let keys = c.args.reach.now.pairs in
    tallied_same c.args.rows.now (λ d. f d + touch (take (c.min-len.result - c.pairs.done) keys) d) f c.pairs.tally.counts.entries c.pairs.tally.bytes
    (λ d. none_left (f d) keys (c.min-len.result - c.pairs.done) d (omega (arith, c.pairs-test.false)))
    (c.pairs.invariant f small tallied)
