use Rattle.std.proofs.Common.{◌∙◌, ◌≡◌, ◌+◌, ◌-◌, ◌<◌, ap, ℕ, cond, Bool, arith}
use Rattle.store_core.proofs.Same.{same_itself}
use Rattle.lease_table.specs.Tallies.{count_in}
use Rattle.lease_table.proofs.TallyLaws.{tallied_less, taken, taken_bytes}
use Rattle.lease_table.proofs.tally.Tally.take.Goals as goal

pub returns : goal.returns
returns c = record {
  tallied = λ f small h.
      let d = c.args.digest.now in
      let rows = c.args.rows.now in
      let counts = c.args.self.now.counts.entries in
      let now = c.set_count.new.counts.entries in
      let left : c.saturating_sub-left.result ≡ count_in counts d - 1 = c.saturating_sub-left.ensures ∙ ap (λ (n : ℕ). n - 1) c.count.ensures in
      let some : 0 < count_in counts d = let k = h.counted d in let one = ap (λ (b : Bool). f d + cond b 1 0) (same_itself d) in omega (arith, k, one) in
      let at = taken d counts now c.saturating_sub-left.result left some (c.set_count.ensures some) in
      tallied_less rows f d counts now c.args.self.now.bytes c.saturating_sub-self.result c.bytes_where-lost.ensures.distinct at
      (taken_bytes rows f d counts now c.saturating_sub-left.result c.bytes_where-lost.result c.args.self.now.bytes c.saturating_sub-self.result left at c.bytes_where-lost.ensures.distinct c.bytes_where-lost.ensures.bytes c.saturating_sub-self.ensures h)
      h;
}
