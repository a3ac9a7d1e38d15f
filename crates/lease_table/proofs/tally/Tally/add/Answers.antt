use Rattle.std.proofs.Common.{◌∙◌, ◌≡◌, ◌+◌, ◌&&◌, ap, ℕ, Some, cond, arith}
use Rattle.std.specs.Prelude.{nat_eq}
use Rattle.std.specs.List.{list_any}
use Rattle.std.specs.Map.{lookup}
use Rattle.store_core.specs.State.{same}
use Rattle.lease_table.specs.Table.{is_blob}
use Rattle.lease_table.specs.Tallies.{count_in}
use Rattle.lease_table.proofs.TallyLaws.{tallied_more, bytes_within}
use Rattle.lease_table.proofs.tally.Tally.add.Goals as goal

pub returns-in-Ok-clause-tallied : goal.returns-in-Ok-clause-tallied
returns-in-Ok-clause-tallied c = λ f fits small h.
    let d = c.args.digest.now in
    let rows = c.args.rows.now in
    let counts = c.args.self.now.counts.entries in
    let count : c.count-count.result ≡ f d = c.count-count.ensures ∙ h.counted d in
    let next : c.saturating_add.result ≡ count_in counts d + 1 = let s = c.saturating_add.ensures in let k = c.count-count.ensures in omega (arith, s, k, count, fits) in
    let within = bytes_within f rows in
    let more = c.bytes_where-gained.ensures.small in
    let gained = c.bytes_where-gained.ensures.bytes in
    tallied_more rows f d counts c.insert.new.self.entries c.args.self.now.bytes c.saturating_add-self.result c.bytes_where-gained.ensures.distinct
    (λ q. c.in-Ok.ensures.updates.0 q ∙ ap (λ (n : ℕ). cond (same d q) (Some n) (lookup (same q) counts)) next)
    (let s = c.saturating_add-self.ensures in let sum = h.summed in omega (arith, s, sum, within, more, small)
    ∙ ap (λ (n : ℕ). c.args.self.now.bytes + n) gained
    ∙ ap (λ (n : ℕ). c.args.self.now.bytes + cond (nat_eq n 0 && list_any (is_blob d) rows) d.size 0) c.count-count.ensures)
    h
