use Rattle.std.proofs.Common.{◌∙◌, ◌+◌, ℕ, cond, sym, ap, refl, arith}
use Rattle.lease_table.specs.Table.{Table, has_row}
use Rattle.lease_table.specs.Tallies.{one_at}
use Rattle.lease_table.specs.Holds.{holders}
use Rattle.lease_table.specs.LeaseReaches.{shares, total_in, guards_in}
use Rattle.lease_table.proofs.LeaseReachLaws.{tallied_same, plus_assoc}
use Rattle.lease_table.proofs.LeaseReachesLaws.{total_fits}
use Rattle.lease_table.proofs.HoldLaws.{rows_held, holders_fit}
use Rattle.lease_table.proofs.KeptLaws.{moved}
use Rattle.lease_table.proofs.table.LeaseTable.hold.Goals as goal

pub invariant_of-self-2 : goal.invariant_of-self-2
invariant_of-self-2 c =
    let inside = c.self.inside in
    let h = c.self.invariant in
    let d = c.args.digest.now in
    let new = c.in_ok-new.new in
    let old = inside.holds.items in
    let holds = c.hold_if.new.holds.items in
    let f = guards_in (shares inside.kept.items) old in
    record {
      distinct = h.distinct;
      small = h.small;
      full = h.full;
      reached = h.reached;
      held = rows_held inside.rows old holds d new c.in_ok-new.ensures.new (ap (λ (t : Table). has_row t d) c.self.view_is ∙ c.requires) h.held;
      tallied = tallied_same inside.rows (λ q. f q + cond new (one_at d q) 0) (guards_in (shares inside.kept.items) holds) c.count_hold.new.tally.counts.entries c.count_hold.new.tally.bytes
          (λ q. plus_assoc (total_in (shares inside.kept.items) q) (holders old q) (cond new (one_at d q) 0) ∙ ap (λ (n : ℕ). total_in (shares inside.kept.items) q + n) (sym (c.in_ok-new.ensures.new q)))
          (c.count_hold.ensures.tallied f
          (let few = total_fits inside.kept.items d in let less = holders_fit old d in omega (arith, few, less)) h.small
          (moved inside.rows f f inside.tally.counts.entries c.reserve.new.self.counts.entries inside.tally.bytes c.reserve.new.self.bytes refl (sym c.reserve.ensures.counts) (sym c.reserve.ensures.bytes) h.tallied));
    }
