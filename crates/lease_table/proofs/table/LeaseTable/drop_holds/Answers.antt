use Rattle.std.proofs.Common.{◌∙◌, sym, ap}
use Rattle.store_core.specs.State.{is_held}
use Rattle.lease_table.specs.LeaseReaches.{shares, total_in}
use Rattle.lease_table.proofs.HoldLaws.{held_before}
use Rattle.lease_table.proofs.table.LeaseTable.drop_holds.Goals as goal

pub invariant_of-self : goal.invariant_of-self
invariant_of-self c =
    let inside = c.self.inside in
    let h = c.self.invariant in
    let left = c.drop_holds.ensures.left in
    record {
      distinct = h.distinct;
      small = h.small;
      full = h.full;
      reached = h.reached;
      held = λ d e. h.held d (held_before c.args.owner inside.holds.items d (ap (λ hs. is_held hs d) (sym left) ∙ e));
      tallied = c.drop_holds.ensures.tallied (total_in (shares inside.kept.items)) h.tallied;
    }
