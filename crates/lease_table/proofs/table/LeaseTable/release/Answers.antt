use Rattle.std.proofs.Common.{◌∙◌, List, not, filter, sym, ap, subst}
use Rattle.lease_table.specs.declared.lease_reach.LeaseReach.{LeaseReach}
use Rattle.lease_table.specs.Holds.{holders}
use Rattle.lease_table.specs.Table.{Table, has_id}
use Rattle.lease_table.specs.LeaseReaches.{shares, leases_of, AreReached, AreFull}
use Rattle.lease_table.proofs.KeptLaws.{leases_left, full_left, reached_left, table_is}
use Rattle.lease_table.proofs.table.LeaseTable.release.Goals as goal

pub invariant_of-self : goal.invariant_of-self
invariant_of-self c =
    let inside = c.self.inside in
    let p = λ (reach : LeaseReach). not (has_id c.args.id reach.lease) in
    record {
      distinct = c.self.invariant.distinct;
      small = c.self.invariant.small;
      full = subst AreFull (sym c.release.ensures.left) (full_left p inside.kept.items c.self.invariant.full);
      reached = subst (λ (hs : List LeaseReach). AreReached inside.rows (shares hs)) (sym c.release.ensures.left) (reached_left inside.rows p inside.kept.items c.self.invariant.reached);
      held = c.self.invariant.held;
      tallied = c.release.ensures.tallied (holders inside.holds.items) c.self.invariant.tallied;
    }

pub returns : goal.returns
returns c =
    let inside = c.self.inside in
    table_is inside.rows (leases_of c.release.new.kept.items) (filter (λ lease. not (has_id c.args.id lease)) (leases_of inside.kept.items)) inside.holds.items (ap leases_of c.release.ensures.left ∙ leases_left c.args.id inside.kept.items)
    ∙ ap (λ (t : Table). record t { leases = filter (λ lease. not (has_id c.args.id lease)) t.leases }) c.self.view_is
