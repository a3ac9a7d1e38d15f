use Rattle.std.proofs.Common.{◌∙◌, List, ap, sym}
use Rattle.directory_canon.specs.declared.node.Edge.{Edge}
use Rattle.store_core.specs.Reach.{reaches}
use Rattle.std.specs.Prelude.{filter}
use Rattle.lease_table.specs.declared.lease_reach.LeaseReach.{LeaseReach}
use Rattle.lease_table.specs.Table.{has_id, roots}
use Rattle.lease_table.specs.LeaseReaches.{leases_of, pairs_of}
use Rattle.lease_table.specs.Pairs.{has}
use Rattle.lease_table.proofs.LeaseReachesLaws.{reached_by_id}
use Rattle.lease_table.proofs.table.LeaseTable.is_deep.Goals as goal

pub is_deep-requires : goal.is_deep-requires
is_deep-requires c = λ pair.
    let inside = c.self.inside in
    let id = c.args.id in
    ap (λ (xs : List Edge). has xs pair) (c.deref-4.ensures.value ∙ c.in_ok-pairs.ensures ∙ ap (pairs_of id) c.deref-2.ensures.value)
    ∙ reached_by_id inside.rows id inside.kept.items c.self.invariant.full c.self.invariant.reached pair
    ∙ ap (λ (starts : List Edge). reaches inside.rows starts pair) (sym (c.deref-3.ensures.value ∙ c.in_ok-starts.ensures ∙ ap (λ (kept : List LeaseReach). roots (filter (has_id id) (leases_of kept))) c.deref.ensures.value))
