use Rattle.std.proofs.Common.{◌∙◌, ap}
use Rattle.store_core.specs.Ascending.{ascending}
use Rattle.store_core.specs.Reach.{pair_cmp, reached}
use Rattle.lease_table.specs.Table.{Table, root_of}
use Rattle.lease_table.specs.LeaseReaches.{pairs_of}
use Rattle.lease_table.proofs.DepthLaws.{reached_ascending}
use Rattle.lease_table.proofs.LeaseReachesLaws.{reached_by_id}
use Rattle.lease_table.proofs.KeptLaws.{table_of}
use Rattle.lease_table.proofs.table.LeaseTable.reached.Goals as goal

pub returns : goal.returns
returns c =
    let inside = c.self.inside in
    let id = c.args.id in
    let kept = inside.kept.items in
    let t = table_of inside.rows kept inside.holds.items in
    c.from_vec.ensures ∙ c.sort_pairs.ensures ∙ ap (ascending pair_cmp) (c.in_ok-pairs.ensures ∙ ap (pairs_of id) c.deref.ensures.value)
    ∙ reached_ascending inside.rows (root_of t id) (pairs_of id kept) (reached_by_id inside.rows id kept c.self.invariant.full c.self.invariant.reached)
    ∙ ap (λ (u : Table). reached u.blobs (root_of u id)) c.self.view_is
