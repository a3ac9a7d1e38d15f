use Rattle.indexed_core.specs.Joined.{told}
use Rattle.std.proofs.Common.{◌≡◌, ◌∙◌, List, filter, sym, ap, subst}
use Rattle.std.specs.Prelude.{IfOk}
use Rattle.directory_canon.specs.declared.node.Edge.{Edge}
use Rattle.store_core.specs.Reach.{blobs, reached}
use Rattle.lease_table.specs.Table.{has_id, root_of, roots}
use Rattle.indexed_core.specs.Parts.{Parts}
use Rattle.indexed_core.proofs.ReachedRows.{rows_reached}
use Rattle.indexed_core.proofs.index.Index.reached.Goals as goal

pub returns : goal.returns
returns c =
    let i = c.self.inside in
    let all = sym (rows_reached i.order i.table.blobs (told i.flags) i.used c.self.invariant (root_of i.table c.args.id)) ∙ ap (λ (p : Parts). reached (blobs p.rows) (roots (filter (has_id c.args.id) p.guards.leases))) c.self.view_is in
    subst (λ (es : List Edge). IfOk c.reached.result (λ pairs. pairs ≡ es)) all c.reached.ensures
