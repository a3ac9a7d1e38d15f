use Rattle.indexed_core.specs.Joined.{told}
use Rattle.std.proofs.Common.{◌≡◌, ◌∙◌, Bool, filter, sym, ap, subst}
use Rattle.std.specs.Prelude.{IfOk}
use Rattle.store_core.specs.Reach.{blobs, is_deep}
use Rattle.lease_table.specs.Table.{has_id, root_of, roots}
use Rattle.indexed_core.specs.Parts.{Parts}
use Rattle.indexed_core.proofs.ReachedRows.{rows_deep}
use Rattle.indexed_core.proofs.index.Index.is_deep.Goals as goal

pub returns : goal.returns
returns c =
    let i = c.self.inside in
    let is = sym (rows_deep i.order i.table.blobs (told i.flags) i.used c.self.invariant (root_of i.table c.args.id) c.args.steps)
    ∙ ap (λ (p : Parts). is_deep (blobs p.rows) (roots (filter (has_id c.args.id) p.guards.leases)) c.args.steps) c.self.view_is in
    subst (λ (b : Bool). IfOk c.is_deep.result (λ deep. deep ≡ b)) is c.is_deep.ensures
