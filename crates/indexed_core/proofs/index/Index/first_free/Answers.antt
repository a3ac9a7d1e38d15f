use Rattle.indexed_core.specs.Joined.{told, guards_in}
use Rattle.std.proofs.Common.{◌≡◌, ◌∙◌, List, ap, subst, take}
use Rattle.std.specs.Prelude.{IfOk}
use Rattle.digest_types.specs.Name.{HashAndSize}
use Rattle.indexed_core.specs.Parts.{free}
use Rattle.indexed_core.proofs.ReachedRows.{rows_free}
use Rattle.indexed_core.proofs.index.Index.first_free.Goals as goal

pub returns : goal.returns
returns c =
    let i = c.self.inside in
    let ds = rows_free i.order i.table.blobs (told i.flags) i.used c.self.invariant (guards_in i.table) ∙ ap free c.self.view_is in
    subst (λ (xs : List HashAndSize). IfOk c.gone.result (λ ds. ds ≡ take c.args.count xs)) ds c.gone.ensures
