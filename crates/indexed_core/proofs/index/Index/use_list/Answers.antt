use Rattle.std.proofs.Common.{◌≡◌, ◌∙◌, List, sym, ap, subst}
use Rattle.std.specs.Prelude.{IfOk}
use Rattle.digest_types.specs.Name.{HashAndSize}
use Rattle.store_core.specs.State.{digests}
use Rattle.indexed_core.specs.Joined.{told}
use Rattle.indexed_core.specs.Parts.{Parts}
use Rattle.indexed_core.proofs.ReachedRows.{digests_are}
use Rattle.indexed_core.proofs.index.Index.use_list.Goals as goal

pub returns : goal.returns
returns c =
    let i = c.self.inside in
    let is = sym (digests_are i.order i.table.blobs (told i.flags)) ∙ ap (λ (p : Parts). digests p.rows) c.self.view_is in
    subst (λ (xs : List HashAndSize). IfOk c.list.result (λ ds. ds ≡ xs)) is c.list.ensures
