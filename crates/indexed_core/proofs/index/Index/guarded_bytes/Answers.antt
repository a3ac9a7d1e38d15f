use Rattle.indexed_core.specs.Joined.{told, guards_in}
use Rattle.std.proofs.Common.{◌∙◌, ap}
use Rattle.indexed_core.specs.Parts.{guarded_bytes}
use Rattle.indexed_core.proofs.HeldLaws.{rows_guarded}
use Rattle.indexed_core.proofs.index.Index.guarded_bytes.Goals as goal

pub returns : goal.returns
returns c =
    let i = c.self.inside in
    c.guarded_bytes.ensures ∙ rows_guarded i.order i.table.blobs (told i.flags) i.used c.self.invariant (guards_in i.table) ∙ ap guarded_bytes c.self.view_is
