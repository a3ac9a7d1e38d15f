use Rattle.indexed_core.specs.Joined.{told}
use Rattle.store_core.specs.State.{has_row}
use Rattle.std.proofs.Common.{sym, ap, ◌∙◌}
use Rattle.indexed_core.specs.Parts.{Parts}
use Rattle.indexed_core.proofs.JoinedLaws.{row_among}
use Rattle.indexed_core.proofs.index.Index.has_row.Goals as goal

pub returns : goal.returns
returns c =
    let a = c.self.inside in
    let d = c.args.digest.now in
    c.has_row.ensures
    ∙ c.self.invariant.has_blobs d
    ∙ sym (row_among a.order a.table.blobs (told a.flags) d)
    ∙ ap (λ (p : Parts). has_row p.rows d) c.self.view_is
