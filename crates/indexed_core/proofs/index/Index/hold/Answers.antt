use Rattle.std.proofs.Common.{◌∙◌, sym, ap}
use Rattle.store_core.specs.State.{has_row}
use Rattle.indexed_core.specs.Joined.{told}
use Rattle.indexed_core.specs.Parts.{Parts}
use Rattle.indexed_core.proofs.JoinedLaws.{row_among}
use Rattle.indexed_core.proofs.index.Index.hold.Goals as goal

pub hold-requires : goal.hold-requires
hold-requires c =
    let a = c.self.inside in
    let d = c.args.digest.now in
    c.self.invariant.has_blobs d ∙ sym (row_among a.order a.table.blobs (told a.flags) d) ∙ ap (λ (p : Parts). has_row p.rows d) c.self.view_is ∙ c.requires
