use Rattle.std.proofs.Common.{◌∙◌, ap}
use Rattle.lease_table.specs.Table.{guarded}
use Rattle.lease_table.proofs.KeptLaws.{bytes_told}
use Rattle.lease_table.proofs.table.LeaseTable.guarded_bytes.Goals as goal

pub returns : goal.returns
returns c =
    let inside = c.self.inside in
    c.bytes.ensures ∙ bytes_told inside.rows inside.kept.items inside.holds.items inside.tally.counts.entries inside.tally.bytes c.self.invariant ∙ ap guarded c.self.view_is
