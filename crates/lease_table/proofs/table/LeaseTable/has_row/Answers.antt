use Rattle.std.proofs.Common.{◌∙◌, ap}
use Rattle.lease_table.specs.Table.{Table, has_row}
use Rattle.lease_table.proofs.table.LeaseTable.has_row.Goals as goal

pub returns : goal.returns
returns c = c.has.ensures.has ∙ ap (λ (t : Table). has_row t c.args.digest.now) c.self.view_is
