use Rattle.std.proofs.Common.{◌∙◌, ap}
use Rattle.lease_table.specs.Table.{Table, is_dir_row}
use Rattle.lease_table.proofs.table.LeaseTable.is_dir.Goals as goal

pub returns : goal.returns
returns c = c.is_dir.ensures ∙ ap (λ (t : Table). is_dir_row t c.args.digest.now) c.self.view_is
