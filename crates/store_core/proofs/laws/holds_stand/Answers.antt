use Rattle.store_core.proofs.HoldHistories.{holds_row, holds_guard}
use Rattle.store_core.proofs.laws.holds_stand.Goals as goal

pub returns-clause-row : goal.returns-clause-row
returns-clause-row c = holds_row

pub returns-clause-guarded : goal.returns-clause-guarded
returns-clause-guarded c = holds_guard
