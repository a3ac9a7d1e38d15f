use Rattle.std.proofs.Common.{◌≡◌, take}
use Rattle.store_core.specs.State.{sizes}
use Rattle.store_core.proofs.rows.used_by.Given as goal

abbrev pub invariant-rows : goal.invariant-rows
invariant-rows l = l.used ≡ sizes (take l.row-index l.rows)
