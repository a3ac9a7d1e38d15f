use Rattle.store_core.proofs.Entries.{leases_by_own}
use Rattle.store_core.proofs.laws.leases_are_by_own_entries.Goals as goal

pub returns : goal.returns
returns c = leases_by_own
