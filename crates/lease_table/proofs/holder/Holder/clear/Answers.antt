use Rattle.lease_table.proofs.HoldLaws.{distinct_from}
use Rattle.lease_table.proofs.holder.Holder.clear.Goals as goal

pub invariant_of-self : goal.invariant_of-self
invariant_of-self c = distinct_from c.clear.new.self.keys c.clear.ensures.unique
