use Rattle.lease_table.proofs.HoldLaws.{distinct_from}
use Rattle.lease_table.proofs.holder.Holder.new.Goals as goal

pub invariant_of-result : goal.invariant_of-result
invariant_of-result c = distinct_from c.new.result.keys c.new.ensures.unique
