use Rattle.lease_table.proofs.HoldLaws.{distinct_from}
use Rattle.lease_table.proofs.holder.Holder.add.Goals as goal

pub invariant_of-self-2 : goal.invariant_of-self-2
invariant_of-self-2 c = distinct_from c.insert.new.self.keys c.in_ok-insert.ensures.unique
