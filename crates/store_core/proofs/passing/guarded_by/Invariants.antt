use Rattle.store_core.proofs.MarkedRows.{Sums}
use Rattle.store_core.proofs.passing.guarded_by.Given as goal

abbrev pub invariant-loop-row : goal.invariant-loop-row
invariant-loop-row l = Sums l.bytes l.row-iterator.a.rest.now l.row-iterator.b.rest.now l.rows l.guards
