use Rattle.store_core.proofs.MarkedRows.{Goes}
use Rattle.store_core.proofs.passing.gone.Given as goal

abbrev pub invariant-loop-row : goal.invariant-loop-row
invariant-loop-row l = Goes l.digests.items l.left l.target l.row-iterator.a.rest.now l.row-iterator.b.rest.now l.used l.rows l.guards
