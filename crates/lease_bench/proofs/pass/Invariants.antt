use Rattle.lease_table.specs.Table.{IsPassed}
use Rattle.lease_bench.proofs.pass.Given as goal

abbrev pub invariant-victims : goal.invariant-victims
invariant-victims l = IsPassed l.kept.table l.kept.order l.from
