use Rattle.std.proofs.Common.{◌≡◌, length}
use Rattle.store_tests.proofs.bench_tests.run.Given as goal

abbrev pub invariant-steps : goal.invariant-steps
invariant-steps g l = length l.bench.seats ≡ 3
