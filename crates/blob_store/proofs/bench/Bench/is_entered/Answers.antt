use Rattle.std.proofs.Common.{subst}
use Rattle.blob_store.specs.Benched.{IsBench}
use Rattle.blob_store.proofs.BenchCalls.{bench_leases}
use Rattle.blob_store.proofs.bench.Bench.is_entered.Goals as goal

pub returns-clause-leases : goal.returns-clause-leases
returns-clause-leases g c = bench_leases c.self.inside.store.state c.args.self.now (subst (IsBench c.self.inside.store.state) c.self.view_is c.self.invariant)
