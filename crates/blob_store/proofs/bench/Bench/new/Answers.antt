use Rattle.std.proofs.Common.{◌≡◌, arith}
use Rattle.std.specs.Prelude.{replicate}
use Rattle.std.proofs.lemmas.Grind.{common_steps}
use Rattle.blob_store.specs.Benched.{unseated}
use Rattle.blob_store.proofs.BenchCalls.{bench_begins}
use Rattle.blob_store.proofs.bench.Bench.new.Goals as goal

pub invariant_of-result : goal.invariant_of-result
invariant_of-result g c =
    let seats : c.in_ok-seats.seats.items ≡ replicate c.args.seats unseated = grind (arith, common_steps) in
    bench_begins c.args.store.state c.in_ok-diary.diary c.in_ok-seats.seats.items c.args.seats c.in_ok-diary.ensures seats c.requires.some c.requires.valid c.requires.owners c.requires.leases
