use Rattle.std.proofs.Common.{true}
use Rattle.blob_store.specs.Benched.{view_of}
use Rattle.store_tests.proofs.VisitBenchLaws.{held_now, held_still, none_left}
use Rattle.store_tests.proofs.bench_tests.hold.Goals as goal

pub confirm-requires-clause-own : goal.confirm-requires-clause-own
confirm-requires-clause-own g c = held_now (view_of c.args.bench.now) (view_of c.lease.new.self) c.args.root.now c.in_ok-id.id c.requires c.in_ok-id.ensures.ok

pub release-requires-clause-own : goal.release-requires-clause-own
release-requires-clause-own g c =
    held_still (view_of c.args.bench.now) (view_of c.lease.new.self) (view_of c.confirm.new.self) c.args.root.now c.in_ok-id.id true c.in_ok-standing.standing c.requires c.in_ok-id.ensures.ok c.in_ok-standing.ensures.ok

pub returns-clause-none : goal.returns-clause-none
returns-clause-none g c =
    none_left (view_of c.args.bench.now) (view_of c.lease.new.self) (view_of c.confirm.new.self) (view_of c.release.new.self) c.args.root.now c.in_ok-id.id true c.in_ok-standing.standing c.requires c.in_ok-id.ensures.ok c.in_ok-standing.ensures.ok c.release.ensures
