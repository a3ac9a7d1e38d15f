use Rattle.store_tests.proofs.VisitLaws.{held_after, none_after, held_none, held_only}
use Rattle.store_tests.proofs.callers.read_held.Goals as goal

pub returns-in_err-id-clause-err : goal.returns-in_err-id-clause-err
returns-in_err-id-clause-err g c = held_none c.from_residual.result (g.D.Door.view c.args.door.now) (g.D.Door.view c.lease.new.self) c.args.root.now c.in_err-id.ensures.err

pub release-requires-clause-own : goal.release-requires-clause-own
release-requires-clause-own g c =
    held_after c.read-reading.result (g.D.Door.view c.args.door.now) (g.D.Door.view c.lease.new.self) (g.D.Door.view c.read-reading.new.self) c.args.root.now c.in_ok-id.id c.requires.none c.in_ok-id.ensures.ok c.read-reading.ensures.ok c.read-reading.ensures.err

pub returns-in_err-reading-clause-err : goal.returns-in_err-reading-clause-err
returns-in_err-reading-clause-err g c =
    held_only c.from_residual-in_err-reading.result (g.D.Door.view c.args.door.now) (g.D.Door.view c.lease.new.self) (g.D.Door.view c.read-reading.new.self) (g.D.Door.view c.release.new.self) c.args.root.now c.in_ok-id.id c.in_ok-id.ensures.ok c.in_err-reading.ensures.err c.release.ensures

pub returns-in_err-reading-clause-none : goal.returns-in_err-reading-clause-none
returns-in_err-reading-clause-none g c =
    none_after c.read-reading.result (g.D.Door.view c.args.door.now) (g.D.Door.view c.lease.new.self) (g.D.Door.view c.read-reading.new.self) (g.D.Door.view c.release.new.self) c.args.root.now c.in_ok-id.id c.requires.none c.in_ok-id.ensures.ok c.read-reading.ensures.ok c.read-reading.ensures.err c.release.ensures

pub returns-clause-none : goal.returns-clause-none
returns-clause-none g c =
    none_after c.read-reading.result (g.D.Door.view c.args.door.now) (g.D.Door.view c.lease.new.self) (g.D.Door.view c.read-reading.new.self) (g.D.Door.view c.release.new.self) c.args.root.now c.in_ok-id.id c.requires.none c.in_ok-id.ensures.ok c.read-reading.ensures.ok c.read-reading.ensures.err c.release.ensures
