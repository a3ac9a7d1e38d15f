use Rattle.store_tests.proofs.VisitLaws.{visits_ok, visits_err}
use Rattle.store_tests.proofs.callers.leased_read.Goals as goal

pub returns-clause-ok : goal.returns-clause-ok
returns-clause-ok g c =
    visits_ok c.read_held-found.result (g.D.Door.view c.args.door.now) (g.D.Door.view c.enter.new.self) (g.D.Door.view c.read_held-found.new.door) (g.D.Door.view c.leave.new.self) c.args.root.now c.in_ok-enter.ensures.ok c.read_held-found.ensures.ok c.read_held-found.ensures.none c.leave.ensures

pub returns-clause-err : goal.returns-clause-err
returns-clause-err g c =
    visits_err c.read_held-found.result (g.D.Door.view c.args.door.now) (g.D.Door.view c.enter.new.self) (g.D.Door.view c.read_held-found.new.door) (g.D.Door.view c.leave.new.self) c.args.root.now c.in_ok-enter.ensures.ok c.read_held-found.ensures.err c.read_held-found.ensures.none c.leave.ensures
