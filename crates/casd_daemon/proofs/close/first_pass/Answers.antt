use Rattle.casd_daemon.proofs.OneWorker.{works_none, works_more}
use Rattle.casd_daemon.proofs.close.first_pass.Goals as goal

pub returns-then-due : goal.returns-then-due
returns-then-due g c = record {
  works = rw c.if-due.true (works_more (g.D.Door.view c.args.door.now) (g.D.Door.view c.args.door.now) (g.D.Door.view c.pass.new.self) 0 c.pass.result.removed c.pass.result.used
      (works_none (g.D.Door.view c.args.door.now) c.requires.is_in c.requires.none) c.pass.ensures.made);
}
