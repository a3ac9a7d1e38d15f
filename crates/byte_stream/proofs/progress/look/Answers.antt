use Rattle.byte_stream.proofs.QueryLaws.{found_here, found_absent, found_wanting}
use Rattle.byte_stream.proofs.progress.look.Goals as goal

pub returns-in-Ok-true : goal.returns-in-Ok-true
returns-in-Ok-true g c = λ x. rw c.complete.ensures (found_here c.args.digest.now (g.D.Door.view c.args.door.now) (g.D.Door.view c.is_here.new.door) x (rw c.in-Ok-true.field-0-test at c.in-Ok-true.ensures.ok))

pub returns-in-Ok-false : goal.returns-in-Ok-false
returns-in-Ok-false g c = λ x. found_absent c.args.digest.now c.absent.result (g.D.Door.view c.args.door.now) (g.D.Door.view c.is_here.new.door) x (rw c.in-Ok-false.field-0-test at c.in-Ok-false.ensures.ok) c.absent.ensures

pub returns-in-Err : goal.returns-in-Err
returns-in-Err g c = λ x. found_wanting c.args.digest.now c.out_of_memory.result (g.D.Door.view c.args.door.now) (g.D.Door.view c.is_here.new.door) x c.in-Err.ensures.err c.out_of_memory.ensures
