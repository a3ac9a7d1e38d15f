use Rattle.blob_store.specs.Calls.{put_reply}
use Rattle.blob_store.proofs.GoingOn.{put_goes_on}
use Rattle.lock_bench.proofs.put_one.Goals as goal

pub returns : goal.returns
returns g c = λ _. put_goes_on (g.D.Door.view c.args.door.now) (g.D.Door.view c.put.new.self) c.in-Some.blob.digest c.in-Some.blob.edges (put_reply c.in-Ok.field-0) c.requires.none c.in-Ok.ensures.ok
