use Rattle.blob_store.specs.Calls.{put_reply}
use Rattle.blob_store.proofs.GoingOn.{put_goes_on}
use Rattle.door_tests.proofs.helpers.put_bytes.Goals as goal

pub returns : goal.returns
returns g c = put_goes_on c.args.door.now.view c.put.new.self.view c.in-Ok.blob.digest c.in-Ok.blob.edges (put_reply c.in-Ok-put.reply) c.requires.none c.in-Ok-put.ensures.ok
