use Rattle.blob_store.specs.Calls.{put_reply}
use Rattle.casd_server.proofs.PutLaws.{put_gives}
use Rattle.casd_server.proofs.batch.put_same.Goals as goal

pub returns-clause-ok : goal.returns-clause-ok
returns-clause-ok g c =
    put_gives c.status_of.result c.args.bench.now c.put_blob.new.bench c.args.item.now c.args.blob (put_reply c.in_ok-answer.answer)
    c.requires.sealed c.requires.same c.in_ok-answer.ensures.ok c.status_of.ensures
