use Rattle.std.proofs.Common.{◌∙◌, ap}
use Rattle.digest_types.specs.Digest.{digest_of}
use Rattle.casd_server.proofs.PutLaws.{other_gives}
use Rattle.casd_server.proofs.batch.put_one.Goals as goal

pub returns-then-ne-clause-ok : goal.returns-then-ne-clause-ok
returns-then-ne-clause-ok g c =
    other_gives c.mismatch_of.result c.args.bench.now c.args.item.now c.digest-got.result c.ne.result c.ne.ensures c.if-ne.true
    (c.digest-got.ensures.value ∙ c.in_ok-blob.ensures.sealed.digest ∙ ap digest_of c.as_slice.ensures) c.mismatch_of.ensures
