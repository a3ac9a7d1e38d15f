use Rattle.cas_messages.specs.Spelling.{digest_spelled}
use Rattle.cas_messages.proofs.Writing.{list_part}
use Rattle.cas_messages.proofs.put.put_digests.Goals as goal

pub returns-in_err-put_digest-clause-err : goal.returns-in_err-put_digest-clause-err
returns-in_err-put_digest-clause-err c = list_part c.from_residual.result (digest_spelled c.args.number) c.args.values.now c.values.value-index c.args.out.now c.values.out c.put_digest.new.out c.values.invariant.wrote c.in_err-put_digest.ensures.err
