-- A piece whose digest was refused was taken too.
use Rattle.blob_store.proofs.TakingLemmas.{takes_part_err}
use Rattle.blob_store.proofs.taking.Taking.read_on.Goals as goal

pub returns-in_err-judge-clause-partial : goal.returns-in_err-judge-clause-partial
returns-in_err-judge-clause-partial g c = takes_part_err c.from_residual-in_err-judge.result _ _ _ c.in_ok-count.count c.take.new.buf _ c.in_ok-count.ensures.bound c.in_ok-count.ensures.bytes
