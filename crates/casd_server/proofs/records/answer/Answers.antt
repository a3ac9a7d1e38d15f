use Rattle.casd_server.proofs.Streams.{OnErr-any, AddsPart-none}
use Rattle.casd_server.proofs.records.answer.Goals as goal

pub returns-in_err-text-clause-err : goal.returns-in_err-text-clause-err
returns-in_err-text-clause-err g c = OnErr-any c.from_residual-in_err-text.result (AddsPart-none _ _)
