use Rattle.casd_server.specs.declared.records.End.TheVariants as ends
use Rattle.casd_server.proofs.Stepping.{nothing-refused}
use Rattle.casd_server.proofs.command.replay.Goals as goal

pub returns-clause-records : goal.returns-clause-records
returns-clause-records g c no_h2 = (ends.Refused, c.status.ensures, nothing-refused _ _)
