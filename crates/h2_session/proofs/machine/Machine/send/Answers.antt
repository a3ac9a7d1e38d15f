use Rattle.h2_session.proofs.PartLaws.{pays_settles}
use Rattle.h2_session.proofs.machine.Machine.send.Goals as goal

pub returns-clause-settles : goal.returns-clause-settles
returns-clause-settles c = pays_settles _ _ _ _ _ _ c.in_ok-say.ensures.pays c.in_ok-pump.ensures.settles
