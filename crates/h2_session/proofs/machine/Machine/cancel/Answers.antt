use Rattle.h2_session.proofs.PartLaws.{pays_settles}
use Rattle.h2_session.proofs.machine.Machine.cancel.Goals as goal

pub returns-clause-settles : goal.returns-clause-settles
returns-clause-settles c = pays_settles _ _ _ _ _ _ c.in_ok-drop_stream.ensures.pays c.in_ok-pump.ensures.settles
