use Rattle.h2_session.proofs.PartLaws.{pays_settles}
use Rattle.h2_session.proofs.machine.Machine.begin.Goals as goal

pub returns-clause-some : goal.returns-clause-some
returns-clause-some c = (c.next_number-number.ensures, pays_settles _ _ _ _ _ _ c.in_ok-open.ensures.pays c.in_ok-pump.ensures.settles)
