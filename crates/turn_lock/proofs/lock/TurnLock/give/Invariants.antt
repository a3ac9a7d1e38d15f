use Rattle.turn_lock.specs.Noted.{entry}
use Rattle.turn_lock.proofs.lock.TurnLock.give.Given as goal

abbrev pub ghosts-enter : goal.ghosts-enter
ghosts-enter g a = record { made = entry a.owner a.event.now a.reply.now; turns = 0 }
