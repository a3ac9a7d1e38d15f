use Rattle.turn_lock.proofs.lock.TurnLock.seat.Given as goal

abbrev pub ghosts-cut : goal.ghosts-cut
ghosts-cut g a = record { made = Rattle.turn_lock.specs.Noted.entry 0 Rattle.store_core.specs.declared.event.Event.TheVariants.Open Rattle.store_core.specs.declared.event.Reply.TheVariants.Refused; turns = a.turns }
