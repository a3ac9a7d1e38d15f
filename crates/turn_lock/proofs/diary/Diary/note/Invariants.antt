use Rattle.std.proofs.Common.{[], ◌∷◌, ◌++◌}
use Rattle.turn_lock.specs.Noted.{entry}
use Rattle.turn_lock.proofs.diary.Diary.note.Given as goal

-- the history goes on with the entry
abbrev pub ghosts-append : goal.ghosts-append
ghosts-append a = record { told = record a.seat.now.me.0 { seen = a.seat.now.me.0.seen ++ entry a.owner a.event.now a.reply.now ∷ [] } }
