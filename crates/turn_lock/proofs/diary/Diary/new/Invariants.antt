use Rattle.std.proofs.Common.{[]}
use Rattle.turn_lock.proofs.diary.Diary.new.Given as goal

-- the history begins where the value stands
abbrev pub ghosts-begin : goal.ghosts-begin
ghosts-begin g a = record { told = record { start = g.S.Stands.state a.value.now; seen = [] } }
