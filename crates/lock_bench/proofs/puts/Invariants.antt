use Rattle.std.proofs.Common.{◌+◌, ◌≤◌}
use Rattle.blob_store.specs.Doors.{GoesOn}
use Rattle.lock_bench.proofs.puts.Given as goal

-- so many puts were made since the owner came
abbrev pub invariant-loop : goal.invariant-loop
invariant-loop g l = GoesOn (g.D.Door.view l.initial.door) (g.D.Door.view l.door) l.counter
