use Rattle.std.proofs.Common.{◌≡◌, ◌+◌, ◌≤◌}
use Rattle.turn_lock.specs.Seats.{IsIdle}
use Rattle.lock_bench.proofs.turns.Given as goal

abbrev pub invariant-loop-i : goal.invariant-loop-i
invariant-loop-i g l = (l.seat.lock ≡ l.lock) × IsIdle l.seat × (4294967296 ≤ l.seat.view.left + l.i)
