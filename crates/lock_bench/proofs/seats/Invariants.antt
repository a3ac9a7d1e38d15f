use Rattle.std.proofs.Common.{◌≡◌, ◌+◌, ◌*◌, ◌≤◌, ◌<◌}
use Rattle.std.specs.Prelude.{All}
use Rattle.turn_lock.specs.Seats.{IsIdle}
use Rattle.lock_bench.specs.Waiting.{MayTake}
use Rattle.lock_bench.proofs.seats.Given as goal

-- so many seats were given their turns
abbrev pub invariant-loop : goal.invariant-loop
invariant-loop l =
    (l.first.lock ≡ l.lock) × IsIdle l.first × (4611686018427387904 < l.first.view.left + 4294967296 * l.counter) × (l.threads ≤ 1000) × All (MayTake 4294967296 l.lock) l.seats.items
