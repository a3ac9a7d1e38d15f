-- A seat that can take turns.
use Rattle.std.specs.Prelude.{◌≡◌, ℕ}
use Rattle.atomic_table.specs.Seated.{TableId}
use Rattle.turn_lock.specs.Seats.{AtLock, IsIdle}

-- a seat of this lock that holds no turn and may take so many
pub record MayTake (turns : ℕ) (lock : TableId) (seat : AtLock) : Type 0 where
  pub at_lock : seat.lock ≡ lock
  pub idle : IsIdle seat
  pub left : seat.view.left ≡ turns
