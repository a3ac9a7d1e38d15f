-- A lock round a new store, with its first seat.
use Rattle.std.specs.Prelude.{◌≡◌, ◌≤◌, ◌^◌, None}
use Rattle.atomic_table.specs.Seated.{TableId}
use Rattle.store_core.specs.State.{Valid}
use Rattle.turn_lock.specs.Seats.{AtLock, IsIdle}

-- the seat is the lock's, has had no owner, and may take every turn
pub record IsFresh (lock : TableId) (seat : AtLock) : Type 0 where
  pub at_lock : seat.lock ≡ lock
  pub idle : IsIdle seat
  pub none : seat.view.owner ≡ None
  pub valid : Valid seat.view.start
  pub owners : seat.view.start.next_owner ≤ 2 ^ 62
  pub leases : seat.view.start.next_lease ≤ 2 ^ 62
  pub left : seat.view.left ≡ 2 ^ 63
  pub grant : seat.view.grant ≡ 2 ^ 63
