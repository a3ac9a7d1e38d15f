-- The seats of a replay at a bench.
use Rattle.std.specs.Prelude.{◌≡◌, ◌≤◌, ◌^◌, map, ℕ, true, false, [], length, Option, Some, None, if◌then◌else◌}
use Rattle.blob_store.specs.declared.seat.Seat.{Seat}
use Rattle.blob_store.specs.Benched.{Benched, store_of, seat_of}
use Rattle.blob_store.specs.Shelves.{Shelved}
use Rattle.casd_server.specs.Answer.{Seated, opened}

-- the owner of a seat, where it is in the store
abbrev pub owner_of : Seat → Option ℕ
owner_of seat = if seat.entered then seat.owner else None

-- the store and the owners of the seats
abbrev pub seated_at : Benched → Seated
seated_at b = record { core = store_of b; seats = map owner_of b.seats }

-- What holds between two records: the calls of the shelf don't fail, there are a hundred seats, no owner has a lease, and at
-- least half of the turns are left.
pub record IsReady (b : Benched) (shelf : Shelved) : Type 0 where
  pub sure : shelf.may_fail ≡ false
  pub hundred : length b.seats ≡ 100
  pub bare : (store_of b).leases ≡ []
  pub few : length b.seen ≤ 2 ^ 62

-- a seat that was chosen has an owner, which came if there was none
pub record Sits (old new : Benched) (seat : ℕ) : Type 0 where
  pub owner : ℕ
  pub opened : (owner, seated_at new) ≡ opened (seated_at old) seat
  pub chosen : new.chosen ≡ seat
  pub is_in : seat_of new ≡ record { owner = Some owner; entered = true }
  pub same : length new.seats ≡ length old.seats
  pub bare : (store_of new).leases ≡ (store_of old).leases

-- a call at the chosen seat leaves the seats, and takes no lease
pub record StaysSeated (old new : Benched) : Type 0 where
  pub seats : new.seats ≡ old.seats
  pub chosen : new.chosen ≡ old.chosen
  pub bare : (store_of new).leases ≡ (store_of old).leases
