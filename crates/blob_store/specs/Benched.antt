-- A bench: the history of a store, the seats at it, and the one that was chosen.
use Rattle.std.specs.Prelude.{◌≡◌, ◌≢◌, ◌-◌, ◌<◌, ◌≤◌, ◌^◌, ℕ, true, false, List, [], ◌∷◌, ◌++◌, length, slice_index_or, slice_set, replicate, Option, Some, None, IfSome}
use Rattle.std.specs.List.{AllByRecursion}
use Rattle.store_core.specs.State.{State, Valid}
use Rattle.store_core.specs.declared.event.Event.{Event}
use Rattle.store_core.specs.declared.event.Reply.{Reply}
use Rattle.store_core.specs.Step.{step, is_open}
use Rattle.store_core.specs.History.{Entry, Legal, own, state}
use Rattle.blob_store.specs.declared.seat.Seat.{Seat}
use Rattle.blob_store.specs.View.{View}

-- The state at which the history begins, the history, the seats, and the place of the chosen one.
pub record Benched : Type 0 where
  pub start : State
  pub seen : List Entry
  pub seats : List Seat
  pub chosen : ℕ

-- a seat that has had no owner
abbrev pub unseated : Seat
unseated = record { owner = None; entered = false }

-- a seat with an owner that is in the store
abbrev pub seated : ℕ → Seat
seated owner = record { owner = Some owner; entered = true }

-- a seat whose owner went
abbrev pub unseated_now : ℕ → Seat
unseated_now owner = record { owner = Some owner; entered = false }

-- a bench of so many seats, of which the first is chosen, at a store in this state
abbrev pub new_bench : State → ℕ → Benched
new_bench s seats = record { start = s; seen = []; seats = replicate seats unseated; chosen = 0 }

-- the state of the store
abbrev pub store_of : Benched → State
store_of b = state b.start b.seen

-- the chosen seat
abbrev pub seat_of : Benched → Seat
seat_of b = slice_index_or b.seats b.chosen unseated

-- the entries of an owner, if there is one
abbrev pub own_by : Option ℕ → List Entry → List Entry
own_by None seen = []
own_by (Some owner) seen = own owner seen

-- the view of the chosen seat: all entries were made at the bench
abbrev pub view_of : Benched → View
view_of b = record {
  start = b.start;
  owner = (seat_of b).owner;
  entered = (seat_of b).entered;
  seen = b.seen;
  mine = own_by (seat_of b).owner b.seen;
  made = length b.seen;
  left = 2 ^ 63 - length b.seen;
  grant = 2 ^ 63;
  identity = record { lock = None; place = b.chosen; seats = slice_set b.seats b.chosen unseated };
}

-- One more entry was made, which is the step from the store before it to the store after it. The same seat is chosen.
pub record IsAtStep (old new : Benched) (owner : ℕ) (event : Event) (reply : Reply) : Type 0 where
  pub start : new.start ≡ old.start
  pub seen : new.seen ≡ old.seen ++ record { owner = owner; event = event; reply = reply } ∷ []
  pub step : (reply, store_of new) ≡ step (store_of old) owner event
  pub chosen : new.chosen ≡ old.chosen

-- a seat at a store: its owner came since the start, and is open where it has entered
pub record IsSeatAt (start now : State) (seat : Seat) : Type 0 where
  pub came : IfSome seat.owner (λ owner. (start.next_owner ≤ owner) × (owner < now.next_owner))
  pub is_open : seat.entered ≡ true → (owner : ℕ) × (seat.owner ≡ Some owner) × (is_open now owner ≡ true)

-- no two seats have one owner
abbrev pub DistinctOwners : List Seat → Type 0
DistinctOwners [] = Unit {0}
DistinctOwners (seat ∷ seats) = IfSome seat.owner (λ owner. AllByRecursion (λ other. other.owner ≢ Some owner) seats) × DistinctOwners seats

-- What holds of a bench at a store: the store is where the history says, which is legal and began at a valid state with
-- small numbers.
pub record IsBench (now : State) (b : Benched) : Type 0 where
  pub valid : Valid b.start
  pub first_owner : b.start.next_owner ≤ 2 ^ 62
  pub first_lease : b.start.next_lease ≤ 2 ^ 62
  pub legal : Legal b.start b.seen
  pub at : now ≡ store_of b
  pub room : length b.seen ≤ 2 ^ 63
  pub chosen : b.chosen < length b.seats
  pub seats : AllByRecursion (IsSeatAt b.start now) b.seats
  pub owners : DistinctOwners b.seats
