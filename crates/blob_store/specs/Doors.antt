-- What a door at a turn lock keeps of its seat.
use Rattle.std.specs.Prelude.{◌≡◌, ◌+◌, ◌≤◌, ◌^◌, ℕ, Bool, true, false, List, [], ◌∷◌, Some, IfSome}
use Rattle.store_core.specs.State.{Valid}
use Rattle.store_core.specs.declared.event.Event.{Event}
use Rattle.store_core.specs.declared.event.Event.TheVariants as events
use Rattle.store_core.specs.History.{Entry}
use Rattle.turn_lock.specs.Views as lock
use Rattle.turn_lock.specs.Seats.{AtLock, IsIdle}
use Rattle.atomic_table.specs.Seated.{TableId}
use Rattle.blob_store.specs.View.{View, own_now}

-- whether an owner is in the store after an event of its own, by whether it was before
abbrev pub in_after : Event → Bool → Bool
in_after events.Open was = true
in_after (events.Put d edges) was = was
in_after (events.Find ds) was = was
in_after (events.Read d) was = was
in_after (events.Lease root kind) was = was
in_after (events.Confirm id files) was = was
in_after (events.Release id) was = was
in_after (events.Damage d) was = was
in_after events.Pass was = was
in_after events.Usage was = was
in_after events.Close was = false

-- the same after a list of its own entries
abbrev pub is_in : Bool → List Entry → Bool
is_in was [] = was
is_in was (entry ∷ entries) = is_in (in_after entry.event was) entries

-- what a door shows of its seat
abbrev pub door_view : AtLock → Bool → View
door_view h entered = record {
  start = h.view.start;
  owner = h.view.owner;
  entered = entered;
  seen = h.view.seen;
  mine = h.view.mine;
  made = h.view.made;
  left = h.view.left;
  grant = h.view.grant;
  identity = record { lock = Some h.lock; place = 0; seats = [] };
}

-- The history began at a valid state with small numbers. The seat's owner came since, and where it is in the store its own
-- entries say so.
pub record IsDoor (v : lock.View) (entered : Bool) : Type 0 where
  pub valid : Valid v.start
  pub first_owner : v.start.next_owner ≤ 2 ^ 62
  pub first_lease : v.start.next_lease ≤ 2 ^ 62
  pub came : IfSome v.owner (λ owner. v.start.next_owner ≤ owner)
  pub is_in : entered ≡ true → (owner : ℕ) × (v.owner ≡ Some owner) × ((was : Bool) → is_in was v.mine ≡ true)

-- what holds of a door's seat between its calls
pub record IsLockDoor (at : TableId) (h : AtLock) (entered : Bool) : Type 0 where
  pub at_lock : h.lock ≡ at
  pub idle : IsIdle h
  pub door : IsDoor h.view entered
  pub is_own : lock.IsOwn h.view

-- what a door at a lock shows: its view, and how often it rang
pub record Gated : Type 0 where
  pub view : View
  pub rings : ℕ

-- what holds of a door and its gate between two calls: the gate has rung at most once a turn
pub record IsGated (at : TableId) (h : AtLock) (entered : Bool) (rings : ℕ) : Type 0 where
  pub door : IsLockDoor at h entered
  pub room : rings + h.view.left ≤ 2 ^ 63

-- A door goes on: its owner is in the store and holds no lease, and at most so many turns were used.
pub record GoesOn (old new : View) (turns : ℕ) : Type 0 where
  pub is_in : new.entered ≡ true
  pub none : own_now new ≡ []
  pub identity : new.identity ≡ old.identity
  pub grant : new.grant ≡ old.grant
  pub left : old.left ≤ new.left + turns
