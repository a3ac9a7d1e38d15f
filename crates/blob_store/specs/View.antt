-- What a seat has seen of the store, and what its calls add.
use Rattle.std.specs.Prelude.{◌≡◌, ◌+◌, ◌≤◌, ◌<◌, ℕ, Bool, true, false, List, [], ◌∷◌, ◌++◌, length, Option, Some, None, IfSome}
use Rattle.std.specs.List.{list_any}
use Rattle.atomic_table.specs.Seated.{TableId}
use Rattle.store_core.specs.State.{State, Valid, has_id}
use Rattle.store_core.specs.declared.state.Lease.{Lease}
use Rattle.store_core.specs.History.{Entry, state, Legal, own, own_leases}
use Rattle.store_core.specs.declared.event.Event.{Event}
use Rattle.store_core.specs.declared.event.Event.TheVariants as events
use Rattle.store_core.specs.declared.event.Reply.{Reply}
use Rattle.store_core.specs.declared.event.Reply.TheVariants as replies
use Rattle.turn_lock.specs.Views.{Extends}
use Rattle.blob_store.specs.declared.seat.Seat.{Seat}

-- What a door keeps of itself from call to call: the lock at which it stands, if it stands at one; and where it is one of
-- several seats in a row, its place and the seats, of which the one at its own place has no owner here. Each door fills
-- this, and each call keeps it: a caller that knows nothing else of the door knows after a call that it is at the same
-- lock and has the same seat.
pub record Identity : Type 0 where
  pub lock : Option TableId
  pub place : ℕ
  pub seats : List Seat

-- The state at which the history begins; the seat's owner, if it has had one, and whether that is in the store now; the
-- history that was seen; the owner's own entries; how many entries the seat has made; how many turns it may still take, and
-- how many it was given; and the door's identity, which no call changes.
pub record View : Type 0 where
  pub start : State
  pub owner : Option ℕ
  pub entered : Bool
  pub seen : List Entry
  pub mine : List Entry
  pub made : ℕ
  pub left : ℕ
  pub grant : ℕ
  pub identity : Identity

-- the state of the store after all that was seen
abbrev pub state_of : View → State
state_of v = state v.start v.seen

-- what was seen is a legal history from a valid state
pub record IsSound (v : View) : Type 0 where
  pub valid : Valid v.start
  pub legal : Legal v.start v.seen

-- the owner's own entries are those of it in what was seen
abbrev pub IsOwn : View → Type 0
IsOwn v = IfSome v.owner (λ owner. own owner v.seen ≡ v.mine)

-- a seat whose owner is in the store has that owner, and its own entries
pub record IsSeated (v : View) : Type 0 where
  pub number : ℕ
  pub owner : v.owner ≡ Some number
  pub is_own : own number v.seen ≡ v.mine

-- the entries are those of an owner, with these events and replies in turn
abbrev pub by : ℕ → List (Event × Reply) → List Entry
by owner [] = []
by owner (pair ∷ pairs) = record { owner = owner; event = pair.0; reply = pair.1 } ∷ by owner pairs

-- The owner of a seat that has entered made entries of these events and replies, in at most so many turns. What was seen
-- before is the beginning of what is seen now; what stands between is the entries of others.
pub record Turns (old new : View) (turns : ℕ) (made : List (Event × Reply)) : Type 0 where
  pub owner : ℕ
  pub is_owner : old.owner ≡ Some owner
  pub same_owner : new.owner ≡ old.owner
  pub was_in : old.entered ≡ true
  pub is_in : new.entered ≡ true
  pub start : new.start ≡ old.start
  pub seen : Extends old.seen new.seen
  pub is_own : own owner new.seen ≡ new.mine
  pub mine : new.mine ≡ old.mine ++ by owner made
  pub count : new.made ≡ old.made + length made
  pub grant : new.grant ≡ old.grant
  pub identity : new.identity ≡ old.identity
  pub left : new.left ≤ old.left
  pub used : old.left ≤ new.left + turns

-- one entry, which ends what is seen
pub record Makes (old new : View) (event : Event) (reply : Reply) : Type 0 where
  pub turns : Turns old new 1 ((event, reply) ∷ [])
  pub last : (before : List Entry) × (new.seen ≡ before ++ record { owner = turns.owner; event = event; reply = reply } ∷ [])

-- no entry: the call was refused, and at most a turn was used
abbrev pub Waits : View → View → Type 0
Waits old new = Turns old new 1 []

-- The seat's owner came: its number is the one in the reply, and its own entries begin anew with this one, which ends what
-- is seen.
pub record Enters (old new : View) : Type 0 where
  pub number : ℕ
  pub is_in : new.entered ≡ true
  pub owner : new.owner ≡ Some number
  pub mine : new.mine ≡ record { owner = number; event = events.Open; reply = replies.Opened number } ∷ []
  pub is_own : own number new.seen ≡ new.mine
  pub start : new.start ≡ old.start
  pub seen : Extends old.seen new.seen
  pub last : (before : List Entry) × (new.seen ≡ before ++ new.mine)
  pub count : new.made ≡ old.made + 1
  pub grant : new.grant ≡ old.grant
  pub identity : new.identity ≡ old.identity
  pub left : new.left ≤ old.left
  pub used : old.left ≤ new.left + 1

-- A seat that hasn't entered was refused: nothing is its own still.
pub record StaysOut (old new : View) : Type 0 where
  pub owner : new.owner ≡ old.owner
  pub is_out : new.entered ≡ false
  pub mine : new.mine ≡ old.mine
  pub is_own : IsOwn new
  pub start : new.start ≡ old.start
  pub seen : Extends old.seen new.seen
  pub count : new.made ≡ old.made
  pub grant : new.grant ≡ old.grant
  pub identity : new.identity ≡ old.identity
  pub left : new.left ≤ old.left
  pub used : old.left ≤ new.left + 1

-- The seat's owner went: its Close ends what is seen. Its own entries can be read until it comes again.
pub record Leaves (old new : View) : Type 0 where
  pub owner : ℕ
  pub is_owner : old.owner ≡ Some owner
  pub same_owner : new.owner ≡ old.owner
  pub is_out : new.entered ≡ false
  pub start : new.start ≡ old.start
  pub seen : Extends old.seen new.seen
  pub is_own : own owner new.seen ≡ new.mine
  pub mine : new.mine ≡ old.mine ++ record { owner = owner; event = events.Close; reply = replies.Closed } ∷ []
  pub last : (before : List Entry) × (new.seen ≡ before ++ record { owner = owner; event = events.Close; reply = replies.Closed } ∷ [])
  pub count : new.made ≡ old.made + 1
  pub grant : new.grant ≡ old.grant
  pub identity : new.identity ≡ old.identity
  pub left : new.left ≤ old.left
  pub used : old.left ≤ new.left + 1

-- a call can be made: the seat has entered, and may take a turn
pub record MayCall (v : View) : Type 0 where
  pub is_in : v.entered ≡ true
  pub turn : 0 < v.left

-- the leases that the owner holds, by its own entries: none before the first
abbrev pub leases_by : Option ℕ → List Entry → List Lease
leases_by None mine = []
leases_by (Some owner) mine = own_leases owner [] mine

abbrev pub own_now : View → List Lease
own_now v = leases_by v.owner v.mine

-- whether the owner holds the lease with this number
abbrev pub holds : View → ℕ → Bool
holds v id = list_any (has_id id) (own_now v)
