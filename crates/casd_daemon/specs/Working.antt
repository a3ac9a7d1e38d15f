-- The worker.
use Rattle.std.specs.Prelude.{◌≡◌, ◌+◌, ◌≤◌, ℕ, true, List, [], ◌∷◌, ◌++◌, length, Some}
use Rattle.std.specs.List.{AllByRecursion}
use Rattle.store_core.specs.declared.event.Event.TheVariants as events
use Rattle.store_core.specs.declared.event.Reply.TheVariants as replies
use Rattle.store_core.specs.History.{Entry}
use Rattle.turn_lock.specs.Seats.{AtLock, IsIdle}
use Rattle.turn_lock.specs.Views as lock
use Rattle.blob_store.specs.View.{View, own_now}

abbrev pub IsPass : Entry → Type 0
IsPass e = e.event ≡ events.Pass

-- so many passes were made, and nothing else
pub record Works (old new : View) (count : ℕ) : Type 0 where
  pub is_in : new.entered ≡ true
  pub none : own_now new ≡ []
  pub same_owner : new.owner ≡ old.owner
  pub start : new.start ≡ old.start
  pub seen : lock.Extends old.seen new.seen
  pub more : List Entry
  pub mine : new.mine ≡ old.mine ++ more
  pub length_is : length more ≡ count
  pub passes : AllByRecursion IsPass more
  pub made : new.made ≡ old.made + count
  pub grant : new.grant ≡ old.grant
  pub identity : new.identity ≡ old.identity
  pub used : old.left ≤ new.left + count
  pub left : new.left ≤ old.left

-- The worker made so many passes, and left.
pub record IsWorked (v : View) (seat : AtLock) (passes : ℕ) : Type 0 where
  pub number : ℕ
  pub at_lock : v.identity.lock ≡ Some seat.lock
  pub idle : IsIdle seat
  pub start : seat.view.start ≡ v.start
  pub grant : seat.view.grant ≡ v.grant
  pub made : seat.view.made ≡ v.made + passes + 1
  pub was_owner : v.owner ≡ Some number
  pub owner : seat.view.owner ≡ Some number
  pub is_own : lock.IsOwn seat.view
  pub more : List Entry
  pub length_is : length more ≡ passes
  pub all : AllByRecursion IsPass more
  pub mine : seat.view.mine ≡ v.mine ++ more ++ record { owner = number; event = events.Close; reply = replies.Closed } ∷ []
