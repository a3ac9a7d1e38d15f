-- What is done to the store and noted in a diary.
use Rattle.std.specs.Prelude.{◌≡◌, ◌≢◌, ◌<◌, ◌-◌, ◌^◌, ℕ, ◌∷◌, ◌++◌, [], length}
use Rattle.store_core.specs.declared.event.Event.{Event}
use Rattle.store_core.specs.declared.event.Reply.{Reply}
use Rattle.store_core.specs.declared.event.Reply.TheVariants as replies
use Rattle.store_core.specs.State.{State}
use Rattle.store_core.specs.Step.{step}
use Rattle.store_core.specs.History.{IsNumbered, state}
use Rattle.turn_lock.specs.Told.{Told}
use Rattle.turn_lock.specs.Noted.{entry}

-- the store is where the diary says
abbrev pub IsAt : State → Told → Type 0
IsAt s told = s ≡ state told.start told.seen

-- An event of an owner may be done and noted: the store is where the diary says, which takes one more entry; the step
-- doesn't refuse the event; and at Open the owner is the one that comes.
pub record MayNote (s : State) (told : Told) (owner : ℕ) (event : Event) : Type 0 where
  pub at : IsAt s told
  pub room : length told.seen < 2 ^ 63
  pub served : (step s owner event).0 ≢ replies.Refused
  pub numbered : IsNumbered owner (step s owner event).0
  pub owners : s.next_owner < 2 ^ 64 - 1
  pub leases : s.next_lease < 2 ^ 64 - 1

-- The event was done, with the step's reply, and it is the last entry of the diary.
pub record IsDone (s s' : State) (told told' : Told) (owner : ℕ) (event : Event) (reply : Reply) : Type 0 where
  pub step : (reply, s') ≡ step s owner event
  pub noted : told' ≡ record told { seen = told.seen ++ entry owner event reply ∷ [] }

-- nothing was done
pub record IsUndone (s s' : State) (told told' : Told) : Type 0 where
  pub same : s' ≡ s
  pub untold : told' ≡ told
