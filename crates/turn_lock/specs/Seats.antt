-- A seat at a turn lock, and its turn, as callers see them.
use Rattle.std.specs.Prelude.{◌≡◌, ◌+◌, ◌<◌, ◌≤◌, ◌^◌, ◌++◌, ℕ, List, [], ◌∷◌, length, Option, Some, None, IfSome, if◌then◌else◌}
use Rattle.atomic_table.specs.Table.{Me}
use Rattle.atomic_table.specs.Seated.{TableId}
use Rattle.store_core.specs.State.{State}
use Rattle.store_core.specs.declared.event.Event.{Event}
use Rattle.store_core.specs.declared.event.Event.TheVariants as events
use Rattle.store_core.specs.declared.event.Reply.{Reply}
use Rattle.store_core.specs.declared.event.Reply.TheVariants as replies
use Rattle.store_core.specs.Step.{is_opening, step}
use Rattle.store_core.specs.History.{Entry, IsLegalAt, Legal}
use Rattle.turn_lock.specs.declared.phase.Phase.{Phase}
use Rattle.turn_lock.specs.declared.phase.Phase.TheVariants.{Idle, Waits, HasTurn, Gone}
use Rattle.turn_lock.specs.Noted.{entry}
use Rattle.turn_lock.specs.Views.{View, Extends, IsOwn, state_of, longer}

-- which lock it is a seat of, and what it knows
pub record AtLock : Type 0 where
  pub lock : TableId
  pub view : View

-- a seat holds no turn
abbrev pub IsIdle : AtLock → Type 0
IsIdle h = h.view.phase ≡ Idle

-- a seat holds the turn with this number, and hasn't made an entry in it
abbrev pub IsInTurn : ℕ → AtLock → Type 0
IsInTurn ticket h = (h.view.phase ≡ HasTurn ticket) × (h.view.owed ≡ 1)

-- the number that a reply tells of a new owner
abbrev pub number_in : Reply → Option ℕ
number_in (replies.Opened number) = Some number
number_in reply = None

-- whose entry an event is, at a seat with this owner: at Open that of the number in the reply
abbrev pub author : Option ℕ → Event → Reply → Option ℕ
author owner event reply = if is_opening event then number_in reply else owner

-- An entry may be made, and leads to this state.
pub record MayGive (v : View) (event : Event) (reply : Reply) (stood : State) : Type 0 where
  pub owner : ℕ
  pub is_owner : author v.owner event reply ≡ Some owner
  pub legal : IsLegalAt (state_of v) (entry owner event reply)
  pub after : stood ≡ (step (state_of v) owner event).1

-- the seat has its turn: it has seen the whole history, for which there is room for one entry more
pub record Takes (old new : AtLock) (ticket : ℕ) : Type 0 where
  pub lock : new.lock ≡ old.lock
  pub turn : IsInTurn ticket new
  pub seen : Extends old.view.seen new.view.seen
  pub few : length new.view.seen < 2 ^ 63
  pub left : new.view.left + 1 ≡ old.view.left
  pub start : new.view.start ≡ old.view.start
  pub owner : new.view.owner ≡ old.view.owner
  pub mine : new.view.mine ≡ old.view.mine
  pub made : new.view.made ≡ old.view.made
  pub grant : new.view.grant ≡ old.view.grant
  pub legal : Legal new.view.start new.view.seen
  pub is_own : IsOwn new.view

-- the turn ended, with one entry or with none
pub record Ends (old new : AtLock) : Type 0 where
  pub lock : new.lock ≡ old.lock
  pub idle : IsIdle new
  pub left : new.view.left ≡ old.view.left
  pub start : new.view.start ≡ old.view.start
  pub grant : new.view.grant ≡ old.view.grant
  pub legal : Legal new.view.start new.view.seen
  pub is_own : IsOwn new.view

pub record Gives (old new : AtLock) (event : Event) (reply : Reply) : Type 0 where
  pub ends : Ends old new
  pub number : ℕ
  pub owner : new.view.owner ≡ Some number
  pub author : author old.view.owner event reply ≡ Some number
  pub seen : new.view.seen ≡ old.view.seen ++ entry number event reply ∷ []
  pub mine : new.view.mine ≡ (if is_opening event then [] else old.view.mine) ++ entry number event reply ∷ []
  pub made : new.view.made ≡ old.view.made + 1

pub record GivesBack (old new : AtLock) : Type 0 where
  pub ends : Ends old new
  pub owner : new.view.owner ≡ old.view.owner
  pub seen : new.view.seen ≡ old.view.seen
  pub mine : new.view.mine ≡ old.view.mine
  pub made : new.view.made ≡ old.view.made

-- the seat took in another
pub record Joined (into from new : AtLock) : Type 0 where
  pub lock : new.lock ≡ into.lock
  pub idle : IsIdle new
  pub start : new.view.start ≡ into.view.start
  pub owner : new.view.owner ≡ into.view.owner
  pub mine : new.view.mine ≡ into.view.mine
  pub seen : new.view.seen ≡ longer into.view.seen from.view.seen
  pub begins : Extends into.view.seen new.view.seen
  pub begins_too : Extends from.view.seen new.view.seen
  pub made : new.view.made ≡ into.view.made + from.view.made
  pub left : new.view.left ≡ into.view.left + from.view.left
  pub grant : new.view.grant ≡ into.view.grant + from.view.grant
  pub legal : Legal new.view.start new.view.seen
  pub is_own : IsOwn new.view

-- the last of the entries is a Close
abbrev pub EndsInClose : List Entry → Type 0
EndsInClose mine = (before : List Entry) × (owner : ℕ) × (mine ≡ before ++ entry owner events.Close replies.Closed ∷ [])

-- the owner of a seat, if it has had one, has left
abbrev pub HasLeft : View → Type 0
HasLeft v = IfSome v.owner (λ _. EndsInClose v.mine)

-- what a seat carries by where it stands
abbrev pub Carries : {T : Type 0} → Phase → List (ℕ × Option T) → Type 0
Carries Idle carried = carried ≡ []
Carries (Waits t) carried = ⊥
Carries (HasTurn t) carried = carried ≡ (0, None) ∷ []
Carries Gone carried = ⊥

-- what holds of the parts of a seat
pub record IsSeat {T : Type 0} (me : Me (Option T) View) (turns entries : ℕ) (number : Option ℕ) : Type 0 where
  pub carried : Carries me.0.phase me.1
  pub left : turns ≡ me.0.left
  pub made : entries ≡ me.0.made
  pub owner : number ≡ me.0.owner
  pub told : me.0.told ≡ []
  pub budget : me.0.made + me.0.left + me.0.owed ≤ me.0.grant
  pub few : me.0.grant ≤ 2 ^ 63
  pub legal : Legal me.0.start me.0.seen
  pub is_own : IsOwn me.0
