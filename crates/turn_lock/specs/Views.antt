-- What a seat at a turn lock knows.
use Rattle.std.specs.Prelude.{◌≡◌, ◌+◌, ◌-◌, ◌^◌, ◌++◌, nat_lt, ℕ, List, [], ◌∷◌, length, Option, Some, None, IfSome, if◌then◌else◌}
use Rattle.store_core.specs.State.{State, new_state}
use Rattle.store_core.specs.declared.state.Guard.TheVariants as guards
use Rattle.store_core.specs.History.{Entry, state, own}
use Rattle.store_core.specs.Step.{is_opening}
use Rattle.turn_lock.specs.declared.phase.Phase.{Phase}
use Rattle.turn_lock.specs.declared.phase.Phase.TheVariants.{Idle, Gone}

-- The state at which the history begins; the seat's owner, if it has had one; the history that was seen; the owner's own
-- entries; how many entries the seat and those that it took in have made; how many turns it may still take; how many it
-- was given, less those that it gave on; and where it stands. `owed` is 1 while it has a ticket and hasn't made the entry
-- of that turn. `told` is what one of two joined seats had seen, until it is known to begin what the other has seen.
pub record View : Type 0 where
  pub start : State
  pub owner : Option ℕ
  pub seen : List Entry
  pub mine : List Entry
  pub made : ℕ
  pub left : ℕ
  pub grant : ℕ
  pub phase : Phase
  pub owed : ℕ
  pub told : List Entry

-- the state after all that was seen
abbrev pub state_of : View → State
state_of v = state v.start v.seen

-- a list begins with another
abbrev pub Extends : List Entry → List Entry → Type 0
Extends old new = (more : List Entry) × (new ≡ old ++ more)

-- the owner's own entries are those of it in what was seen
abbrev pub IsOwn : View → Type 0
IsOwn v = IfSome v.owner (λ o. own o v.seen ≡ v.mine)

-- the seat of a new lock
abbrev pub first_view : State → View
first_view s = record { start = s; owner = None; seen = []; mine = []; made = 0; left = 2 ^ 63; grant = 2 ^ 63; phase = Idle; owed = 0; told = [] }

-- a seat gives so many turns to a new one
abbrev pub stays : ℕ → View → View
stays turns v = record v { left = v.left - turns; grant = v.grant - turns }

-- the new seat
abbrev pub fresh : ℕ → View → View
fresh turns v = record { start = v.start; owner = None; seen = v.seen; mine = []; made = 0; left = turns; grant = turns; phase = Idle; owed = 0; told = [] }

abbrev pub longer : List Entry → List Entry → List Entry
longer xs ys = if nat_lt (length xs) (length ys) then ys else xs

abbrev pub shorter : List Entry → List Entry → List Entry
shorter xs ys = if nat_lt (length xs) (length ys) then xs else ys

-- a seat takes in another
abbrev pub both : View → View → View
both v w = record v { seen = longer v.seen w.seen; told = shorter v.seen w.seen; made = v.made + w.made; left = v.left + w.left; grant = v.grant + w.grant }

-- the other, which is over
abbrev pub spent : View
spent = record { start = new_state 0 0 guards.Leases; owner = None; seen = []; mine = []; made = 0; left = 0; grant = 0; phase = Gone; owed = 0; told = [] }

-- One entry ends what was seen. At Open the owner is the entry's, and its own entries begin with this one.
abbrev pub with_entry : Entry → View → View
with_entry e v = record v {
  owner = if is_opening e.event then Some e.owner else v.owner;
  seen = v.seen ++ e ∷ [];
  mine = (if is_opening e.event then [] else v.mine) ++ e ∷ [];
  made = v.made + 1;
  owed = 0;
}
