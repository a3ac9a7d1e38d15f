-- The rule of a turn lock.
-- Word 0 counts the tickets that were drawn, word 1 the turns that ended. The one slot has the value, or is out with the
-- seat whose turn it is.
use Rattle.std.specs.Prelude.{◌≡◌, ◌≢◌, ◌⊎◌, ◌+◌, ◌^◌, ◌<◌, ◌≤◌, ℕ, List, [], ◌∷◌, length, Option, Some, IfSome}
use mathlib.Core.Option.{some}
use mathlib.Core.Option as maybe
use lib.ListN.{get_elem?}
use Rattle.atomic_table.specs.Table as table
use Rattle.store_core.specs.State.{State}
use Rattle.store_core.specs.History.{Entry, state, Legal, own}
use Rattle.turn_lock.specs.declared.phase.Phase.{Phase}
use Rattle.turn_lock.specs.declared.phase.Phase.TheVariants.{Idle, Waits, HasTurn, Gone}
use Rattle.turn_lock.specs.Views.{View, Extends}

-- a number of each view, added up
abbrev pub total : (View → ℕ) → List View → ℕ
total f [] = 0
total f (v ∷ vs) = f v + total f vs

abbrev pub tickets : Phase → ℕ
tickets Idle = 0
tickets (Waits t) = 1
tickets (HasTurn t) = 1
tickets Gone = 0

-- What is the same for all seats: the one history with the state at which it begins, the counts of tickets drawn and of
-- turns ended, which seat holds a ticket, and at which seat an owner is.
pub record Point : Type 0 where
  pub start : State
  pub log : List Entry
  pub drawn : ℕ
  pub ended : ℕ
  pub holder : ℕ → ℕ
  pub keeper : ℕ → ℕ

-- the number that the next owner gets
abbrev pub next : Point → ℕ
next p = (state p.start p.log).next_owner

abbrev pub Holds : Point → ℕ → ℕ → Type 0
Holds p id t = (p.ended ≤ t) × (t < p.drawn) × (p.holder t ≡ id)

-- what a seat knows by where it stands: one that has its turn has seen the whole history
abbrev pub Stage : Point → ℕ → List Entry → Phase → Type 0
Stage p id seen Idle = Unit {0}
Stage p id seen (Waits t) = Holds p id t
Stage p id seen (HasTurn t) = Holds p id t × (t ≡ p.ended) × (seen ≡ p.log)
Stage p id seen Gone = Unit {0}

-- what holds of each seat that isn't gone
pub record IsPresent (p : Point) (id : ℕ) (v : View) : Type 0 where
  pub start : v.start ≡ p.start
  pub seen : Extends v.seen p.log
  pub told : Extends v.told p.log
  pub owner : IfSome v.owner (λ o. (o < next p) × (p.keeper o ≡ id) × (own o p.log ≡ v.mine))
  pub budget : v.made + v.left + v.owed ≤ v.grant
  pub granted : 0 < v.grant
  pub stage : Stage p id v.seen v.phase

-- what holds of each seat
abbrev pub Each : Point → ℕ → View → Type 0
Each p id v = (v.phase ≢ Gone → IsPresent p id v) × (v.phase ≡ Gone → v.made ≡ 0)

-- some seat that isn't gone has seen the whole history
abbrev pub Whole : List Entry → List View → Type 0
Whole log views = (id : ℕ) × (v : View) × (get_elem? views id ≡ some v) × (v.phase ≢ Gone) × (v.seen ≡ log)

module _ {T : Type 0} (stands : T → State) where
  -- the value is at home, and stands for the state after the history
  abbrev pub IsHome : Point → List (maybe.Option (Option T)) → Type 0
  IsHome p homes = (x : T) × (get_elem? homes 0 ≡ some (some (Some x))) × (stands x ≡ state p.start p.log)

  -- a seat has the turn
  abbrev pub IsOut : ℕ → List View → Type 0
  IsOut ended views = (id : ℕ) × (v : View) × (get_elem? views id ≡ some v) × (v.phase ≡ HasTurn ended)

  pub record Kept (s : table.State (Option T) View) : Type 0 where
    pub point : Point
    pub words : s.words ≡ point.drawn ∷ point.ended ∷ []
    pub legal : Legal point.start point.log
    pub tickets : point.drawn ≡ point.ended + total (λ v. tickets v.phase) s.views
    pub room : point.drawn + total (λ v. v.left) s.views ≤ 2 ^ 63
    pub made : total (λ v. v.made) s.views ≡ length point.log
    pub grants : total (λ v. v.grant) s.views ≡ 2 ^ 63
    pub each : (id : ℕ) (v : View) → get_elem? s.views id ≡ some v → Each point id v
    -- no entry is by an owner that is still to come
    pub unknown : (o : ℕ) → next point ≤ o → own o point.log ≡ []
    pub whole : Whole point.log s.views
    pub value : IsHome point s.homes ⊎ IsOut point.ended s.views
