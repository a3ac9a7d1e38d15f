-- What each kind of step tells its seat.
use Rattle.std.specs.Prelude.{◌≡◌, ◌≢◌, ◌-◌, ◌^◌, ◌<◌, ◌≤◌, ℕ, List, [], ◌∷◌, length, Option, Some, None}
use Rattle.atomic_table.specs.Table.{Me}
use Rattle.store_core.specs.State.{State}
use Rattle.store_core.specs.History.{Entry, Legal, own}
use Rattle.turn_lock.specs.declared.phase.Phase.TheVariants.{Idle, Waits, HasTurn}
use Rattle.turn_lock.specs.Views.{View, Extends, IsOwn, state_of, with_entry, both}

module _ {T : Type 0} (stands : T → State) where
  -- the seat has the ticket that was found
  abbrev pub Drew : Me (Option T) View → ℕ → Me (Option T) View → Type 0
  Drew m r n = n ≡ (record m.0 { phase = Waits r; left = m.0.left - 1; owed = 1 }, m.1)

  -- the turn has come: the seat has seen the whole history, and the slot is out with it
  pub record IsDue (m : Me (Option T) View) (r : ℕ) (n : Me (Option T) View) : Type 0 where
    pub seen : Extends m.0.seen n.0.seen
    pub view : n.0 ≡ record m.0 { phase = HasTurn r; seen = n.0.seen }
    pub legal : Legal n.0.start n.0.seen
    pub few : length n.0.seen < 2 ^ 63
    pub is_own : IsOwn n.0
    pub value : T
    pub slot : n.1 ≡ (0, Some value) ∷ []
    pub is_value : stands value ≡ state_of n.0

  abbrev pub Looked : Me (Option T) View → ℕ → Me (Option T) View → Type 0
  Looked m r n = (m.0.phase ≡ Waits r → IsDue m r n) × (m.0.phase ≢ Waits r → n ≡ m)

  -- the entry is made
  abbrev pub Entered : Entry → Me (Option T) View → ℕ → Me (Option T) View → Type 0
  Entered e m r n = (n ≡ (with_entry e m.0, m.1)) × Legal n.0.start n.0.seen × IsOwn n.0

  -- the turn is over, and the slot is home
  abbrev pub PassedOn : Me (Option T) View → ℕ → Me (Option T) View → Type 0
  PassedOn m r n = n ≡ (record m.0 { phase = Idle; owed = 0 }, [])

  -- What was told begins what was seen, and an owner with all its own entries in a beginning has no others.
  pub record Learnt (m : Me (Option T) View) (r : ℕ) (n : Me (Option T) View) : Type 0 where
    pub me : n ≡ (record m.0 { told = [] }, m.1)
    pub begins : Extends m.0.told m.0.seen
    pub own : (o : ℕ) (before : List Entry) → m.0.owner ≡ Some o → Extends before m.0.seen → own o before ≡ m.0.mine → own o m.0.seen ≡ m.0.mine
    pub legal : Legal n.0.start n.0.seen
    pub few : n.0.grant ≤ 2 ^ 63

  -- ---- several steps

  -- the turn was waited for, and the value taken out
  pub record Took (m : Me (Option T) View) (ticket : ℕ) (value : T) (n : Me (Option T) View) : Type 0 where
    pub seen : Extends m.0.seen n.0.seen
    pub view : n.0 ≡ record m.0 { phase = HasTurn ticket; left = m.0.left - 1; owed = 1; seen = n.0.seen }
    pub legal : Legal n.0.start n.0.seen
    pub few : length n.0.seen < 2 ^ 63
    pub is_own : IsOwn n.0
    pub slot : n.1 ≡ (0, None) ∷ []
    pub is_value : stands value ≡ state_of n.0

  -- an entry was made, and the turn ended
  pub record Gave (m : Me (Option T) View) (e : Entry) (n : Me (Option T) View) : Type 0 where
    pub me : n ≡ (record (with_entry e m.0) { phase = Idle }, [])
    pub legal : Legal n.0.start n.0.seen
    pub is_own : IsOwn n.0

  -- a seat took in another
  pub record United (m o n : Me (Option T) View) : Type 0 where
    pub me : n ≡ (record (both m.0 o.0) { told = [] }, m.1)
    pub begins : Extends m.0.seen n.0.seen × Extends o.0.seen n.0.seen
    pub is_own : IsOwn n.0
    pub legal : Legal n.0.start n.0.seen
    pub few : n.0.grant ≤ 2 ^ 63
