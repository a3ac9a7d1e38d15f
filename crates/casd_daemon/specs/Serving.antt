-- What `serve` leaves, by its end.
use Rattle.std.specs.Prelude.{◌≡◌, ◌⊎◌, ℕ, List, length, Some}
use Rattle.casd_base.specs.Causes.{Rose}
use Rattle.digest_types.specs.Name.{HashAndSize}
use Rattle.store_core.specs.State.{State, used, digests}
use Rattle.store_core.specs.declared.state.Guard.{Guard}
use Rattle.blob_store.specs.Loading.{IsLoaded}
use Rattle.blob_store.specs.Restored.{restored}
use Rattle.blob_store.specs.Shelves.{Fails}
use Rattle.casd_daemon.specs.Closing.{Breaks, Ends, Keeps, Finishes, last_line}
use Rattle.casd_daemon.specs.Hosting.{Told, Counts, Hosted, Tellers, IsShelfOf, printing, keeping}
use Rattle.casd_daemon.specs.Words.{Asked}
use Rattle.casd_daemon.specs.declared.end.ServeEnd.{ServeEnd}
use Rattle.casd_daemon.specs.declared.end.ServeEnd.TheVariants as ends
use Rattle.casd_daemon.specs.declared.run.RunEnd.{RunEnd}
use Rattle.casd_daemon.specs.declared.run.RunEnd.TheVariants as runs

-- the status of the process
abbrev pub status_of : ServeEnd → ℕ
status_of ends.Done = 0
status_of ends.Refused = 2
status_of ends.Unloaded = 3
status_of ends.Unaccepted = 4
status_of ends.OutOfMemory = 5
status_of ends.Unprinted = 6
status_of ends.Unkept = 7

-- the store of this state has its list of use kept
abbrev pub keeping_of : {K L : Type 0} → State → Told K L → Told K L
keeping_of closed t = keeping (digests closed.rows) t

-- What follows a run that ended so, once its lock was closed on this state: the list of use is kept, and then the line is
-- printed. A fault comes only where the host counted it.
abbrev pub Concludes : {K L : Type 0} → RunEnd → ℕ → ℕ → State → ServeEnd → Hosted K L → Hosted K L → Type 0
Concludes e count entries closed ends.Done old new =
    (e ≡ runs.Done) × (new.told ≡ printing (last_line count entries (length closed.rows) (used closed)) (keeping_of closed old.told))
Concludes e count entries closed ends.Refused old new = ⊥
Concludes e count entries closed ends.Unloaded old new = ⊥
Concludes e count entries closed ends.Unaccepted old new = (e ≡ runs.Failed) × (new.told ≡ old.told)
Concludes e count entries closed ends.OutOfMemory old new =
    (new.told ≡ old.told) ⊎ ((e ≡ runs.Done) × (new.told ≡ keeping_of closed old.told))
Concludes e count entries closed ends.Unprinted old new =
    (e ≡ runs.Done) × (new.told ≡ keeping_of closed old.told) × Rose old.counts.printing new.counts.printing
Concludes e count entries closed ends.Unkept old new = (e ≡ runs.Done) × (new.told ≡ old.told) × Rose old.counts.keeping new.counts.keeping

-- What comes of a store that is served, of this state at the beginning and for so many connections at most. A fault comes
-- only where the host counted it. Want of memory may come before the first connection, after the last one, and after the
-- list of use was kept.
abbrev pub ServesStore : {K L : Type 0} → Tellers K L → State → ℕ → ServeEnd → Told K L → Told K L → Counts → Counts → Type 0
ServesStore tell start most ends.Done old new before after = Finishes tell start old new most
ServesStore tell start most ends.Refused old new before after = ⊥
ServesStore tell start most ends.Unloaded old new before after = ⊥
ServesStore tell start most ends.Unaccepted old new before after = Breaks tell start old new × Rose before.accepting after.accepting
ServesStore tell start most ends.OutOfMemory old new before after = (new ≡ old) ⊎ (Breaks tell start old new ⊎ Keeps tell start old new most)
ServesStore tell start most ends.Unprinted old new before after = Keeps tell start old new most × Rose before.printing after.printing
ServesStore tell start most ends.Unkept old new before after = Ends tell start old new most × Rose before.keeping after.keeping

-- the host made a shelf: what that finds may be found no more
abbrev pub Lends : {K L : Type 0} → Told K L → Told K L → Type 0
Lends old new = new ≡ record old { found = new.found; saved = new.saved }

-- A store is loaded from what the host tells. Where that tells the bodies that are found and the saved list, they determine it.
pub record Opens {K L : Type 0} (low high : ℕ) (guard : Guard) (told : Told K L) (start : State) : Type 0 where
  pub loaded : IsLoaded low high guard start
  pub restored_is : (found : List (List ℕ)) (saved : List HashAndSize) → told.found ≡ Some found → told.saved ≡ Some saved → start ≡ restored saved found low high guard

-- a shelf of the host failed, and it was counted
abbrev pub ShelfFails : {K L : Type 0} → Tellers K L → Told K L → Type 0
ShelfFails {K = K} tell told = (shelf : K) × (after : K) × IsShelfOf told (tell.shelved shelf) × Fails (tell.shelved shelf) (tell.shelved after)

-- why no store was loaded: want of memory, or a fault that the host or its shelf counted
abbrev pub CantLoad : {K L : Type 0} → Tellers K L → ServeEnd → Told K L → Counts → Counts → Type 0
CantLoad tell ends.Done told before after = ⊥
CantLoad tell ends.Refused told before after = ⊥
CantLoad tell ends.Unloaded told before after = Rose before.accepting after.accepting ⊎ ShelfFails tell told
CantLoad tell ends.Unaccepted told before after = ⊥
CantLoad tell ends.OutOfMemory told before after = Unit {0}
CantLoad tell ends.Unprinted told before after = ⊥
CantLoad tell ends.Unkept told before after = ⊥

-- why a host isn't ready
abbrev pub CantPrepare : ServeEnd → Counts → Counts → Type 0
CantPrepare ends.Done before after = ⊥
CantPrepare ends.Refused before after = ⊥
CantPrepare ends.Unloaded before after = ⊥
CantPrepare ends.Unaccepted before after = Rose before.accepting after.accepting
CantPrepare ends.OutOfMemory before after = Unit {0}
CantPrepare ends.Unprinted before after = ⊥
CantPrepare ends.Unkept before after = ⊥

-- A store was loaded as was asked, and served.
pub record Served {K L : Type 0} (tell : Tellers K L) (a : Asked) (end : ServeEnd) (old new : Told K L) (before after : Counts) : Type 0 where
  pub start : State
  pub opens : Opens a.low a.high a.guard old start
  pub lent : Told K L
  pub lends : Lends old lent
  pub serves : ServesStore tell start a.connections end lent new before after

-- What comes of words that ask for this. A fault comes only where it was counted, and before the first connection nothing
-- else happened.
abbrev pub ServesAs : {K L : Type 0} → Tellers K L → Asked → ServeEnd → Told K L → Told K L → Counts → Counts → Type 0
ServesAs tell a ends.Done old new before after = Served tell a ends.Done old new before after
ServesAs tell a ends.Refused old new before after = ⊥
ServesAs tell a ends.Unloaded old new before after = Lends old new × CantLoad tell ends.Unloaded old before after
ServesAs tell a ends.Unaccepted old new before after =
    ((new ≡ old) × Rose before.accepting after.accepting) ⊎ Served tell a ends.Unaccepted old new before after
ServesAs tell a ends.OutOfMemory old new before after = Lends old new ⊎ Served tell a ends.OutOfMemory old new before after
ServesAs tell a ends.Unprinted old new before after = Served tell a ends.Unprinted old new before after
ServesAs tell a ends.Unkept old new before after = Served tell a ends.Unkept old new before after
