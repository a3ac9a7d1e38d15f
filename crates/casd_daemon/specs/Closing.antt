-- What a run leaves.
use Rattle.std.specs.Prelude.{◌≡◌, ◌+◌, ◌^◌, ◌⊎◌, nat_lt, codes, ℕ, Bool, true, false, List, [], ◌∷◌, ◌++◌, map, length}
use Rattle.std.specs.Fmt.{decimal}
use Rattle.std.specs.List.{AllByRecursion}
use Rattle.atomic_table.specs.Seated.{TableId}
use Rattle.store_core.specs.State.{State, used, digests}
use Rattle.store_core.specs.declared.event.Event.TheVariants as events
use Rattle.store_core.specs.declared.event.Reply.TheVariants as replies
use Rattle.store_core.specs.History.{Entry, Legal, own, state}
use Rattle.turn_lock.specs.Seats.{AtLock}
use Rattle.turn_lock.specs.Views as lock
use Rattle.blob_store.specs.Doors.{door_view}
use Rattle.blob_store.specs.View.{View, Enters}
use Rattle.casd_daemon.specs.Hosting.{Told, Tellers, behind, before, printing, keeping}
use Rattle.casd_daemon.specs.Running.{Case, IsTold, HasNone, turns_of, handed, MayBegin}
use Rattle.casd_daemon.specs.Working.{Works, IsPass}

-- how many turns the worker gets
abbrev pub worker_share : ℕ
worker_share = 2 ^ 60

-- how many passes come before the first connection
abbrev pub first_passes : Bool → ℕ
first_passes true = 1
first_passes false = 0

-- a store has more bytes than its high mark
abbrev pub is_over : State → Bool
is_over s = nat_lt s.high (used s)

-- the first seat of a new lock
pub record IsNew (at : TableId) (seat : AtLock) : Type 0 where
  pub begin : MayBegin seat.view.start
  pub at_lock : seat.lock ≡ at
  pub view : seat.view ≡ lock.first_view seat.view.start

-- The worker's owner came, by a seat that was given it, and made the first passes.
pub record Begins (seat : AtLock) (v : View) (first : ℕ) : Type 0 where
  pub entered : View
  pub enters : Enters (door_view (record seat { view = lock.fresh worker_share seat.view }) false) entered
  pub works : Works entered v first

-- The lock was closed, with this history. The cases are the connections, in the order in which they came: each was served, and
-- handed back once, in that order, with its report. The worker's owner came first, made its passes and went; the history has
-- its entries and those of the connections, and no others.
pub record Closed {K L : Type 0} (tell : Tellers K L) (start : State) (first : ℕ) (old new : Told K L) (closed : State) (count entries : ℕ) : Type 0 where
  pub history : List Entry
  pub cases : List (Case K L)
  pub legal : Legal start history
  pub told : AllByRecursion (IsTold tell history) cases
  pub came : old.left ≡ behind (map (λ c. c.conn) cases) new.left
  pub went : new.ended ≡ before old.ended (map handed cases)
  pub rest : new ≡ record old { left = new.left; ended = new.ended }
  pub counted : count ≡ length cases
  pub worker : ℕ
  pub answer : ℕ
  pub passes : List Entry
  pub worker_is : own worker history ≡ record { owner = worker; event = events.Open; reply = replies.Opened worker } ∷ (passes ++ record { owner = worker; event = events.Close; reply = replies.Closed } ∷ [])
  pub all : AllByRecursion IsPass passes
  pub passes_are : length passes ≡ first + answer
  pub entries_are : entries ≡ length history
  pub sum : length history ≡ turns_of cases + answer + first + 2
  pub closed_is : closed ≡ state start history

-- what is printed at the end
abbrev pub last_line : ℕ → ℕ → ℕ → ℕ → List ℕ
last_line count entries rows bytes =
    codes "connections " ++ (decimal count ++ (codes " entries " ++ (decimal entries ++ (codes " rows " ++ (decimal rows ++ (codes " used " ++ (decimal bytes ++ 10 ∷ [])))))))

-- The run was cut off, and nothing was kept or printed: all that was accepted was served and handed back.
pub record Breaks {K L : Type 0} (tell : Tellers K L) (start : State) (old new : Told K L) : Type 0 where
  pub closed : State
  pub count : ℕ
  pub entries : ℕ
  pub is_closed : Closed tell start (first_passes (is_over start)) old new closed count entries

-- The run came to its end, since so many connections came or none is left, and the lock was closed.
pub record Ends {K L : Type 0} (tell : Tellers K L) (start : State) (old new : Told K L) (most : ℕ) : Type 0 where
  pub closed : State
  pub count : ℕ
  pub entries : ℕ
  pub is_closed : Closed tell start (first_passes (is_over start)) old new closed count entries
  pub all : (count ≡ most) ⊎ HasNone new

-- The run came to its end, and the closed store's list of use was kept.
pub record Keeps {K L : Type 0} (tell : Tellers K L) (start : State) (old new : Told K L) (most : ℕ) : Type 0 where
  pub told : Told K L
  pub ends : Ends tell start old told most
  pub kept : new ≡ keeping (digests ends.closed.rows) told

-- The same, and then the line was printed.
pub record Finishes {K L : Type 0} (tell : Tellers K L) (start : State) (old new : Told K L) (most : ℕ) : Type 0 where
  pub told : Told K L
  pub ends : Ends tell start old told most
  pub printed : new ≡ printing (last_line ends.count ends.entries (length ends.closed.rows) (used ends.closed)) (keeping (digests ends.closed.rows) told)
