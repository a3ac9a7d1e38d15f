-- A run: connections that are served by threads, and what comes of them.
use Rattle.std.specs.Prelude.{◌≡◌, ◌+◌, ◌*◌, ◌≤◌, ◌<◌, ◌^◌, ℕ, false, List, [], ◌∷◌, ◌++◌, map, length, None, IfSome}
use Rattle.std.specs.List.{AllByRecursion}
use Rattle.atomic_table.specs.Seated.{TableId}
use Rattle.store_core.specs.State.{State, Valid}
use Rattle.store_core.specs.declared.event.Event.TheVariants as events
use Rattle.store_core.specs.declared.event.Reply.TheVariants as replies
use Rattle.store_core.specs.History.{Entry, own}
use Rattle.turn_lock.specs.Seats.{AtLock, IsIdle, EndsInClose}
use Rattle.turn_lock.specs.Views.{IsOwn, Extends}
use Rattle.blob_store.specs.Doors.{door_view}
use Rattle.blob_store.specs.View.{View}
use Rattle.casd_connection.specs.Written.{Serves}
use Rattle.casd_connection.specs.declared.report.ConnReport.{ConnReport}
use Rattle.casd_base.specs.Causes.{Rose}
use Rattle.casd_daemon.specs.Hosting.{Told, Counts, Hosted, NoneFell, Tellers, Comes, behind, before}
use Rattle.casd_daemon.specs.declared.host.Conn.{Conn}
use Rattle.casd_daemon.specs.declared.run.RunEnd.{RunEnd}
use Rattle.casd_daemon.specs.declared.run.RunEnd.TheVariants as ends

-- how many turns a connection gets
abbrev pub share : ℕ
share = 2 ^ 41

-- how many connections are served in one run at most
abbrev pub most_connections : ℕ
most_connections = 2 ^ 21

-- an owner came and went: its entries begin with its Open, and end with a Close
pub record IsOver (owner : ℕ) (mine : List Entry) : Type 0 where
  pub opens : (rest : List Entry) × (mine ≡ record { owner = owner; event = events.Open; reply = replies.Opened owner } ∷ rest)
  pub closes : EndsInClose mine

-- the history may begin at this state
pub record MayBegin (start : State) : Type 0 where
  pub valid : Valid start
  pub owners : start.next_owner ≤ 2 ^ 62
  pub leases : start.next_lease ≤ 2 ^ 62

-- a seat that a connection is given
pub record IsGiven (at : TableId) (start : State) (seat : AtLock) : Type 0 where
  pub at_lock : seat.lock ≡ at
  pub idle : IsIdle seat
  pub owner : seat.view.owner ≡ None
  pub mine : seat.view.mine ≡ []
  pub made : seat.view.made ≡ 0
  pub left : seat.view.left ≡ share
  pub grant : seat.view.grant ≡ share
  pub start_is : seat.view.start ≡ start

-- what a connection says of the views of its door
abbrev pub ServesConn : {K L : Type 0} → Tellers K L → ConnReport → View → View → Conn K L → Conn K L → Type 0
ServesConn tell report v w conn conn' =
    Serves report v w (tell.shelved conn.shelf) (tell.shelved conn'.shelf) (tell.linked conn.link) (tell.linked conn'.link)

-- What comes back of a connection that was given a seat.
pub record IsServed {K L : Type 0} (tell : Tellers K L) (seat : AtLock) (conn : Conn K L) (seat' : AtLock) (conn' : Conn K L) (report : ConnReport) : Type 0 where
  pub at_lock : seat'.lock ≡ seat.lock
  pub idle : IsIdle seat'
  pub start : seat'.view.start ≡ seat.view.start
  pub grant : seat'.view.grant ≡ seat.view.grant
  pub made : seat'.view.made ≡ seat.view.made + report.turns
  pub gone : IfSome seat'.view.owner (λ o. IsOver o seat'.view.mine)
  pub is_own : IsOwn seat'.view
  pub seen : Extends seat.view.seen seat'.view.seen
  pub turns : report.turns ≡ length seat'.view.mine
  pub room : seat'.view.left ≤ seat'.view.grant
  pub serves : ServesConn tell report (door_view seat false) (door_view seat' false) conn conn'

-- A connection that was accepted, as it came and as it was handed back, with its report, and what its door saw before and after.
pub record Case (K L : Type 0) : Type 0 where
  pub conn : Conn K L
  pub served : Conn K L
  pub report : ConnReport
  pub old : View
  pub new : View

-- A connection was served on a door to the store with this history: the history begins with what its door saw, its owner, if one
-- came, made there the entries that the door tells as its own, and no others, and the report counts them. What the link read
-- and wrote and what the owner did are those of one lawful exchange.
pub record IsTold {K L : Type 0} (tell : Tellers K L) (history : List Entry) (c : Case K L) : Type 0 where
  pub seen : Extends c.new.seen history
  pub own : IfSome c.new.owner (λ o. own o history ≡ c.new.mine)
  pub gone : IfSome c.new.owner (λ o. IsOver o c.new.mine)
  pub turns : c.report.turns ≡ length c.new.mine
  pub serves : ServesConn tell c.report c.old c.new c.conn c.served

-- the turns of all reports
abbrev pub turns_of : {K L : Type 0} → List (Case K L) → ℕ
turns_of [] = 0
turns_of (c ∷ cs) = c.report.turns + turns_of cs

-- what is handed back of a connection
abbrev pub handed : {K L : Type 0} → Case K L → Conn K L × ConnReport
handed c = (c.served, c.report)

-- the seat with which it begins
pub record IsFirst (at : TableId) (seat : AtLock) : Type 0 where
  pub begin : MayBegin seat.view.start
  pub at_lock : seat.lock ≡ at
  pub idle : IsIdle seat
  pub owner : seat.view.owner ≡ None
  pub room : seat.view.left ≤ seat.view.grant
  pub enough : share * (most_connections + 1) < seat.view.left

-- Connections are served: those of the cases are over, and those that wait were given a seat. It began with the seat `first`,
-- and when the host told `old`. So many connections came.
pub record Runs {K L : Type 0} (tell : Tellers K L) (at : TableId) (first seat : AtLock) (waiting : List (AtLock × Conn K L)) (old now : Hosted K L) (count : ℕ) : Type 0 where
  pub cases : List (Case K L)
  pub begin : MayBegin first.view.start
  pub at_lock : seat.lock ≡ at
  pub idle : IsIdle seat
  pub owner : seat.view.owner ≡ None
  pub start : seat.view.start ≡ first.view.start
  pub made : seat.view.made ≡ first.view.made + turns_of cases
  pub grant : seat.view.grant + share * length waiting ≡ first.view.grant
  pub room : seat.view.left ≤ seat.view.grant
  pub enough : share * (most_connections + 1) < seat.view.left + share * count
  pub seen : Extends first.view.seen seat.view.seen
  pub given : AllByRecursion (λ (w : AtLock × Conn K L). IsGiven at first.view.start w.0) waiting
  pub told : AllByRecursion (IsTold tell seat.view.seen) cases
  pub came : old.told.left ≡ behind (map (λ c. c.conn) cases ++ map (λ w. w.1) waiting) now.told.left
  pub went : now.told.ended ≡ before old.told.ended (map handed cases)
  pub rest : now.told ≡ record old.told { left = now.told.left; ended = now.told.ended; out = now.told.out }
  pub out : now.told.out ≡ old.told.out + length waiting
  pub fell : NoneFell old.counts now.counts
  pub named : now.name ≡ old.name
  pub counted : count ≡ length cases + length waiting

-- The next connection came, there is room to serve it, and it has no seat yet.
pub record IsNext {K L : Type 0} (tell : Tellers K L) (at : TableId) (first seat : AtLock) (waiting : List (AtLock × Conn K L)) (old now : Hosted K L) (count : ℕ) (conn : Conn K L) : Type 0 where
  pub was : Hosted K L
  pub runs : Runs tell at first seat waiting old was count
  pub comes : Comes conn was.told now.told
  pub fell : NoneFell was.counts now.counts
  pub named : now.name ≡ was.name

-- no connection is left, where that is told
abbrev pub HasNone : {K L : Type 0} → Told K L → Type 0
HasNone t = IfSome t.left (λ left. left ≡ [])

-- the run ends so only where the count of accepting rose
abbrev pub HasCause : RunEnd → Counts → Counts → Type 0
HasCause ends.Done old new = Unit {0}
HasCause ends.Failed old new = Rose old.accepting new.accepting
HasCause ends.OutOfMemory old new = Unit {0}
