-- One event: the reply, and the state after it.
use Rattle.std.specs.Prelude.{◌+◌, ◌-◌, ◌++◌, ◌||◌, ◌&&◌, not, nat_lt, nat_eq, min, map, ℕ, Bool, true, false, List, [], ◌∷◌, length, filter, find, Option, Some, None, if◌then◌else◌}
use Rattle.std.specs.List.{list_any}
use Rattle.digest_types.specs.Name.{HashAndSize}
use Rattle.directory_canon.specs.declared.node.Edge.{Edge}
use Rattle.store_core.specs.declared.state.Row.{Row}
use Rattle.store_core.specs.declared.state.Lease.{Lease}
use Rattle.store_core.specs.declared.state.Guard.{Guard}
use Rattle.store_core.specs.declared.event.Event.{Event}
use Rattle.store_core.specs.declared.event.Event.TheVariants as events
use Rattle.store_core.specs.declared.event.Reply.{Reply}
use Rattle.store_core.specs.declared.event.Reply.TheVariants as replies
use Rattle.store_core.specs.Ascending.{firsts}
use Rattle.store_core.specs.State.{State, Holds, same, is_empty, is_of, row_of, others, is_sound, used, has_id, is_of_owner, is_session, with_hold, other_holds}
use Rattle.store_core.specs.Pass.{pass, guarded}
use Rattle.store_core.specs.Standing.{standing}

-- whether an owner is open
abbrev pub is_open : State → ℕ → Bool
is_open s owner = list_any (nat_eq owner) s.owners

-- ---- put

-- Room for so many bytes: where they don't fit below the high mark, a pass to the lesser of the low mark and what
-- the high mark leaves beside them.
abbrev pub with_room : State → ℕ → State
with_room s size = if nat_lt s.high (used s + size) then pass s (min s.low (s.high - size)) else s

-- a state with one more row, the most recent
abbrev pub with_row : State → Row → State
with_row s row = record s { rows = s.rows ++ row ∷ [] }

-- A put of a blob that isn't empty, by its row, if it has one. A row keeps its edges; a new one gets those of the blob.
abbrev pub put_over : State → HashAndSize → Option (List Edge) → Option Row → Reply × State
put_over s d edges (Some row) =
    (if row.sound then replies.Present else replies.Repaired, with_row (record s { rows = others d s.rows }) (record row { sound = true }))
put_over s d edges None =
    if nat_lt s.high (guarded s + d.size) then (replies.NoSpace (guarded s) d.size s.high, s)
    else (
      replies.Stored (length s.rows - length (with_room s d.size).rows) (used (with_room s d.size) + d.size),
      with_row (with_room s d.size) (record { digest = d; edges = edges; sound = true }),
    )

-- a put of any blob
unfoldable pub put : State → HashAndSize → Option (List Edge) → Reply × State
put s d edges = if is_empty d then (replies.Present, s) else put_over s d edges (row_of d s.rows)

-- ---- find and read

-- a sound row becomes the most recent one
abbrev pub touched : HashAndSize → List Row → List Row
touched d rows = if is_sound rows d then others d rows ++ filter (is_of d) rows else rows

-- the same for one digest after the other
unfoldable pub touched_all : List HashAndSize → List Row → List Row
touched_all [] rows = rows
touched_all (d ∷ ds) rows = touched_all ds (touched d rows)

-- whether the blob is there: it has a sound row, or is the empty one
abbrev pub is_here : List Row → HashAndSize → Bool
is_here rows d = is_empty d || is_sound rows d

-- those that aren't there, each once, in the order of their first mention
unfoldable pub missing : List Row → List HashAndSize → List HashAndSize
missing rows ds = firsts same (filter (λ d. not (is_here rows d)) ds)

abbrev pub found : State → List HashAndSize → Reply × State
found s ds = (replies.Missing (missing s.rows ds), record s { rows = touched_all ds s.rows })

abbrev pub read : State → HashAndSize → Reply × State
read s d = if is_here s.rows d then (replies.Found, record s { rows = touched d s.rows }) else (replies.Absent, s)

-- ---- holds

-- whether the reply to a Put or a Read says that the blob is there
abbrev pub tells_there : Reply → Bool
tells_there (replies.Opened number) = false
tells_there (replies.Stored removed used) = true
tells_there replies.Present = true
tells_there replies.Repaired = true
tells_there (replies.NoSpace guarded size high) = false
tells_there (replies.Missing ds) = false
tells_there replies.Found = true
tells_there replies.Absent = false
tells_there (replies.Leased lease) = false
tells_there (replies.Stands standing) = false
tells_there replies.Released = false
tells_there replies.Marked = false
tells_there (replies.Passed removed used) = false
tells_there (replies.Used usage) = false
tells_there replies.Closed = false
tells_there replies.Refused = false

-- The holds after an owner put or read a blob that is there: under the session guard with this one, unless the blob is
-- the empty one.
abbrev pub holds_after : Guard → ℕ → HashAndSize → List Holds → List Holds
holds_after guard owner d holds = if is_session guard && not (is_empty d) then with_hold owner d holds else holds

-- the same for the state after a Put or a Read of this blob, by the reply
abbrev pub holding : ℕ → HashAndSize → Reply × State → Reply × State
holding owner d r = (r.0, if tells_there r.0 then record r.1 { holds = holds_after r.1.guard owner d r.1.holds } else r.1)

-- ---- leases

-- an owner takes a lease
abbrev pub leased : State → ℕ → Edge → Reply × State
leased s owner root = (
  replies.Leased s.next_lease,
  record s { leases = s.leases ++ record { id = s.next_lease; owner = owner; root = root } ∷ []; next_lease = s.next_lease + 1 },
)

-- the lease with this number, where it is the owner's
abbrev pub own_lease : State → ℕ → ℕ → Option Lease
own_lease s owner id = find (λ lease. has_id id lease && is_of_owner owner lease) s.leases

abbrev pub confirmed : State → Bool → Option Lease → Reply × State
confirmed s files None = (replies.Refused, s)
confirmed s files (Some lease) = (replies.Stands (standing s.rows lease.root files), s)

abbrev pub released : State → ℕ → Option Lease → Reply × State
released s id None = (replies.Refused, s)
released s id (Some lease) = (replies.Released, record s { leases = filter (λ other. not (has_id id other)) s.leases })

-- ---- the rest

-- the row of the digest becomes unsound, if there is one; its edges stay
abbrev pub damaged : HashAndSize → List Row → List Row
damaged d rows = map (λ row. if is_of d row then record row { sound = false } else row) rows

abbrev pub noted : State → HashAndSize → Reply × State
noted s d = (replies.Marked, record s { rows = damaged d s.rows })

abbrev pub passed : State → Reply × State
passed s = (replies.Passed (length s.rows - length (pass s s.low).rows) (used (pass s s.low)), pass s s.low)

abbrev pub usage : State → Reply × State
usage s = (replies.Used (record { used = used s; guarded = guarded s; rows = length s.rows; low = s.low; high = s.high }), s)

abbrev pub opened : State → Reply × State
opened s = (replies.Opened s.next_owner, record s { next_owner = s.next_owner + 1; owners = s.owners ++ s.next_owner ∷ [] })

-- an owner goes, and its holds, unless it has leases
abbrev pub closed : State → ℕ → Reply × State
closed s owner =
    if list_any (is_of_owner owner) s.leases then (replies.Refused, s)
    else (replies.Closed, record s { owners = filter (λ o. not (nat_eq o owner)) s.owners; holds = other_holds owner s.holds })

-- what an event of an open owner gives
unfoldable pub served : State → ℕ → Event → Reply × State
served s owner events.Open = opened s
served s owner (events.Put d edges) = holding owner d (put s d edges)
served s owner (events.Find ds) = found s ds
served s owner (events.Read d) = holding owner d (read s d)
served s owner (events.Lease root kind) = leased s owner (record { kind = kind; digest = root })
served s owner (events.Confirm id files) = confirmed s files (own_lease s owner id)
served s owner (events.Release id) = released s id (own_lease s owner id)
served s owner (events.Damage d) = noted s d
served s owner events.Pass = passed s
served s owner events.Usage = usage s
served s owner events.Close = closed s owner

-- whether the event is Open, which needs no owner
abbrev pub is_opening : Event → Bool
is_opening events.Open = true
is_opening (events.Put d edges) = false
is_opening (events.Find ds) = false
is_opening (events.Read d) = false
is_opening (events.Lease root kind) = false
is_opening (events.Confirm id files) = false
is_opening (events.Release id) = false
is_opening (events.Damage d) = false
is_opening events.Pass = false
is_opening events.Usage = false
is_opening events.Close = false

-- what an event of an owner gives: that of an owner that isn't open changes nothing
unfoldable pub step : State → ℕ → Event → Reply × State
step s owner event = if is_opening event || is_open s owner then served s owner event else (replies.Refused, s)
