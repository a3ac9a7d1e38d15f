-- What happens on a connection, one thing after another (RFC 9113; gRPC over HTTP/2): `next` computes what a connection is after
-- an item, and `May` is the law of each kind of item, by what the items before it have made.
use Rattle.std.specs.Prelude.{◌≡◌, ◌==◌, ◌&&◌, ◌++◌, nat_le, length, ℕ, Bool, true, false, List, [], ◌∷◌, All, Option, Some, None, position, slice_get, slice_set, remove, if◌then◌else◌}
use Rattle.h2_frames.specs.declared.frame.Frame.{Frame}
use Rattle.h2_session.specs.declared.event.SessionEvent.{SessionEvent}
use Rattle.h2_session.specs.declared.event.Out.TheVariants as outs
use Rattle.h2_session.specs.declared.role.Role.TheVariants as roles
use Rattle.h2_session.specs.Part.{Part, new_part, stream_of}
use Rattle.h2_session.specs.Faults.{offence}
use Rattle.h2_session.specs.Heard.{heard}
use Rattle.h2_session.specs.Said.{said, may_say, waiting}
use Rattle.h2_session.specs.Sent.{MaySend, sent, IsQuiet}
use Rattle.casd_base.specs.declared.status.Status.{Status}
use Rattle.grpc_calls.specs.declared.event.CallEvent.{CallEvent}
use Rattle.grpc_calls.specs.declared.event.CallEvent.TheVariants as events
use Rattle.grpc_calls.specs.Framing.{framed}
use Rattle.grpc_calls.specs.Headers.{answer_headers, refusal_headers, trailers}
use Rattle.grpc_calls.specs.Streams.{Row, Refused, Told, told, is_fresh, without_call}
use Rattle.cas_calls.specs.Script.{Script, End, Make, Room, Ask, Step, Takes, after}
use Rattle.live_calls.specs.Turns.{Ending, Turn, begun, turn_at}
use Rattle.live_calls.specs.Places.{Waiting, is_giving}
use Rattle.live_calls.specs.declared.happening.Happening.{Happening}
use Rattle.live_calls.specs.declared.happening.Happening.TheVariants as happenings
use Rattle.live_calls.specs.declared.outcome.Outcome.TheVariants as outcomes
use Rattle.casd_connection.specs.Waiters.{Waiter}
use Rattle.casd_connection.specs.declared.end.ConnEnd.{ConnEnd}
use Rattle.casd_connection.specs.declared.end.ConnEnd.TheVariants as ends

pub data Item : Type 0 where
  -- a frame of the peer is read
  Read : Frame → Item
  -- what it means is told to the calls
  Tells : Item
  -- the next event of the frame is handed to its call, which takes its turn
  Hands : Item
  -- a call that gives responses of its own accord is given a turn, by its row
  Wakes : ℕ → Item
  -- the call whose turn it is takes a step: an entry, an answer of the shelf, or want of memory
  Does : Step → Item
  -- the next part of an answer is handed in
  Says : Item
  -- a frame is written
  Wrote : Frame → Item
  -- the connection ends so
  Ends : ConnEnd → Item

-- What is still to be handed in: the refusal of a request; a message, with the headers of the answer before the first; and the
-- status, with these headers where no message came. Both are handed in by halves, and not at all where the stream isn't live
-- any longer.
pub data Saying : Type 0 where
  Refuse : ℕ → Refused → Saying
  Reply : ℕ → List ℕ → Saying
  Message : ℕ → List ℕ → Saying
  Finish : ℕ → Status → Saying
  Trailers : ℕ → Status → Saying

-- the call whose turn it is: its stream, its row, if it has one yet, and what it does next
pub record Busy : Type 0 where
  pub stream : ℕ
  pub row : Option ℕ
  pub turn : Turn

-- what the items so far have made
pub record Conn : Type 0 where
  -- the session of this end
  pub part : Part
  -- what the last frame means, until it is told to the calls
  pub meaning : Option SessionEvent
  -- what is read of each call
  pub rows : List Row
  -- the events of the last frame that weren't handed over
  pub pending : List CallEvent
  -- what is to be handed in
  pub saying : List Saying
  -- where each call waits that isn't answered, in the order in which they began
  pub live : List Waiter
  pub busy : Option Busy
  -- a GOAWAY of the peer was handed over
  pub over : Bool
  pub end : Option ConnEnd

abbrev pub start : Conn
start = record {
  part = new_part roles.Server;
  meaning = None;
  rows = [];
  pending = [];
  saying = [];
  live = [];
  busy = None;
  over = false;
  end = None;
}

-- ---- the calls that wait

-- where the call of a stream stands
abbrev pub place_in : ℕ → List Waiter → Option ℕ
place_in n live = position (λ (l : Waiter). l.stream == n) live

-- a call waits: in its row, or in a new one
abbrev pub placed : ℕ → Option ℕ → Waiting → List Waiter → List Waiter
placed n None place live = live ++ record { stream = n; place = place } ∷ []
placed n (Some i) place live = slice_set live i (record { stream = n; place = place })

-- it doesn't wait any longer
abbrev pub gone : Option ℕ → List Waiter → List Waiter
gone None live = live
gone (Some i) live = remove live i

-- ---- a turn

-- a status whose text is too long to be sent goes without it
abbrev pub sendable : Status → Status
sendable s = if nat_le (length s.text) 4096 then s else record s { text = [] }

-- what is handed in for an answer
abbrev pub answer : ℕ → Option (List ℕ) → Status → List Saying
answer n None status = Finish n (sendable status) ∷ []
answer n (Some message) status = Reply n message ∷ Finish n (sendable status) ∷ []

-- how a turn ends
abbrev pub ended : Ending → ℕ → Option ℕ → Conn → Conn
ended (outcomes.Rests place) n row c = record c { live = placed n row place c.live }
ended (outcomes.Gives message place) n row c = record c { live = placed n row place c.live; saying = Reply n message ∷ [] }
ended (outcomes.Finishes message status) n row c = record c { live = gone row c.live; saying = answer n message status }
ended outcomes.Vanishes n row c = record c { live = gone row c.live }

-- a turn goes on to its next step, or to its end
abbrev pub go : Turn → ℕ → Option ℕ → Conn → Conn
go (End outcome) n row c = ended outcome n row c
go turn n row c = record c { busy = Some (record { stream = n; row = row; turn = turn }) }

-- something happens to the call of a row
abbrev pub resumed_at : Happening → ℕ → Option Waiter → Conn → Conn
resumed_at h i None c = c
resumed_at h i (Some l) c = go (turn_at l.place h) l.stream (Some i) c

-- and to the call of a stream, if it waits
abbrev pub resumed : Happening → Option ℕ → Conn → Conn
resumed h None c = c
resumed h (Some i) c = resumed_at h i (slice_get c.live i) c

-- an event is handed over
abbrev pub given : CallEvent → Conn → Conn
given (events.Begun n path) c = go (begun path) n None c
given (events.Message n bytes) c = resumed (happenings.Message bytes) (place_in n c.live) c
given (events.HalfClosed n) c = resumed happenings.HalfClosed (place_in n c.live) c
given (events.Cancelled n code) c = resumed happenings.Cancelled (place_in n c.live) c
given (events.Broken n status) c = resumed (happenings.Broken status) (place_in n c.live) c
given (events.Ended n status) c = c
given events.GoAway c = record c { over = true }

abbrev pub handed : List CallEvent → Conn → Conn
handed [] c = c
handed (e ∷ es) c = given e (record c { pending = es })

abbrev pub stepped : Option Busy → Step → Conn → Conn
stepped None x c = c
stepped (Some b) x c = go (after b.turn x) b.stream b.row (record c { busy = None })

-- ---- what is told, and what is said

abbrev pub refusing : Option (ℕ × Refused) → List Saying
refusing None = []
refusing (Some r) = Refuse r.0 r.1 ∷ []

abbrev pub telling : Told → Conn → Conn
telling t c = record c { meaning = None; rows = t.calls; pending = t.events; saying = refusing t.refused }

-- the headers of an answer, unless they are out already
abbrev pub opened : ℕ → Part → Part
opened n p = if is_fresh n p then said n (outs.Headers answer_headers false) p else p

-- the stream is live, and this end hasn't ended its answer
abbrev pub is_sending : ℕ → Part → Bool
is_sending n p = may_say (stream_of n p)

abbrev pub spoken : Saying → Conn → Conn
spoken (Refuse n refusal) c = record c { part = said n (outs.Headers (refusal_headers refusal) true) c.part }
spoken (Reply n message) c = if is_sending n c.part then record c { part = opened n c.part; saying = Message n message ∷ c.saying } else c
spoken (Message n message) c = record c { part = said n (outs.Piece (framed message) false) c.part }
spoken (Finish n status) c = if is_sending n c.part then record c { part = opened n c.part; saying = Trailers n status ∷ c.saying } else c
spoken (Trailers n status) c = record c { part = said n (outs.Headers (trailers status) true) c.part; rows = without_call n c.rows }

abbrev pub spoken_first : List Saying → Conn → Conn
spoken_first [] c = c
spoken_first (x ∷ xs) c = spoken x (record c { saying = xs })

-- ---- after one more item

abbrev pub next : Conn → Item → Conn
next c (Read f) = record c { part = (heard c.part f).part; meaning = (heard c.part f).event }
next c Tells = telling (told c.part c.meaning c.rows) c
next c Hands = handed c.pending c
next c (Wakes i) = resumed happenings.Woken (Some i) c
next c (Does x) = stepped c.busy x c
next c Says = spoken_first c.saying c
next c (Wrote f) = record c { part = sent c.part f }
next c (Ends end) = record c { end = Some end }

-- ---- the law of each item

-- the connection hasn't ended, and no call has a turn
pub record IsFree (c : Conn) : Type 0 where
  pub end : c.end ≡ None
  pub busy : c.busy ≡ None

-- All that the last frame calls for is done and handed in.
pub record IsIdle (c : Conn) : Type 0 where
  pub end : c.end ≡ None
  pub busy : c.busy ≡ None
  pub meaning : c.meaning ≡ None
  pub pending : c.pending ≡ []
  pub saying : c.saying ≡ []

-- A call is due: it gives responses of its own accord, its answer isn't ended, and none of it waits for a window.
abbrev pub is_due : Part → Waiter → Bool
is_due p l = is_giving l.place && is_sending l.stream p && (waiting (stream_of l.stream p) == 0)

-- the call of this row is
pub record IsDue (c : Conn) (i : ℕ) : Type 0 where
  pub call : Waiter
  pub is_there : slice_get c.live i ≡ Some call
  pub due : is_due c.part call ≡ true

-- of all that wait, none is
abbrev pub NoneDue : Part → List Waiter → Type 0
NoneDue p live = All (λ l. is_due p l ≡ false) live

abbrev pub MayTake : Option Busy → Step → Type 0
MayTake None x = ⊥
MayTake (Some b) x = Takes b.turn x

-- All is done that the last frame calls for, and all is written that the windows allow.
abbrev pub IsStill : Conn → Type 0
IsStill c = IsIdle c × IsQuiet c.part

-- An end at which no call is due either. So a call lacks its answer only where the peer hasn't half-closed it, and messages or
-- trailers are unsent only behind bytes that wait for a window.
abbrev pub IsSettled : Conn → Type 0
IsSettled c = IsStill c × NoneDue c.part c.live

-- the law of each end
abbrev pub MayStop : ConnEnd → Conn → Type 0
MayStop ends.Done c = IsSettled c
MayStop (ends.Truncated at) c = IsSettled c
MayStop (ends.Protocol code at) c = IsStill c
MayStop ends.ReadFault c = IsSettled c
MayStop ends.WriteFault c = IsStill c
MayStop ends.Spent c = IsStill c
MayStop ends.OutOfMemory c = Unit {0}

abbrev pub May : Conn → Item → Type 0
May c (Read f) = IsIdle c × (offence c.part f ≡ None)
May c Tells = IsFree c × (e : SessionEvent) × (c.meaning ≡ Some e)
May c Hands = IsFree c × (c.meaning ≡ None) × (c.saying ≡ []) × (e : CallEvent) × (es : List CallEvent) × (c.pending ≡ e ∷ es)
May c (Wakes i) = IsStill c × IsDue c i
May c (Does x) = (c.end ≡ None) × MayTake c.busy x
May c Says = IsFree c × (x : Saying) × (xs : List Saying) × (c.saying ≡ x ∷ xs)
May c (Wrote f) = IsFree c × MaySend c.part f
May c (Ends end) = (c.end ≡ None) × MayStop end c
