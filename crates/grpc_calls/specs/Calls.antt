-- The calls of one connection, as their callers see them.
use Rattle.std.specs.Prelude.{◌≡◌, ◌&&◌, ◌⊎◌, ◌++◌, ℕ, Bool, true, false, List, [], ◌∷◌, Option, Some, None, is_none, Result, Ok, Err}
use Rattle.h2_frames.specs.declared.frame.Frame.{Frame}
use Rattle.h2_frames.specs.declared.fault.FrameFault.{FrameFault}
use Rattle.h2_frames.specs.declared.fault.FrameFault.TheVariants as reading
use Rattle.h2_frames.specs.Stream.{Pending, given, begun as begun_reader}
use Rattle.h2_session.specs.declared.fault.ConnFault.{ConnFault}
use Rattle.h2_session.specs.declared.fault.ConnFault.TheVariants as conn
use Rattle.h2_session.specs.declared.role.Role.{Role}
use Rattle.h2_session.specs.declared.role.Role.TheVariants as roles
use Rattle.h2_session.specs.declared.event.Out.{Out}
use Rattle.h2_session.specs.declared.event.Out.TheVariants as outs
use Rattle.h2_session.specs.declared.stream.Stream.{Stream}
use Rattle.h2_session.specs.declared.stream.Sending.{Sending}
use Rattle.h2_session.specs.declared.stream.Sending.TheVariants as sending
use Rattle.h2_session.specs.Part.{Part, stream_of}
use Rattle.h2_session.specs.Faults.{offence, is_client}
use Rattle.h2_session.specs.Heard.{heard, at_offence}
use Rattle.h2_session.specs.Said.{said, is_sending, cancelled, next_number, begun}
use Rattle.h2_session.specs.Session.{Session, offended, exhausted, Goes}
use Rattle.casd_base.specs.declared.status.Status.{Status}
use Rattle.grpc_calls.specs.declared.call.Call.{Call}
use Rattle.grpc_calls.specs.declared.call.Reading.TheVariants as readings
use Rattle.grpc_calls.specs.declared.event.CallEvent.{CallEvent}
use Rattle.grpc_calls.specs.declared.refusal.Refusal.{Refusal}
use Rattle.grpc_calls.specs.Framing.{framed}
use Rattle.grpc_calls.specs.Headers.{refusal_headers, request_headers, answer_headers, trailers}
use Rattle.grpc_calls.specs.Streams.{told, is_fresh, without_call}
use Rattle.hpack_tables.specs.declared.header.Header.{Header}
use Rattle.h2_session.specs.declared.event.SessionEvent.{SessionEvent}

-- the bytes that weren't read, the connection, its calls, and the events of the last frame that weren't given
pub record Calls : Type 0 where
  pub reader : Pending
  pub session : Session
  pub calls : List Call
  pub pending : List CallEvent

-- ---- what comes

-- a refused request is answered at once
abbrev pub Refuses : Option (ℕ × Refusal) → Session → Session → Type 0
Refuses None old new = new ≡ old
Refuses (Some r) old new = Goes (said r.0 (outs.Headers (refusal_headers r.1) true) old.part) old new

-- a frame of the peer, which it may send, has its meaning for the connection and for the calls
pub record Hears (old : Session) (rows : List Call) (f : Frame) (new : Calls) : Type 0 where
  pub sound : offence old.part f ≡ None
  pub session : Session
  pub goes : Goes (heard old.part f).part old session
  pub calls : new.calls ≡ (told session.part (heard old.part f).event rows).calls
  pub pending : new.pending ≡ (told session.part (heard old.part f).event rows).events
  pub refuses : Refuses (told session.part (heard old.part f).event rows).refused session new.session

-- what a frame means for the calls
pub record Heeds (event : Option SessionEvent) (old new : Calls) : Type 0 where
  pub calls : new.calls ≡ (told old.session.part event old.calls).calls
  pub pending : new.pending ≡ (told old.session.part event old.calls).events
  pub refuses : Refuses (told old.session.part event old.calls).refused old.session new.session

-- this frame is read, and its events wait
pub record Reads (old : Calls) (at : ℕ) (f : Frame) (new : Calls) : Type 0 where
  pub given : given old.reader ≡ Ok (Some (at, f), new.reader)
  pub hears : Hears old.session old.calls f new

-- these frames are read one after the other, and none of them has an event
abbrev pub ReadsOn : Calls → List (ℕ × Frame) → Calls → Type 0
ReadsOn c [] d = c ≡ d
ReadsOn c (p ∷ ps) d = (m : Calls) × Reads c p.0 p.1 m × (m.pending ≡ []) × ReadsOn m ps d

-- no whole frame is there
abbrev pub ReadsNone : Calls → Calls → Type 0
ReadsNone old new = (given old.reader ≡ Ok (None, new.reader)) × (new ≡ record old { reader = new.reader })

-- a frame is read, and this is its first event
pub record ReadsEvent (old : Calls) (e : CallEvent) (new : Calls) : Type 0 where
  pub at : ℕ
  pub frame : Frame
  pub after : Calls
  pub rest : List CallEvent
  pub reads : Reads old at frame after
  pub pending : after.pending ≡ e ∷ rest
  pub left : new ≡ record after { pending = rest }

-- The code that tells a malformed frame or preface (RFC 9113, sections 3.4, 4.2 and 6), and its place
abbrev pub refusal_at : FrameFault → Option (ℕ × ℕ)
refusal_at (reading.BadPreface at) = Some (1, at)
refusal_at (reading.TooLong at) = Some (6, at)
refusal_at (reading.BadLength at) = Some (6, at)
refusal_at (reading.BadPadding at) = Some (1, at)
refusal_at (reading.BadStream at) = Some (1, at)
refusal_at reading.OutOfMemory = None

-- the calls end with their connection
abbrev pub over_with : Session → Pending → Calls
over_with s r = record { reader = r; session = s; calls = []; pending = [] }

-- the bytes at the front of the rest are malformed, and the rest stays
pub record OffendsAtFront (old : Calls) (code at : ℕ) (new : Calls) : Type 0 where
  pub fault : FrameFault
  pub given : given old.reader ≡ Err fault
  pub refusal : refusal_at fault ≡ Some (code, at)
  pub reader : new.reader ≡ record (begun_reader old.reader) { fault = Some fault }
  pub over : new ≡ over_with (offended old.session.part code at old.session) new.reader

-- the next frame is one that the peer may not send
pub record OffendsByFrame (old : Calls) (code at : ℕ) (new : Calls) : Type 0 where
  pub frame : Frame
  pub given : given old.reader ≡ Ok (Some (at, frame), new.reader)
  pub offence : offence old.session.part frame ≡ Some code
  pub over : new ≡ over_with (offended (at_offence old.session.part frame) code at old.session) new.reader

-- without memory the connection ends
abbrev pub GivesUp : Calls → Calls → Type 0
GivesUp old new = new ≡ over_with (exhausted old.session) new.reader

-- the same while bytes are fed: those that were fed before stay
abbrev pub GivesUpFeeding : Calls → Calls → Type 0
GivesUpFeeding old new = new ≡ over_with (exhausted old.session) (record old.reader { fault = Some reading.OutOfMemory })

-- a frame was read, or the rest stays, with a fault
abbrev pub HasRead : Pending → Pending → Type 0
HasRead old new = ((p : ℕ × Frame) × (given old ≡ Ok (Some p, new))) ⊎ ((fault : FrameFault) × (new ≡ record (begun_reader old) { fault = Some fault }))

-- the same while a frame is read
abbrev pub GivesUpReading : Calls → Calls → Type 0
GivesUpReading old new = GivesUp old new × HasRead old.reader new.reader

-- a frame that the peer may not send, or want of memory
abbrev pub OffendsOr : ℕ → Frame → Calls → Calls → ConnFault → Type 0
OffendsOr at f old new (conn.Offence code place) =
    (offence old.session.part f ≡ Some code) × (place ≡ at) × (new ≡ over_with (offended (at_offence old.session.part f) code at old.session) old.reader)
OffendsOr at f old new conn.OutOfMemory = GivesUp old new

-- a frame that was read, or none
abbrev pub GivesHeard : Option (ℕ × Frame) → Calls → Calls → Result Bool ConnFault → Type 0
GivesHeard None old new (Ok false) = new ≡ old
GivesHeard (Some p) old new (Ok true) = Hears old.session old.calls p.1 new
GivesHeard (Some p) old new (Err e) = OffendsOr p.0 p.1 old new e
GivesHeard _ old new _ = ⊥

-- the next frame, if it is there whole
abbrev pub GivesFrame : Calls → Calls → Result Bool ConnFault → Type 0
GivesFrame old new (Ok false) = ReadsNone old new
GivesFrame old new (Ok true) = (at : ℕ) × (f : Frame) × Reads old at f new
GivesFrame old new (Err (conn.Offence code at)) = OffendsAtFront old code at new ⊎ OffendsByFrame old code at new
GivesFrame old new (Err conn.OutOfMemory) = GivesUpReading old new

-- what the next bytes give
abbrev pub GivesNext : Calls → Calls → Result (Option CallEvent) ConnFault → Type 0
GivesNext old new (Ok None) = ReadsNone old new
GivesNext old new (Ok (Some e)) = ReadsEvent old e new
GivesNext old new (Err (conn.Offence code at)) = OffendsAtFront old code at new ⊎ OffendsByFrame old code at new
GivesNext old new (Err conn.OutOfMemory) = GivesUpReading old new

-- the same behind frames without an event
pub record Answers (old new : Calls) (result : Result (Option CallEvent) ConnFault) : Type 0 where
  pub frames : List (ℕ × Frame)
  pub last : Calls
  pub reads : ReadsOn old frames last
  pub gives : GivesNext last new result

-- ---- what goes

-- more may be handed in: at a server until the answer is finished, at a client until it half-closes
abbrev pub may_reply_on : Bool → Sending → Bool
may_reply_on false s = is_sending s
may_reply_on true sending.Open = true
may_reply_on true _ = false

abbrev pub may_reply_to : Bool → Option Stream → Bool
may_reply_to client None = false
may_reply_to client (Some s) = may_reply_on client s.sending

unfoldable pub may_reply : ℕ → Calls → Bool
may_reply n c = is_none c.session.fault && may_reply_to (is_client c.session.part.role) (stream_of n c.session.part)

-- this is handed in on a stream
pub record Says (n : ℕ) (what : Out) (old new : Calls) : Type 0 where
  pub goes : Goes (said n what old.session.part) old.session new.session
  pub rest : new ≡ record old { session = new.session }

-- on the stream more may be handed in, behind the headers
pub record IsOpen (n : ℕ) (p : Part) : Type 0 where
  pub stream : Stream
  pub found : stream_of n p ≡ Some stream
  pub is_open : stream.sending ≡ sending.Open

-- the headers of an answer, unless they are out already
abbrev pub Opens : Bool → ℕ → Session → Session → Type 0
Opens true n old new = Goes (said n (outs.Headers answer_headers false) old.part) old new
Opens false n old new = new ≡ old

pub record Opened (n : ℕ) (old new : Calls) : Type 0 where
  pub opens : Opens (is_fresh n old.session.part) n old.session new.session
  pub rest : new ≡ record old { session = new.session }
  pub is_open : IsOpen n new.session.part

-- a message is handed in, behind the headers
pub record Replies (n : ℕ) (message : List ℕ) (old new : Calls) : Type 0 where
  pub opened : Session
  pub opens : Opens (is_fresh n old.session.part) n old.session opened
  pub goes : Goes (said n (outs.Piece (framed message) false) opened.part) opened new.session
  pub rest : new ≡ record old { session = new.session }

-- the answer ends with its trailers, and the call is over
pub record Finishes (n : ℕ) (status : Status) (old new : Calls) : Type 0 where
  pub opened : Session
  pub opens : Opens (is_fresh n old.session.part) n old.session opened
  pub goes : Goes (said n (outs.Headers (trailers status) true) opened.part) opened new.session
  pub rest : new ≡ record old { session = new.session; calls = without_call n old.calls }

-- a client begins a call with these headers
pub record BeginsWith (n : ℕ) (headers : List Header) (old new : Calls) : Type 0 where
  pub number : n ≡ next_number old.session.part
  pub goes : Goes (begun headers old.session.part) old.session new.session
  pub rest : new ≡ record old { session = new.session; calls = old.calls ++ record { stream = n; reading = readings.Headers } ∷ [] }

-- a client begins a call of the method with this path
abbrev pub Begins : ℕ → List ℕ → Calls → Calls → Type 0
Begins n path old new = BeginsWith n (request_headers path) old new

-- a client half-closes
pub record HalfCloses (n : ℕ) (old new : Calls) : Type 0 where
  pub goes : Goes (said n (outs.Piece [] true) old.session.part) old.session new.session
  pub rest : new ≡ record old { session = new.session }

-- a client gives a call up
pub record Cancels (n : ℕ) (old new : Calls) : Type 0 where
  pub goes : Goes (cancelled n 8 old.session.part) old.session new.session
  pub rest : new ≡ record old { session = new.session; calls = without_call n old.calls }
