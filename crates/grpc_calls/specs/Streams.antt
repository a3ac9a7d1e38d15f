-- What the events of a connection mean to its calls.
use Rattle.std.specs.Prelude.{◌==◌, ◌&&◌, nat_lt, ℕ, Bool, true, false, List, [], ◌∷◌, ◌++◌, position, remove, slice_get, slice_set, Option, Some, None, option_and_then, if◌then◌else◌}
use Rattle.hpack_tables.specs.declared.header.Header.{Header}
use Rattle.casd_base.specs.declared.status.Status.{Status}
use Rattle.h2_session.specs.declared.event.SessionEvent.{SessionEvent}
use Rattle.h2_session.specs.declared.event.SessionEvent.TheVariants as session
use Rattle.h2_session.specs.declared.stream.Stream.{Stream}
use Rattle.h2_session.specs.Faults.{is_server, is_client}
use Rattle.h2_session.specs.Part.{Part, stream_of}
use Rattle.h2_session.specs.Rows.{is_unopened}
use Rattle.grpc_calls.specs.declared.fault.MessageFault.TheVariants as faults
use Rattle.grpc_calls.specs.declared.event.CallEvent.{CallEvent}
use Rattle.grpc_calls.specs.declared.event.CallEvent.TheVariants as events
use Rattle.grpc_calls.specs.declared.call.Call.{Call}
use Rattle.grpc_calls.specs.declared.call.Reading.{Reading}
use Rattle.grpc_calls.specs.declared.call.Reading.TheVariants as readings
use Rattle.grpc_calls.specs.declared.refusal.Refusal.{Refusal}
use Rattle.grpc_calls.specs.Framing.{Taken, keeps, ends, broken, behind_events, taken, status_of}
use Rattle.grpc_calls.specs.Headers.{refusal_of, path_of, is_ok, status_in, bad_answer}

-- a call, as it is read, and why a request is refused, for those who speak of a connection as a whole
abbrev pub Row : Type 0
Row = Call

abbrev pub Refused : Type 0
Refused = Refusal

-- ---- the reading of one stream

-- The peer ends the stream without trailers. At a client that is no answer.
abbrev pub half_closed : Bool → ℕ → Reading → Taken
half_closed false n (readings.Body []) = ends (events.HalfClosed n)
half_closed true n (readings.Body []) = broken n bad_answer
half_closed client n (readings.Body (b ∷ bs)) = broken n (status_of faults.Truncated)
half_closed false n readings.Headers = keeps readings.Headers
half_closed true n readings.Headers = broken n bad_answer
half_closed client n readings.Over = keeps readings.Over

-- END_STREAM behind what came with it
abbrev pub then_end : Bool → Bool → ℕ → Taken → Taken
then_end false client n t = t
then_end true client n t = behind_events t.events (half_closed client n t.reading)

-- DATA
abbrev pub pieced : Bool → ℕ → List ℕ → Bool → Reading → Taken
pieced client n bytes end (readings.Body text) = then_end end client n (taken n (readings.Body text) bytes)
pieced false n bytes end readings.Headers = keeps readings.Headers
pieced true n bytes end readings.Headers = broken n bad_answer
pieced client n bytes end readings.Over = keeps readings.Over

-- the status of an answer in its last headers
abbrev pub answered_by : ℕ → Option Status → Taken
answered_by n None = broken n bad_answer
answered_by n (Some status) = ends (events.Ended n status)

-- the first headers of an answer, which may be all of it
abbrev pub answer_begun : ℕ → List Header → Bool → Taken
answer_begun n headers end =
    if is_ok headers then (if end then answered_by n (status_in headers) else keeps (readings.Body [])) else broken n bad_answer

-- Further headers of a stream: at a server trailers, which mean nothing but the end of the stream; at a client those of the
-- answer. Only the first and the last headers of an answer mean something.
abbrev pub headed : Bool → ℕ → List Header → Bool → Reading → Taken
headed false n headers end r = then_end end false n (keeps r)
headed true n headers end readings.Headers = answer_begun n headers end
headed true n headers true (readings.Body []) = answered_by n (status_in headers)
headed true n headers true (readings.Body (b ∷ bs)) = broken n (status_of faults.Truncated)
headed true n headers false (readings.Body text) = keeps (readings.Body text)
headed true n headers end readings.Over = keeps readings.Over

-- ---- the calls of a connection

-- where the call of a stream stands, and the call
abbrev pub place_in : ℕ → List Call → Option ℕ
place_in n calls = position (λ (c : Call). c.stream == n) calls

abbrev pub call_in : ℕ → List Call → Option Call
call_in n calls = option_and_then (λ i. slice_get calls i) (place_in n calls)

-- a call is over
abbrev pub without_at : Option ℕ → List Call → List Call
without_at None calls = calls
without_at (Some i) calls = remove calls i

abbrev pub without_call : ℕ → List Call → List Call
without_call n calls = without_at (place_in n calls) calls

abbrev pub is_over : Reading → Bool
is_over readings.Over = true
is_over _ = false

-- Another reading of the call in a place. At a client a call is over once nothing more is read. At a server it stays until it
-- is finished.
abbrev pub reading_at : Bool → ℕ → ℕ → Reading → List Call → List Call
reading_at true i n readings.Over calls = remove calls i
reading_at client i n r calls = slice_set calls i (record { stream = n; reading = r })

abbrev pub reading_by : Option ℕ → Bool → ℕ → Reading → List Call → List Call
reading_by None client n r calls = calls
reading_by (Some i) client n r calls = reading_at client i n r calls

abbrev pub with_reading : Bool → ℕ → Reading → List Call → List Call
with_reading client n r calls = reading_by (place_in n calls) client n r calls

-- what an event means: the calls then, what is told of them, and the request that is refused, if it is one
pub record Told : Type 0 where
  pub calls : List Call
  pub events : List CallEvent
  pub refused : Option (ℕ × Refusal)

abbrev pub tells : List Call → List CallEvent → Told
tells calls es = record { calls = calls; events = es; refused = None }

abbrev pub tells_taken : Bool → ℕ → Taken → List Call → Told
tells_taken client n t calls = tells (with_reading client n t.reading calls) t.events

-- a call that begins, and may be half-closed at once
abbrev pub begun_reading : Bool → Reading
begun_reading true = readings.Over
begun_reading false = readings.Body []

abbrev pub begun_events : ℕ → List ℕ → Bool → List CallEvent
begun_events n path true = events.Begun n path ∷ events.HalfClosed n ∷ []
begun_events n path false = events.Begun n path ∷ []

abbrev pub requested_by : Option Refusal → ℕ → List Header → Bool → List Call → Told
requested_by (Some refusal) n headers end calls = record { calls = calls; events = []; refused = Some (n, refusal) }
requested_by None n headers end calls = tells (calls ++ record { stream = n; reading = begun_reading end } ∷ []) (begun_events n (path_of headers) end)

-- a stream of a server that hasn't been answered
abbrev pub is_fresh_stream : Option Stream → Bool
is_fresh_stream None = false
is_fresh_stream (Some s) = is_unopened s.sending

abbrev pub is_fresh : ℕ → Part → Bool
is_fresh n p = is_server p.role && is_fresh_stream (stream_of n p)

-- Headers. Those of a stream without a call are a request, unless the call is over already.
abbrev pub told_headers : Bool → Bool → ℕ → List Header → Bool → Option Call → List Call → Told
told_headers client fresh n headers end (Some c) calls = tells_taken client n (headed client n headers end c.reading) calls
told_headers client true n headers end None calls = requested_by (refusal_of headers) n headers end calls
told_headers client false n headers end None calls = tells calls []

abbrev pub told_piece : Bool → ℕ → List ℕ → Bool → Option Call → List Call → Told
told_piece client n bytes end None calls = tells calls []
told_piece client n bytes end (Some c) calls = tells_taken client n (pieced client n bytes end c.reading) calls

abbrev pub told_reset : ℕ → ℕ → Option Call → List Call → Told
told_reset n code None calls = tells calls []
told_reset n code (Some c) calls = tells (without_call n calls) (events.Cancelled n code ∷ [])

-- an event, by the connection after it
abbrev pub told_by : Part → SessionEvent → List Call → Told
told_by p (session.Headers n headers end) calls = told_headers (is_client p.role) (is_fresh n p) n headers end (call_in n calls) calls
told_by p (session.Piece n bytes end) calls = told_piece (is_client p.role) n bytes end (call_in n calls) calls
told_by p (session.Reset n code) calls = told_reset n code (call_in n calls) calls
told_by p session.GoAway calls = tells calls (events.GoAway ∷ [])

abbrev pub told : Part → Option SessionEvent → List Call → Told
told p None calls = tells calls []
told p (Some e) calls = told_by p e calls
