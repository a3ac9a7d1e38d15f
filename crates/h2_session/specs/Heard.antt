-- What a frame of the peer changes, and the event that it gives (RFC 9113, sections 5 and 6). It is no offence.
use Rattle.std.specs.Prelude.{◌+◌, ◌==◌, ◌||◌, nat_lt, nat_le, ℕ, Bool, true, false, List, [], ◌∷◌, ◌++◌, length, Option, Some, None, Result, Ok, is_none, if◌then◌else◌}
use Rattle.h2_frames.specs.declared.frame.Frame.{Frame}
use Rattle.h2_frames.specs.declared.frame.Frame.TheVariants as frames
use Rattle.hpack_tables.specs.declared.header.Header.{Header}
use Rattle.hpack_tables.specs.declared.fault.HpackFault.{HpackFault}
use Rattle.hpack_tables.specs.Table.{HeaderTable}
use Rattle.h2_session.specs.Codes.{protocol_error, flow_control_error, refused_stream, max_streams}
use Rattle.h2_session.specs.declared.stream.Stream.{Stream}
use Rattle.h2_session.specs.declared.stream.Sending.TheVariants as sending
use Rattle.h2_session.specs.declared.block.Block.{Block}
use Rattle.h2_session.specs.declared.event.SessionEvent.{SessionEvent}
use Rattle.h2_session.specs.declared.event.SessionEvent.TheVariants as events
use Rattle.h2_session.specs.Part.{Part, stream_of, is_live, with_stream, without, owing}
use Rattle.h2_session.specs.Windows.{new_flow, passes_max, grown}
use Rattle.h2_session.specs.Requests.{is_malformed}
use Rattle.h2_session.specs.Rows.{is_done}
use Rattle.h2_session.specs.Faults.{gathered, decoded, frame_offence}

-- the connection after a frame, and what the frame means to the calls
pub record Heard : Type 0 where
  pub part : Part
  pub event : Option SessionEvent

abbrev pub nothing : Part → Heard
nothing p = record { part = p; event = None }

abbrev pub tells : SessionEvent → Part → Heard
tells e p = record { part = p; event = Some e }

-- ---- streams

-- the peer has half-closed a stream, which ends it if this end has, too (section 5.1)
abbrev pub ended_by_peer : Stream → Part → Part
ended_by_peer s p = if is_done s.sending then without s.number p else with_stream (record s { ended = true }) p

abbrev pub ended_if : Bool → Stream → Part → Part
ended_if true s p = ended_by_peer s p
ended_if false s p = p

-- this end resets a live stream (section 5.4.2)
abbrev pub reset : ℕ → ℕ → Part → Heard
reset number code p = tells (events.Reset number code) (owing (frames.Reset number code) (without number p))

-- ---- DATA (section 6.1): each frame's payload is granted again, also on the stream unless the peer has ended it

abbrev pub grants : ℕ → ℕ → List Frame
grants number size = if size == 0 then [] else frames.Window number size ∷ []

abbrev pub granted : ℕ → ℕ → Part → Part
granted number size p = record p { due = p.due ++ grants number size }

abbrev pub data_on : ℕ → List ℕ → ℕ → Bool → Option Stream → Part → Heard
data_on number bytes size end None p = nothing (granted 0 size p)
data_on number bytes size true (Some s) p = tells (events.Piece number bytes true) (ended_by_peer s (granted 0 size p))
data_on number bytes size false (Some s) p = tells (events.Piece number bytes false) (granted number size (granted 0 size p))

-- ---- HEADERS and CONTINUATION (sections 6.2 and 6.10)

-- a stream that begins
abbrev pub new_stream : ℕ → Bool → Stream
new_stream number ended = record { number = number; flow = new_flow; ended = ended; sending = sending.Unopened; waits = [] }

-- A request. One that is malformed is reset (section 8.1.1), and so is one too many (section 5.1.2).
abbrev pub requested : ℕ → List Header → Bool → Part → Heard
requested number headers end p =
    if is_malformed headers then nothing (owing (frames.Reset number protocol_error) p)
    else if nat_le max_streams (length p.streams) then nothing (owing (frames.Reset number refused_stream) p)
    else tells (events.Headers number headers end) (record p { streams = p.streams ++ new_stream number end ∷ [] })

-- further headers of a stream: those of an answer, or trailers
abbrev pub headed : ℕ → List Header → Bool → Option Stream → Part → Heard
headed number headers end None p = nothing p
headed number headers end (Some s) p = tells (events.Headers number headers end) (ended_if end s p)

abbrev pub with_headers : Block → List Header → Part → Heard
with_headers block headers p =
    if block.begins then requested block.stream headers block.end p
    else headed block.stream headers block.end (stream_of block.stream p) p

-- the block has ended, or its next fragment is waited for
abbrev pub fragment : Option Block → Option (Result (List Header × HeaderTable) HpackFault) → Part → Heard
fragment (Some block) (Some (Ok d)) p = with_headers block d.0 (record p { block = None; table = d.1 })
fragment block _ p = nothing (record p { block = block })

-- A client begins a stream by its HEADERS.
abbrev pub begun_by : Option Block → Part → Part
begun_by None p = p
begun_by (Some block) p = if block.begins then record p { highest = block.stream } else p

-- ---- SETTINGS (section 6.5.2): the values act one after the other

abbrev pub with_setting : ℕ × ℕ → Part → Part
with_setting s p =
    if s.0 == 1 then record p { shrink = p.shrink || nat_lt s.1 4096 }
    else if s.0 == 3 then record p { most = s.1 }
    else if s.0 == 4 then record p { initial = s.1 }
    else p

abbrev pub with_settings : List (ℕ × ℕ) → Part → Part
with_settings [] p = p
with_settings (s ∷ ss) p = with_settings ss (with_setting s p)

-- ---- WINDOW_UPDATE (section 6.9): on a stream that isn't live it is ignored

abbrev pub updated : ℕ → ℕ → Option Stream → Part → Heard
updated number increment None p = nothing p
updated number increment (Some s) p =
    if increment == 0 then reset number protocol_error p
    else if passes_max p.initial (grown increment s.flow) then reset number flow_control_error p
    else nothing (with_stream (record s { flow = grown increment s.flow }) p)

-- ---- RST_STREAM (section 6.4)

abbrev pub reset_by_peer : ℕ → ℕ → Part → Heard
reset_by_peer number code p = if is_live number p then tells (events.Reset number code) (without number p) else nothing p

-- ---- each frame

abbrev pub heard : Part → Frame → Heard
heard p (frames.Data stream bytes size end) = data_on stream bytes size end (stream_of stream p) p
heard p (frames.Headers stream block end whole) =
    let f = frames.Headers stream block end whole in fragment (gathered p f) (decoded p f) (begun_by (gathered p f) p)
heard p (frames.Continuation stream block whole) =
    let f = frames.Continuation stream block whole in fragment (gathered p f) (decoded p f) p
heard p (frames.Priority stream) = nothing p
heard p (frames.Reset stream code) = reset_by_peer stream code p
heard p (frames.Settings true values) = nothing p
heard p (frames.Settings false values) = nothing (owing (frames.Settings true []) (with_settings values (record p { begun = true })))
heard p (frames.Push stream) = nothing p
heard p (frames.Ping true bytes) = nothing p
heard p (frames.Ping false bytes) = nothing (owing (frames.Ping true bytes) p)
heard p (frames.GoAway last code) = tells events.GoAway (record p { over = true })
heard p (frames.Window stream increment) =
    if stream == 0 then nothing (record p { window = p.window + increment })
    else updated stream increment (stream_of stream p) p
heard p (frames.Unknown kind) = nothing p

-- At an offence a stream was begun, too, where the frame itself is none (section 6.8).
abbrev pub at_offence : Part → Frame → Part
at_offence p f = if is_none (frame_offence p f) then begun_by (gathered p f) p else p
