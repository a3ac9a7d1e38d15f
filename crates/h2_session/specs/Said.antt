-- What this end's caller hands in.
use Rattle.std.specs.Prelude.{◌≡◌, ◌≤◌, ◌+◌, ◌^◌, ◌==◌, ◌&&◌, nat_lt, ℕ, Bool, true, false, List, [], ◌∷◌, ◌++◌, length, Option, Some, None, if◌then◌else◌}
use Rattle.h2_frames.specs.declared.frame.Frame.{Frame}
use Rattle.h2_frames.specs.declared.frame.Frame.TheVariants as frames
use Rattle.hpack_tables.specs.declared.header.Header.{Header}
use Rattle.hpack_tables.specs.Encoding.{block_spelled}
use Rattle.hpack_tables.specs.Table.{list_size}
use Rattle.h2_session.specs.Codes.{no_error, max_list}
use Rattle.h2_session.specs.declared.role.Role.{Role}
use Rattle.h2_session.specs.declared.role.Role.TheVariants as roles
use Rattle.h2_session.specs.declared.stream.Stream.{Stream}
use Rattle.h2_session.specs.declared.stream.Sending.{Sending}
use Rattle.h2_session.specs.declared.stream.Sending.TheVariants as sending
use Rattle.h2_session.specs.declared.event.Out.{Out}
use Rattle.h2_session.specs.declared.event.Out.TheVariants as outs
use Rattle.h2_session.specs.Windows.{new_flow}
use Rattle.h2_session.specs.Part.{Part, stream_of, is_live, with_stream, without, owing}

abbrev pub is_sending : Sending → Bool
is_sending sending.Unopened = true
is_sending sending.Open = true
is_sending _ = false

-- HEADERS with a block of this end
abbrev pub headers_frame : ℕ → List Header → Bool → Part → Frame
headers_frame number headers end p = frames.Headers number (block_spelled headers p.shrink) end true

abbrev pub owing_headers : ℕ → List Header → Bool → Part → Part
owing_headers number headers end p = record (owing (headers_frame number headers end p) p) { shrink = false }

-- A server has ended a stream. If the peer hasn't, it is asked to stop (section 8.1).
abbrev pub closed : Stream → Part → Part
closed s p = if s.ended then without s.number p else owing (frames.Reset s.number no_error) (without s.number p)

-- headers at a server: those of the answer, which may be all of it, then trailers
abbrev pub said_headers : List Header → Bool → Stream → Sending → Part → Part
said_headers headers true s sending.Unopened p = closed s (owing_headers s.number headers true p)
said_headers headers false s sending.Unopened p = with_stream (record s { sending = sending.Open }) (owing_headers s.number headers false p)
said_headers headers end s _ p = with_stream (record s { sending = sending.Trailers headers }) p

-- bytes, with which a client may half-close
abbrev pub said_piece : List ℕ → Bool → Stream → Part → Part
said_piece bytes true s p = with_stream (record s { waits = s.waits ++ bytes; sending = sending.HalfClose }) p
said_piece bytes false s p = with_stream (record s { waits = s.waits ++ bytes }) p

abbrev pub said_on : Out → Stream → Part → Part
said_on (outs.Headers headers end) s p = said_headers headers end s s.sending p
said_on (outs.Piece bytes end) s p = said_piece bytes end s p

abbrev pub said_to : Out → Option Stream → Part → Part
said_to what None p = p
said_to what (Some s) p = said_on what s p

abbrev pub said : ℕ → Out → Part → Part
said number what p = said_to what (stream_of number p) p

-- the stream is live, and this end hasn't half-closed it
abbrev pub may_say : Option Stream → Bool
may_say None = false
may_say (Some s) = is_sending s.sending

abbrev pub cancelled : ℕ → ℕ → Part → Part
cancelled number code p = if is_live number p then owing (frames.Reset number code) (without number p) else p

-- ---- a client begins a stream (section 5.1.1)

abbrev pub next_number : Part → ℕ
next_number p = if p.highest == 0 then 1 else p.highest + 2

abbrev pub may_begin : Part → Bool
may_begin p = nat_lt (length p.streams) p.most && nat_lt (next_number p) (2 ^ 31)

abbrev pub client_stream : ℕ → Stream
client_stream number = record { number = number; flow = new_flow; ended = false; sending = sending.Open; waits = [] }

abbrev pub begun : List Header → Part → Part
begun headers p = owing_headers (next_number p) headers false (record p { highest = next_number p; streams = p.streams ++ client_stream (next_number p) ∷ [] })

-- how many bytes wait for a window
abbrev pub waiting : Option Stream → ℕ
waiting None = 0
waiting (Some s) = length s.waits

-- What may be handed in: at a server first headers, then bytes and trailers; at a client bytes alone. A header list is within its
-- limit.
abbrev pub IsSayableNow : Role → Out → Sending → Type 0
IsSayableNow roles.Server (outs.Headers headers end) sending.Unopened = list_size headers ≤ max_list
IsSayableNow roles.Server (outs.Headers headers end) sending.Open = (end ≡ true) × (list_size headers ≤ max_list)
IsSayableNow roles.Server (outs.Piece bytes end) sending.Open = end ≡ false
IsSayableNow roles.Client (outs.Piece bytes end) sending.Open = Unit {0}
IsSayableNow role what s = ⊥

abbrev pub IsSayable : Role → Out → Option Stream → Type 0
IsSayable role what None = ⊥
IsSayable role what (Some s) = IsSayableNow role what s.sending
