-- What this end writes (RFC 9113, sections 5 and 6): what is due comes first, in the order of its causes; then, on each stream, its
-- bytes as the windows allow, and behind them what ends it. Streams interleave freely.
use Rattle.std.specs.Prelude.{◌≡◌, ◌≤◌, ◌<◌, ◌-◌, ◌==◌, ◌⊎◌, ℕ, Bool, true, false, List, [], ◌∷◌, ◌++◌, length, take, drop, All, Option, Some, None, if◌then◌else◌}
use Rattle.std.specs.List.{flat_map}
use Rattle.h2_frames.specs.declared.frame.Frame.{Frame}
use Rattle.h2_frames.specs.declared.frame.Frame.TheVariants as frames
use Rattle.h2_frames.specs.Spelling.{spelled}
use Rattle.hpack_tables.specs.declared.header.Header.{Header}
use Rattle.hpack_tables.specs.Encoding.{block_spelled}
use Rattle.h2_session.specs.Codes.{max_frame, no_error}
use Rattle.h2_session.specs.declared.stream.Stream.{Stream}
use Rattle.h2_session.specs.declared.stream.Sending.{Sending}
use Rattle.h2_session.specs.declared.stream.Sending.TheVariants as sending
use Rattle.h2_session.specs.Part.{Part, stream_of, with_stream, without}
use Rattle.h2_session.specs.Windows.{window_of, used}
use Rattle.h2_session.specs.Said.{headers_frame, closed}

-- the stream half-closes with its last byte
abbrev pub is_closing : Sending → Bool
is_closing sending.HalfClose = true
is_closing _ = false

-- DATA: the next bytes that wait, at least one but where an empty frame ends the stream
pub record IsPiece (window initial : ℕ) (s : Stream) (bytes : List ℕ) (end : Bool) : Type 0 where
  pub next : bytes ≡ take (length bytes) s.waits
  pub some : (0 < length bytes) ⊎ (end ≡ true)
  pub short : length bytes ≤ max_frame
  pub of_stream : length bytes ≤ window_of initial s.flow
  pub of_connection : length bytes ≤ window
  pub last : end ≡ (if length bytes == length s.waits then is_closing s.sending else false)

-- trailers, behind all bytes
abbrev pub IsTrailers : ℕ → List ℕ → Bool → Stream → Sending → Part → Type 0
IsTrailers number block end s (sending.Trailers headers) p = (s.waits ≡ []) × (frames.Headers number block end true ≡ headers_frame number headers true p)
IsTrailers number block end s _ p = ⊥

-- on a stream, where nothing else is due
abbrev pub MaySendOn : Option Stream → Part → Frame → Type 0
MaySendOn (Some s) p (frames.Data number bytes size end) = (size ≡ length bytes) × IsPiece p.window p.initial s bytes end
MaySendOn (Some s) p (frames.Headers number block end true) = IsTrailers number block end s s.sending p
MaySendOn _ p f = ⊥

-- the stream of a frame of this end
abbrev pub number_of : Frame → ℕ
number_of (frames.Data number bytes size end) = number
number_of (frames.Headers number block end whole) = number
number_of _ = 0

abbrev pub MaySendFirst : List Frame → Part → Frame → Type 0
MaySendFirst [] p f = MaySendOn (stream_of (number_of f) p) p f
MaySendFirst (d ∷ ds) p f = f ≡ d

-- a frame that may be written
abbrev pub MaySend : Part → Frame → Type 0
MaySend p f = MaySendFirst p.due p f

-- ---- after a frame was written

abbrev pub after_piece : ℕ → Bool → Option Stream → Part → Part
after_piece size end None p = p
after_piece size true (Some s) p = if s.ended then without s.number p else with_stream (record s { flow = used size s.flow; waits = drop size s.waits; sending = sending.Ended }) p
after_piece size false (Some s) p = with_stream (record s { flow = used size s.flow; waits = drop size s.waits }) p

abbrev pub after_trailers : Option Stream → Part → Part
after_trailers None p = p
after_trailers (Some s) p = closed s (record p { shrink = false })

abbrev pub sent_on : Option Stream → Part → Frame → Part
sent_on s p (frames.Data number bytes size end) = after_piece size end s (record p { window = p.window - size })
sent_on s p (frames.Headers number block end whole) = after_trailers s p
sent_on s p _ = p

abbrev pub sent_first : List Frame → Part → Frame → Part
sent_first [] p f = sent_on (stream_of (number_of f) p) p f
sent_first (d ∷ ds) p f = record p { due = ds }

abbrev pub sent : Part → Frame → Part
sent p f = sent_first p.due p f

-- these frames are written, one after the other
abbrev pub Sends : Part → List Frame → Part → Type 0
Sends p [] q = p ≡ q
Sends p (f ∷ fs) q = MaySend p f × Sends (sent p f) fs q

abbrev pub spellings : List Frame → List ℕ
spellings fs = flat_map spelled fs

-- ---- nothing more may be written

-- the bytes of a stream wait for its window or for the connection's, or there are none and nothing ends it
abbrev pub MayEnd : Sending → Type 0
MayEnd (sending.Trailers headers) = ⊥
MayEnd sending.HalfClose = ⊥
MayEnd _ = Unit {0}

abbrev pub IsStuck : ℕ → ℕ → Stream → Type 0
IsStuck window initial s = ((s.waits ≡ []) × MayEnd s.sending) ⊎ ((0 < length s.waits) × ((window_of initial s.flow ≡ 0) ⊎ (window ≡ 0)))

pub record IsQuiet (p : Part) : Type 0 where
  pub due : p.due ≡ []
  pub streams : All (IsStuck p.window p.initial) p.streams

-- the trailers of a stream were written, and that the peer may stop where it hasn't ended the stream
pub record AreLast (s : Stream) (shrink : Bool) (out now : List ℕ) : Type 0 where
  pub headers : List Header
  pub are : s.sending ≡ sending.Trailers headers
  pub output : now ≡ out ++ (spelled (frames.Headers s.number (block_spelled headers shrink) true true) ++ spellings (if s.ended then [] else frames.Reset s.number no_error ∷ []))

-- what ends a stream at a server behind the headers of an answer that are all of it
abbrev pub ending : Bool → Stream → List Frame
ending true s = if s.ended then [] else frames.Reset s.number no_error ∷ []
ending false s = []

-- This part goes on to that one, and the frames between are added to the output.
pub record Writes (p : Part) (out : List ℕ) (q : Part) (now : List ℕ) : Type 0 where
  pub frames : List Frame
  pub sends : Sends p frames q
  pub output : now ≡ out ++ spellings frames

-- what is due was written, and nothing else
pub record Pays (p : Part) (out : List ℕ) (q : Part) (now : List ℕ) : Type 0 where
  pub part : q ≡ record p { due = [] }
  pub output : now ≡ out ++ spellings p.due

-- This part goes on to one in which nothing more may be written, and the frames between are added to the output.
pub record Settles (p : Part) (out : List ℕ) (q : Part) (now : List ℕ) : Type 0 where
  pub frames : List Frame
  pub sends : Sends p frames q
  pub output : now ≡ out ++ spellings frames
  pub quiet : IsQuiet q
