-- What a stream may write next.
use Rattle.std.specs.Prelude.{◌≡◌, ◌≤◌, ◌<◌, ◌⊎◌, ℕ, true, List, [], length, slice_get, Option, Some, None}
use Rattle.h2_session.specs.Codes.{max_frame}
use Rattle.h2_session.specs.declared.stream.Stream.{Stream}
use Rattle.h2_session.specs.declared.stream.Sending.{Sending}
use Rattle.h2_session.specs.declared.stream.Sending.TheVariants as sending
use Rattle.h2_session.specs.declared.turn.Turn.{Turn}
use Rattle.h2_session.specs.declared.turn.Turn.TheVariants as turns
use Rattle.h2_session.specs.Windows.{window_of}
use Rattle.h2_session.specs.Sent.{is_closing, IsStuck}

-- so many of its bytes in a DATA frame, and none only where an empty frame ends the stream
pub record MayTake (window initial : ℕ) (s : Stream) (size : ℕ) : Type 0 where
  pub some : (0 < size) ⊎ ((s.waits ≡ []) × (is_closing s.sending ≡ true))
  pub short : size ≤ max_frame
  pub of_stream : size ≤ window_of initial s.flow
  pub of_connection : size ≤ window
  pub whole : size ≤ length s.waits

abbrev pub AreTrailers : Sending → Type 0
AreTrailers (sending.Trailers headers) = Unit {0}
AreTrailers _ = ⊥

abbrev pub IsTurn : ℕ → ℕ → Stream → Option Turn → Type 0
IsTurn window initial s None = IsStuck window initial s
IsTurn window initial s (Some (turns.Piece size)) = MayTake window initial s size
IsTurn window initial s (Some turns.Trailers) = (s.waits ≡ []) × AreTrailers s.sending

-- what ends a stream whose bytes are all written
abbrev pub end_of : Sending → Option Turn
end_of (sending.Trailers headers) = Some turns.Trailers
end_of sending.HalfClose = Some (turns.Piece 0)
end_of _ = None

-- the stream in a place may write this
pub record HasTurn (window initial : ℕ) (ss : List Stream) (i : ℕ) (turn : Turn) : Type 0 where
  pub row : Stream
  pub at : slice_get ss i ≡ Some row
  pub may : IsTurn window initial row (Some turn)
