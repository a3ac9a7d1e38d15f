-- What one end of a connection knows between two frames (RFC 9113, sections 5 and 6).
use Rattle.std.specs.Prelude.{◌≡◌, ◌==◌, ℕ, Bool, false, List, [], ◌∷◌, ◌++◌, Option, Some, None, position, remove, slice_get, slice_set, is_some, option_and_then}
use Rattle.h2_frames.specs.declared.frame.Frame.{Frame}
use Rattle.hpack_tables.specs.Table.{HeaderTable, new_table}
use Rattle.h2_session.specs.Codes.{first_window}
use Rattle.h2_session.specs.declared.role.Role.{Role}
use Rattle.h2_session.specs.declared.stream.Stream.{Stream}
use Rattle.h2_session.specs.declared.block.Block.{Block}

pub record Part : Type 0 where
  -- which end this is
  pub role : Role
  -- the peer's first SETTINGS came
  pub begun : Bool
  -- a GOAWAY of the peer came
  pub over : Bool
  -- the highest stream that was begun, or 0
  pub highest : ℕ
  -- of the peer's settings: SETTINGS_INITIAL_WINDOW_SIZE in bytes, and SETTINGS_MAX_CONCURRENT_STREAMS
  pub initial : ℕ
  pub most : ℕ
  -- the next block of this end empties the peer's table, which has become smaller
  pub shrink : Bool
  -- what is left of the connection's window for this end's DATA, in bytes
  pub window : ℕ
  -- the header block whose end hasn't come
  pub block : Option Block
  -- the table by which the peer's blocks are decoded
  pub table : HeaderTable
  -- the live streams, in the order in which they began
  pub streams : List Stream
  -- the frames that are due and need no window, in the order of their causes
  pub due : List Frame

-- where a stream stands among the live ones
abbrev pub place_of : ℕ → List Stream → Option ℕ
place_of number streams = position (λ (s : Stream). s.number == number) streams

-- a live stream by its number
abbrev pub stream_of : ℕ → Part → Option Stream
stream_of number p = option_and_then (λ i. slice_get p.streams i) (place_of number p.streams)

-- a place of the live streams, where the stream of this number stands
pub record IsRow (number : ℕ) (streams : List Stream) (i : ℕ) : Type 0 where
  pub row : Stream
  pub at : slice_get streams i ≡ Some row
  pub same : row.number ≡ number
  pub first : place_of number streams ≡ Some i

abbrev pub is_live : ℕ → Part → Bool
is_live number p = is_some (place_of number p.streams)

-- with another stream in a place, or with none
abbrev pub put_at : Option ℕ → Stream → List Stream → List Stream
put_at None s streams = streams
put_at (Some i) s streams = slice_set streams i s

abbrev pub taken_at : Option ℕ → List Stream → List Stream
taken_at None streams = streams
taken_at (Some i) streams = remove streams i

-- a live stream has become another
abbrev pub with_stream : Stream → Part → Part
with_stream s p = record p { streams = put_at (place_of s.number p.streams) s p.streams }

-- a stream isn't live any longer
abbrev pub without : ℕ → Part → Part
without number p = record p { streams = taken_at (place_of number p.streams) p.streams }

-- one more frame is due
abbrev pub owing : Frame → Part → Part
owing f p = record p { due = p.due ++ f ∷ [] }

-- A new connection. The SETTINGS of this end are in its output.
abbrev pub new_part : Role → Part
new_part role = record {
  role = role;
  begun = false;
  over = false;
  highest = 0;
  initial = first_window;
  most = 0xffff_ffff;
  shrink = false;
  window = first_window;
  block = None;
  table = new_table 4096;
  streams = [];
  due = [];
}
