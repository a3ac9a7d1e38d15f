-- The table of live streams.
use Rattle.std.specs.Prelude.{◌≡◌, ◌<◌, ◌≤◌, ◌-◌, ◌||◌, ◌&&◌, ◌==◌, not, Option, None, ℕ, Bool, true, false, List, [], ◌∷◌, ◌++◌, Some, remove, slice_set, length, drop, sum_by, ◌+◌, if◌then◌else◌}
use Rattle.std.specs.Coded.{×_prop, le_prop}
use Rattle.h2_session.specs.declared.stream.Stream.{Stream}
use Rattle.h2_session.specs.declared.block.Block.{Block}
use Rattle.h2_session.specs.declared.role.Role.{Role}
use Rattle.h2_session.specs.Faults.{is_server}
use Rattle.h2_session.specs.declared.stream.Sending.{Sending}
use Rattle.h2_session.specs.declared.stream.Sending.TheVariants as sending
use Rattle.h2_session.specs.Windows.{used}

-- The numbers rise from above `low` to at most `high`, so that no two streams have the same.
abbrev pub Rises : ℕ → List Stream → ℕ → Type 0
Rises low [] high = low ≤ high
Rises low (s ∷ ss) high = (low < s.number) × Rises s.number ss high

pub Rises-prop : (low : ℕ) (ss : List Stream) (high : ℕ) → IsProp (Rises low ss high)
Rises-prop low [] high = le_prop
Rises-prop low (s ∷ ss) high = ×_prop le_prop (Rises-prop s.number ss high)

-- The numbers of live streams are at most this, which is below that of a stream whose first block hasn't ended.
abbrev pub top_of : Option Block → ℕ → ℕ
top_of None high = high
top_of (Some b) high = if b.begins then b.stream - 1 else high

-- a block that begins a stream is one of a server, and the stream is the highest
abbrev pub may_open : Role → Option Block → ℕ → Bool
may_open role None high = true
may_open role (Some b) high = not b.begins || (is_server role && (b.stream == high))

-- the same of a block by itself
abbrev pub Opens : Role → Block → List Stream → ℕ → Type 0
Opens role b ss high = (may_open role (Some b) high ≡ true) × Rises 0 ss (top_of (Some b) high)

-- This end has half-closed the stream, too.
abbrev pub is_done : Sending → Bool
is_done sending.Ended = true
is_done _ = false

-- the table after the peer has half-closed the stream in a place
abbrev pub rows_ended : ℕ → Stream → List Stream → List Stream
rows_ended i s ss = if is_done s.sending then remove ss i else slice_set ss i (record s { ended = true })

-- the table after DATA of the stream in a place
abbrev pub rows_after : ℕ → Bool → ℕ → Stream → List Stream → List Stream
rows_after size true i s ss = if s.ended then remove ss i else slice_set ss i (record s { flow = used size s.flow; waits = drop size s.waits; sending = sending.Ended })
rows_after size false i s ss = slice_set ss i (record s { flow = used size s.flow; waits = drop size s.waits })

-- the table after bytes were handed in for the stream in a place, with which it may half-close
abbrev pub rows_said : ℕ → List ℕ → Bool → Stream → List Stream → List Stream
rows_said i bytes true s ss = slice_set ss i (record s { waits = s.waits ++ bytes; sending = sending.HalfClose })
rows_said i bytes false s ss = slice_set ss i (record s { waits = s.waits ++ bytes })

-- the table after the headers of an answer, which may be all of it
abbrev pub rows_answered : ℕ → Bool → Stream → List Stream → List Stream
rows_answered i true s ss = remove ss i
rows_answered i false s ss = slice_set ss i (record s { sending = sending.Open })

abbrev pub is_unopened : Sending → Bool
is_unopened sending.Unopened = true
is_unopened _ = false

-- how many bytes and ends a stream has still to write
abbrev pub ends_left : Sending → ℕ
ends_left (sending.Trailers headers) = 1
ends_left sending.HalfClose = 1
ends_left _ = 0

abbrev pub left_of : Stream → ℕ
left_of s = length s.waits + ends_left s.sending

abbrev pub left_in : List Stream → ℕ
left_in ss = sum_by left_of ss

-- 1 for a stream that has bytes or an end still to write, and how many such streams there are
abbrev pub busy_of : Stream → ℕ
busy_of s = if length s.waits == 0 then ends_left s.sending else 1

abbrev pub busy_in : List Stream → ℕ
busy_in ss = sum_by busy_of ss
