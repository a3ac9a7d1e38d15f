-- When a door rings, and what an ear has heard.
use Rattle.std.specs.Prelude.{◌+◌, ◌-◌, ◌/◌, nat_lt, ℕ, Bool, false, Result, Ok, Err, if◌then◌else◌}
use Rattle.proto_wire.specs.declared.memory.OutOfMemory.{OutOfMemory}
use Rattle.store_core.specs.State.{State}
use Rattle.blob_store.specs.declared.gate.Ring.{Ring}
use Rattle.blob_store.specs.declared.gate.Ring.TheVariants as rings
use Rattle.blob_store.specs.declared.door.PutReply.{PutReply}
use Rattle.blob_store.specs.declared.door.PutReply.TheVariants as puts

-- the ring mark of a store, in bytes: halfway from its low mark to its high mark, rounded down
abbrev pub ring_mark : State → ℕ
ring_mark s = s.low + (s.high - s.low) / 2

-- whether a put stored a blob, and more bytes than the mark are in the store then
abbrev pub is_over : ℕ → PutReply → Bool
is_over mark (puts.Stored removed used) = nat_lt mark used
is_over mark puts.Present = false
is_over mark puts.Repaired = false
is_over mark (puts.NoSpace guarded size high) = false

-- how often a put rings: once where it is over the mark
abbrev pub rings_for : ℕ → PutReply → ℕ
rings_for mark reply = if is_over mark reply then 1 else 0

abbrev pub rings_by : ℕ → Result PutReply OutOfMemory → ℕ
rings_by mark (Ok reply) = rings_for mark reply
rings_by mark (Err e) = 0

-- what one answer of an ear adds to its counts
abbrev pub passes_in : Ring → ℕ
passes_in rings.Pass = 1
passes_in rings.Stop = 0

abbrev pub stops_in : Ring → ℕ
stops_in rings.Pass = 0
stops_in rings.Stop = 1

-- how often an ear heard that a pass is due, and that it is to stop
pub record Heard : Type 0 where
  pub passes : ℕ
  pub stops : ℕ
