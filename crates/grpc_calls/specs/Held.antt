-- How many bytes are kept of what came.
use Rattle.std.specs.Prelude.{◌+◌, ◌==◌, ℕ, List, length, sum_by, Option, Some, None, if◌then◌else◌}
use Rattle.grpc_calls.specs.declared.event.CallEvent.{CallEvent}
use Rattle.grpc_calls.specs.declared.event.CallEvent.TheVariants as events
use Rattle.grpc_calls.specs.declared.call.Call.{Call}
use Rattle.grpc_calls.specs.declared.call.Reading.{Reading}
use Rattle.grpc_calls.specs.declared.call.Reading.TheVariants as readings
use Rattle.grpc_calls.specs.Streams.{call_in}
use Rattle.grpc_calls.specs.Calls.{Calls}

-- of the message that isn't whole
abbrev pub held_reading : Reading → ℕ
held_reading (readings.Body text) = length text
held_reading _ = 0

abbrev pub held_call : Option Call → ℕ
held_call None = 0
held_call (Some c) = held_reading c.reading

-- of a message that wasn't given yet
abbrev pub held_event : ℕ → CallEvent → ℕ
held_event n (events.Message stream bytes) = if stream == n then length bytes else 0
held_event n _ = 0

-- of a stream
abbrev pub held : ℕ → Calls → ℕ
held n c = held_call (call_in n c.calls) + sum_by (held_event n) c.pending
