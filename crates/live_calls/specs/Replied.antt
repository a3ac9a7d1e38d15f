-- The end of a call whose message was spelled or not.
use Rattle.std.specs.Prelude.{ℕ, List, Some, None, Result, Ok, Err}
use Rattle.proto_wire.specs.declared.memory.OutOfMemory.{OutOfMemory}
use Rattle.cas_calls.specs.Statuses.{fine, out_of_memory}
use Rattle.live_calls.specs.declared.outcome.Outcome.{Outcome}
use Rattle.live_calls.specs.declared.outcome.Outcome.TheVariants as outcomes

abbrev pub replied_by : {P : Type 0} → Result (List ℕ) OutOfMemory → Outcome P
replied_by (Ok message) = outcomes.Finishes (Some message) fine
replied_by (Err e) = outcomes.Finishes None out_of_memory
