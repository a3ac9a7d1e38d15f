use Rattle.std.proofs.Common.{◌≡◌, ◌-◌, ◌^◌, min, take}
use Rattle.std.specs.Prelude.{sum_by}
use Rattle.grpc_calls.specs.Held.{held_event}
use Rattle.grpc_calls.proofs.held.held_events.Given as goal

abbrev pub invariant-events : goal.invariant-events
invariant-events l = l.sum ≡ min (sum_by (held_event l.stream) (take l.i l.events.items)) (2 ^ 64 - 1)
