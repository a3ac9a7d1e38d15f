use Rattle.std.proofs.Common.{◌≡◌, ◌≤◌, ◌-◌, ◌++◌, List, length, drop}
use Rattle.grpc_calls.specs.declared.event.CallEvent.{CallEvent}
use Rattle.grpc_calls.specs.declared.call.Reading.TheVariants as readings
use Rattle.grpc_calls.specs.Framing.{taken}
use Rattle.grpc_calls.proofs.MessageLaws.{Rests}
use Rattle.grpc_calls.proofs.body.take_in.Given as goal

abbrev pub invariant-steps : goal.invariant-steps
invariant-steps l =
    (told : List CallEvent) × (l.events.items ≡ l.initial.events.items ++ told) × (l.at ≤ length l.bytes)
    × Rests l.stream l.text (drop l.at l.bytes) told (taken l.stream (readings.Body l.initial.text) l.bytes)

abbrev pub decreases-steps : goal.decreases-steps
decreases-steps l = length l.bytes - l.at
