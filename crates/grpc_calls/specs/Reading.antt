-- What is told of one stream, added to a queue of events.
use Rattle.std.specs.Prelude.{◌≡◌, List, ◌++◌}
use Rattle.grpc_calls.specs.declared.event.CallEvent.{CallEvent}
use Rattle.grpc_calls.specs.declared.call.Reading.{Reading}
use Rattle.grpc_calls.specs.Framing.{Taken}

-- the reading stands there, and the events stand behind the others
abbrev pub Gives : Taken → Reading → List CallEvent → List CallEvent → Type 0
Gives t r old new = (r ≡ t.reading) × (new ≡ old ++ t.events)
