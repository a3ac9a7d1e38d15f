-- The table of calls, and what a change of it tells.
use Rattle.std.specs.Prelude.{◌≡◌, ◌<◌, ℕ, List, ◌++◌, length, slice_get, Some}
use Rattle.grpc_calls.specs.declared.event.CallEvent.{CallEvent}
use Rattle.grpc_calls.specs.declared.call.Call.{Call}
use Rattle.grpc_calls.specs.Streams.{Told, place_in}

-- a place of the table, where the call of this stream stands
pub record IsCall (n : ℕ) (calls : List Call) (i : ℕ) : Type 0 where
  pub call : Call
  pub within : i < length calls
  pub at : slice_get calls i ≡ Some call
  pub same : call.stream ≡ n
  pub first : place_in n calls ≡ Some i

-- the table is this, and the events stand behind the others
abbrev pub GivesTold : Told → List Call → List CallEvent → List CallEvent → Type 0
GivesTold t calls old new = (calls ≡ t.calls) × (new ≡ old ++ t.events)
