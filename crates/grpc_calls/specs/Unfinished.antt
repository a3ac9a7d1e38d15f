-- A message of which some bytes have come.
use Rattle.std.specs.Prelude.{◌≡◌, ◌≤◌, ◌<◌, ℕ, List, [], ◌∷◌, ◌++◌, length, take}
use Rattle.grpc_calls.specs.Prefix.{max_message}
use Rattle.grpc_calls.specs.Framing.{taken, keeps, broken, status_of}
use Rattle.grpc_calls.specs.declared.call.Reading.TheVariants as readings
use Rattle.grpc_calls.specs.declared.event.CallEvent.TheVariants as events
use Rattle.grpc_calls.specs.declared.fault.MessageFault.TheVariants as faults
use Rattle.grpc_calls.specs.declared.unfinished.Step.{Step}
use Rattle.grpc_calls.specs.declared.unfinished.Step.TheVariants as steps

-- these bytes of the stream lead from one place in its messages to another, with this message if it has become whole
abbrev pub Takes : List ℕ → List ℕ → List ℕ → Step → Type 0
Takes old bytes new (steps.Part count) =
    (0 < count) × (count ≤ length bytes) × ((n : ℕ) → taken n (readings.Body old) (take count bytes) ≡ keeps (readings.Body new))
Takes old bytes new (steps.Whole count content) =
    (0 < count) × (count ≤ length bytes) × (new ≡ []) × ((n : ℕ) → taken n (readings.Body old) (take count bytes) ≡ record { reading = readings.Body []; events = events.Message n content ∷ [] })
Takes old bytes new (steps.Fault fault) =
    (n : ℕ) → taken n (readings.Body old) bytes ≡ broken n (status_of fault)

-- what a whole prefix does that tells this size
abbrev pub Judged : ℕ → ℕ → List ℕ → List ℕ → Step → Type 0
Judged size count old new (steps.Part n) = (n ≡ count) × (0 < size) × (size ≤ max_message) × (new ≡ old)
Judged size count old new (steps.Whole n content) = (n ≡ count) × (size ≡ 0) × (content ≡ []) × (new ≡ [])
Judged size count old new (steps.Fault fault) = (fault ≡ faults.TooLarge) × (max_message < size) × (new ≡ [])
