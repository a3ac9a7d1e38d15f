-- The messages of a stream (gRPC over HTTP/2, Length-Prefixed-Message): a flag byte, the length of the content in four bytes,
-- big-endian, and the content. What comes in DATA frames is read byte by byte, so that no cut between frames means anything.
use Rattle.std.specs.Prelude.{◌==◌, ◌+◌, nat_lt, codes, ℕ, Bool, true, false, List, [], ◌∷◌, ◌++◌, length, drop, Option, Some, None, Result, Ok, Err, if◌then◌else◌}
use Rattle.std.specs.Int.{w32, to_be_bytes}
use Rattle.grpc_calls.specs.Prefix.{max_message, size_in}
use Rattle.casd_base.specs.declared.code.Code.TheVariants as code
use Rattle.casd_base.specs.declared.status.Status.{Status}
use Rattle.grpc_calls.specs.declared.fault.MessageFault.{MessageFault}
use Rattle.grpc_calls.specs.declared.fault.MessageFault.TheVariants as faults
use Rattle.grpc_calls.specs.declared.event.CallEvent.{CallEvent}
use Rattle.grpc_calls.specs.declared.event.CallEvent.TheVariants as events
use Rattle.grpc_calls.specs.declared.call.Reading.{Reading}
use Rattle.grpc_calls.specs.declared.call.Reading.TheVariants as readings

-- a message that isn't compressed
abbrev pub framed : List ℕ → List ℕ
framed content = 0 ∷ (to_be_bytes w32 (length content) ++ content)

-- ---- one message

-- what the bytes behind the flag 0 show: the content if it is whole, and None if more is to come
unfoldable pub front_behind : List ℕ → Result (Option (List ℕ)) MessageFault
front_behind behind =
    if nat_lt (length behind) 4 then Ok None
    else if nat_lt max_message (size_in behind) then Err faults.TooLarge
    else if nat_lt (length behind) (4 + size_in behind) then Ok None
    else Ok (Some (drop 4 behind))

-- What the bytes of a message show that have come. The flag is judged as soon as it is there, the length as soon as its four
-- bytes are.
abbrev pub front : List ℕ → Result (Option (List ℕ)) MessageFault
front [] = Ok None
front (flag ∷ behind) = if flag == 0 then front_behind behind else if flag == 1 then Err faults.Compressed else Err faults.BadFlag

-- the status that tells what is wrong with the messages of a stream
abbrev pub status_of : MessageFault → Status
status_of faults.Compressed = record { code = code.Unimplemented; text = codes "compressed message" }
status_of faults.BadFlag = record { code = code.Internal; text = codes "bad flag" }
status_of faults.TooLarge = record { code = code.InvalidArgument; text = codes "message too large" }
status_of faults.Truncated = record { code = code.InvalidArgument; text = codes "truncated message" }

-- ---- the bytes of a stream

-- where the reading of a stream stands, and what it has told
pub record Taken : Type 0 where
  pub reading : Reading
  pub events : List CallEvent

abbrev pub keeps : Reading → Taken
keeps r = record { reading = r; events = [] }

-- the last event of a stream
abbrev pub ends : CallEvent → Taken
ends e = record { reading = readings.Over; events = e ∷ [] }

abbrev pub broken : ℕ → Status → Taken
broken n status = ends (events.Broken n status)

-- one event list behind another
abbrev pub behind_events : List CallEvent → Taken → Taken
behind_events es t = record { reading = t.reading; events = es ++ t.events }

-- after one more byte of a message
abbrev pub after_byte : ℕ → List ℕ → Result (Option (List ℕ)) MessageFault → Taken
after_byte n text (Ok None) = keeps (readings.Body text)
after_byte n text (Ok (Some content)) = record { reading = readings.Body []; events = events.Message n content ∷ [] }
after_byte n text (Err fault) = broken n (status_of fault)

-- The bytes of DATA of the stream n, where `Body text` stands between messages or inside one, whose bytes so far are the text.
unfoldable pub taken : ℕ → Reading → List ℕ → Taken
taken n r [] = keeps r
taken n (readings.Body text) (b ∷ bs) =
    let t = after_byte n (text ++ b ∷ []) (front (text ++ b ∷ [])) in
    behind_events t.events (taken n t.reading bs)
taken n readings.Headers (b ∷ bs) = keeps readings.Headers
taken n readings.Over (b ∷ bs) = keeps readings.Over
