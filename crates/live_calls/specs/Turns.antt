-- What a call does when it begins, and when something happens to it.
use Rattle.std.specs.Prelude.{◌≡◌, codes, ℕ, List, [], ◌∷◌, Option, Some, None, Result, Ok, Err, if◌then◌else◌}
use Rattle.casd_base.specs.declared.code.Code.TheVariants as code
use Rattle.casd_base.specs.declared.status.Status.{Status}
use Rattle.cas_messages.specs.Table.{Value}
use Rattle.cas_messages.specs.Meaning.{message_in}
use Rattle.cas_messages.specs.Tables.{get_capabilities_request}
use Rattle.cas_messages.specs.declared.error.MessageError.{MessageError}
use Rattle.blob_store.specs.View.{View}
use Rattle.blob_store.specs.Shelves.{Shelved}
use Rattle.cas_calls.specs.Script.{Script, End, Room, and_then}
use Rattle.cas_calls.specs.Plays.{IsIn, Plays}
use Rattle.cas_calls.specs.Statuses.{fine, no_message, many_messages, out_of_memory, fault_status}
use Rattle.cas_calls.specs.Update.{Update, Answered, update_in, update_script, response_spelled}
use Rattle.cas_calls.specs.Capable.{capabilities_spelled}
use Rattle.cas_calls.specs.Find as find
use Rattle.cas_calls.specs.BatchRead as batch
use Rattle.cas_messages.specs.declared.byte_stream.ReadRequest.{ReadRequest}
use Rattle.cas_messages.specs.declared.byte_stream.QueryWriteStatusRequest.{QueryWriteStatusRequest}
use Rattle.byte_stream.specs.Read.{Opened, Turned, ReadState, read_request_in, begin_script, next_script, response_spelled as read_spelled}
use Rattle.byte_stream.specs.Query.{Answered as Queried, query_script, query_request_in, response_spelled as progress_spelled}
use Rattle.live_calls.specs.declared.method.Method.{Method}
use Rattle.live_calls.specs.declared.method.Method.TheVariants as methods
use Rattle.live_calls.specs.declared.place.Messages.{Messages}
use Rattle.live_calls.specs.declared.place.Messages.TheVariants as messages
use Rattle.live_calls.specs.Places.{Waiting, Unary, Reading, Away}
use Rattle.live_calls.specs.declared.happening.Happening.{Happening}
use Rattle.live_calls.specs.declared.happening.Happening.TheVariants as happenings
use Rattle.live_calls.specs.declared.outcome.Outcome.{Outcome}
use Rattle.live_calls.specs.declared.outcome.Outcome.TheVariants as outcomes
use Rattle.live_calls.specs.Methods.{method_of, is_unbuilt}

-- how a turn of a call ends
abbrev pub Ending : Type 0
Ending = Outcome Waiting

-- a turn of a call
abbrev pub Turn : Type 0
Turn = Script Ending

-- it waits
abbrev pub waits : Waiting → Turn
waits place = End (outcomes.Rests place)

-- it is refused
abbrev pub refused : Status → Turn
refused status = End (outcomes.Finishes None status)

-- it is answered with one message
abbrev pub replied : List ℕ → Turn
replied message = End (outcomes.Finishes (Some message) fine)

-- memory was wanting
abbrev pub wanting : Turn
wanting = refused out_of_memory

-- no method that is served has the path of the request
abbrev pub no_method : List ℕ → Status
no_method path = record { code = code.Unimplemented; text = if is_unbuilt path then codes "not built" else codes "no such method" }

-- ---- a request begins

abbrev pub begun_by : List ℕ → Option Method → Turn
begun_by path None = refused (no_method path)
begun_by path (Some method) = waits (Unary method messages.Nothing)

abbrev pub begun : List ℕ → Turn
begun path = begun_by path (method_of path)

-- ---- the one message of a unary call is answered

abbrev pub capable_by : Result (Value get_capabilities_request) MessageError → Turn
capable_by (Err fault) = refused (fault_status fault)
capable_by (Ok request) = replied capabilities_spelled

-- GetCapabilities
abbrev pub capable_turn : List ℕ → Turn
capable_turn message = Room wanting (capable_by (message_in get_capabilities_request message))

abbrev pub updated : Answered → Turn
updated (Ok answers) = Room wanting (replied (response_spelled answers))
updated (Err status) = refused status

abbrev pub update_by : Result Update MessageError → Turn
update_by (Err fault) = refused (fault_status fault)
update_by (Ok r) = and_then (update_script r) updated

-- BatchUpdateBlobs
abbrev pub update_turn : List ℕ → Turn
update_turn message = Room wanting (update_by (update_in message))

-- a Find that was made, or wasn't
abbrev pub found : find.Answered → Turn
found (Ok missing) = Room wanting (replied (find.response_spelled missing))
found (Err status) = refused status

abbrev pub find_by : Result find.Find MessageError → Turn
find_by (Err fault) = refused (fault_status fault)
find_by (Ok r) = and_then (find.find_script r) found

-- FindMissingBlobs
abbrev pub find_turn : List ℕ → Turn
find_turn message = Room wanting (find_by (find.find_in message))

-- blobs that were read, or weren't
abbrev pub given : batch.Answered → Turn
given (Ok answers) = Room wanting (replied (batch.response_spelled answers))
given (Err status) = refused status

abbrev pub read_by : Result batch.BatchRead MessageError → Turn
read_by (Err fault) = refused (fault_status fault)
read_by (Ok r) = and_then (batch.batch_read_script r) given

-- BatchReadBlobs
abbrev pub read_turn : List ℕ → Turn
read_turn message = Room wanting (read_by (batch.batch_read_in message))

-- a Read that has begun, or hasn't
abbrev pub opened : Opened → Turn
opened (Ok s) = waits (Reading s)
opened (Err status) = refused status

abbrev pub open_by : Result ReadRequest MessageError → Turn
open_by (Err fault) = refused (fault_status fault)
open_by (Ok r) = and_then (begin_script r) opened

-- Read
abbrev pub open_turn : List ℕ → Turn
open_turn message = Room wanting (open_by (read_request_in message))

-- how much was written, or a status
abbrev pub queried : Queried → Turn
queried (Ok answer) = Room wanting (replied (progress_spelled answer))
queried (Err status) = refused status

abbrev pub query_by : Result QueryWriteStatusRequest MessageError → Turn
query_by (Err fault) = refused (fault_status fault)
query_by (Ok r) = and_then (query_script r.resource_name) queried

-- QueryWriteStatus
abbrev pub query_turn : List ℕ → Turn
query_turn message = Room wanting (query_by (query_request_in message))

abbrev pub answered_with : Method → List ℕ → Turn
answered_with methods.FindMissingBlobs message = find_turn message
answered_with methods.BatchUpdateBlobs message = update_turn message
answered_with methods.BatchReadBlobs message = read_turn message
answered_with methods.Read message = open_turn message
answered_with methods.QueryWriteStatus message = query_turn message
answered_with methods.GetCapabilities message = capable_turn message

-- a unary call takes one message
abbrev pub answered : Method → Messages → Turn
answered method messages.Nothing = refused no_message
answered method (messages.One message) = answered_with method message
answered method messages.Many = refused many_messages

-- ---- something happens to a call

-- one more message came
abbrev pub one_more : List ℕ → Messages → Messages
one_more message messages.Nothing = messages.One message
one_more message (messages.One other) = messages.Many
one_more message messages.Many = messages.Many

abbrev pub unary_turn : Method → Messages → Happening → Turn
unary_turn method ms (happenings.Message message) = waits (Unary method (one_more message ms))
unary_turn method ms happenings.HalfClosed = answered method ms
unary_turn method ms happenings.Cancelled = End outcomes.Vanishes
unary_turn method ms (happenings.Broken status) = refused status
unary_turn method ms happenings.Woken = waits (Unary method ms)

-- the next response of a Read, its end, or a status
abbrev pub gone_on : Turned → Turn
gone_on (Ok None) = End (outcomes.Finishes None fine)
gone_on (Ok (Some given)) = Room wanting (End (outcomes.Gives (read_spelled given.0) (Reading given.1)))
gone_on (Err status) = refused status

-- A Read gives a response when it is its turn. Nothing more is expected of the peer.
abbrev pub reading_turn : ReadState → Happening → Turn
reading_turn s happenings.Woken = and_then (next_script s) gone_on
reading_turn s (happenings.Message message) = waits (Reading s)
reading_turn s happenings.HalfClosed = waits (Reading s)
reading_turn s happenings.Cancelled = End outcomes.Vanishes
reading_turn s (happenings.Broken status) = refused status

abbrev pub turn_at : Waiting → Happening → Turn
turn_at (Unary method ms) happening = unary_turn method ms happening
turn_at (Reading s) happening = reading_turn s happening
turn_at Away happening = End outcomes.Vanishes

-- a turn that makes no entry and leaves the shelf alone
abbrev pub Ends : Turn → Ending → Type 0
Ends turn outcome = (v : View) (x : Shelved) → IsIn v → Plays turn v v x x 0 outcome
