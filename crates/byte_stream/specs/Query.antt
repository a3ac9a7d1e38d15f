-- QueryWriteStatus (google.bytestream): its script and its answer.
use Rattle.std.specs.Prelude.{pos, true, ℕ, ℤ, Bool, List, [], ◌∷◌, Result, Ok, Err}
use Rattle.digest_types.specs.Name.{HashAndSize}
use Rattle.cas_messages.specs.Table.{Value, ◌&◌}
use Rattle.cas_messages.specs.Meaning.{message_in}
use Rattle.cas_messages.specs.Spelling.{spelled}
use Rattle.cas_messages.specs.Tables.{query_write_status_request, query_write_status_response}
use Rattle.cas_messages.specs.declared.error.MessageError.{MessageError}
use Rattle.cas_messages.specs.declared.byte_stream.QueryWriteStatusRequest.{QueryWriteStatusRequest as Request}
use Rattle.cas_messages.specs.declared.byte_stream.QueryWriteStatusResponse.{QueryWriteStatusResponse as Response}
use Rattle.cas_calls.specs.Limits.{read_as}
use Rattle.casd_base.specs.declared.status.Status.{Status}
use Rattle.store_core.specs.declared.event.Event.TheVariants as events
use Rattle.store_core.specs.declared.event.Reply.{Reply}
use Rattle.store_core.specs.declared.event.Reply.TheVariants as replies
use Rattle.cas_calls.specs.Script.{Script, End, Make, Room}
use Rattle.cas_calls.specs.Statuses.{out_of_memory, other_reply, not_here}
use Rattle.byte_stream.specs.Names.{Named, write_named}

-- a request by the values of its fields
abbrev pub query_request_of : Value query_write_status_request → Request
query_request_of v = record { resource_name = v.0 }

-- the request that a message spells
unfoldable pub query_request_in : List ℕ → Result Request MessageError
query_request_in message = read_as query_request_of (message_in query_write_status_request message)

-- the message of a response
abbrev pub response_spelled : Response → List ℕ
response_spelled r = spelled query_write_status_response (r.committed_size & r.complete & tt)

-- what the call answers: how many bytes were committed and whether the write is complete, or a status
abbrev pub Answered : Type 0
Answered = Result Response Status

-- memory was wanting
abbrev pub wanting : Script Answered
wanting = End (Err out_of_memory)

-- a blob that is there was written to its end
abbrev pub complete : HashAndSize → Response
complete d = record { committed_size = pos d.size; complete = true }

-- no blob is there
abbrev pub absent_script : HashAndSize → Script Answered
absent_script d = Room wanting (End (Err (not_here d)))

-- No other reply answers a Find of an open owner.
abbrev pub found_script : HashAndSize → Reply → Script Answered
found_script d (replies.Missing []) = End (Ok (complete d))
found_script d (replies.Missing (missing ∷ more)) = absent_script d
found_script d _ = End (Err other_reply)

abbrev pub named_script : Named → Script Answered
named_script (Err status) = End (Err status)
named_script (Ok d) = Room wanting (Make (events.Find (d ∷ [])) (found_script d))

-- the script of the call, by the resource's name
abbrev pub query_script : List ℕ → Script Answered
query_script name = named_script (write_named name)
