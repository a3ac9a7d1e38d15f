-- FindMissingBlobs (Remote Execution API v2): what it takes of a request, its script, and its response.
use Rattle.std.specs.Prelude.{ℕ, ℤ, List, Result, Ok, Err, if◌then◌else◌}
use Rattle.digest_types.specs.Name.{HashAndSize}
use Rattle.cas_messages.specs.Table.{Value, ◌&◌}
use Rattle.cas_messages.specs.Meaning.{message_in}
use Rattle.cas_messages.specs.Spelling.{spelled}
use Rattle.cas_messages.specs.Tables.{find_missing_blobs_request, find_missing_blobs_response}
use Rattle.cas_messages.specs.declared.error.MessageError.{MessageError}
use Rattle.cas_messages.specs.declared.blobs.FindMissingBlobsRequest.{FindMissingBlobsRequest}
use Rattle.cas_messages.specs.declared.blobs.FindMissingBlobsResponse.{FindMissingBlobsResponse}
use Rattle.casd_base.specs.declared.status.Status.{Status}
use Rattle.store_core.specs.declared.event.Event.TheVariants as events
use Rattle.store_core.specs.declared.event.Reply.{Reply}
use Rattle.store_core.specs.declared.event.Reply.TheVariants as replies
use Rattle.cas_calls.specs.Limits.{is_sha256, read_as}
use Rattle.cas_calls.specs.Script.{Script, End, Make, Room}
use Rattle.cas_calls.specs.Statuses.{out_of_memory, other_function, other_reply}

-- what the call takes of a request: the digests that are asked for, and its digest function
pub record Find : Type 0 where
  pub digests : List HashAndSize
  pub digest_function : ℤ

-- a request by the values of its fields; its instance name selects nothing
abbrev pub find_of : Value find_missing_blobs_request → Find
find_of v = record { digests = v.1.0; digest_function = v.1.1.0 }

-- what the call takes of a request that was read
abbrev pub find_view : FindMissingBlobsRequest → Find
find_view r = record { digests = r.blob_digests; digest_function = r.digest_function }

-- the request that a message spells
unfoldable pub find_in : List ℕ → Result Find MessageError
find_in message = read_as find_of (message_in find_missing_blobs_request message)

-- what the call answers: the digests that are missing, or a status
abbrev pub Answered : Type 0
Answered = Result (List HashAndSize) Status

-- a response that was made
abbrev pub answered : Result FindMissingBlobsResponse Status → Answered
answered (Ok r) = Ok r.missing_blob_digests
answered (Err status) = Err status

-- the response with these digests
abbrev pub response_spelled : List HashAndSize → List ℕ
response_spelled missing = spelled find_missing_blobs_response (missing & tt)

-- memory was wanting
abbrev pub wanting : Script Answered
wanting = End (Err out_of_memory)

-- The answer is the reply to the entry. No other reply answers a Find of an open owner.
abbrev pub found_script : Reply → Script Answered
found_script (replies.Missing digests) = End (Ok digests)
found_script _ = End (Err other_reply)

-- the script of the call
abbrev pub find_script : Find → Script Answered
find_script r = if is_sha256 r.digest_function then Room wanting (Make (events.Find r.digests) found_script) else End (Err other_function)
