-- BatchUpdateBlobs (Remote Execution API v2): what it takes of a request, its script, and its response.
use Rattle.std.specs.Prelude.{nat_le, map, ℕ, ℤ, Bool, List, [], ◌∷◌, ◌++◌, length, Result, Ok, Err, if◌then◌else◌}
use Rattle.std.specs.List.{sum_by}
use Rattle.digest_types.specs.Digest.{digest_of}
use Rattle.directory_canon.specs.Links.{links}
use Rattle.cas_messages.specs.Table.{Value, ◌&◌}
use Rattle.cas_messages.specs.Meaning.{message_in}
use Rattle.cas_messages.specs.Spelling.{spelled}
use Rattle.cas_messages.specs.Tables.{batch_update_blobs_request, batch_update_blobs_request_item2, batch_update_blobs_response, batch_update_blobs_response_item1}
use Rattle.cas_messages.specs.declared.error.MessageError.{MessageError}
use Rattle.cas_messages.specs.declared.blobs.BatchUpdateBlobsRequest.{BatchUpdateBlobsRequest}
use Rattle.cas_messages.specs.declared.blobs.BatchUpdateBlobsRequestItem2.{BatchUpdateBlobsRequestItem2 as Item}
use Rattle.cas_messages.specs.declared.blobs.BatchUpdateBlobsResponse.{BatchUpdateBlobsResponse}
use Rattle.cas_messages.specs.declared.blobs.BatchUpdateBlobsResponseItem1.{BatchUpdateBlobsResponseItem1 as Answer}
use Rattle.casd_base.specs.declared.status.Status.{Status}
use Rattle.store_core.specs.State.{same}
use Rattle.store_core.specs.declared.event.Event.TheVariants as events
use Rattle.store_core.specs.declared.event.Reply.{Reply}
use Rattle.cas_calls.specs.Limits.{max_batch, is_sha256, is_plain, read_as}
use Rattle.cas_calls.specs.Script.{Script, End, Make, Room, Ask, Keep, Discard, Told, Failed}
use Rattle.cas_calls.specs.Statuses.{rpc_of, out_of_memory, store_fault, mismatch, put_status, other_function, batch_too_large, compressed}

-- what the call takes of a request: its items and its digest function
pub record Update : Type 0 where
  pub items : List Item
  pub digest_function : ℤ

-- an item by the values of its fields
abbrev pub item_of : Value batch_update_blobs_request_item2 → Item
item_of v = record { digest = v.0; bytes = v.1.0; compressor = v.1.1.0 }

-- a request by the values of its fields; its instance name selects nothing
abbrev pub update_of : Value batch_update_blobs_request → Update
update_of v = record { items = map item_of v.1.0; digest_function = v.1.1.0 }

-- what the call takes of a request that was read
abbrev pub update_view : BatchUpdateBlobsRequest → Update
update_view r = record { items = r.requests; digest_function = r.digest_function }

-- the request that a message spells
unfoldable pub update_in : List ℕ → Result Update MessageError
update_in message = read_as update_of (message_in batch_update_blobs_request message)

-- an answer by the values of its fields
abbrev pub answer_value : Answer → Value batch_update_blobs_response_item1
answer_value a = a.digest & (a.status.code & a.status.message & tt) & tt

-- the response with these answers
abbrev pub response_spelled : List Answer → List ℕ
response_spelled answers = spelled batch_update_blobs_response (map answer_value answers & tt)

-- whether the data of a request is within the limit
abbrev pub fits : List Item → Bool
fits items = nat_le (sum_by (λ item. length item.bytes) items) max_batch

-- what the call answers: an answer to each item, or a status for all
abbrev pub Answered : Type 0
Answered = Result (List Answer) Status

-- a response that was made
abbrev pub answered : Result BatchUpdateBlobsResponse Status → Answered
answered (Ok r) = Ok r.responses
answered (Err status) = Err status

-- memory was wanting
abbrev pub wanting : Script Answered
wanting = End (Err out_of_memory)

-- A body is put as an item says. Where memory is wanting it is given up.
abbrev pub put_script : Item → (Status → Script Answered) → Script Answered
put_script item next = Room (Ask Discard (λ told. wanting)) (Make (events.Put item.digest (links item.bytes)) (λ reply. next (put_status reply)))

-- A body whose bytes have another digest than the declared one is given up.
abbrev pub refuse_script : Item → (Status → Script Answered) → Script Answered
refuse_script item next = Ask Discard (λ told. next (mismatch item.digest (digest_of item.bytes)))

-- what is done with the bytes of an item that the shelf took
abbrev pub kept_script : Item → (Status → Script Answered) → Told → Script Answered
kept_script item next Failed = next store_fault
kept_script item next told = if same item.digest (digest_of item.bytes) then put_script item next else refuse_script item next

-- the bytes of an item are brought to the shelf
abbrev pub plain_script : Item → (Status → Script Answered) → Script Answered
plain_script item next = Room wanting (Ask (Keep item.bytes) (kept_script item next))

-- one item, and what follows by its status
abbrev pub item_script : Item → (Status → Script Answered) → Script Answered
item_script item next = if is_plain item.compressor then plain_script item next else next compressed

-- the answer to an item
abbrev pub answer_to : Item → Status → Answer
answer_to item status = record { digest = item.digest; status = rpc_of status }

-- all items in turn, behind the answers so far
unfoldable pub items_script : List Item → List Answer → Script Answered
items_script [] answers = End (Ok answers)
items_script (item ∷ items) answers = item_script item (λ status. Room wanting (items_script items (answers ++ answer_to item status ∷ [])))

-- the script of the call
unfoldable pub update_script : Update → Script Answered
update_script r = if is_sha256 r.digest_function then (if fits r.items then items_script r.items [] else End (Err batch_too_large)) else End (Err other_function)
