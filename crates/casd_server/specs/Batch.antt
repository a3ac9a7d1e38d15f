-- The call BatchUpdateBlobs (Remote Execution API v2): its status or its response, and what it does to the store.
use Rattle.std.specs.Prelude.{◌==◌, ◌&&◌, nat_le, codes, map, pos, ℕ, ℤ, Bool, List, [], ◌∷◌, ◌++◌, length, Result, Ok, Err, if◌then◌else◌}
use Rattle.std.specs.Int.{w32, cast_unsigned}
use Rattle.std.specs.List.{list_all, sum_by}
use Rattle.std.specs.Fmt.{decimal}
use Rattle.digest_types.specs.Name.{HashAndSize}
use Rattle.digest_types.specs.Digest.{digest_of, printed}
use Rattle.directory_canon.specs.Links.{links}
use Rattle.cas_messages.specs.Table.{Value, ◌&◌}
use Rattle.cas_messages.specs.Meaning.{message_in}
use Rattle.cas_messages.specs.Spelling.{spelled}
use Rattle.cas_messages.specs.Tables.{batch_update_blobs_request, batch_update_blobs_request_item2, batch_update_blobs_response, batch_update_blobs_response_item1}
use Rattle.cas_messages.specs.declared.error.MessageError.{MessageError}
use Rattle.cas_messages.specs.declared.error.MessageError.TheVariants as faults
use Rattle.cas_messages.specs.declared.status.RpcStatus.{RpcStatus}
use Rattle.cas_messages.specs.declared.blobs.BatchUpdateBlobsRequest.{BatchUpdateBlobsRequest}
use Rattle.cas_messages.specs.declared.blobs.BatchUpdateBlobsRequestItem2.{BatchUpdateBlobsRequestItem2 as Item}
use Rattle.cas_messages.specs.declared.blobs.BatchUpdateBlobsResponseItem1.{BatchUpdateBlobsResponseItem1 as Answer}
use Rattle.casd_base.specs.Code.{number_of}
use Rattle.casd_base.specs.declared.code.Code.TheVariants as code
use Rattle.casd_base.specs.declared.status.Status.{Status}
use Rattle.store_core.specs.declared.event.Event.TheVariants as events
use Rattle.store_core.specs.declared.event.Reply.{Reply}
use Rattle.store_core.specs.declared.event.Reply.TheVariants as replies
use Rattle.store_core.specs.State.{State, same}
use Rattle.store_core.specs.Step.{step}

-- what the call takes of a request: its items and its digest function
pub record Update : Type 0 where
  pub items : List Item
  pub digest_function : ℤ

-- an item by the values of its fields
abbrev pub item_of : Value batch_update_blobs_request_item2 → Item
item_of v = record { digest = v.0; bytes = v.1.0; compressor = v.1.1.0 }

-- a request by the values of its fields; its instance name selects nothing
abbrev pub update_of : Value batch_update_blobs_request → Update
update_of v = record { items = map item_of v.1.0; digest_function = v.1.1.0 }

-- what the call takes of a request that was read
abbrev pub update_view : BatchUpdateBlobsRequest → Update
update_view r = record { items = r.requests; digest_function = r.digest_function }

-- a status in a message
abbrev pub rpc_of : Status → RpcStatus
rpc_of s = record { code = pos (number_of s.code); message = s.text }

-- an answer by the values of its fields
abbrev pub answer_value : Answer → Value batch_update_blobs_response_item1
answer_value a = a.digest & (a.status.code & a.status.message & tt) & tt

-- the response with these answers
abbrev pub response_spelled : List Answer → List ℕ
response_spelled answers = spelled batch_update_blobs_response (map answer_value answers & tt)

-- how many bytes of data a request has at most
abbrev pub max_batch : ℕ
max_batch = 3_670_016

abbrev pub no_message : Status
no_message = record { code = code.InvalidArgument; text = codes "no message" }

abbrev pub many_messages : Status
many_messages = record { code = code.InvalidArgument; text = codes "more than one message" }

abbrev pub not_built : Status
not_built = record { code = code.Unimplemented; text = codes "not built" }

-- the status of a request that was not read
abbrev pub fault_status : MessageError → Status
fault_status (faults.Wire field e) = record { code = code.InvalidArgument; text = codes "bad message" }
fault_status (faults.NotUtf8 field) = record { code = code.InvalidArgument; text = codes "bad message" }
fault_status (faults.BadDigest field index) = record { code = code.InvalidArgument; text = codes "bad digest" }
fault_status faults.OutOfMemory = record { code = code.Aborted; text = codes "out of memory" }

-- the status of an item whose bytes have another digest than the declared one
abbrev pub mismatch : HashAndSize → HashAndSize → Status
mismatch want got = record {
  code = code.InvalidArgument;
  text = codes "want " ++ (printed want ++ (codes ", got " ++ printed got));
}

abbrev pub fine : Status
fine = record { code = code.Ok; text = [] }

-- The status of an item by the reply to its put. The other replies never answer a put of an open owner.
unfoldable pub put_status : Reply → Status
put_status (replies.Stored removed used) = fine
put_status replies.Present = fine
put_status replies.Repaired = fine
put_status (replies.NoSpace guarded size high) = record {
  code = code.ResourceExhausted;
  text = codes "guarded " ++ (decimal guarded ++ (codes " plus " ++ (decimal size ++ (codes " above " ++ decimal high))));
}
put_status (replies.Opened owner) = record { code = code.Internal; text = [] }
put_status (replies.Missing ds) = record { code = code.Internal; text = [] }
put_status replies.Found = record { code = code.Internal; text = [] }
put_status replies.Absent = record { code = code.Internal; text = [] }
put_status (replies.Leased lease) = record { code = code.Internal; text = [] }
put_status (replies.Stands standing) = record { code = code.Internal; text = [] }
put_status replies.Released = record { code = code.Internal; text = [] }
put_status replies.Marked = record { code = code.Internal; text = [] }
put_status (replies.Passed removed used) = record { code = code.Internal; text = [] }
put_status (replies.Used usage) = record { code = code.Internal; text = [] }
put_status replies.Closed = record { code = code.Internal; text = [] }
put_status replies.Refused = record { code = code.Internal; text = [] }

-- One item: its bytes are put where they have the declared digest, with what they link to.
unfoldable pub put_item : State → ℕ → Item → Status × State
put_item s owner item =
    if same item.digest (digest_of item.bytes)
    then (
      put_status (step s owner (events.Put item.digest (links item.bytes))).0,
      (step s owner (events.Put item.digest (links item.bytes))).1,
    )
    else (mismatch item.digest (digest_of item.bytes), s)

-- all items in turn: an answer to each
unfoldable pub put_items : State → ℕ → List Item → List Answer × State
put_items s owner [] = ([], s)
put_items s owner (item ∷ items) = (
  record { digest = item.digest; status = rpc_of (put_item s owner item).0 } ∷ (put_items (put_item s owner item).1 owner items).0,
  (put_items (put_item s owner item).1 owner items).1,
)

-- whether the request is one that is built: SHA-256 or no digest function named, no compressor, and data within the
-- limit
abbrev pub is_built : Update → Bool
is_built r =
    nat_le (cast_unsigned w32 r.digest_function) 1 && list_all (λ item. cast_unsigned w32 item.compressor == 0) r.items
    && nat_le (sum_by (λ item. length item.bytes) r.items) max_batch

-- what a request that was read or not gives
unfoldable pub update : State → ℕ → Result Update MessageError → Result (List ℕ) Status × State
update s owner (Err e) = (Err (fault_status e), s)
update s owner (Ok r) =
    if is_built r then (Ok (response_spelled (put_items s owner r.items).0), (put_items s owner r.items).1)
    else (Err not_built, s)

-- a request that was read or not
abbrev pub update_by : Result (Value batch_update_blobs_request) MessageError → Result Update MessageError
update_by (Ok v) = Ok (update_of v)
update_by (Err e) = Err e

-- the request that a message spells
unfoldable pub update_in : List ℕ → Result Update MessageError
update_in message = update_by (message_in batch_update_blobs_request message)

-- the call with its messages, of which it takes one
unfoldable pub batch_update : State → ℕ → List (List ℕ) → Result (List ℕ) Status × State
batch_update s owner [] = (Err no_message, s)
batch_update s owner (message ∷ []) = update s owner (update_in message)
batch_update s owner (message ∷ next ∷ more) = (Err many_messages, s)
