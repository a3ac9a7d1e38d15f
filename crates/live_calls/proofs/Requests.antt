-- What calls take of requests, by the values of their fields.
use Rattle.std.proofs.Common.{◌≡◌, ◌∙◌, ℕ, List, [], ◌∷◌, map, Result, Ok, Err, refl, ap}
use Rattle.cas_messages.specs.Fault.{Gives}
use Rattle.cas_messages.specs.declared.error.MessageError.{MessageError}
use Rattle.cas_messages.specs.declared.error.MessageError.TheVariants as faults
use Rattle.cas_messages.specs.declared.blobs.BatchUpdateBlobsRequest.{BatchUpdateBlobsRequest}
use Rattle.cas_messages.specs.declared.blobs.BatchUpdateBlobsRequestItem2.{BatchUpdateBlobsRequestItem2 as Item}
use Rattle.cas_messages.specs.declared.blobs.FindMissingBlobsRequest.{FindMissingBlobsRequest}
use Rattle.cas_messages.specs.declared.blobs.BatchReadBlobsRequest.{BatchReadBlobsRequest}
use Rattle.cas_messages.specs.Meaning.{message_in}
use Rattle.cas_messages.specs.Tables.{batch_update_blobs_request, batch_update_blobs_request_item2, find_missing_blobs_request, batch_read_blobs_request, read_request, query_write_status_request}
use Rattle.cas_messages.specs.Table.{Value, ◌&◌}
use Rattle.cas_messages.specs.declared.byte_stream.ReadRequest.{ReadRequest}
use Rattle.cas_messages.specs.declared.byte_stream.QueryWriteStatusRequest.{QueryWriteStatusRequest}
use Rattle.byte_stream.specs.Read.{read_request_of, read_request_in}
use Rattle.byte_stream.specs.Query.{query_request_of, query_request_in}
use Rattle.cas_calls.specs.Limits.{read_as}
use Rattle.cas_calls.specs.Update.{Update, item_of, update_of, update_in, update_view}
use Rattle.cas_calls.specs.Find.{find_of, find_in, find_view}
use Rattle.cas_calls.specs.BatchRead.{batch_read_of, batch_read_in, batch_read_view}

-- a request that was read is seen by what a call takes of its fields
viewed_as : {R V T : Type 0} (value : R → V) (of : V → T) (view : R → T) (r : Result R MessageError) (m : Result V MessageError) → ((a : R) → of (value a) ≡ view a) → Gives value r m → Gives view r (read_as of m)
viewed_as value of view (Ok a) m same h = ap (read_as of) h ∙ ap Ok (same a)
viewed_as value of view (Err faults.OutOfMemory) m same h = tt
viewed_as value of view (Err (faults.Wire field e)) m same h = ap (read_as of) h
viewed_as value of view (Err (faults.NotUtf8 field)) m same h = ap (read_as of) h
viewed_as value of view (Err (faults.BadDigest field index)) m same h = ap (read_as of) h

-- ---- BatchUpdateBlobs

abbrev pub item_value : Item → Value batch_update_blobs_request_item2
item_value item = item.digest & item.bytes & item.compressor & tt

items_again : (items : List Item) → map item_of (map item_value items) ≡ items
items_again [] = refl
items_again (item ∷ items) = ap (λ (others : List Item). item ∷ others) (items_again items)

abbrev pub request_value : BatchUpdateBlobsRequest → Value batch_update_blobs_request
request_value r = r.instance_name & map item_value r.requests & r.digest_function & tt

pub viewed : (r : Result BatchUpdateBlobsRequest MessageError) (message : List ℕ) → Gives request_value r (message_in batch_update_blobs_request message) → Gives update_view r (update_in message)
unfolding update_in
viewed r message h = viewed_as request_value update_of update_view r (message_in batch_update_blobs_request message) (λ a. ap (λ (items : List Item). record { items = items; digest_function = a.digest_function }) (items_again a.requests)) h

-- ---- FindMissingBlobs

abbrev pub find_value : FindMissingBlobsRequest → Value find_missing_blobs_request
find_value r = r.instance_name & r.blob_digests & r.digest_function & tt

pub find_viewed : (r : Result FindMissingBlobsRequest MessageError) (message : List ℕ) → Gives find_value r (message_in find_missing_blobs_request message) → Gives find_view r (find_in message)
unfolding find_in
find_viewed r message h = viewed_as find_value find_of find_view r (message_in find_missing_blobs_request message) (λ a. refl) h

-- ---- BatchReadBlobs

abbrev pub batch_read_value : BatchReadBlobsRequest → Value batch_read_blobs_request
batch_read_value r = r.instance_name & r.digests & r.acceptable_compressors & r.digest_function & tt

pub batch_read_viewed : (r : Result BatchReadBlobsRequest MessageError) (message : List ℕ) → Gives batch_read_value r (message_in batch_read_blobs_request message) → Gives batch_read_view r (batch_read_in message)
unfolding batch_read_in
batch_read_viewed r message h = viewed_as batch_read_value batch_read_of batch_read_view r (message_in batch_read_blobs_request message) (λ a. refl) h

-- ---- ByteStream

abbrev pub read_request_value : ReadRequest → Value read_request
read_request_value r = r.resource_name & r.read_offset & r.read_limit & tt

pub read_request_viewed : (r : Result ReadRequest MessageError) (message : List ℕ) → Gives read_request_value r (message_in read_request message) → Gives (λ (q : ReadRequest). q) r (read_request_in message)
unfolding read_request_in
read_request_viewed r message h = viewed_as read_request_value read_request_of (λ (q : ReadRequest). q) r (message_in read_request message) (λ a. refl) h

abbrev pub query_value : QueryWriteStatusRequest → Value query_write_status_request
query_value r = r.resource_name & tt

pub query_viewed : (r : Result QueryWriteStatusRequest MessageError) (message : List ℕ) → Gives query_value r (message_in query_write_status_request message) → Gives (λ (q : QueryWriteStatusRequest). q) r (query_request_in message)
unfolding query_request_in
query_viewed r message h = viewed_as query_value query_request_of (λ (q : QueryWriteStatusRequest). q) r (message_in query_write_status_request message) (λ a. refl) h
