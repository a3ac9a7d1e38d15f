-- BatchReadBlobs (Remote Execution API v2): what it takes of a request, its script, and its response.
use Rattle.std.specs.Prelude.{nat_le, map, pos, ℕ, ℤ, Bool, List, [], ◌∷◌, ◌++◌, Result, Ok, Err, if◌then◌else◌}
use Rattle.std.specs.List.{sum_by}
use Rattle.digest_types.specs.Name.{HashAndSize}
use Rattle.digest_types.specs.Digest.{digest_of}
use Rattle.cas_messages.specs.Table.{Value, ◌&◌}
use Rattle.cas_messages.specs.Meaning.{message_in}
use Rattle.cas_messages.specs.Spelling.{spelled}
use Rattle.cas_messages.specs.Tables.{batch_read_blobs_request, batch_read_blobs_response, batch_read_blobs_response_item1}
use Rattle.cas_messages.specs.declared.error.MessageError.{MessageError}
use Rattle.cas_messages.specs.declared.blobs.BatchReadBlobsRequest.{BatchReadBlobsRequest}
use Rattle.cas_messages.specs.declared.blobs.BatchReadBlobsResponse.{BatchReadBlobsResponse}
use Rattle.cas_messages.specs.declared.blobs.BatchReadBlobsResponseItem1.{BatchReadBlobsResponseItem1 as Answer}
use Rattle.casd_base.specs.declared.status.Status.{Status}
use Rattle.store_core.specs.State.{same}
use Rattle.store_core.specs.declared.event.Event.TheVariants as events
use Rattle.store_core.specs.declared.event.Reply.{Reply}
use Rattle.store_core.specs.declared.event.Reply.TheVariants as replies
use Rattle.cas_calls.specs.Limits.{is_sha256, max_batch, read_as}
use Rattle.cas_calls.specs.Script.{Script, End, Make, Room, Ask, Reader, Whole, Told, Failed, given}
use Rattle.cas_calls.specs.Statuses.{rpc_of, fine, out_of_memory, store_fault, other_function, batch_too_large, not_here, damaged}

-- what the call takes of a request: the digests that are asked for, and its digest function
pub record BatchRead : Type 0 where
  pub digests : List HashAndSize
  pub digest_function : ℤ

-- a request by the values of its fields; its instance name and the compressors that the client accepts select nothing
abbrev pub batch_read_of : Value batch_read_blobs_request → BatchRead
batch_read_of v = record { digests = v.1.0; digest_function = v.1.1.1.0 }

-- what the call takes of a request that was read
abbrev pub batch_read_view : BatchReadBlobsRequest → BatchRead
batch_read_view r = record { digests = r.digests; digest_function = r.digest_function }

-- the request that a message spells
unfoldable pub batch_read_in : List ℕ → Result BatchRead MessageError
batch_read_in message = read_as batch_read_of (message_in batch_read_blobs_request message)

-- an answer by the values of its fields
abbrev pub answer_value : Answer → Value batch_read_blobs_response_item1
answer_value a = a.digest & a.bytes & (a.status.code & a.status.message & tt) & a.compressor & tt

-- the response with these answers
abbrev pub response_spelled : List Answer → List ℕ
response_spelled answers = spelled batch_read_blobs_response (map answer_value answers & tt)

-- what the call answers: an answer to each digest, or a status for all
abbrev pub Answered : Type 0
Answered = Result (List Answer) Status

-- a response that was made
abbrev pub answered : Result BatchReadBlobsResponse Status → Answered
answered (Ok r) = Ok r.responses
answered (Err status) = Err status

-- memory was wanting
abbrev pub wanting : Script Answered
wanting = End (Err out_of_memory)

-- the blob with these bytes
abbrev pub read_answer : HashAndSize → List ℕ → Answer
read_answer d bytes = record { digest = d; bytes = bytes; status = rpc_of fine; compressor = pos 0 }

-- no blob, and why
abbrev pub unread_answer : HashAndSize → Status → Answer
unread_answer d status = record { digest = d; bytes = []; status = rpc_of status; compressor = pos 0 }

-- Bytes are answered only if they have the digest. If not, the damage is noted.
abbrev pub bytes_script : HashAndSize → (Answer → Script Answered) → List ℕ → Script Answered
bytes_script d next bytes =
    if same d (digest_of bytes) then next (read_answer d bytes) else Make (events.Damage d) (λ reply. next (unread_answer d (damaged d (digest_of bytes))))

-- what is done with what the shelf tells of a body
abbrev pub body_script : HashAndSize → (Answer → Script Answered) → Told → Script Answered
body_script d next Failed = next (unread_answer d store_fault)
body_script d next told = bytes_script d next (given told)

-- the body is read if the store has a sound row of the digest
abbrev pub entry_script : HashAndSize → (Answer → Script Answered) → Reply → Script Answered
entry_script d next replies.Found = Room wanting (Ask (Whole d) (body_script d next))
entry_script d next reply = next (unread_answer d (not_here d))

-- the entry is made unless the shelf can't begin to read
abbrev pub reader_script : HashAndSize → (Answer → Script Answered) → Told → Script Answered
reader_script d next Failed = next (unread_answer d store_fault)
reader_script d next told = Make (events.Read d) (entry_script d next)

-- one digest, and what follows by its answer
abbrev pub blob_script : HashAndSize → (Answer → Script Answered) → Script Answered
blob_script d next = Room wanting (Ask (Reader d) (reader_script d next))

-- all digests in turn, behind the answers so far
unfoldable pub blobs_script : List HashAndSize → List Answer → Script Answered
blobs_script [] answers = End (Ok answers)
blobs_script (d ∷ ds) answers = blob_script d (λ answer. Room wanting (blobs_script ds (answers ++ answer ∷ [])))

-- whether the blobs fit into one response
abbrev pub fits : List HashAndSize → Bool
fits digests = nat_le (sum_by (λ d. d.size) digests) max_batch

-- the script of the call
unfoldable pub batch_read_script : BatchRead → Script Answered
batch_read_script r =
    if is_sha256 r.digest_function then (if fits r.digests then blobs_script r.digests [] else End (Err batch_too_large)) else End (Err other_function)
