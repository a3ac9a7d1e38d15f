-- Puts of a request, one after the other.
use Rattle.std.proofs.Common.{◌≡◌, ℕ, ◌+◌, ◌^◌, ◌<◌, ◌≤◌, ◌∙◌, Bool, true, false, ◌&&◌, List, [], ◌∷◌, ◌++◌, length, map, get_or, drop, Result, Ok, Err, refl, sym, ap, append_assoc, add-one, drop-cons, arith}
use Rattle.std.specs.Prelude.{◌==◌, nat_le}
use Rattle.std.specs.Int.{w32, cast_unsigned}
use Rattle.std.specs.List.{AllByRecursion, list_all, sum_by}
use Rattle.std.proofs.lemmas.Bool.{leb-true}
use Rattle.std.proofs.lemmas.List.{append-nil, drop_all}
use Rattle.std.proofs.lemmas.List.Sums.{sum_by-cons}
use Rattle.casd_base.specs.declared.status.Status.{Status}
use Rattle.store_core.specs.State.{State}
use Rattle.store_core.specs.Step.{put}
use Rattle.cas_messages.specs.Fault.{Gives}
use Rattle.cas_messages.specs.declared.error.MessageError.{MessageError}
use Rattle.cas_messages.specs.declared.error.MessageError.TheVariants as faults
use Rattle.cas_messages.specs.declared.blobs.BatchUpdateBlobsRequest.{BatchUpdateBlobsRequest}
use Rattle.cas_messages.specs.declared.blobs.BatchUpdateBlobsRequestItem2.{BatchUpdateBlobsRequestItem2 as UpdateItem}
use Rattle.cas_messages.specs.declared.blobs.BatchUpdateBlobsResponseItem1.{BatchUpdateBlobsResponseItem1 as UpdateAnswer}
use Rattle.cas_messages.specs.Meaning.{message_in}
use Rattle.cas_messages.specs.Tables.{batch_update_blobs_request, batch_update_blobs_request_item2}
use Rattle.cas_messages.specs.Table.{Value, ◌&◌}
use Rattle.casd_server.specs.Batch.{Update, item_of, max_batch, is_built, rpc_of, put_item, put_items, update_by, update_in, update_view}

-- ---- items that are put one after the other, as a loop does

-- the answers so far, and those that follow
abbrev pub put_after : List UpdateAnswer → List UpdateAnswer × State → List UpdateAnswer × State
put_after front put = (front ++ put.0, put.1)

-- an item was put, and the rest goes on
pub put_goes_on : (front : List UpdateAnswer) (s after : State) (owner : ℕ) (items : List UpdateItem) (i : ℕ) (item : UpdateItem) (status : Status) (total : List UpdateAnswer × State) → i < length items → item ≡ get_or items i item
    → (status, after) ≡ put_item s owner item → put_after front (put_items s owner (drop i items)) ≡ total → put_after (front ++ record { digest = item.digest; status = rpc_of status } ∷ []) (put_items after owner (drop (i + 1) items)) ≡ total
unfolding put_items
put_goes_on front s after owner items i item status total lt is h so_far =
    let opened : drop i items ≡ item ∷ drop (i + 1) items = rw (add-one, drop-cons items i item lt, ← is) refl in
    let more = drop (i + 1) items in
    let rest = put_items after owner more in
    let answer : UpdateAnswer = record { digest = item.digest; status = rpc_of status } in
    let first : put_items s owner (drop i items) ≡ (answer ∷ rest.0, rest.1) =
    ap (put_items s owner) opened
    ∙ ap (λ (x : Status × State). (record { digest = item.digest; status = rpc_of x.0 } ∷ (put_items x.1 owner more).0, (put_items x.1 owner more).1)) (sym h)
    in
    sym (ap (put_after front) first ∙ ap (λ (answers : List UpdateAnswer). (answers, rest.1)) (sym (append_assoc front (answer ∷ []) rest.0))) ∙ so_far

-- all items were put
pub put_is_done : (front : List UpdateAnswer) (s : State) (owner : ℕ) (items : List UpdateItem) (i : ℕ) (total : List UpdateAnswer × State) → length items ≤ i → put_after front (put_items s owner (drop i items)) ≡ total → (front, s) ≡ total
unfolding put_items
put_is_done front s owner items i total past so_far =
    let one : put_after front (put_items s owner (drop i items)) ≡ (front, s) = rw (drop_all i items past) (ap (λ (answers : List UpdateAnswer). (answers, s)) (append-nil front)) in
    sym one ∙ so_far

-- ---- each item of a request within the limit is small

each_small : (n : ℕ) (items : List UpdateItem) → sum_by (λ item. length item.bytes) items ≤ n → AllByRecursion (λ item. length item.bytes ≤ n) items
each_small n [] le = tt
each_small n (item ∷ items) le =
    let whole = sum_by-cons (λ (x : UpdateItem). length x.bytes) item items in
    (omega arith, each_small n items (omega arith))

each_smaller : (n m : ℕ) (items : List UpdateItem) → n ≤ m → AllByRecursion (λ item. length item.bytes ≤ n) items → AllByRecursion (λ item. length item.bytes ≤ m) items
each_smaller n m [] le h = tt
each_smaller n m (item ∷ items) le h = (omega (arith, h.0), each_smaller n m items le h.1)

last_holds : (a b : Bool) → (a && b) ≡ true → b ≡ true
last_holds true b h = h
last_holds false b h = absurd cc

-- a request that is built has no item that is too large to be hashed
pub built_small : (r : Update) → is_built r ≡ true → AllByRecursion (λ item. length item.bytes ≤ 2 ^ 60) r.items
built_small r h =
    let size = sum_by (λ (item : UpdateItem). length item.bytes) r.items in
    let others = nat_le (cast_unsigned w32 r.digest_function) 1 && list_all (λ (item : UpdateItem). cast_unsigned w32 item.compressor == 0) r.items in
    let within : size ≤ max_batch = leb-true size max_batch (last_holds others (nat_le size max_batch) h) in
    each_smaller max_batch (2 ^ 60) r.items (omega arith) (each_small max_batch r.items within)

-- ---- the items of a request, by the values of their fields

abbrev pub item_value : UpdateItem → Value batch_update_blobs_request_item2
item_value item = item.digest & item.bytes & item.compressor & tt

pub items_again : (items : List UpdateItem) → map item_of (map item_value items) ≡ items
items_again [] = refl
items_again (item ∷ items) = ap (λ (others : List UpdateItem). item ∷ others) (items_again items)

abbrev pub request_value : BatchUpdateBlobsRequest → Value batch_update_blobs_request
request_value r = r.instance_name & map item_value r.requests & r.digest_function & tt

viewed_by : (r : Result BatchUpdateBlobsRequest MessageError) (m : Result (Value batch_update_blobs_request) MessageError) → Gives request_value r m → Gives update_view r (update_by m)
viewed_by (Ok r) m h = ap update_by h ∙ ap (λ (items : List UpdateItem). Ok (record { items = items; digest_function = r.digest_function })) (items_again r.requests)
viewed_by (Err faults.OutOfMemory) m h = tt
viewed_by (Err (faults.Wire field e)) m h = ap update_by h
viewed_by (Err (faults.NotUtf8 field)) m h = ap update_by h
viewed_by (Err (faults.BadDigest field index)) m h = ap update_by h

-- a request that was read is seen by its items and its digest function
pub viewed : (r : Result BatchUpdateBlobsRequest MessageError) (message : List ℕ) → Gives request_value r (message_in batch_update_blobs_request message) → Gives update_view r (update_in message)
unfolding update_in
viewed r message h = viewed_by r (message_in batch_update_blobs_request message) h
