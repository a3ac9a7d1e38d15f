-- The script of BatchUpdateBlobs, item by item.
use Rattle.std.proofs.Common.{◌≡◌, ◌≢◌, ◌+◌, ◌^◌, ◌≤◌, ◌<◌, ◌∙◌, ℕ, Bool, true, false, not, ◌&&◌, List, [], ◌∷◌, ◌++◌, length, get_or, drop, Option, Result, Ok, Err, refl, sym, ap, subst, add-one, drop-cons, arith}
use Rattle.std.specs.Prelude.{nat_le, ◌==◌, OnErr, IfOk}
use Rattle.std.specs.Int.{w32, cast_unsigned}
use Rattle.std.specs.List.{AllByRecursion, list_all, sum_by}
use Rattle.std.proofs.lemmas.Bool.{leb-true}
use Rattle.std.proofs.lemmas.List.{append-nil, drop_all}
use Rattle.std.proofs.lemmas.List.Sums.{sum_by-cons}
use Rattle.digest_types.specs.Name.{HashAndSize}
use Rattle.digest_types.specs.Digest.{digest_of}
use Rattle.directory_canon.specs.declared.node.Edge.{Edge}
use Rattle.directory_canon.specs.Links.{links}
use Rattle.casd_base.specs.declared.status.Status.{Status}
use Rattle.cas_messages.specs.declared.blobs.BatchUpdateBlobsRequestItem2.{BatchUpdateBlobsRequestItem2 as Item}
use Rattle.cas_messages.specs.declared.blobs.BatchUpdateBlobsResponseItem1.{BatchUpdateBlobsResponseItem1 as Answer}
use Rattle.store_core.specs.State.{same}
use Rattle.store_core.specs.declared.event.Event.{Event}
use Rattle.store_core.specs.declared.event.Event.TheVariants as events
use Rattle.store_core.specs.declared.event.Reply.{Reply}
use Rattle.store_core.proofs.Same.{same_from_equal, not_same_from_other}
use Rattle.blob_store.specs.Applied.{gives_up}
use Rattle.blob_store.specs.Bodies.{Sealed, IsSealed}
use Rattle.blob_store.specs.Calls.{put_reply, put_discards}
use Rattle.blob_store.specs.declared.door.PutReply.{PutReply}
use Rattle.blob_store.specs.declared.door.PutReply.TheVariants as puts
use Rattle.blob_store.specs.View.{View, Makes, Waits}
use Rattle.blob_store.specs.Shelves.{Shelved, discarding}
use Rattle.cas_calls.specs.Script.{Script, End, Make, Room, Ask, Asked, Keep, Discard, Told, Did, Failed}
use Rattle.cas_calls.specs.Plays.{IsIn, Took, Leaves, Lapses}
use Rattle.cas_calls.specs.Statuses.{mismatch, put_status, store_fault, compressed, other_function, batch_too_large}
use Rattle.cas_calls.specs.Limits.{max_batch, is_sha256, is_plain}
use Rattle.cas_calls.specs.Update.{Update, Answered, wanting, put_script, refuse_script, kept_script, plain_script, item_script, items_script, answer_to, fits, update_script}
use Rattle.cas_calls.proofs.TakeLaws.{took_none, took_joined, took_more, is_in_after, took_fit, took_broke, took_kept, took_failed, took_wanting, took_discarded, took_made, took_refused}

-- ---- a put

-- a put gives up as many bodies as its reply says
as_many : (E : Type 0) (d : HashAndSize) (edges : Option (List Edge)) (reply : PutReply) → put_discards {E = E} (Ok reply) ≡ gives_up {E = Unit {0}} (events.Put d edges) (Ok (put_reply reply))
unfolding Rattle.blob_store.specs.Applied.replied_gives_up
as_many E d edges (puts.Stored removed used) = refl
as_many E d edges puts.Present = refl
as_many E d edges puts.Repaired = refl
as_many E d edges (puts.NoSpace guarded size high) = refl

put_as_declared : (item : Item) (d : HashAndSize) (edges : Option (List Edge)) → d ≡ item.digest → edges ≡ links item.bytes → events.Put d edges ≡ events.Put item.digest (links item.bytes)
put_as_declared item d edges declared linked = ap (λ (x : HashAndSize). events.Put x edges) declared ∙ ap (λ (x : Option (List Edge)). events.Put item.digest x) linked

pub took_put : (E : Type 0) (item : Item) (blob : Sealed) (v w : View) (x y : Shelved) (reply : PutReply) → IsSealed item.bytes blob → blob.digest ≡ item.digest
    → Makes v w (events.Put blob.digest blob.edges) (put_reply reply) → y ≡ discarding (put_discards {E = E} (Ok reply)) x
    → (next : Status → Script Answered) → Took (put_script item next) v w x y 1 (next (put_status (put_reply reply)))
took_put E item blob v w x y reply sealed declared makes gone next =
    let event : Event = events.Put item.digest (links item.bytes) in
    let made : Makes v w event (put_reply reply) = subst (λ (e : Event). Makes v w e (put_reply reply)) (put_as_declared item blob.digest blob.edges declared sealed.edges) makes in
    let count : put_discards {E = E} (Ok reply) ≡ gives_up {E = Unit {0}} event (Ok (put_reply reply)) = as_many E item.digest (links item.bytes) reply in
    took_fit (Ask Discard (λ told. wanting)) (Make event (λ r. next (put_status r))) (next (put_status (put_reply reply))) v w x y 1
    (took_made event (λ r. next (put_status r)) v w x y (put_reply reply) made (gone ∙ ap (λ (k : ℕ). discarding k x) count) (λ owner leases. refl))

-- ---- a body that was sealed

pub kept_same : (item : Item) (d : HashAndSize) (v w : View) (x y : Shelved) (n : ℕ) (t : Script Answered) (next : Status → Script Answered) → d ≡ item.digest → d ≡ digest_of item.bytes
    → Took (put_script item next) v w x y n t → Took (kept_script item next Did) v w x y n t
kept_same item d v w x y n t next declared is took = rw (same_from_equal item.digest (digest_of item.bytes) (sym declared ∙ is)) took

pub kept_other : (item : Item) (d : HashAndSize) (v : View) (x y : Shelved) (next : Status → Script Answered) → d ≢ item.digest → d ≡ digest_of item.bytes → IsIn v → y ≡ discarding 1 x
    → Took (kept_script item next Did) v v x y 1 (next (mismatch item.digest d))
kept_other item d v x y next other is h gone =
    rw (not_same_from_other item.digest (digest_of item.bytes) (λ e. other (is ∙ sym e)))
    (subst (λ (got : HashAndSize). Took (refuse_script item next) v v x y 1 (next (mismatch item.digest got))) (sym is)
    (took_more (refuse_script item next) (next (mismatch item.digest (digest_of item.bytes))) v v x y 0 1 (omega arith)
    (took_discarded (λ told. next (mismatch item.digest (digest_of item.bytes))) v x y h gone)))

-- ---- an item

pub took_item : (item : Item) (v w : View) (x y z : Shelved) (t : Script Answered) (next : Status → Script Answered) → Leaves x y → Took (kept_script item next Did) v w y z 1 t → Took (plain_script item next) v w x z 1 t
took_item item v w x y z t next leaves took =
    took_fit wanting (Ask (Keep item.bytes) (kept_script item next)) t v w x z 1 (took_kept item.bytes (kept_script item next) t v w x y z 1 leaves took)

pub failed_item : (item : Item) (v : View) (x y : Shelved) (next : Status → Script Answered) → IsIn v → Leaves x y → Lapses x y → Took (plain_script item next) v v x y 1 (next store_fault)
failed_item item v x y next h leaves lapses =
    took_more (plain_script item next) (next store_fault) v v x y 0 1 (omega arith)
    (took_fit wanting (Ask (Keep item.bytes) (kept_script item next)) (next store_fault) v v x y 0 (took_failed item.bytes (kept_script item next) v x y h leaves lapses))

pub wanting_item : (item : Item) (v : View) (x y : Shelved) (next : Status → Script Answered) → IsIn v → Leaves x y → Took (plain_script item next) v v x y 1 wanting
wanting_item item v x y next h leaves =
    took_more (plain_script item next) wanting v v x y 0 1 (omega arith) (took_wanting wanting (Ask (Keep item.bytes) (kept_script item next)) v x y h leaves)

-- by what was judged of its body
pub ok_item : {J E : Type 0} (r : Result J E) (status : J → Status) (item : Item) (v w : View) (x y z : Shelved) → Leaves x y
    → IfOk r (λ j. (next : Status → Script Answered) → Took (kept_script item next Did) v w y z 1 (next (status j))) → IfOk r (λ j. (next : Status → Script Answered) → Took (plain_script item next) v w x z 1 (next (status j)))
ok_item (Ok j) status item v w x y z leaves took = λ next. took_item item v w x y z (next (status j)) next leaves (took next)
ok_item (Err e) status item v w x y z leaves took = tt

pub err_item : {J E : Type 0} (r : Result J E) (item : Item) (v w : View) (x y z : Shelved) → Leaves x y → OnErr r ((next : Status → Script Answered) → Took (kept_script item next Did) v w y z 1 wanting)
    → OnErr r ((next : Status → Script Answered) → Took (plain_script item next) v w x z 1 wanting)
err_item (Ok j) item v w x y z leaves took = tt
err_item (Err e) item v w x y z leaves took = λ next. took_item item v w x y z wanting next leaves (took next)

-- an item without a compressor
pub ok_plain : {J E : Type 0} (r : Result J E) (status : J → Status) (item : Item) (v w : View) (x y : Shelved) → is_plain item.compressor ≡ true
    → IfOk r (λ j. (next : Status → Script Answered) → Took (plain_script item next) v w x y 1 (next (status j))) → IfOk r (λ j. (next : Status → Script Answered) → Took (item_script item next) v w x y 1 (next (status j)))
ok_plain (Ok j) status item v w x y plain took = λ next. rw plain (took next)
ok_plain (Err e) status item v w x y plain took = tt

pub err_plain : {J E : Type 0} (r : Result J E) (item : Item) (v w : View) (x y : Shelved) → is_plain item.compressor ≡ true
    → OnErr r ((next : Status → Script Answered) → Took (plain_script item next) v w x y 1 wanting) → OnErr r ((next : Status → Script Answered) → Took (item_script item next) v w x y 1 wanting)
err_plain (Ok j) item v w x y plain took = tt
err_plain (Err e) item v w x y plain took = λ next. rw plain (took next)

-- one with a compressor
pub compressed_item : (item : Item) (v : View) (x : Shelved) (next : Status → Script Answered) → is_plain item.compressor ≡ false → IsIn v → Took (item_script item next) v v x x 1 (next compressed)
compressed_item item v x next other h = rw other (took_more (next compressed) (next compressed) v v x x 0 1 (omega arith) (took_none (next compressed) v x h))

pub differ : (a b : HashAndSize) (t : Bool) → t ≡ not (same a b) → t ≡ true → a ≢ b
differ a b t e h q = let s = same_from_equal a b q in cc

pub err_is : {T E : Type 0} (r : Result T E) (e f : E) → r ≡ Err e → e ≡ f → r ≡ Err f
err_is r e f is same = cc

pub always_err : {T E P : Type 0} (r : Result T E) → P → OnErr r P
always_err (Ok x) p = tt
always_err (Err e) p = p

-- ---- all items

-- what follows an item, by its status
abbrev pub behind : List Item → List Answer → Item → Status → Script Answered
behind items answers item status = Room wanting (items_script items (answers ++ answer_to item status ∷ []))

opened : (items : List Item) (answers : List Answer) (i : ℕ) (item : Item) → i < length items → item ≡ get_or items i item → items_script (drop i items) answers ≡ item_script item (behind (drop (i + 1) items) answers item)
unfolding items_script
opened items answers i item lt is =
    let e : drop i items ≡ item ∷ drop (i + 1) items = rw (add-one, drop-cons items i item lt, ← is) refl in ap (λ (xs : List Item). items_script xs answers) e

-- one more item, and memory for its answer
pub one_item : (items : List Item) (answers : List Answer) (i : ℕ) (item : Item) (status : Status) (u v w : View) (x y z : Shelved) → i < length items → item ≡ get_or items i item
    → Took (items_script items []) u v x y i (items_script (drop i items) answers)
    → ((next : Status → Script Answered) → Took (item_script item next) v w y z 1 (next status))
    → Took (items_script items []) u w x z (i + 1) (items_script (drop (i + 1) items) (answers ++ answer_to item status ∷ []))
one_item items answers i item status u v w x y z lt is before took =
    let h : IsIn w = is_in_after (item_script item (λ s. wanting)) wanting v w y z 1 (took (λ s. wanting)) in
    let next = behind (drop (i + 1) items) answers item in
    let more = items_script (drop (i + 1) items) (answers ++ answer_to item status ∷ []) in
    let one : Took (items_script (drop i items) answers) v w y z 1 (next status) = subst (λ (s : Script Answered). Took s v w y z 1 (next status)) (sym (opened items answers i item lt is)) (took next) in
    let fits : Took (next status) w w z z 0 more = took_fit wanting more more w w z z 0 (took_none more w z h) in
    let rest : Took (items_script (drop i items) answers) v w y z 1 more = took_joined (items_script (drop i items) answers) (next status) more v w w y z z 1 0 one fits in
    took_joined (items_script items []) (items_script (drop i items) answers) more u v w x y z i 1 before rest

-- memory was wanting for an item
pub item_broke : (items : List Item) (answers : List Answer) (i n : ℕ) (item : Item) (u v w : View) (x y z : Shelved) → i < length items → n ≡ length items → item ≡ get_or items i item
    → Took (items_script items []) u v x y i (items_script (drop i items) answers)
    → ((next : Status → Script Answered) → Took (item_script item next) v w y z 1 wanting)
    → Took (items_script items []) u w x z n wanting
item_broke items answers i n item u v w x y z lt all is before took =
    let next = behind (drop (i + 1) items) answers item in
    let one : Took (items_script (drop i items) answers) v w y z 1 wanting = subst (λ (s : Script Answered). Took s v w y z 1 wanting) (sym (opened items answers i item lt is)) (took next) in
    took_more (items_script items []) wanting u w x z (i + 1) n (omega (arith, all)) (took_joined (items_script items []) (items_script (drop i items) answers) wanting u v w x y z i 1 before one)

-- memory was wanting for its answer
pub answer_broke : (items : List Item) (answers : List Answer) (i n : ℕ) (item : Item) (status : Status) (u v w : View) (x y z : Shelved) → i < length items → n ≡ length items → item ≡ get_or items i item
    → Took (items_script items []) u v x y i (items_script (drop i items) answers)
    → ((next : Status → Script Answered) → Took (item_script item next) v w y z 1 (next status))
    → Took (items_script items []) u w x z n wanting
answer_broke items answers i n item status u v w x y z lt all is before took =
    let h : IsIn w = is_in_after (item_script item (λ s. wanting)) wanting v w y z 1 (took (λ s. wanting)) in
    let next = behind (drop (i + 1) items) answers item in
    let one : Took (items_script (drop i items) answers) v w y z 1 (next status) = subst (λ (s : Script Answered). Took s v w y z 1 (next status)) (sym (opened items answers i item lt is)) (took next) in
    let breaks : Took (next status) w w z z 0 wanting = took_broke wanting (items_script (drop (i + 1) items) (answers ++ answer_to item status ∷ [])) wanting w w z z 0 (took_none wanting w z h) in
    let rest : Took (items_script (drop i items) answers) v w y z 1 wanting = took_joined (items_script (drop i items) answers) (next status) wanting v w w y z z 1 0 one breaks in
    took_more (items_script items []) wanting u w x z (i + 1) n (omega (arith, all)) (took_joined (items_script items []) (items_script (drop i items) answers) wanting u v w x y z i 1 before rest)

-- all items were put
pub all_items : (items : List Item) (answers : List Answer) (i n : ℕ) (u v : View) (x y : Shelved) → length items ≤ i → i ≤ n
    → Took (items_script items []) u v x y i (items_script (drop i items) answers) → Took (items_script items []) u v x y n (End (Ok answers))
unfolding items_script
all_items items answers i n u v x y past le took =
    took_more (items_script items []) (End (Ok answers)) u v x y i n le
    (subst (λ (s : Script Answered). Took (items_script items []) u v x y i s) (ap (λ (xs : List Item). items_script xs answers) (drop_all i items past)) took)

-- ---- each item of a request within the limit is small

each_small : (n : ℕ) (items : List Item) → sum_by (λ item. length item.bytes) items ≤ n → AllByRecursion (λ item. length item.bytes ≤ n) items
each_small n [] le = tt
each_small n (item ∷ items) le =
    let whole = sum_by-cons (λ (x : Item). length x.bytes) item items in
    (omega arith, each_small n items (omega arith))

each_smaller : (n m : ℕ) (items : List Item) → n ≤ m → AllByRecursion (λ item. length item.bytes ≤ n) items → AllByRecursion (λ item. length item.bytes ≤ m) items
each_smaller n m [] le h = tt
each_smaller n m (item ∷ items) le h = (omega (arith, h.0), each_smaller n m items le h.1)

last_holds : (a b : Bool) → (a && b) ≡ true → b ≡ true
last_holds true b h = h
last_holds false b h = absurd cc

-- a batch within the limit has no item that is too large to be hashed
pub fits_small : (items : List Item) → fits items ≡ true → AllByRecursion (λ item. length item.bytes ≤ 2 ^ 60) items
fits_small items h =
    let size = sum_by (λ (item : Item). length item.bytes) items in
    each_smaller max_batch (2 ^ 60) items (omega arith) (each_small max_batch items (leb-true size max_batch h))

-- ---- the call

pub took_update : (r : Update) (v w : View) (x y : Shelved) (n : ℕ) (t : Script Answered) → is_sha256 r.digest_function ≡ true → fits r.items ≡ true → Took (items_script r.items []) v w x y n t → Took (update_script r) v w x y n t
unfolding update_script
took_update r v w x y n t plain within took = rw (plain, within) took

refused : (status : Status) (v : View) (x : Shelved) (n : ℕ) → IsIn v → Took {A = Answered} (End (Err status)) v v x x n (End (Err status))
refused status v x n h = took_more (End (Err status)) (End (Err status)) v v x x 0 n (omega arith) (took_none (End (Err status)) v x h)

pub other_update : (r : Update) (v : View) (x : Shelved) (n : ℕ) → is_sha256 r.digest_function ≡ false → IsIn v → Took (update_script r) v v x x n (End (Err other_function))
unfolding update_script
other_update r v x n other h = rw other (refused other_function v x n h)

pub large_update : (r : Update) (v : View) (x : Shelved) (n : ℕ) → is_sha256 r.digest_function ≡ true → fits r.items ≡ false → IsIn v → Took (update_script r) v v x x n (End (Err batch_too_large))
unfolding update_script
large_update r v x n plain large h = rw (plain, large) (refused batch_too_large v x n h)
