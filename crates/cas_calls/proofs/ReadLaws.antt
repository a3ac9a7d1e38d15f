-- The scripts of FindMissingBlobs and BatchReadBlobs, digest by digest.
use Rattle.std.proofs.Common.{◌≡◌, ◌≢◌, ◌+◌, ◌*◌, ◌^◌, ◌≤◌, ◌<◌, ◌∙◌, ℕ, Bool, true, false, List, [], ◌∷◌, ◌++◌, length, get_or, drop, Option, Some, None, Result, Ok, Err, refl, sym, ap, subst, add-one, drop-cons, arith}
use Rattle.std.specs.Prelude.{nat_le, OnErr, IfOk, IsErrOf}
use Rattle.std.specs.List.{AllByRecursion, sum_by}
use Rattle.std.proofs.lemmas.Bool.{leb-true}
use Rattle.std.proofs.lemmas.List.{append-nil, drop_all}
use Rattle.std.proofs.lemmas.List.Sums.{sum_by-cons}
use Rattle.digest_types.specs.Name.{HashAndSize}
use Rattle.digest_types.specs.Digest.{digest_of}
use Rattle.casd_base.specs.declared.status.Status.{Status}
use Rattle.cas_messages.specs.declared.blobs.BatchReadBlobsResponseItem1.{BatchReadBlobsResponseItem1 as Answer}
use Rattle.store_core.specs.State.{same}
use Rattle.store_core.specs.declared.event.Event.{Event}
use Rattle.store_core.specs.declared.event.Event.TheVariants as events
use Rattle.store_core.specs.declared.event.Reply.{Reply}
use Rattle.store_core.specs.declared.event.Reply.TheVariants as replies
use Rattle.store_core.proofs.Same.{same_from_equal, not_same_from_other}
use Rattle.blob_store.specs.Bodies.{ReadingState}
use Rattle.blob_store.specs.Calls.{read_reply}
use Rattle.blob_store.specs.View.{View, Makes, Waits}
use Rattle.blob_store.specs.Shelves.{Shelved, Stays}
use Rattle.cas_calls.specs.Limits.{max_batch, is_sha256}
use Rattle.cas_calls.specs.Script.{Script, End, Make, Room, Ask, Asked, Reader, Whole, Told, Did, Failed, Gave}
use Rattle.cas_calls.specs.Plays.{IsIn, Took, Plays, Leaves, Lapses}
use Rattle.cas_calls.specs.Statuses.{out_of_memory, store_fault, not_here, damaged, other_function, batch_too_large}
use Rattle.cas_calls.specs.Find as found
use Rattle.cas_calls.specs.BatchRead.{BatchRead, Answered, wanting, read_answer, unread_answer, bytes_script, body_script, entry_script, reader_script, blob_script, blobs_script, fits, batch_read_script}
use Rattle.cas_calls.specs.declared.served.Served.{Served}
use Rattle.cas_calls.specs.declared.served.Served.TheVariants as served
use Rattle.cas_calls.specs.Served.{answer_of, HasTold}
use Rattle.cas_calls.proofs.TakeLaws.{took_none, took_joined, took_more, is_in_after, took_fit, took_broke, took_told, took_lapsed, took_waited, took_wanting, took_made}

-- a call of the shelf that gives nothing up
pub leaves_stays : (x y : Shelved) → Stays x y → Leaves x y
leaves_stays x y h = record { discarded = h.discarded; may_fail = h.may_fail; later = h.later; dropped = omega (arith, h.dropped) }

pub leaves_none : (x : Shelved) → Leaves x x
leaves_none x = record { discarded = refl; may_fail = refl; later = omega arith; dropped = omega arith }

pub leaves_joined : (x y z : Shelved) → Leaves x y → Leaves y z → Leaves x z
leaves_joined x y z p q = record { discarded = q.discarded ∙ p.discarded; may_fail = q.may_fail ∙ p.may_fail; later = omega (arith, p.later, q.later); dropped = omega (arith, p.dropped, q.dropped) }

-- ---- FindMissingBlobs

pub took_found : (r : found.Find) (v w : View) (x : Shelved) (missing : List HashAndSize) → is_sha256 r.digest_function ≡ true → Makes v w (events.Find r.digests) (replies.Missing missing)
    → Plays (found.find_script r) v w x x 1 (Ok missing)
took_found r v w x missing plain makes =
    rw plain (took_fit found.wanting (Make (events.Find r.digests) found.found_script) (End (Ok missing)) v w x x 1
    (took_made (events.Find r.digests) found.found_script v w x x (replies.Missing missing) makes refl (λ owner leases. refl)))

pub wanting_find : (r : found.Find) (v w : View) (x : Shelved) → is_sha256 r.digest_function ≡ true → Waits v w → Plays (found.find_script r) v w x x 1 (Err out_of_memory)
wanting_find r v w x plain waits =
    rw plain (took_broke found.wanting (Make (events.Find r.digests) found.found_script) found.wanting v w x x 1 (took_waited found.wanting v w x waits))

pub other_find : (r : found.Find) (v : View) (x : Shelved) (n : ℕ) → is_sha256 r.digest_function ≡ false → IsIn v → Plays (found.find_script r) v v x x n (Err other_function)
other_find r v x n other h = rw other (took_more {A = found.Answered} (End (Err other_function)) (End (Err other_function)) v v x x 0 n (omega arith) (took_none (End (Err other_function)) v x h))

-- ---- the bytes of a body

abbrev pub Next : Type 0
Next = Answer → Script Answered

pub took_whole : (d : HashAndSize) (bytes : List ℕ) (v : View) (x y : Shelved) (next : Next) → IsIn v → Leaves x y → digest_of bytes ≡ d
    → Took (entry_script d next replies.Found) v v x y 1 (next (read_answer d bytes))
took_whole d bytes v x y next h leaves is =
    let rest : Took (body_script d next (Gave bytes)) v v y y 1 (next (read_answer d bytes)) =
    rw (same_from_equal d (digest_of bytes) (sym is)) (took_more (next (read_answer d bytes)) (next (read_answer d bytes)) v v y y 0 1 (omega arith) (took_none (next (read_answer d bytes)) v y h)) in
    took_fit wanting (Ask (Whole d) (body_script d next)) (next (read_answer d bytes)) v v x y 1
    (took_told (Whole d) (Gave bytes) (body_script d next) (next (read_answer d bytes)) v v x y y 1 refl refl refl tt leaves rest)

pub took_damaged : (d got : HashAndSize) (bytes : List ℕ) (v w : View) (x y : Shelved) (next : Next) → Leaves x y → got ≡ digest_of bytes → got ≢ d → Makes v w (events.Damage d) replies.Marked
    → Took (entry_script d next replies.Found) v w x y 1 (next (unread_answer d (damaged d got)))
took_damaged d got bytes v w x y next leaves is other makes =
    let k : Reply → Script Answered = λ reply. next (unread_answer d (damaged d (digest_of bytes))) in
    let notes : Took (Make (events.Damage d) k) v w y y 1 (next (unread_answer d (damaged d (digest_of bytes)))) = took_made (events.Damage d) k v w y y replies.Marked makes refl (λ owner leases. refl) in
    let rest : Took (body_script d next (Gave bytes)) v w y y 1 (next (unread_answer d (damaged d (digest_of bytes)))) = rw (not_same_from_other d (digest_of bytes) (λ e. other (is ∙ sym e))) notes in
    subst (λ (g : HashAndSize). Took (entry_script d next replies.Found) v w x y 1 (next (unread_answer d (damaged d g)))) (sym is)
    (took_fit wanting (Ask (Whole d) (body_script d next)) (next (unread_answer d (damaged d (digest_of bytes)))) v w x y 1
    (took_told (Whole d) (Gave bytes) (body_script d next) (next (unread_answer d (damaged d (digest_of bytes)))) v w x y y 1 refl refl refl tt leaves rest))

pub took_unread : (d : HashAndSize) (v : View) (x y : Shelved) (next : Next) → IsIn v → Leaves x y → Lapses x y
    → Took (entry_script d next replies.Found) v v x y 1 (next (unread_answer d store_fault))
took_unread d v x y next h leaves lapses =
    took_more (entry_script d next replies.Found) (next (unread_answer d store_fault)) v v x y 0 1 (omega arith)
    (took_fit wanting (Ask (Whole d) (body_script d next)) (next (unread_answer d store_fault)) v v x y 0 (took_lapsed (Whole d) (body_script d next) v x y refl refl tt h leaves lapses))

pub wanting_body : (d : HashAndSize) (v : View) (x y : Shelved) (next : Next) → IsIn v → Leaves x y → Took (entry_script d next replies.Found) v v x y 1 wanting
wanting_body d v x y next h leaves =
    took_more (entry_script d next replies.Found) wanting v v x y 0 1 (omega arith) (took_wanting wanting (Ask (Whole d) (body_script d next)) v x y h leaves)

-- a body that wasn't found to be damaged
pub took_kept_body : (d : HashAndSize) (s : Served) (v : View) (x y : Shelved) (next : Next) → IsIn v → Leaves x y → HasTold d x y s → ((got : HashAndSize) → s ≢ served.Damaged got)
    → Took (entry_script d next replies.Found) v v x y 1 (next (answer_of d s))
took_kept_body d (served.Blob bytes) v x y next h leaves told not = took_whole d bytes v x y next h leaves told
took_kept_body d served.Absent v x y next h leaves told not = absurd told
took_kept_body d (served.Damaged got) v x y next h leaves told not = absurd (not got refl)
took_kept_body d served.Failed v x y next h leaves told not = took_unread d v x y next h leaves told

-- what was told of a damaged body
pub told_of : (want d : HashAndSize) (x y : Shelved) (s : Served) (got : HashAndSize) → want ≡ d → s ≡ served.Damaged got → HasTold want x y s → (got ≢ d) × (bytes : List ℕ) × (got ≡ digest_of bytes)
told_of want d x y s got is damaged told =
    subst (λ (e : HashAndSize). (got ≢ e) × (bytes : List ℕ) × (got ≡ digest_of bytes)) is (subst (λ (t : Served). HasTold want x y t) damaged told)

-- ---- a digest

-- the entry of a reading that began, or of none
pub made_found : (v w : View) (d : HashAndSize) (o : Option ReadingState) (reading : ReadingState) → o ≡ Some reading → Makes v w (events.Read d) (read_reply o) → Makes v w (events.Read d) replies.Found
made_found v w d o reading is makes = subst (λ (p : Option ReadingState). Makes v w (events.Read d) (read_reply p)) is makes

pub made_absent : (v w : View) (d : HashAndSize) (o : Option ReadingState) → o ≡ None → Makes v w (events.Read d) (read_reply o) → Makes v w (events.Read d) replies.Absent
made_absent v w d o is makes = subst (λ (p : Option ReadingState). Makes v w (events.Read d) (read_reply p)) is makes

-- the shelf began to read, and the rest was done
pub took_entry : (d : HashAndSize) (reply : Reply) (t : Script Answered) (u v w : View) (x y z : Shelved) (n : ℕ) (next : Next) → Leaves x y → Makes u v (events.Read d) reply → Took (entry_script d next reply) v w y z n t
    → Took (blob_script d next) u w x z (1 + n) t
took_entry d reply t u v w x y z n next leaves makes rest =
    let made : Took (Make (events.Read d) (entry_script d next)) u v y y 1 (entry_script d next reply) = took_made (events.Read d) (entry_script d next) u v y y reply makes refl (λ owner leases. refl) in
    let all : Took (Make (events.Read d) (entry_script d next)) u w y z (1 + n) t = took_joined (Make (events.Read d) (entry_script d next)) (entry_script d next reply) t u v w y y z 1 n made rest in
    took_fit wanting (Ask (Reader d) (reader_script d next)) t u w x z (1 + n) (took_told (Reader d) Did (reader_script d next) t u w x y z (1 + n) refl refl refl tt leaves all)

pub took_absent : (d : HashAndSize) (v w : View) (x y : Shelved) (next : Next) → Leaves x y → Makes v w (events.Read d) replies.Absent → Took (blob_script d next) v w x y 2 (next (unread_answer d (not_here d)))
took_absent d v w x y next leaves makes =
    let h : IsIn w = record { is_in = makes.turns.is_in; seated = record { number = makes.turns.owner; owner = makes.turns.same_owner ∙ makes.turns.is_owner; is_own = makes.turns.is_own } } in
    took_entry d replies.Absent (next (unread_answer d (not_here d))) v w w x y y 1 next leaves makes
    (took_more (next (unread_answer d (not_here d))) (next (unread_answer d (not_here d))) w w y y 0 1 (omega arith) (took_none (next (unread_answer d (not_here d))) w y h))

in_after : (v w : View) → Waits v w → IsIn w
in_after v w waits = record { is_in = waits.is_in; seated = record { number = waits.owner; owner = waits.same_owner ∙ waits.is_owner; is_own = waits.is_own } }

pub took_fault : (d : HashAndSize) (v w : View) (x y : Shelved) (next : Next) → Waits v w → Leaves x y → Lapses x y → Took (blob_script d next) v w x y 2 (next (unread_answer d store_fault))
took_fault d v w x y next waits leaves lapses =
    let s = blob_script d next in
    let t = next (unread_answer d store_fault) in
    let rest : Took s w w x y 0 t = took_fit wanting (Ask (Reader d) (reader_script d next)) t w w x y 0 (took_lapsed (Reader d) (reader_script d next) w x y refl refl tt (in_after v w waits) leaves lapses) in
    took_more s t v w x y (1 + 0) 2 (omega arith) (took_joined s s t v w w x x y 1 0 (took_waited s v w x waits) rest)

pub wanting_blob : (d : HashAndSize) (v w : View) (x y : Shelved) (next : Next) → Waits v w → Leaves x y → Took (blob_script d next) v w x y 2 wanting
wanting_blob d v w x y next waits leaves =
    let s = blob_script d next in
    let rest : Took s w w x y 0 wanting = took_wanting wanting (Ask (Reader d) (reader_script d next)) w x y (in_after v w waits) leaves in
    took_more s wanting v w x y (1 + 0) 2 (omega arith) (took_joined s s wanting v w w x x y 1 0 (took_waited s v w x waits) rest)

-- a body that was read at the entry, by what became of it
pub ok_blob : {E : Type 0} (r : Result Served E) (d : HashAndSize) (u v w : View) (x y z : Shelved) → Leaves x y → Makes u v (events.Read d) replies.Found
    → IfOk r (λ s. (next : Next) → Took (entry_script d next replies.Found) v w y z 1 (next (answer_of d s))) → IfOk r (λ s. (next : Next) → Took (blob_script d next) u w x z 2 (next (answer_of d s)))
ok_blob (Ok s) d u v w x y z leaves makes took = λ next. took_entry d replies.Found (next (answer_of d s)) u v w x y z 1 next leaves makes (took next)
ok_blob (Err e) d u v w x y z leaves makes took = tt

pub err_blob : {E : Type 0} (r : Result Served E) (d : HashAndSize) (u v w : View) (x y z : Shelved) → Leaves x y → Makes u v (events.Read d) replies.Found
    → OnErr r ((next : Next) → Took (entry_script d next replies.Found) v w y z 1 wanting) → OnErr r ((next : Next) → Took (blob_script d next) u w x z 2 wanting)
err_blob (Ok s) d u v w x y z leaves makes took = tt
err_blob (Err e) d u v w x y z leaves makes took = λ next. took_entry d replies.Found wanting u v w x y z 1 next leaves makes (took next)

-- ---- all digests

-- what follows a digest, by its answer
abbrev pub behind : List HashAndSize → List Answer → Answer → Script Answered
behind ds answers answer = Room wanting (blobs_script ds (answers ++ answer ∷ []))

opened : (ds : List HashAndSize) (answers : List Answer) (i : ℕ) (d : HashAndSize) → i < length ds → d ≡ get_or ds i d → blobs_script (drop i ds) answers ≡ blob_script d (behind (drop (i + 1) ds) answers)
unfolding blobs_script
opened ds answers i d lt is =
    let e : drop i ds ≡ d ∷ drop (i + 1) ds = rw (add-one, drop-cons ds i d lt, ← is) refl in ap (λ (xs : List HashAndSize). blobs_script xs answers) e

-- one more digest, and memory for its answer
pub one_blob : (ds : List HashAndSize) (answers : List Answer) (i : ℕ) (d : HashAndSize) (answer : Answer) (u v w : View) (x y z : Shelved) → i < length ds → d ≡ get_or ds i d
    → Took (blobs_script ds []) u v x y (2 * i) (blobs_script (drop i ds) answers)
    → ((next : Next) → Took (blob_script d next) v w y z 2 (next answer))
    → Took (blobs_script ds []) u w x z (2 * (i + 1)) (blobs_script (drop (i + 1) ds) (answers ++ answer ∷ []))
one_blob ds answers i d answer u v w x y z lt is before took =
    let h : IsIn w = is_in_after (blob_script d (λ a. wanting)) wanting v w y z 2 (took (λ a. wanting)) in
    let next = behind (drop (i + 1) ds) answers in
    let more = blobs_script (drop (i + 1) ds) (answers ++ answer ∷ []) in
    let one : Took (blobs_script (drop i ds) answers) v w y z 2 (next answer) = subst (λ (s : Script Answered). Took s v w y z 2 (next answer)) (sym (opened ds answers i d lt is)) (took next) in
    let room : Took (next answer) w w z z 0 more = took_fit wanting more more w w z z 0 (took_none more w z h) in
    let rest : Took (blobs_script (drop i ds) answers) v w y z (2 + 0) more = took_joined (blobs_script (drop i ds) answers) (next answer) more v w w y z z 2 0 one room in
    took_more (blobs_script ds []) more u w x z (2 * i + (2 + 0)) (2 * (i + 1)) (omega arith) (took_joined (blobs_script ds []) (blobs_script (drop i ds) answers) more u v w x y z (2 * i) (2 + 0) before rest)

-- memory was wanting for a digest
pub blob_broke : (ds : List HashAndSize) (answers : List Answer) (i n : ℕ) (d : HashAndSize) (u v w : View) (x y z : Shelved) → i < length ds → n ≡ length ds → d ≡ get_or ds i d
    → Took (blobs_script ds []) u v x y (2 * i) (blobs_script (drop i ds) answers)
    → ((next : Next) → Took (blob_script d next) v w y z 2 wanting)
    → Took (blobs_script ds []) u w x z (2 * n) wanting
blob_broke ds answers i n d u v w x y z lt all is before took =
    let next = behind (drop (i + 1) ds) answers in
    let one : Took (blobs_script (drop i ds) answers) v w y z 2 wanting = subst (λ (s : Script Answered). Took s v w y z 2 wanting) (sym (opened ds answers i d lt is)) (took next) in
    took_more (blobs_script ds []) wanting u w x z (2 * i + 2) (2 * n) (omega (arith, all)) (took_joined (blobs_script ds []) (blobs_script (drop i ds) answers) wanting u v w x y z (2 * i) 2 before one)

-- memory was wanting for its answer
pub answer_broke : (ds : List HashAndSize) (answers : List Answer) (i n : ℕ) (d : HashAndSize) (answer : Answer) (u v w : View) (x y z : Shelved) → i < length ds → n ≡ length ds → d ≡ get_or ds i d
    → Took (blobs_script ds []) u v x y (2 * i) (blobs_script (drop i ds) answers)
    → ((next : Next) → Took (blob_script d next) v w y z 2 (next answer))
    → Took (blobs_script ds []) u w x z (2 * n) wanting
answer_broke ds answers i n d answer u v w x y z lt all is before took =
    let h : IsIn w = is_in_after (blob_script d (λ a. wanting)) wanting v w y z 2 (took (λ a. wanting)) in
    let next = behind (drop (i + 1) ds) answers in
    let one : Took (blobs_script (drop i ds) answers) v w y z 2 (next answer) = subst (λ (s : Script Answered). Took s v w y z 2 (next answer)) (sym (opened ds answers i d lt is)) (took next) in
    let breaks : Took (next answer) w w z z 0 wanting = took_broke wanting (blobs_script (drop (i + 1) ds) (answers ++ answer ∷ [])) wanting w w z z 0 (took_none wanting w z h) in
    let rest : Took (blobs_script (drop i ds) answers) v w y z (2 + 0) wanting = took_joined (blobs_script (drop i ds) answers) (next answer) wanting v w w y z z 2 0 one breaks in
    took_more (blobs_script ds []) wanting u w x z (2 * i + (2 + 0)) (2 * n) (omega (arith, all)) (took_joined (blobs_script ds []) (blobs_script (drop i ds) answers) wanting u v w x y z (2 * i) (2 + 0) before rest)

-- all digests were read
pub all_blobs : (ds : List HashAndSize) (answers : List Answer) (i n : ℕ) (u v : View) (x y : Shelved) → length ds ≤ i → i ≤ n
    → Took (blobs_script ds []) u v x y (2 * i) (blobs_script (drop i ds) answers) → Took (blobs_script ds []) u v x y (2 * n) (End (Ok answers))
unfolding blobs_script
all_blobs ds answers i n u v x y past le took =
    took_more (blobs_script ds []) (End (Ok answers)) u v x y (2 * i) (2 * n) (omega (arith, le))
    (subst (λ (s : Script Answered). Took (blobs_script ds []) u v x y (2 * i) s) (ap (λ (xs : List HashAndSize). blobs_script xs answers) (drop_all i ds past)) took)

-- ---- each blob of a batch within the limit is within it

each_small : (n : ℕ) (ds : List HashAndSize) → sum_by (λ d. d.size) ds ≤ n → AllByRecursion (λ d. d.size ≤ n) ds
each_small n [] le = tt
each_small n (d ∷ ds) le =
    let whole = sum_by-cons (λ (x : HashAndSize). x.size) d ds in
    (omega arith, each_small n ds (omega arith))

pub fits_small : (ds : List HashAndSize) → fits ds ≡ true → AllByRecursion (λ d. d.size ≤ 3_670_016) ds
fits_small ds h = each_small max_batch ds (leb-true (sum_by (λ (d : HashAndSize). d.size) ds) max_batch h)

-- ---- the call

pub took_batch : (r : BatchRead) (v w : View) (x y : Shelved) (n : ℕ) (t : Script Answered) → is_sha256 r.digest_function ≡ true → fits r.digests ≡ true → Took (blobs_script r.digests []) v w x y n t → Took (batch_read_script r) v w x y n t
unfolding batch_read_script
took_batch r v w x y n t plain within took = rw (plain, within) took

refused : (status : Status) (v : View) (x : Shelved) (n : ℕ) → IsIn v → Took {A = Answered} (End (Err status)) v v x x n (End (Err status))
refused status v x n h = took_more (End (Err status)) (End (Err status)) v v x x 0 n (omega arith) (took_none (End (Err status)) v x h)

pub other_batch : (r : BatchRead) (v : View) (x : Shelved) (n : ℕ) → is_sha256 r.digest_function ≡ false → IsIn v → Took (batch_read_script r) v v x x n (End (Err other_function))
unfolding batch_read_script
other_batch r v x n other h = rw other (refused other_function v x n h)

pub large_batch : (r : BatchRead) (v : View) (x : Shelved) (n : ℕ) → is_sha256 r.digest_function ≡ true → fits r.digests ≡ false → IsIn v → Took (batch_read_script r) v v x x n (End (Err batch_too_large))
unfolding batch_read_script
large_batch r v x n plain large h = rw (plain, large) (refused batch_too_large v x n h)
