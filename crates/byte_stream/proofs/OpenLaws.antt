-- A Read that begins, and one that gives no further bytes.
use Rattle.std.proofs.Common.{◌≡◌, ◌≤◌, ◌+◌, ◌∙◌, ℕ, List, Option, Some, None, Result, Ok, Err, refl, sym, ap, subst, inl, inr, arith}
use Rattle.std.specs.Prelude.{◌⊎◌, IfSome}
use Rattle.casd_base.specs.declared.status.Status.{Status}
use Rattle.digest_types.specs.Name.{HashAndSize}
use Rattle.cas_messages.specs.declared.byte_stream.ReadRequest.{ReadRequest}
use Rattle.store_core.specs.declared.event.Event.TheVariants as events
use Rattle.store_core.specs.declared.event.Reply.{Reply}
use Rattle.store_core.specs.declared.event.Reply.TheVariants as replies
use Rattle.blob_store.specs.Bodies.{ReadingState}
use Rattle.blob_store.specs.Calls.{read_reply, Begins}
use Rattle.blob_store.specs.View.{View, Makes, Waits}
use Rattle.blob_store.specs.Shelves.{Shelved}
use Rattle.cas_calls.specs.Script.{Script, End, Make, Room, Ask, Reader, Told, Did, Began, IsTold, failure}
use Rattle.cas_calls.specs.Plays.{IsIn, Took, Plays, Leaves, Lapses}
use Rattle.cas_calls.specs.Statuses.{out_of_memory, store_fault, not_here}
use Rattle.cas_calls.proofs.ReadLaws.{made_found, made_absent}
use Rattle.cas_calls.proofs.TakeLaws.{took_none, took_more, took_joined, took_fit, took_broke, took_told, took_lapsed, took_waited, took_wanting, took_made, is_in_after}
use Rattle.byte_stream.specs.declared.place.Place.{Place}
use Rattle.byte_stream.specs.declared.read_stop.ReadStop.{ReadStop}
use Rattle.byte_stream.specs.declared.read_stop.ReadStop.TheVariants as stops
use Rattle.byte_stream.specs.Here.{IsAbsent}
use Rattle.byte_stream.specs.Places.{place_of}
use Rattle.byte_stream.specs.Read.{Opened, unopened, ReadState, begun_at, entry_script, reader_script, opening_script, begin_script, Answered, Turned, standing, wanting, stop_script, stop_answer, Keeps}

-- the entry, and what follows it
opened_by : (p : Place) (told : Told) (o : Option ReadingState) (reply : Reply) (t : Script Opened) (v w : View) (x y : Shelved) → reader_script p told ≡ Make (events.Read p.digest) (entry_script p o) → failure told ≡ 0 → IsTold (Reader p.digest) told → Leaves x y → Makes v w (events.Read p.digest) reply
    → (IsIn w → Took (entry_script p o reply) w w y y 0 t) → Took (opening_script (Ok p)) v w x y 1 t
opened_by p told o reply t v w x y is well so leaves makes rest =
    let entry = Make (events.Read p.digest) (entry_script p o) in
    let made : Took entry v w y y 1 (entry_script p o reply) = took_made (events.Read p.digest) (entry_script p o) v w y y reply makes refl (λ owner leases. refl) in
    let all : Took entry v w y y (1 + 0) t = took_joined entry (entry_script p o reply) t v w w y y y 1 0 made (rest (is_in_after entry (entry_script p o reply) v w y y 1 made)) in
    took_fit unopened (Ask (Reader p.digest) (reader_script p)) t v w x y 1
    (took_told (Reader p.digest) told (reader_script p) t v w x y y 1 refl refl well so leaves (subst (λ (s : Script Opened). Took s v w y y 1 t) (sym is) all))

pub open_found : (p : Place) (o : Option ReadingState) (reading : ReadingState) (v w : View) (x y : Shelved) → Leaves x y → o ≡ Some reading → IfSome o (Begins p.digest) → Makes v w (events.Read p.digest) (read_reply o) → Plays (opening_script (Ok p)) v w x y 1 (Ok (begun_at p reading))
open_found p o reading v w x y leaves is begins makes =
    let t : Script Opened = End (Ok (begun_at p reading)) in
    opened_by p (Began reading) (Some reading) replies.Found t v w x y refl refl (subst (λ (q : Option ReadingState). IfSome q (Begins p.digest)) is begins) leaves (made_found v w p.digest o reading is makes) (λ h. took_none t w y h)

told_absent : (d : HashAndSize) (status : Status) (w : View) (y : Shelved) → IsIn w → IsAbsent d status → Took (Room unopened (End (Err (not_here d)))) w w y y 0 (End (Err status))
told_absent d status w y h (inl e) = rw e (took_fit unopened (End (Err (not_here d))) (End (Err (not_here d))) w w y y 0 (took_none (End (Err (not_here d))) w y h))
told_absent d status w y h (inr e) = rw e (took_broke unopened (End (Err (not_here d))) unopened w w y y 0 (took_none unopened w y h))

pub open_absent : (p : Place) (o : Option ReadingState) (status : Status) (v w : View) (x y : Shelved) → Leaves x y → o ≡ None → Makes v w (events.Read p.digest) (read_reply o) → IsAbsent p.digest status → Plays (opening_script (Ok p)) v w x y 1 (Err status)
open_absent p o status v w x y leaves is makes absent = opened_by p Did None replies.Absent (End (Err status)) v w x y refl refl tt leaves (made_absent v w p.digest o is makes) (λ h. told_absent p.digest status w y h absent)

in_after : (v w : View) → Waits v w → IsIn w
in_after v w waits = record { is_in = waits.is_in; seated = record { number = waits.owner; owner = waits.same_owner ∙ waits.is_owner; is_own = waits.is_own } }

pub open_fault : (p : Place) (status : Status) (v w : View) (x y : Shelved) → Waits v w → Leaves x y → Lapses x y → status ≡ store_fault → Plays (opening_script (Ok p)) v w x y 1 (Err status)
open_fault p status v w x y waits leaves lapses is =
    let s = opening_script (Ok p) in
    let t : Script Opened = End (Err store_fault) in
    let rest : Took s w w x y 0 t = took_fit unopened (Ask (Reader p.digest) (reader_script p)) t w w x y 0 (took_lapsed (Reader p.digest) (reader_script p) w x y refl refl tt (in_after v w waits) leaves lapses) in
    rw is (took_more s t v w x y (1 + 0) 1 (omega arith) (took_joined s s t v w w x x y 1 0 (took_waited s v w x waits) rest))

pub open_wanting : (p : Place) (status : Status) (v w : View) (x y : Shelved) → Waits v w → Leaves x y → status ≡ out_of_memory → Plays (opening_script (Ok p)) v w x y 1 (Err status)
open_wanting p status v w x y waits leaves is =
    let s = opening_script (Ok p) in
    let rest : Took s w w x y 0 unopened = took_wanting unopened (Ask (Reader p.digest) (reader_script p)) w x y (in_after v w waits) leaves in
    rw is (took_more s unopened v w x y (1 + 0) 1 (omega arith) (took_joined s s unopened v w w x x y 1 0 (took_waited s v w x waits) rest))

-- a request that isn't taken
pub open_refused : (r : ReadRequest) (status : Status) (v : View) (x : Shelved) → IsIn v → Err status ≡ place_of r → Plays (begin_script r) v v x x 1 (Err status)
open_refused r status v x h e =
    subst (λ (o : Result Place Status). Plays (opening_script o) v v x x 1 (Err status)) e
    (took_more {A = Opened} (End (Err status)) (End (Err status)) v v x x 0 1 (omega arith) (took_none (End (Err status)) v x h))

pub open_taken : (r : ReadRequest) (p : Place) (answer : Opened) (v w : View) (x y : Shelved) → Ok p ≡ place_of r → Plays (opening_script (Ok p)) v w x y 1 answer → Plays (begin_script r) v w x y 1 answer
open_taken r p answer v w x y e h = subst (λ (o : Result Place Status). Plays (opening_script o) v w x y 1 answer) e h

-- ---- no further bytes

pub stopped_again : (d : HashAndSize) (s : Script Turned) (stop : ReadStop) (v : View) (x : Shelved) → IsIn v → s ≡ stop_script d stop → Took s v v x x 1 (stop_script d stop)
stopped_again d s stop v x h is = rw is (took_more (stop_script d stop) (stop_script d stop) v v x x 0 1 (omega arith) (took_none (stop_script d stop) v x h))

same_answer : (d : HashAndSize) (stop kept : ReadStop) (v : View) (x : Shelved) → IsIn v → kept ≡ stop → stop_script d stop ≡ End (stop_answer d stop) → Took (stop_script d stop) v v x x 0 (End (stop_answer d kept))
same_answer d stop kept v x h is e = rw (is, e) (took_none (End (stop_answer d stop)) v x h)

settled : (d : HashAndSize) (stop kept : ReadStop) (v : View) (x : Shelved) → IsIn v → Keeps stop kept → Took (stop_script d stop) v v x x 0 (End (stop_answer d kept))
settled d stops.Done kept v x h keeps = same_answer d stops.Done kept v x h keeps refl
settled d stops.Failed kept v x h keeps = same_answer d stops.Failed kept v x h keeps refl
settled d stops.OutOfMemory kept v x h keeps = same_answer d stops.OutOfMemory kept v x h keeps refl
settled d (stops.Damaged got) kept v x h (inl e) = let t : Script Turned = End (stop_answer d (stops.Damaged got)) in rw e (took_fit wanting t t v v x x 0 (took_none t v x h))
settled d (stops.Damaged got) kept v x h (inr e) = let t : Script Turned = End (stop_answer d (stops.Damaged got)) in rw e (took_broke wanting t wanting v v x x 0 (took_none wanting v x h))

-- an answer where no further bytes are given says nothing of how the call stands
standing_stop : (d : HashAndSize) (stop : ReadStop) (s : ReadState) → standing s (stop_answer d stop) ≡ stop_answer d stop
standing_stop d stops.Done s = refl
standing_stop d stops.Failed s = refl
standing_stop d (stops.Damaged got) s = refl
standing_stop d stops.OutOfMemory s = refl

pub stopped_then : (d : HashAndSize) (s : Script Turned) (stop kept : ReadStop) (answer : Answered) (new : ReadState) (v w : View) (x y : Shelved) → Took s v w x y 1 (stop_script d stop) → Keeps stop kept → answer ≡ stop_answer d kept → Plays s v w x y 1 (standing new answer)
stopped_then d s stop kept answer new v w x y took keeps is =
    let t : Turned = stop_answer d kept in
    rw (is, standing_stop d kept new) (took_joined s (stop_script d stop) (End t) v w w x y y 1 0 took (settled d stop kept w y (is_in_after s (stop_script d stop) v w x y 1 took) keeps))
