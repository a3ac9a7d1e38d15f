-- The turns of calls, by what was read and done.
use Rattle.std.proofs.Common.{IfOk, ◌≡◌, ◌+◌, ◌≤◌, ◌^◌, ◌∙◌, ℕ, List, [], ◌∷◌, Option, Some, None, Result, Ok, Err, refl, sym, ap, subst, arith}
use Rattle.proto_wire.specs.declared.memory.OutOfMemory.{OutOfMemory}
use Rattle.cas_messages.specs.Fault.{Gives}
use Rattle.cas_messages.specs.Table.{Value}
use Rattle.cas_messages.specs.Tables.{get_capabilities_request}
use Rattle.cas_messages.specs.declared.error.MessageError.{MessageError}
use Rattle.cas_messages.specs.declared.error.MessageError.TheVariants as faults
use Rattle.casd_base.specs.declared.status.Status.{Status}
use Rattle.blob_store.specs.View.{View}
use Rattle.blob_store.specs.Shelves.{Shelved}
use Rattle.cas_calls.specs.Script.{Script, End, Room, and_then}
use Rattle.cas_calls.specs.Plays.{IsIn, Plays, Took}
use Rattle.cas_calls.specs.Statuses.{fault_status, out_of_memory, fine}
use Rattle.cas_calls.proofs.TakeLaws.{took_none, took_joined, took_more, took_fit, took_broke, took_then, is_in_after}
use Rattle.live_calls.specs.declared.outcome.Outcome.TheVariants as outcomes
use Rattle.cas_calls.specs.Capable.{capabilities_spelled}
use Rattle.live_calls.specs.Turns.{Ending, Turn, turn_at, wanting, refused, replied, capable_by, Ends}
use Rattle.live_calls.specs.declared.happening.Happening.{Happening}
use Rattle.live_calls.specs.Places.{Waiting, Away}
use Rattle.live_calls.specs.Replied.{replied_by}

-- a turn that is at its end
pub ends_now : (outcome : Ending) → Ends (End outcome) outcome
ends_now outcome v x h = took_none (End outcome) v x h

-- memory was wanting before all
pub ends_wanting : (t : Turn) → Ends (Room wanting t) (outcomes.Finishes None out_of_memory)
ends_wanting t v x h = took_broke wanting t wanting v v x x 0 (took_none wanting v x h)

pub ends_fit : (t : Turn) (outcome : Ending) → Ends t outcome → Ends (Room wanting t) outcome
ends_fit t outcome e v x h = took_fit wanting t (End outcome) v v x x 0 (e v x h)

-- a message that wasn't read
pub ends_unread : {A B : Type 0} (view : A → B) (by : Result B MessageError → Turn) (fault : MessageError) (read : Result B MessageError)
    → ((e : MessageError) → by (Err e) ≡ refused (fault_status e)) → Gives view (Err fault) read → Ends (Room wanting (by read)) (outcomes.Finishes None (fault_status fault))
ends_unread view by faults.OutOfMemory read is h = ends_wanting (by read)
ends_unread view by (faults.Wire field e) read is h = ends_fit (by read) _ (subst (λ (t : Turn). Ends t (outcomes.Finishes None (fault_status (faults.Wire field e)))) (sym (ap by h ∙ is (faults.Wire field e))) (ends_now _))
ends_unread view by (faults.NotUtf8 field) read is h = ends_fit (by read) _ (subst (λ (t : Turn). Ends t (outcomes.Finishes None (fault_status (faults.NotUtf8 field)))) (sym (ap by h ∙ is (faults.NotUtf8 field))) (ends_now _))
ends_unread view by (faults.BadDigest field index) read is h = ends_fit (by read) _ (subst (λ (t : Turn). Ends t (outcomes.Finishes None (fault_status (faults.BadDigest field index)))) (sym (ap by h ∙ is (faults.BadDigest field index))) (ends_now _))

-- a message that is spelled, if there is memory for it
pub ends_replied : (outcome : Ending) (message : Result (List ℕ) OutOfMemory) (text : List ℕ) → outcome ≡ replied_by message → IfOk message (λ m. m ≡ text) → Ends (Room wanting (replied text)) outcome
ends_replied outcome (Ok m) text is spelled =
    subst (λ (o : Ending). Ends (Room wanting (replied text)) o) (sym is)
    (ends_fit (replied text) (outcomes.Finishes (Some m) fine) (subst (λ (t : List ℕ). Ends (replied t) (outcomes.Finishes (Some m) fine)) spelled (ends_now (outcomes.Finishes (Some m) fine))))
ends_replied outcome (Err e) text is spelled = subst (λ (o : Ending). Ends (Room wanting (replied text)) o) (sym is) (ends_wanting (replied text))

-- a request for the capabilities that was read
pub ends_capable : (read : Result (Value get_capabilities_request) MessageError) (request : Value get_capabilities_request) (outcome : Ending) (message : Result (List ℕ) OutOfMemory) → read ≡ Ok request
    → outcome ≡ replied_by message → IfOk message (λ m. m ≡ capabilities_spelled) → Ends (Room wanting (capable_by read)) outcome
ends_capable read request outcome message is told spelled =
    subst (λ (r : Result (Value get_capabilities_request) MessageError). Ends (Room wanting (capable_by r)) outcome) (sym is) (ends_replied outcome message capabilities_spelled told spelled)

-- one that wasn't
pub ends_refused : {A B : Type 0} (view : A → B) (by : Result B MessageError → Turn) (fault : MessageError) (read : Result B MessageError) (outcome : Ending) (status : Status)
    → ((e : MessageError) → by (Err e) ≡ refused (fault_status e)) → Gives view (Err fault) read → outcome ≡ outcomes.Finishes None status → status ≡ fault_status fault → Ends (Room wanting (by read)) outcome
ends_refused view by fault read outcome status is h told told_status =
    subst (λ (o : Ending). Ends (Room wanting (by read)) o) (sym (told ∙ ap (λ (s : Status). outcomes.Finishes None s) told_status)) (ends_unread view by fault read is h)

-- what ends with no entry is a turn at any door
pub plays_ends : (t : Turn) (outcome : Ending) (v : View) (x : Shelved) (n : ℕ) → IsIn v → Ends t outcome → Plays t v v x x n outcome
plays_ends t outcome v x n h e = took_more t (End outcome) v v x x 0 n (omega arith) (e v x h)

pub plays_end : (o outcome : Ending) (v : View) (x : Shelved) (n : ℕ) → IsIn v → outcome ≡ o → Plays (End o) v v x x n outcome
plays_end o outcome v x n h is = subst (λ (q : Ending). Plays (End o) v v x x n q) (sym is) (plays_ends (End o) o v x n h (ends_now o))

pub plays_refused : (status : Status) (outcome : Ending) (told : Status) (v : View) (x : Shelved) (n : ℕ) → IsIn v → outcome ≡ outcomes.Finishes None told → told ≡ status → Plays (refused status) v v x x n outcome
plays_refused status outcome told v x n h is same = plays_end (outcomes.Finishes None status) outcome v x n h (is ∙ ap (λ (s : Status). outcomes.Finishes None s) same)

pub plays_wanting : (t : Turn) (outcome : Ending) (told : Status) (v : View) (x : Shelved) (n : ℕ) → IsIn v → outcome ≡ outcomes.Finishes None told → told ≡ out_of_memory → Plays (Room wanting t) v v x x n outcome
plays_wanting t outcome told v x n h is same =
    subst (λ (q : Ending). Plays (Room wanting t) v v x x n q) (sym (is ∙ ap (λ (s : Status). outcomes.Finishes None s) same)) (plays_ends (Room wanting t) (outcomes.Finishes None out_of_memory) v x n h (ends_wanting t))

pub ends_as : (o outcome : Ending) → outcome ≡ o → Ends (End o) outcome
ends_as o outcome is = subst (λ (q : Ending). Ends (End o) q) (sym is) (ends_now o)

-- a script was played, and what follows was done
pub plays_on : {A : Type 0} (s : Script A) (next : A → Turn) (answer : A) (outcome : Ending) (v w : View) (x y : Shelved) (n m : ℕ) → n ≤ m → Plays s v w x y n answer → Ends (next answer) outcome → Plays (and_then s next) v w x y m outcome
plays_on s next answer outcome v w x y n m le plays e =
    let h : IsIn w = is_in_after s (End answer) v w x y n plays in
    let all : Plays (and_then s next) v w x y (n + 0) outcome = took_joined (and_then s next) (next answer) (End outcome) v w w x y y n 0 (took_then s answer next v w x y n plays) (e w y h) in
    took_more (and_then s next) (End outcome) v w x y (n + 0) m (omega (arith, le)) all

-- the same behind a message that was read
pub plays_then : {A : Type 0} (s : Script A) (next : A → Turn) (answer : A) (outcome : Ending) (v w : View) (x y : Shelved) (n m : ℕ) → n ≤ m → Plays s v w x y n answer → Ends (next answer) outcome
    → Plays (Room wanting (and_then s next)) v w x y m outcome
plays_then s next answer outcome v w x y n m le plays e = took_fit wanting (and_then s next) (End outcome) v w x y m (plays_on s next answer outcome v w x y n m le plays e)

-- a request that was read
pub plays_read : {B : Type 0} (by : Result B MessageError → Turn) (read : Result B MessageError) (request : B) (outcome : Ending) (v w : View) (x y : Shelved) (n : ℕ) → read ≡ Ok request → Plays (Room wanting (by (Ok request))) v w x y n outcome
    → Plays (Room wanting (by read)) v w x y n outcome
plays_read {B} by read request outcome v w x y n is plays = subst (λ (r : Result B MessageError). Plays (Room wanting (by r)) v w x y n outcome) (sym is) plays

pub ends_wanted : (t : Turn) (outcome : Ending) (told : Status) → outcome ≡ outcomes.Finishes None told → told ≡ out_of_memory → Ends (Room wanting t) outcome
ends_wanted t outcome told is same = subst (λ (o : Ending). Ends (Room wanting t) o) (sym (is ∙ ap (λ (s : Status). outcomes.Finishes None s) same)) (ends_wanting t)

-- nothing waits
pub plays_away : (p : Waiting) (h : Happening) (v : View) (x : Shelved) (n : ℕ) → IsIn v → p ≡ Away → Plays (turn_at p h) v v x x n outcomes.Vanishes
plays_away p h v x n is_in is = subst (λ (q : Waiting). Plays (turn_at q h) v v x x n outcomes.Vanishes) (sym is) (plays_end outcomes.Vanishes outcomes.Vanishes v x n is_in refl)
