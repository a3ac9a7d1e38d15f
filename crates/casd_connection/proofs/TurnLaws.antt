-- Turns of calls, and the events and frames that bring them.
use Rattle.grpc_calls.specs.Streams.{Row}
use Rattle.std.proofs.Common.{◌≡◌, ◌∙◌, ◌+◌, ◌^◌, ◌≤◌, ◌<◌, ℕ, suc, get_or, Bool, true, false, List, [], ◌∷◌, ◌++◌, length, take, drop, Option, Some, None, Result, Ok, Err, length-drop, take_all, ◌-◌, refl, sym, ap, subst, arith}
use Rattle.std.specs.Prelude.{◌==◌, ◌&&◌, IfSome, slice_get, slice_set, remove, position, OnOk, OnErr}
use Rattle.std.specs.List.{position_or_len, sum_by}
use Rattle.std.proofs.lemmas.Bool.{and_parts}
use Rattle.std.proofs.lemmas.List.Sums.{sum_by-set, sum_by-remove, fails_before_first}
use Rattle.std.proofs.lemmas.List.Quantifiers.{position-Some}
use Rattle.std.proofs.lemmas.Grind.{common_steps}
use Rattle.std.proofs.lemmas.Option.{slice_get-get_or, slice_get_within, get_or_from_slice_get}
use Rattle.std.proofs.lemmas.List.{append-nil, set-set, take-set, drop-set-lt, get_or-drop}
use Rattle.h2_frames.specs.declared.frame.Frame.{Frame}
use Rattle.h2_frames.specs.Stream.{Pending}
use Rattle.h2_frames.specs.Grammar.{HasGiven}
use Rattle.h2_session.specs.Part.{Part, stream_of}
use Rattle.h2_session.specs.Said.{waiting}
use Rattle.grpc_calls.specs.declared.event.CallEvent.{CallEvent}
use Rattle.grpc_calls.specs.Calls.{Calls}
use Rattle.store_core.specs.declared.event.Event.{Event}
use Rattle.store_core.specs.declared.event.Reply.{Reply as StoreReply}
use Rattle.casd_base.specs.declared.status.Status.{Status}
use Rattle.blob_store.specs.View.{View, IsSeated, Turns, own_now}
use Rattle.blob_store.specs.Shelves.{Shelved}
use Rattle.blob_store.proofs.ViewLaws.{turns_joined, turns_more, turns_none}
use Rattle.cas_calls.specs.Script.{Script, End, Make, Room, Ask, Step, made}
use Rattle.cas_calls.specs.Plays.{IsIn, Shelves, Took, Plays}
use Rattle.cas_calls.proofs.TakeLaws.{made-append, shelves_none, shelves_joined}
use Rattle.live_calls.specs.Turns.{Ending, Turn, turn_at}
use Rattle.live_calls.specs.Places.{Waiting, Away, is_giving, turns_due}
use Rattle.live_calls.specs.Afterwards.{due_after}
use Rattle.live_calls.specs.declared.happening.Happening.TheVariants as happenings
use Rattle.live_calls.specs.declared.happening.Happening.{Happening}
use Rattle.live_calls.specs.declared.outcome.Outcome.TheVariants as outcomes
use Rattle.casd_connection.specs.Waiters.{Waiter}
use Rattle.casd_connection.specs.Exchange.{Conn, Saying, Reply, IsDue, NoneDue, is_due, is_sending, placed, gone, answer, ended, go, resumed_at, resumed, given}
use Rattle.casd_connection.specs.Course.{Course}
use Rattle.casd_connection.specs.Steps.{conn, at, IsServing, Keeps, Moves, Speaks, Does, Turned, Broken, RunsTo, RunsOut, Wakened, ComesNearer, due_in, is_due_in}
use Rattle.casd_connection.proofs.AnswerLaws.{answers_on}
use Rattle.casd_connection.proofs.CourseLaws.{course_joined, course_none, moves_joined, moves_none, moves_by, course_hands, course_wakes, course_does}

pub on_ok : {T E P Q : Type 0} (r : Result T E) → (P → Q) → OnOk r P → OnOk r Q
on_ok (Ok x) f p = f p
on_ok (Err e) f p = p

pub on_err : {T E P Q : Type 0} (r : Result T E) → (P → Q) → OnErr r P → OnErr r Q
on_err (Ok x) f p = p
on_err (Err e) f p = f p

pub always_ok : {T E P : Type 0} (r : Result T E) → P → OnOk r P
always_ok (Ok x) p = p
always_ok (Err e) p = tt

pub always_err : {T E P : Type 0} (r : Result T E) → P → OnErr r P
always_err (Ok x) p = tt
always_err (Err e) p = p

-- ---- what was done

pub does_none : (v : View) (x : Shelved) (n : ℕ) → v.entered ≡ true → IsSeated v → Does v v x x n []
does_none v x n is_in seated = record {
  entries = turns_more v v 0 n [] (omega arith) (turns_none v seated.number is_in seated.owner seated.is_own);
  shelf = shelves_none x;
  leases = refl;
}

pub does_joined : (u v w : View) (x y z : Shelved) (m n : ℕ) (xs ys : List Step) → Does u v x y m xs → Does v w y z n ys → Does u w x z (m + n) (xs ++ ys)
does_joined u v w x y z m n xs ys p q = record {
  entries = subst (λ (es : List (Event × StoreReply)). Turns u w (m + n) es) (sym (made-append xs ys)) (turns_joined u v w m n (made xs) (made ys) p.entries q.entries);
  shelf = shelves_joined x y z xs ys p.shelf q.shelf;
  leases = q.leases ∙ p.leases;
}

pub does_more : (v w : View) (x y : Shelved) (m n : ℕ) (xs : List Step) → m ≤ n → Does v w x y m xs → Does v w x y n xs
does_more v w x y m n xs le p = record { entries = turns_more v w m n (made xs) le p.entries; shelf = p.shelf; leases = p.leases }

pub does_took : {A : Type 0} (s t : Script A) (v w : View) (x y : Shelved) (n : ℕ) → (k : Took s v w x y n t) → Does v w x y n k.steps
does_took s t v w x y n k = record { entries = k.entries; shelf = k.shelf; leases = k.leases }

-- ---- the table of calls

set-away : (live : List Waiter) (i n : ℕ) (place : Waiting) → placed n (Some i) place (placed n (Some i) Away live) ≡ placed n (Some i) place live
set-away live i n place = set-set live i (record { stream = n; place = Away }) (record { stream = n; place = place })

remove-away : (live : List Waiter) (i n : ℕ) → gone (Some i) (placed n (Some i) Away live) ≡ gone (Some i) live
remove-away live i n =
    let away : Waiter = record { stream = n; place = Away } in
    let front = take-set live i away in
    let rest = drop-set-lt (suc i) live i away (omega arith) in
    ap (λ (xs : List Waiter). xs ++ drop (suc i) (slice_set live i away)) front ∙ ap (λ (xs : List Waiter). take i live ++ xs) rest

-- the code has taken the call out of its row for its turn, which no end of the turn shows
pub ended_back : (outcome : Ending) (n i : ℕ) (p : Part) (rows : List Row) (es : List CallEvent) (live : List Waiter) (over : Bool)
    → ended outcome n (Some i) (conn p rows es (placed n (Some i) Away live) over []) ≡ ended outcome n (Some i) (conn p rows es live over [])
ended_back (outcomes.Rests place) n i p rows es live over = ap (λ (xs : List Waiter). conn p rows es xs over []) (set-away live i n place)
ended_back (outcomes.Gives message place) n i p rows es live over = ap (λ (xs : List Waiter). conn p rows es xs over (Reply n message ∷ [])) (set-away live i n place)
ended_back (outcomes.Finishes message status) n i p rows es live over = ap (λ (xs : List Waiter). conn p rows es xs over (answer n message status)) (remove-away live i n)
ended_back outcomes.Vanishes n i p rows es live over = ap (λ (xs : List Waiter). conn p rows es xs over []) (remove-away live i n)

-- ---- the end of a turn

rests_moves : (n : ℕ) (row : Option ℕ) (place : Waiting) (c : Calls) (live new : List Waiter) (over : Bool) → new ≡ placed n row place live
    → Moves (ended (outcomes.Rests place) n row (at c live over [])) (at c new over []) [] [] c.session.output c.session.output
rests_moves n row place c live new over is =
    subst (λ (xs : List Waiter). Moves (ended (outcomes.Rests place) n row (at c live over [])) (at c xs over []) [] [] c.session.output c.session.output) (sym is)
    (moves_none (at c (placed n row place live) over []) c.session.output)

vanishes_moves : (n : ℕ) (row : Option ℕ) (c : Calls) (live new : List Waiter) (over : Bool) → new ≡ gone row live
    → Moves (ended outcomes.Vanishes n row (at c live over [])) (at c new over []) [] [] c.session.output c.session.output
vanishes_moves n row c live new over is =
    subst (λ (xs : List Waiter). Moves (ended outcomes.Vanishes n row (at c live over [])) (at c xs over []) [] [] c.session.output c.session.output) (sym is)
    (moves_none (at c (gone row live) over []) c.session.output)

-- the same where the code has changed its table alone
pub rested : (n : ℕ) (row : Option ℕ) (place : Waiting) (c b : Calls) (live new : List Waiter) (over over' : Bool) → b ≡ c → over' ≡ over → new ≡ placed n row place live
    → Moves (ended (outcomes.Rests place) n row (at c live over [])) (at b new over' []) [] [] c.session.output b.session.output
rested n row place c b live new over over' same same_over is =
    subst (λ (o : Bool). Moves (ended (outcomes.Rests place) n row (at c live over [])) (at b new o []) [] [] c.session.output b.session.output) (sym same_over)
    (subst (λ (m : Calls). Moves (ended (outcomes.Rests place) n row (at c live over [])) (at m new over []) [] [] c.session.output m.session.output) (sym same) (rests_moves n row place c live new over is))

pub vanished : (n : ℕ) (row : Option ℕ) (c b : Calls) (live new : List Waiter) (over over' : Bool) → b ≡ c → over' ≡ over → new ≡ gone row live
    → Moves (ended outcomes.Vanishes n row (at c live over [])) (at b new over' []) [] [] c.session.output b.session.output
vanished n row c b live new over over' same same_over is =
    subst (λ (o : Bool). Moves (ended outcomes.Vanishes n row (at c live over [])) (at b new o []) [] [] c.session.output b.session.output) (sym same_over)
    (subst (λ (m : Calls). Moves (ended outcomes.Vanishes n row (at c live over [])) (at m new over []) [] [] c.session.output m.session.output) (sym same) (vanishes_moves n row c live new over is))

pub gives_moves : (n : ℕ) (row : Option ℕ) (message : List ℕ) (place : Waiting) (c b d : Calls) (live new : List Waiter) (over over' : Bool) → b ≡ c → over' ≡ over → new ≡ placed n row place live → Speaks b d (Reply n message ∷ [])
    → Moves (ended (outcomes.Gives message place) n row (at c live over [])) (at d new over' []) [] [] c.session.output d.session.output
gives_moves n row message place c b d live new over over' same same_over is speaks =
    let spoken : Speaks c d (Reply n message ∷ []) = subst (λ (x : Calls). Speaks x d (Reply n message ∷ [])) same speaks in
    subst (λ (o : Bool). Moves (ended (outcomes.Gives message place) n row (at c live over [])) (at d new o []) [] [] c.session.output d.session.output) (sym same_over)
    (subst (λ (xs : List Waiter). Moves (ended (outcomes.Gives message place) n row (at c live over [])) (at d xs over []) [] [] c.session.output d.session.output) (sym is)
    (spoken.moves (placed n row place live) over []))

pub finishes_moves : (n : ℕ) (row : Option ℕ) (message : Option (List ℕ)) (status : Status) (c b d : Calls) (live new : List Waiter) (over over' : Bool) → b ≡ c → over' ≡ over → new ≡ gone row live → Speaks b d (answer n message status)
    → Moves (ended (outcomes.Finishes message status) n row (at c live over [])) (at d new over' []) [] [] c.session.output d.session.output
finishes_moves n row message status c b d live new over over' same same_over is speaks =
    let spoken : Speaks c d (answer n message status) = subst (λ (x : Calls). Speaks x d (answer n message status)) same speaks in
    subst (λ (o : Bool). Moves (ended (outcomes.Finishes message status) n row (at c live over [])) (at d new o []) [] [] c.session.output d.session.output) (sym same_over)
    (subst (λ (xs : List Waiter). Moves (ended (outcomes.Finishes message status) n row (at c live over [])) (at d xs over []) [] [] c.session.output d.session.output) (sym is)
    (subst (λ (xs : List Saying). Moves (at c (gone row live) over xs) (at d (gone row live) over []) [] [] c.session.output d.session.output) (append-nil (answer n message status))
    (spoken.moves (gone row live) over [])))

-- ---- a turn in the row of its call

turn_course : (h : Happening) (i : ℕ) (l : Waiter) (c : Calls) (live : List Waiter) (over : Bool) (v w : View) (x y : Shelved) (n : ℕ) (outcome : Ending) → slice_get live i ≡ Some l
    → (k : Plays (turn_at l.place h) v w x y n outcome)
    → Course (resumed_at h i (slice_get live i) (at c live over [])) (ended outcome l.stream (Some i) (at c live over [])) [] k.steps []
turn_course h i l c live over v w x y n outcome is k =
    subst (λ (o : Option Waiter). Course (resumed_at h i o (at c live over [])) (ended outcome l.stream (Some i) (at c live over [])) [] k.steps []) (sym is)
    (course_does c.session.part c.calls c.pending live over l.stream (Some i) k.steps (turn_at l.place h) (End outcome) k.follows)

pub row_turned : (h : Happening) (i : ℕ) (l : Waiter) (c b d : Calls) (live away new : List Waiter) (over still over' : Bool) (v w : View) (x y : Shelved) (n : ℕ) (outcome : Ending)
    → slice_get live i ≡ Some l → away ≡ placed l.stream (Some i) Away live → b ≡ c → still ≡ over → Plays (turn_at l.place h) v w x y n outcome
    → Moves (ended outcome l.stream (Some i) (at b away still [])) (at d new over' []) [] [] b.session.output d.session.output
    → Turned v w x y n (resumed_at h i (slice_get live i) (at c live over [])) (at d new over' []) c.session.output d.session.output
row_turned h i l c b d live away new over still over' v w x y n outcome is taken same_calls same_over k given_moves =
    let moves : Moves (ended outcome l.stream (Some i) (at c away over [])) (at d new over' []) [] [] c.session.output d.session.output =
    subst (λ (m : Calls). Moves (ended outcome l.stream (Some i) (at m away over [])) (at d new over' []) [] [] m.session.output d.session.output) same_calls
    (subst (λ (o : Bool). Moves (ended outcome l.stream (Some i) (at b away o [])) (at d new over' []) [] [] b.session.output d.session.output) same_over given_moves) in
    let same : ended outcome l.stream (Some i) (at c away over []) ≡ ended outcome l.stream (Some i) (at c live over []) =
    ap (λ (xs : List Waiter). ended outcome l.stream (Some i) (at c xs over [])) taken ∙ ended_back outcome l.stream i c.session.part c.calls c.pending live over in
    let last : Moves (ended outcome l.stream (Some i) (at c live over [])) (at d new over' []) [] [] c.session.output d.session.output =
    subst (λ (m : Conn). Moves m (at d new over' []) [] [] c.session.output d.session.output) same moves in
    let first : Moves (resumed_at h i (slice_get live i) (at c live over [])) (ended outcome l.stream (Some i) (at c live over [])) [] k.steps c.session.output c.session.output =
    moves_by (resumed_at h i (slice_get live i) (at c live over [])) (ended outcome l.stream (Some i) (at c live over [])) [] k.steps c.session.output (turn_course h i l c live over v w x y n outcome is k) in
    record {
      steps = k.steps ++ [];
      moves = moves_joined (resumed_at h i (slice_get live i) (at c live over [])) (ended outcome l.stream (Some i) (at c live over [])) (at d new over' []) [] [] k.steps [] c.session.output c.session.output d.session.output first last;
      does = subst (λ (xs : List Step). Does v w x y n xs) (sym (append-nil k.steps)) (does_took (turn_at l.place h) (End outcome) v w x y n k);
    }

ended_free : (outcome : Ending) (n : ℕ) (row : Option ℕ) (p : Part) (rows : List Row) (es : List CallEvent) (live : List Waiter) (over : Bool) → (ended outcome n row (conn p rows es live over [])).end ≡ None
ended_free (outcomes.Rests place) n row p rows es live over = refl
ended_free (outcomes.Gives message place) n row p rows es live over = refl
ended_free (outcomes.Finishes message status) n row p rows es live over = refl
ended_free outcomes.Vanishes n row p rows es live over = refl

-- whatever a turn does next, the connection hasn't ended
pub go_free : (t : Turn) (n : ℕ) (row : Option ℕ) (p : Part) (rows : List Row) (es : List CallEvent) (live : List Waiter) (over : Bool) → (go t n row (conn p rows es live over [])).end ≡ None
go_free (End outcome) n row p rows es live over = ended_free outcome n row p rows es live over
go_free (Make event k) n row p rows es live over = refl
go_free (Room wanting t) n row p rows es live over = refl
go_free (Ask asked k) n row p rows es live over = refl

pub row_broken : (h : Happening) (i : ℕ) (l : Waiter) (c : Calls) (live : List Waiter) (over : Bool) (v w : View) (x y : Shelved) (n : ℕ) (outcome : Ending) → slice_get live i ≡ Some l → Plays (turn_at l.place h) v w x y n outcome
    → Broken v w x y n (resumed_at h i (slice_get live i) (at c live over [])) []
row_broken h i l c live over v w x y n outcome is k = record {
  steps = k.steps;
  sent = [];
  last = ended outcome l.stream (Some i) (at c live over []);
  course = turn_course h i l c live over v w x y n outcome is k;
  free = ended_free outcome l.stream (Some i) c.session.part c.calls c.pending live over;
  does = does_took (turn_at l.place h) (End outcome) v w x y n k;
}

-- ---- the call of a stream

pub stream_turned : (h : Happening) (row : Option ℕ) (i : ℕ) (c d : Calls) (live new : List Waiter) (over over' : Bool) (v w : View) (x y : Shelved) (n : ℕ) → row ≡ Some i
    → Turned v w x y n (resumed_at h i (slice_get live i) (at c live over [])) (at d new over' []) c.session.output d.session.output
    → Turned v w x y n (resumed h row (at c live over [])) (at d new over' []) c.session.output d.session.output
stream_turned h row i c d live new over over' v w x y n is k =
    subst (λ (o : Option ℕ). Turned v w x y n (resumed h o (at c live over [])) (at d new over' []) c.session.output d.session.output) (sym is) k

pub stream_broken : (h : Happening) (row : Option ℕ) (i : ℕ) (c : Calls) (live : List Waiter) (over : Bool) (v w : View) (x y : Shelved) (n : ℕ) → row ≡ Some i
    → Broken v w x y n (resumed_at h i (slice_get live i) (at c live over [])) [] → Broken v w x y n (resumed h row (at c live over [])) []
stream_broken h row i c live over v w x y n is k = subst (λ (o : Option ℕ). Broken v w x y n (resumed h o (at c live over [])) []) (sym is) k

pub stream_none : (h : Happening) (row : Option ℕ) (c : Calls) (live : List Waiter) (over : Bool) (v : View) (x : Shelved) (n : ℕ) → row ≡ None → v.entered ≡ true → IsSeated v
    → Turned v v x x n (resumed h row (at c live over [])) (at c live over []) c.session.output c.session.output
stream_none h row c live over v x n is is_in seated =
    subst (λ (o : Option ℕ). Turned v v x x n (resumed h o (at c live over [])) (at c live over []) c.session.output c.session.output) (sym is)
    (record { steps = []; moves = moves_none (at c live over []) c.session.output; does = does_none v x n is_in seated })

-- a turn without entries
pub moved_turned : (v : View) (x : Shelved) (n : ℕ) (c d : Conn) (old new : List ℕ) → v.entered ≡ true → IsSeated v → Moves c d [] [] old new → Turned v v x x n c d old new
moved_turned v x n c d old new is_in seated moves = record { steps = []; moves = moves; does = does_none v x n is_in seated }

pub at_once_broken : (v : View) (x : Shelved) (n : ℕ) (c : Conn) → v.entered ≡ true → IsSeated v → c.end ≡ None → Broken v v x x n c []
at_once_broken v x n c is_in seated free = record { steps = []; sent = []; last = c; course = course_none c; free = free; does = does_none v x n is_in seated }

-- ---- a turn that a call is given

-- the table after a turn has fewer turns left
pub nearer : (outcome : Ending) (i : ℕ) (l : Waiter) (b : Calls) (live away new : List Waiter) (still : Bool) → slice_get live i ≡ Some l → away ≡ placed l.stream (Some i) Away live → new ≡ (ended outcome l.stream (Some i) (at b away still [])).live
    → due_after outcome < turns_due l.place → due_in new < due_in live
nearer outcome i l b live away new still is taken table less =
    rw (table, taken, ap (λ (d : Conn). d.live) (ended_back outcome l.stream i b.session.part b.calls b.pending live still)) (by outcome less)
  where
    within : i < length live
    within = slice_get_within live i l is

    there : get_or live i l ≡ l
    there = get_or_from_slice_get live i l l is

    due : Waiter → ℕ
    due w = turns_due w.place

    set_less : (place : Waiting) → turns_due place < turns_due l.place → due_in (placed l.stream (Some i) place live) < due_in live
    set_less place lt = let sum = sum_by-set (λ (w : Waiter). turns_due w.place) live i (record { stream = l.stream; place = place }) l within in omega (arith, sum, lt, ap (λ (w : Waiter). turns_due w.place) there)

    gone_less : 0 < turns_due l.place → due_in (gone (Some i) live) < due_in live
    gone_less lt = let sum = sum_by-remove (λ (w : Waiter). turns_due w.place) live i l within in omega (arith, sum, lt, ap (λ (w : Waiter). turns_due w.place) there)

    by : (outcome : Ending) → due_after outcome < turns_due l.place → due_in (ended outcome l.stream (Some i) (at b live still [])).live < due_in live
    by (outcomes.Rests place) lt = set_less place lt
    by (outcomes.Gives message place) lt = set_less place lt
    by (outcomes.Finishes message status) lt = gone_less lt
    by outcomes.Vanishes lt = gone_less lt

given_none : (ins : List ℕ) (ps : List (ℕ × Frame)) (r s : Pending) → s ≡ r → HasGiven true ins ps r → HasGiven true ins (ps ++ []) s
given_none ins ps r s is h = subst (λ (q : Pending). HasGiven true ins (ps ++ []) q) (sym is) (subst (λ (qs : List (ℕ × Frame)). HasGiven true ins qs r) (sym (append-nil ps)) h)

giving : (c : Calls) (live : List Waiter) (over : Bool) (i : ℕ) → (due : IsDue (at c live over []) i) → is_giving due.call.place ≡ true
giving c live over i due = first (is_giving due.call.place) (is_sending due.call.stream c.session.part) (waiting (stream_of due.call.stream c.session.part) == 0) due.due
  where
    first : (x y z : Bool) → (x && y && z) ≡ true → x ≡ true
    first true y z h = refl
    first false true z h = absurd cc
    first false false z h = absurd cc

pub woken : (v w : View) (x y : Shelved) (n i : ℕ) (c d : Calls) (live new : List Waiter) (over over' : Bool) → IsServing c → c.pending ≡ [] → IsDue (at c live over []) i
    → Turned v w x y n (resumed_at happenings.Woken i (slice_get live i) (at c live over [])) (at d new over' []) c.session.output d.session.output → Keeps c d → ComesNearer i live new
    → Wakened v w x y c d live new over over'
woken v w x y n i c d live new over over' serving empty due k keeps nearer =
    let from = at c live over [] in
    let mid = resumed_at happenings.Woken i (slice_get live i) from in
    let moves : Moves from (at d new over' []) [] k.steps c.session.output d.session.output =
    moves_joined from mid (at d new over' []) [] [] [] k.steps c.session.output c.session.output d.session.output
    (moves_by from mid [] [] c.session.output (course_wakes c.session.part c.calls c.pending live over i empty serving.quiet due)) k.moves in
    record {
      run = record {
        sent = moves.sent;
        runs = record { frames = []; steps = k.steps; turns = n; course = moves.course; free = refl; does = k.does; given = λ ins ps bytes h. given_none ins ps c.reader d.reader keeps.reader h };
        output = moves.output;
        serving = keeps.serving;
        pending = keeps.pending ∙ empty;
      };
      frames = refl;
      reader = keeps.reader;
      less = subst (λ (o : Option Waiter). IfSome o (λ l. is_giving l.place ≡ true → due_in new < due_in live)) due.is_there nearer (giving c live over i due);
    }

pub woken_out : (v w : View) (x y : Shelved) (n i : ℕ) (c : Calls) (live : List Waiter) (over : Bool) → IsServing c → c.pending ≡ [] → IsDue (at c live over []) i
    → Broken v w x y n (resumed_at happenings.Woken i (slice_get live i) (at c live over [])) [] → RunsOut v w x y c live over
woken_out v w x y n i c live over serving empty due k =
    let from = at c live over [] in
    let mid = resumed_at happenings.Woken i (slice_get live i) from in
    record {
      sent = k.sent;
      last = k.last;
      reader = c.reader;
      runs = record {
        frames = [];
        steps = k.steps;
        turns = n;
        course = course_joined from mid k.last [] [] [] k.steps [] k.sent (course_wakes c.session.part c.calls c.pending live over i empty serving.quiet due) k.course;
        free = k.free;
        does = k.does;
        given = λ ins ps bytes h. given_none ins ps c.reader c.reader refl h;
      };
    }

-- by the answer of a turn
pub woken_by : {T E : Type 0} (r : Result T E) (v w : View) (x y : Shelved) (n i : ℕ) (c d : Calls) (live new : List Waiter) (over over' : Bool) → IsServing c → c.pending ≡ [] → IsDue (at c live over []) i
    → OnOk r (Turned v w x y n (resumed_at happenings.Woken i (slice_get live i) (at c live over [])) (at d new over' []) c.session.output d.session.output) → OnOk r (Keeps c d) → OnOk r (happenings.Woken ≡ happenings.Woken → ComesNearer i live new)
    → OnOk r (Wakened v w x y c d live new over over')
woken_by (Ok t) v w x y n i c d live new over over' serving empty due turned keeps nearer = woken v w x y n i c d live new over over' serving empty due turned keeps (nearer refl)
woken_by (Err e) v w x y n i c d live new over over' serving empty due turned keeps nearer = tt

pub out_by : {T E : Type 0} (r : Result T E) (v w : View) (x y : Shelved) (n i : ℕ) (c : Calls) (live : List Waiter) (over : Bool) → IsServing c → c.pending ≡ [] → IsDue (at c live over []) i
    → OnErr r (Broken v w x y n (resumed_at happenings.Woken i (slice_get live i) (at c live over [])) []) → OnErr r (RunsOut v w x y c live over)
out_by (Ok t) v w x y n i c live over serving empty due broken = tt
out_by (Err e) v w x y n i c live over serving empty due broken = woken_out v w x y n i c live over serving empty due broken

pub within_due : (c : Calls) (live : List Waiter) (over : Bool) (i : ℕ) → IsDue (at c live over []) i → i < length live
within_due c live over i due = slice_get_within live i due.call due.is_there

-- ---- the call that is due

due_same : (c : Calls) (l : Waiter) → IsServing c → is_due_in c l ≡ is_due c.session.part l
due_same c l serving = ap (λ (b : Bool). is_giving l.place && b && (waiting (stream_of l.stream c.session.part) == 0)) (answers_on l.stream c serving)

due_from : (c : Calls) (live : List Waiter) (over : Bool) (i : ℕ) (l : Waiter) → IsServing c → slice_get live i ≡ Some l → is_due_in c l ≡ true → IsDue (at c live over []) i
due_from c live over i l serving is due = record { call = l; is_there = is; due = sym (due_same c l serving) ∙ due }

nobody : Waiter
nobody = record { stream = 0; place = Away }

-- the first one that is due
pub due_first : (c : Calls) (live : List Waiter) (over : Bool) (i : ℕ) → IsServing c → position (λ l. is_due_in c l) live ≡ Some i → IsDue (at c live over []) i × (i < length live)
due_first c live over i serving is =
    let found = position-Some (λ l. is_due_in c l) live i nobody is in
    (due_from c live over i (get_or live i nobody) serving (slice_get-get_or live i nobody found.0) found.1, found.0)

pub due_some : (o : Option ℕ) (c : Calls) (live : List Waiter) (over : Bool) → IsServing c → o ≡ position (λ l. is_due_in c l) live → IfSome o (IsDue (at c live over [])) × IfSome o (λ i. i < length live)
due_some None c live over serving is = (tt, tt)
due_some (Some i) c live over serving is = due_first c live over i serving (sym is)

-- the rows from one on, as a part of them all
pub sliced : (xs ys : List Waiter) (n : ℕ) → ys ≡ xs → drop n xs ≡ take (length ys - n) (drop n ys)
sliced xs ys n e = rw e (sym (take_all (length xs - n) (drop n xs) (omega (arith, length-drop n xs))))

-- the first one from a row on
pub due_later : (c : Calls) (live : List Waiter) (over : Bool) (n i : ℕ) → n ≤ length live → IsServing c → position (λ l. is_due_in c l) (drop n live) ≡ Some i → IsDue (at c live over []) (n + i) × (n + i < length live)
due_later c live over n i le serving is =
    let found = position-Some (λ l. is_due_in c l) (drop n live) i nobody is in
    let within : n + i < length live = omega (arith, found.0, length-drop n live, le) in
    let there : get_or (drop n live) i nobody ≡ get_or live (n + i) nobody = get_or-drop n live i nobody in
    (due_from c live over (n + i) (get_or live (n + i) nobody) serving (slice_get-get_or live (n + i) nobody within) (ap (λ (l : Waiter). is_due_in c l) (sym there) ∙ found.1), within)

-- none is
pub due_none : (c : Calls) (live : List Waiter) → IsServing c → position (λ l. is_due_in c l) live ≡ None → NoneDue c.session.part live
due_none c live serving none = λ k d lt.
    let past : length live ≤ position_or_len (λ l. is_due_in c l) live = grind (arith, common_steps) in
    sym (due_same c (get_or live k d) serving) ∙ fails_before_first (λ l. is_due_in c l) live k d (omega (arith, past, lt))

-- where no stream is live
pub due_over : (p : Part) (live : List Waiter) → p.streams ≡ [] → NoneDue p live
due_over p live none = λ k d lt. unsent (get_or live k d)
  where
    never : (b w : Bool) → (b && false && w) ≡ false
    never true w = refl
    never false w = refl

    unsent : (l : Waiter) → is_due p l ≡ false
    unsent l =
        let gone : is_sending l.stream p ≡ false = rw none refl in
        rw gone (never (is_giving l.place) (waiting (stream_of l.stream p) == 0))

-- ---- events one after the other

pub hands_turned : (e : CallEvent) (es : List CallEvent) (c d b : Calls) (live new : List Waiter) (over over' : Bool) (v w : View) (x y : Shelved) (n : ℕ) → b.pending ≡ e ∷ es → c ≡ record b { pending = es }
    → Turned v w x y n (given e (at c live over [])) (at d new over' []) c.session.output d.session.output
    → Turned v w x y n (at b live over []) (at d new over' []) b.session.output d.session.output
hands_turned e es c d b live new over over' v w x y n is rest k =
    let c0 = record b { pending = es } in
    let k0 : Turned v w x y n (given e (at c0 live over [])) (at d new over' []) b.session.output d.session.output =
    subst (λ (m : Calls). Turned v w x y n (given e (at m live over [])) (at d new over' []) m.session.output d.session.output) rest k in
    record {
      steps = k0.steps;
      moves = subst (λ (xs : List CallEvent). Moves (conn b.session.part b.calls xs live over []) (at d new over' []) [] k0.steps b.session.output d.session.output) (sym is)
          (moves_joined (conn b.session.part b.calls (e ∷ es) live over []) (given e (at c0 live over [])) (at d new over' []) [] [] [] k0.steps b.session.output b.session.output d.session.output
          (moves_by (conn b.session.part b.calls (e ∷ es) live over []) (given e (at c0 live over [])) [] [] b.session.output (course_hands b.session.part b.calls e es live over)) k0.moves);
      does = k0.does;
    }

pub hands_broken : (e : CallEvent) (es : List CallEvent) (c b : Calls) (live : List Waiter) (over : Bool) (v w : View) (x y : Shelved) (n : ℕ) → b.pending ≡ e ∷ es → c ≡ record b { pending = es }
    → Broken v w x y n (given e (at c live over [])) [] → Broken v w x y n (at b live over []) []
hands_broken e es c b live over v w x y n is rest k =
    let c0 = record b { pending = es } in
    let k0 : Broken v w x y n (given e (at c0 live over [])) [] = subst (λ (m : Calls). Broken v w x y n (given e (at m live over [])) []) rest k in
    record {
      steps = k0.steps;
      sent = k0.sent;
      last = k0.last;
      course = subst (λ (xs : List CallEvent). Course (conn b.session.part b.calls xs live over []) k0.last [] k0.steps k0.sent) (sym is)
          (course_joined (conn b.session.part b.calls (e ∷ es) live over []) (given e (at c0 live over [])) k0.last [] [] [] k0.steps [] k0.sent (course_hands b.session.part b.calls e es live over) k0.course);
      free = k0.free;
      does = k0.does;
    }

pub turned_joined : (u v w : View) (x y z : Shelved) (m n : ℕ) (a b c : Conn) (old mid new : List ℕ) → Turned u v x y m a b old mid → Turned v w y z n b c mid new → Turned u w x z (m + n) a c old new
turned_joined u v w x y z m n a b c old mid new p q = record {
  steps = p.steps ++ q.steps;
  moves = moves_joined a b c [] [] p.steps q.steps old mid new p.moves q.moves;
  does = does_joined u v w x y z m n p.steps q.steps p.does q.does;
}

pub turned_broken : (u v w : View) (x y z : Shelved) (m n : ℕ) (a b : Conn) (old mid : List ℕ) → Turned u v x y m a b old mid → Broken v w y z n b [] → Broken u w x z (m + n) a []
turned_broken u v w x y z m n a b old mid p q = record {
  steps = p.steps ++ q.steps;
  sent = p.moves.sent ++ q.sent;
  last = q.last;
  course = course_joined a b q.last [] [] p.steps q.steps p.moves.sent q.sent p.moves.course q.course;
  free = q.free;
  does = does_joined u v w x y z m n p.steps q.steps p.does q.does;
}
