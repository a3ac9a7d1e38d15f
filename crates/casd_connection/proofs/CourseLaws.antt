-- Parts of an exchange, one after the other, and one for each kind of item.
use Rattle.grpc_calls.specs.Streams.{Row}
use Rattle.std.proofs.Common.{◌≡◌, ◌∙◌, ℕ, Bool, true, false, List, [], ◌∷◌, ◌++◌, append_assoc, Option, Some, None, refl, sym, ap, subst}
use Rattle.std.specs.Prelude.{slice_get}
use Rattle.std.specs.List.{flat_map}
use Rattle.std.proofs.lemmas.List.{append-nil}
use Rattle.h2_frames.specs.declared.frame.Frame.{Frame}
use Rattle.h2_frames.specs.Spelling.{spelled}
use Rattle.h2_session.specs.declared.event.SessionEvent.{SessionEvent}
use Rattle.h2_session.specs.Part.{Part}
use Rattle.h2_session.specs.Faults.{offence}
use Rattle.h2_session.specs.Heard.{heard}
use Rattle.h2_session.specs.Sent.{MaySend, sent, Sends, Settles, IsQuiet, spellings}
use Rattle.grpc_calls.specs.declared.event.CallEvent.{CallEvent}
use Rattle.cas_calls.specs.Script.{Script, End, Make, Room, Ask, Step, Follows, after}
use Rattle.live_calls.specs.Turns.{Turn}
use Rattle.live_calls.specs.declared.happening.Happening.TheVariants as happenings
use Rattle.casd_connection.specs.Waiters.{Waiter}
use Rattle.casd_connection.specs.declared.end.ConnEnd.{ConnEnd}
use Rattle.casd_connection.specs.Exchange.{Item, Read, Tells, Hands, Wakes, Does, Says, Wrote, Ends, Conn, Saying, next, May, MayStop, IsFree, IsIdle, IsDue, go, given, resumed_at, spoken}
use Rattle.casd_connection.specs.Course.{Goes, reads, steps, writes, Course}
use Rattle.casd_connection.specs.Steps.{conn, Moves}

-- ---- one after the other

goes_joined : (c : Conn) (is : List Item) (d : Conn) (js : List Item) (e : Conn) → Goes c is d → Goes d js e → Goes c (is ++ js) e
goes_joined c [] d js e p q = subst (λ (x : Conn). Goes x js e) (sym p) q
goes_joined c (i ∷ is) d js e p q = (p.0, goes_joined (next c i) is d js e p.1 q)

reads-append : (is js : List Item) → reads (is ++ js) ≡ reads is ++ reads js
reads-append [] js = refl
reads-append (Read f ∷ is) js = ap (λ (fs : List Frame). f ∷ fs) (reads-append is js)
reads-append (Tells ∷ is) js = reads-append is js
reads-append (Hands ∷ is) js = reads-append is js
reads-append (Wakes i ∷ is) js = reads-append is js
reads-append (Does x ∷ is) js = reads-append is js
reads-append (Says ∷ is) js = reads-append is js
reads-append (Wrote f ∷ is) js = reads-append is js
reads-append (Ends end ∷ is) js = reads-append is js

steps-append : (is js : List Item) → steps (is ++ js) ≡ steps is ++ steps js
steps-append [] js = refl
steps-append (Read f ∷ is) js = steps-append is js
steps-append (Tells ∷ is) js = steps-append is js
steps-append (Hands ∷ is) js = steps-append is js
steps-append (Wakes i ∷ is) js = steps-append is js
steps-append (Does x ∷ is) js = ap (λ (xs : List Step). x ∷ xs) (steps-append is js)
steps-append (Says ∷ is) js = steps-append is js
steps-append (Wrote f ∷ is) js = steps-append is js
steps-append (Ends end ∷ is) js = steps-append is js

writes-append : (is js : List Item) → writes (is ++ js) ≡ writes is ++ writes js
writes-append [] js = refl
writes-append (Read f ∷ is) js = writes-append is js
writes-append (Tells ∷ is) js = writes-append is js
writes-append (Hands ∷ is) js = writes-append is js
writes-append (Wakes i ∷ is) js = writes-append is js
writes-append (Does x ∷ is) js = writes-append is js
writes-append (Says ∷ is) js = writes-append is js
writes-append (Wrote f ∷ is) js = ap (λ (fs : List Frame). f ∷ fs) (writes-append is js)
writes-append (Ends end ∷ is) js = writes-append is js

both : {A : Type 0} (xs ys ms ns zs : List A) → zs ≡ xs ++ ys → xs ≡ ms → ys ≡ ns → zs ≡ ms ++ ns
both xs ys ms ns zs whole first second = whole ∙ ap (λ front. front ++ ys) first ∙ ap (λ rest. ms ++ rest) second

pub course_joined : (c d e : Conn) (fs gs : List Frame) (xs ys : List Step) (ms ns : List Frame) → Course c d fs xs ms → Course d e gs ys ns → Course c e (fs ++ gs) (xs ++ ys) (ms ++ ns)
course_joined c d e fs gs xs ys ms ns p q = record {
  items = p.items ++ q.items;
  goes = goes_joined c p.items d q.items e p.goes q.goes;
  reads = both (reads p.items) (reads q.items) fs gs (reads (p.items ++ q.items)) (reads-append p.items q.items) p.reads q.reads;
  steps = both (steps p.items) (steps q.items) xs ys (steps (p.items ++ q.items)) (steps-append p.items q.items) p.steps q.steps;
  writes = both (writes p.items) (writes q.items) ms ns (writes (p.items ++ q.items)) (writes-append p.items q.items) p.writes q.writes;
}

pub course_none : (c : Conn) → Course c c [] [] []
course_none c = record { items = []; goes = refl; reads = refl; steps = refl; writes = refl }

pub spelled-append : (fs gs : List Frame) → spellings (fs ++ gs) ≡ spellings fs ++ spellings gs
spelled-append [] gs = refl
spelled-append (f ∷ fs) gs = ap (λ (text : List ℕ). spelled f ++ text) (spelled-append fs gs) ∙ sym (append_assoc (spelled f) (spellings fs) (spellings gs))

pub output_joined : (old mid new : List ℕ) (fs gs : List Frame) → mid ≡ old ++ spellings fs → new ≡ mid ++ spellings gs → new ≡ old ++ spellings (fs ++ gs)
output_joined old mid new fs gs first second =
    second
    ∙ ap (λ (front : List ℕ). front ++ spellings gs) first
    ∙ append_assoc old (spellings fs) (spellings gs)
    ∙ ap (λ (rest : List ℕ). old ++ rest) (sym (spelled-append fs gs))

pub moves_joined : (c d e : Conn) (fs gs : List Frame) (xs ys : List Step) (old mid new : List ℕ) → Moves c d fs xs old mid → Moves d e gs ys mid new → Moves c e (fs ++ gs) (xs ++ ys) old new
moves_joined c d e fs gs xs ys old mid new p q = record {
  sent = p.sent ++ q.sent;
  course = course_joined c d e fs gs xs ys p.sent q.sent p.course q.course;
  output = output_joined old mid new p.sent q.sent p.output q.output;
}

pub moves_none : (c : Conn) (out : List ℕ) → Moves c c [] [] out out
moves_none c out = record { sent = []; course = course_none c; output = sym (append-nil out) }

pub moves_by : (c d : Conn) (fs : List Frame) (xs : List Step) (out : List ℕ) → Course c d fs xs [] → Moves c d fs xs out out
moves_by c d fs xs out course = record { sent = []; course = course; output = sym (append-nil out) }

-- ---- frames are written

wrote_of : List Frame → List Item
wrote_of [] = []
wrote_of (f ∷ fs) = Wrote f ∷ wrote_of fs

reads-wrote : (fs : List Frame) → reads (wrote_of fs) ≡ []
unfolding wrote_of
reads-wrote [] = refl
reads-wrote (f ∷ fs) = reads-wrote fs

steps-wrote : (fs : List Frame) → steps (wrote_of fs) ≡ []
unfolding wrote_of
steps-wrote [] = refl
steps-wrote (f ∷ fs) = steps-wrote fs

writes-wrote : (fs : List Frame) → writes (wrote_of fs) ≡ fs
unfolding wrote_of
writes-wrote [] = refl
writes-wrote (f ∷ fs) = ap (λ (gs : List Frame). f ∷ gs) (writes-wrote fs)

goes_wrote : (c : Conn) (fs : List Frame) (q : Part) → c.end ≡ None → c.busy ≡ None → Sends c.part fs q → Goes c (wrote_of fs) (record c { part = q })
unfolding wrote_of
goes_wrote c [] q end busy h = ap (λ (p : Part). record c { part = p }) h
goes_wrote c (f ∷ fs) q end busy h = ((record { end = end; busy = busy }, h.0), goes_wrote (record c { part = sent c.part f }) fs q end busy h.1)

-- what may be written is written
pub moves_settled : (c : Conn) (q : Part) (old new : List ℕ) → c.end ≡ None → c.busy ≡ None → Settles c.part old q new → Moves c (record c { part = q }) [] [] old new
moves_settled c q old new end busy h = record {
  sent = h.frames;
  course = record { items = wrote_of h.frames; goes = goes_wrote c h.frames q end busy h.sends; reads = reads-wrote h.frames; steps = steps-wrote h.frames; writes = writes-wrote h.frames };
  output = h.output;
}

-- ---- one item

pub course_read : (p : Part) (rows : List Row) (live : List Waiter) (over : Bool) (f : Frame) → offence p f ≡ None
    → Course (conn p rows [] live over []) (record (conn p rows [] live over []) { part = (heard p f).part; meaning = (heard p f).event }) (f ∷ []) [] []
course_read p rows live over f h =
    record { items = Read f ∷ []; goes = ((record { end = refl; busy = refl; meaning = refl; pending = refl; saying = refl }, h), refl); reads = refl; steps = refl; writes = refl }

pub course_tells : (c : Conn) (e : SessionEvent) → c.end ≡ None → c.busy ≡ None → c.meaning ≡ Some e → Course c (next c Tells) [] [] []
course_tells c e end busy m = record { items = Tells ∷ []; goes = ((record { end = end; busy = busy }, e, m), refl); reads = refl; steps = refl; writes = refl }

pub course_hands : (p : Part) (rows : List Row) (e : CallEvent) (es : List CallEvent) (live : List Waiter) (over : Bool)
    → Course (conn p rows (e ∷ es) live over []) (given e (conn p rows es live over [])) [] [] []
course_hands p rows e es live over =
    record { items = Hands ∷ []; goes = ((record { end = refl; busy = refl }, refl, refl, e, es, refl), refl); reads = refl; steps = refl; writes = refl }

pub course_wakes : (p : Part) (rows : List Row) (es : List CallEvent) (live : List Waiter) (over : Bool) (i : ℕ) → es ≡ [] → IsQuiet p → IsDue (conn p rows es live over []) i
    → Course (conn p rows es live over []) (resumed_at happenings.Woken i (slice_get live i) (conn p rows es live over [])) [] [] []
course_wakes p rows es live over i empty quiet due =
    record { items = Wakes i ∷ []; goes = (((record { end = refl; busy = refl; meaning = refl; pending = empty; saying = refl }, quiet), due), refl); reads = refl; steps = refl; writes = refl }

pub course_says : (p : Part) (rows : List Row) (es : List CallEvent) (live : List Waiter) (over : Bool) (x : Saying) (xs : List Saying)
    → Course (conn p rows es live over (x ∷ xs)) (spoken x (conn p rows es live over xs)) [] [] []
course_says p rows es live over x xs =
    record { items = Says ∷ []; goes = ((record { end = refl; busy = refl }, x, xs, refl), refl); reads = refl; steps = refl; writes = refl }

pub course_ends : (c : Conn) (end : ConnEnd) → c.end ≡ None → MayStop end c → Course c (record c { end = Some end }) [] [] []
course_ends c end free may = record { items = Ends end ∷ []; goes = ((free, may), refl); reads = refl; steps = refl; writes = refl }

-- ---- the steps of a turn, whatever the turn

does_of : List Step → List Item
does_of [] = []
does_of (x ∷ xs) = Does x ∷ does_of xs

reads-does : (xs : List Step) → reads (does_of xs) ≡ []
unfolding does_of
reads-does [] = refl
reads-does (x ∷ xs) = reads-does xs

steps-does : (xs : List Step) → steps (does_of xs) ≡ xs
unfolding does_of
steps-does [] = refl
steps-does (x ∷ xs) = ap (λ (ys : List Step). x ∷ ys) (steps-does xs)

writes-does : (xs : List Step) → writes (does_of xs) ≡ []
unfolding does_of
writes-does [] = refl
writes-does (x ∷ xs) = writes-does xs

goes_does : (p : Part) (rows : List Row) (es : List CallEvent) (live : List Waiter) (over : Bool) (n : ℕ) (row : Option ℕ) (xs : List Step) (t u : Turn) → Follows t xs u
    → Goes (go t n row (conn p rows es live over [])) (does_of xs) (go u n row (conn p rows es live over []))
unfolding does_of
goes_does p rows es live over n row [] t u h = ap (λ (x : Turn). go x n row (conn p rows es live over [])) h
goes_does p rows es live over n row (x ∷ xs) (Make event k) u h = ((refl, h.0), goes_does p rows es live over n row xs (after (Make event k) x) u h.1)
goes_does p rows es live over n row (x ∷ xs) (Room wanting t) u h = ((refl, h.0), goes_does p rows es live over n row xs (after (Room wanting t) x) u h.1)
goes_does p rows es live over n row (x ∷ xs) (Ask asked k) u h = ((refl, h.0), goes_does p rows es live over n row xs (after (Ask asked k) x) u h.1)
goes_does p rows es live over n row (x ∷ xs) (End outcome) u h = absurd h.0

pub course_does : (p : Part) (rows : List Row) (es : List CallEvent) (live : List Waiter) (over : Bool) (n : ℕ) (row : Option ℕ) (xs : List Step) (t u : Turn) → Follows t xs u
    → Course (go t n row (conn p rows es live over [])) (go u n row (conn p rows es live over [])) [] xs []
course_does p rows es live over n row xs t u h =
    record { items = does_of xs; goes = goes_does p rows es live over n row xs t u h; reads = reads-does xs; steps = steps-does xs; writes = writes-does xs }
