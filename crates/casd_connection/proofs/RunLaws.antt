-- The loop's one fact, over settling and reading, and the ends.
use Rattle.std.proofs.Common.{inl, inr, ◌≡◌, ◌∙◌, ◌+◌, ◌-◌, ◌≤◌, ◌<◌, ◌^◌, ℕ, zero, suc, Bool, true, false, List, [], ◌∷◌, ◌++◌, append_assoc, length, take, drop, Option, Some, None, Result, Ok, Err, IfErr, OnOk, refl, sym, ap, subst, arith}
use Rattle.std.specs.Prelude.{◌⊎◌, min}
use Rattle.std.proofs.lemmas.List.{append-nil, length-append, take-append-drop, length-take-le, take_all}
use Rattle.proto_wire.specs.Reading.{IsBytes}
use Rattle.h2_frames.specs.declared.frame.Frame.{Frame}
use Rattle.h2_frames.specs.declared.fault.FrameFault.{FrameFault}
use Rattle.h2_frames.specs.Stream.{Pending, fed, fed_by, rest_place}
use Rattle.h2_frames.specs.Grammar.{IsStream, HasGiven}
use Rattle.h2_frames.proofs.Streams.{feeds}
use Rattle.h2_session.specs.declared.role.Role.TheVariants as roles
use Rattle.h2_session.specs.Sent.{spellings}
use Rattle.h2_session.specs.Session.{first_output}
use Rattle.grpc_calls.specs.Calls.{Calls}
use Rattle.casd_base.specs.Causes.{Rose}
use Rattle.casd_base.specs.declared.sink.SinkEnd.{SinkEnd}
use Rattle.casd_base.specs.declared.sink.SinkEnd.TheVariants as sinks
use Rattle.blob_store.specs.View.{View}
use Rattle.blob_store.specs.Shelves.{Shelved}
use Rattle.cas_calls.specs.Script.{Step}
use Rattle.casd_connection.specs.Waiters.{Waiter}
use Rattle.casd_connection.specs.declared.end.ConnEnd.{ConnEnd}
use Rattle.casd_connection.specs.declared.end.ConnEnd.TheVariants as ends
use Rattle.casd_connection.specs.declared.frames.Taken.{Taken}
use Rattle.casd_connection.specs.declared.frames.Taken.TheVariants as takens
use Rattle.casd_connection.specs.Exchange.{Conn, NoneDue, start, MayStop, IsStill, IsSettled}
use Rattle.casd_connection.specs.Course.{Course}
use Rattle.casd_connection.specs.Linked.{Linked, Carries, IsUnmet, FoundEnd}
use Rattle.casd_connection.specs.Writes.{Writes, Refuses, ReadsBytes, MeetsEnd}
use Rattle.casd_connection.specs.Written.{Written, ReadsSo, WritesSo, Cause, Offends, AreFirst, frames_of, all_out}
use Rattle.casd_connection.specs.Steps.{at, IsServing, Does, Runs, RunsTo, RunsInto, RunsOut, Wakened, IsAll, Takes}
use Rattle.casd_connection.specs.Stands.{State, state, IsReady, Stands, IsTakenAt, IsSettledAt, Ran, TakesAll, ReadsOn, Flushes, TakesIn, write_end, end_of, is_out, end_at}
use Rattle.casd_connection.proofs.CourseLaws.{course_joined, course_ends, output_joined, spelled-append}
use Rattle.casd_connection.proofs.TurnLaws.{does_joined, due_over}
use Rattle.casd_connection.proofs.LoopLaws.{frames-append}
use Rattle.casd_connection.proofs.LinkLaws.{carries_written, unmet_written, carries_read, carries_failed, rose_since}

-- ---- the exchange so far, and one more run

-- the exchange that stands, and a run behind it
record Gone (v w : View) (x y : Shelved) (ins : List ℕ) (last : Conn) (sent : List Frame) (reader : Pending) : Type 0 where
  frames : List (ℕ × Frame)
  steps : List Step
  turns : ℕ
  course : Course start last (frames_of frames) steps sent
  free : last.end ≡ None
  does : Does v w x y turns steps
  given : HasGiven true ins frames reader

gone_on : (u v w : View) (x y z : Shelved) (a b : Linked) (s : State) (last : Conn) (more : List Frame) (reader : Pending) → (k : Stands u v x y a b s) → (r : Runs v w y z (at s.calls s.live s.over []) last more s.calls.reader reader)
    → Gone u w x z k.ins last (k.sent ++ more) reader
gone_on u v w x y z a b s last more reader k r = record {
  frames = k.frames ++ r.frames;
  steps = k.steps ++ r.steps;
  turns = k.turns + r.turns;
  course = subst (λ (fs : List Frame). Course start last fs (k.steps ++ r.steps) (k.sent ++ more)) (sym (frames-append k.frames r.frames))
      (course_joined start (at s.calls s.live s.over []) last (frames_of k.frames) (frames_of r.frames) k.steps r.steps k.sent more k.course r.course);
  free = r.free;
  does = does_joined u v w x y z k.turns r.turns k.steps r.steps k.does r.does;
  given = r.given k.ins k.frames k.bytes k.given;
}

-- what was written before, and the output that the run adds
out_more : (sent more : List Frame) (outs old rest : List ℕ) → all_out sent ≡ outs ++ old → all_out (sent ++ more) ++ rest ≡ outs ++ (old ++ (spellings more ++ rest))
out_more sent more outs old rest h =
    let first = first_output roles.Server in
    append_assoc first (spellings (sent ++ more)) rest
    ∙ ap (λ (xs : List ℕ). first ++ (xs ++ rest)) (spelled-append sent more)
    ∙ ap (λ (xs : List ℕ). first ++ xs) (append_assoc (spellings sent) (spellings more) rest)
    ∙ sym (append_assoc first (spellings sent) (spellings more ++ rest))
    ∙ ap (λ (xs : List ℕ). xs ++ (spellings more ++ rest)) h
    ∙ append_assoc outs old (spellings more ++ rest)

out_just : (sent more : List Frame) (outs old : List ℕ) → all_out sent ≡ outs ++ old → all_out (sent ++ more) ≡ outs ++ (old ++ spellings more)
out_just sent more outs old h =
    sym (append-nil (all_out (sent ++ more))) ∙ out_more sent more outs old [] h ∙ ap (λ (xs : List ℕ). outs ++ (old ++ xs)) (append-nil (spellings more))

-- how many bytes were written
counted : (w n m : ℕ) (outs more : List ℕ) → w ≡ min (length outs) (2 ^ 64 - 1) → n ≡ min (w + length more) (2 ^ 64 - 1) → n ≡ min (length (outs ++ more)) (2 ^ 64 - 1)
counted w n m outs more first second = omega (arith, first, second, length-append outs more)

-- ---- an end

-- the loop is left, with what was written
record Left (end : ConnEnd) (ins outs : List ℕ) (last : Conn) (frames : List (ℕ × Frame)) (sent : List Frame) (a b : Linked) (left : ℕ) : Type 0 where
  may : MayStop end last
  reads : ReadsSo end ins frames (record last { end = Some end })
  writes : WritesSo end outs ins frames (record last { end = Some end }) sent
  cause : Cause end last.over a b (length ins) left

ran_so : (end : ConnEnd) (u w : View) (x z : Shelved) (a b : Linked) (ins outs : List ℕ) (last : Conn) (sent : List Frame) (reader : Pending) (read written : ℕ)
    → (g : Gone u w x z ins last sent reader) → Left end ins outs last g.frames sent a b w.left → Carries a b ins outs → read ≡ length ins → written ≡ min (length outs) (2 ^ 64 - 1) → Ran end u w x z a b read written
ran_so end u w x z a b ins outs last sent reader read written g l carries read_is written_is = record {
  ins = ins;
  outs = outs;
  steps = g.steps;
  turns = g.turns;
  whole = record {
    frames = g.frames;
    sent = sent;
    last = record last { end = Some end };
    course = no_more last (record last { end = Some end }) (frames_of g.frames) g.steps sent (course_joined start last (record last { end = Some end }) (frames_of g.frames) [] g.steps [] sent [] g.course (course_ends last end g.free l.may));
    ended = refl;
    reads = l.reads;
    writes = l.writes;
  };
  does = g.does;
  carries = carries;
  cause = l.cause;
  read_is = read_is;
  written_is = written_is;
}
  where
    no_more : (c d : Conn) (fs : List Frame) (xs : List Step) (ms : List Frame) → Course start d (fs ++ []) (xs ++ []) (ms ++ []) → Course start d fs xs ms
    no_more c d fs xs ms k =
        subst (λ (qs : List Frame). Course start d qs xs ms) (append-nil fs)
        (subst (λ (qs : List Step). Course start d (fs ++ []) qs ms) (append-nil xs)
        (subst (λ (qs : List Frame). Course start d (fs ++ []) (xs ++ []) qs) (append-nil ms) k))

-- all that the last frame calls for is done, and nothing may be written
still : (c : Calls) (live : List Waiter) (over : Bool) → IsServing c → c.pending ≡ [] → IsStill (at c live over [])
still c live over serving pending = (record { end = refl; busy = refl; meaning = refl; pending = pending; saying = refl }, serving.quiet)

-- ---- memory ran out on the way

pub settle_out : (u v w : View) (x y z : Shelved) (a b : Linked) (s : State) → (k : Stands u v x y a b s) → RunsOut v w y z s.calls s.live s.over → Ran ends.OutOfMemory u w x z a b s.read s.written
settle_out u v w x y z a b s k r =
    let g = gone_on u v w x y z a b s r.last r.sent r.reader k r.runs in
    ran_so ends.OutOfMemory u w x z a b k.ins k.outs r.last (k.sent ++ r.sent) r.reader s.read s.written g
    (record {
      may = tt;
      reads = (r.reader, g.given);
      writes = inl (s.calls.session.output ++ spellings r.sent, sym (out_just k.sent r.sent k.outs s.calls.session.output k.output));
      cause = tt;
    })
    k.carries k.read k.written

-- ---- a write was refused

-- the two ends that a refused write brings
IsRefusal : ConnEnd → Linked → Linked → Type 0
IsRefusal end a b = ((end ≡ ends.WriteFault) × Rose a.write_faults b.write_faults) ⊎ (end ≡ ends.OutOfMemory)

-- what was written of all that was to be written
some_out : (sent more : List Frame) (outs old now part rest : List ℕ) → all_out sent ≡ outs ++ old → now ≡ old ++ spellings more → part ++ rest ≡ now → (outs ++ part) ++ rest ≡ all_out (sent ++ more)
some_out sent more outs old now part rest h is cut =
    append_assoc outs part rest ∙ ap (λ (xs : List ℕ). outs ++ xs) (cut ∙ is) ∙ sym (out_just sent more outs old h)

some_away : (sent more : List Frame) (outs old now part rest text : List ℕ) → all_out sent ≡ outs ++ old → now ≡ old ++ (spellings more ++ text) → part ++ rest ≡ now → (outs ++ part) ++ rest ≡ all_out (sent ++ more) ++ text
some_away sent more outs old now part rest text h is cut =
    append_assoc outs part rest ∙ ap (λ (xs : List ℕ). outs ++ xs) (cut ∙ is) ∙ sym (out_more sent more outs old text h)

refused_to : (end : ConnEnd) (u v w : View) (x y z : Shelved) (a b c : Linked) (s : State) (d : Calls) (live : List Waiter) (over : Bool) (part rest : List ℕ) (written : ℕ) → (k : Stands u v x y a b s) → RunsTo v w y z s.calls d s.live live s.over over
    → part ++ rest ≡ d.session.output → Writes b c part → IsRefusal end b c → written ≡ min (s.written + length part) (2 ^ 64 - 1) → Ran end u w x z a c s.read written
unfolding IsRefusal
refused_to end u v w x y z a b c s d live over part rest written k r cut writes why count =
    let g = gone_on u v w x y z a b s (at d live over []) r.sent d.reader k r.runs in
    let outs = k.outs ++ part in
    let whole : outs ++ rest ≡ all_out (k.sent ++ r.sent) = some_out k.sent r.sent k.outs s.calls.session.output d.session.output part rest k.output r.output cut in
    let carries = carries_written a b c k.ins k.outs part k.carries writes in
    let counts = counted s.written written 0 k.outs part k.written count in
    elim why [
      | inl f ↦ subst (λ (e : ConnEnd). Ran e u w x z a c s.read written) (sym f.0)
          (ran_so ends.WriteFault u w x z a c k.ins outs (at d live over []) (k.sent ++ r.sent) d.reader s.read written g
          (record { may = still d live over r.serving r.pending; reads = (d.reader, g.given); writes = inl (rest, whole); cause = rose_since a.write_faults b.write_faults c.write_faults k.carries.write_count f.1 })
          carries k.read counts)
      | inr f ↦ subst (λ (e : ConnEnd). Ran e u w x z a c s.read written) (sym f)
          (ran_so ends.OutOfMemory u w x z a c k.ins outs (at d live over []) (k.sent ++ r.sent) d.reader s.read written g
          (record { may = tt; reads = (d.reader, g.given); writes = inl (rest, whole); cause = tt })
          carries k.read counts)
    ]

refused_into : (end : ConnEnd) (u v w : View) (x y z : Shelved) (a b c : Linked) (s : State) (code place : ℕ) (output part rest : List ℕ) (written : ℕ) → (k : Stands u v x y a b s) → RunsInto v w y z s.calls s.live s.over code place output
    → part ++ rest ≡ output → Writes b c part → IsRefusal end b c → written ≡ min (s.written + length part) (2 ^ 64 - 1) → Ran end u w x z a c s.read written
unfolding IsRefusal gone_on
refused_into end u v w x y z a b c s code place output part rest written k r cut writes why count =
    let last = at r.before r.waits r.still [] in
    let g = gone_on u v w x y z a b s last r.sent r.before.reader k r.runs in
    let outs = k.outs ++ part in
    let offends : Offends k.ins g.frames r.before.session.part code place r.text = r.offends k.ins k.frames k.bytes k.given in
    let whole : outs ++ rest ≡ all_out (k.sent ++ r.sent) ++ r.text = some_away k.sent r.sent k.outs s.calls.session.output output part rest r.text k.output r.wrote cut in
    let carries = carries_written a b c k.ins k.outs part k.carries writes in
    let counts = counted s.written written 0 k.outs part k.written count in
    elim why [
      | inl f ↦ subst (λ (e : ConnEnd). Ran e u w x z a c s.read written) (sym f.0)
          (ran_so ends.WriteFault u w x z a c k.ins outs last (k.sent ++ r.sent) r.before.reader s.read written g
          (record { may = still r.before r.waits r.still r.serving r.pending; reads = (r.before.reader, g.given); writes = inr (code, place, r.text, offends, (rest, whole)); cause = rose_since a.write_faults b.write_faults c.write_faults k.carries.write_count f.1 })
          carries k.read counts)
      | inr f ↦ subst (λ (e : ConnEnd). Ran e u w x z a c s.read written) (sym f)
          (ran_so ends.OutOfMemory u w x z a c k.ins outs last (k.sent ++ r.sent) r.before.reader s.read written g
          (record { may = tt; reads = (r.before.reader, g.given); writes = inr (code, place, r.text, offends, (rest, whole)); cause = tt })
          carries k.read counts)
    ]

-- what was written of the output, and why no more
pub flushed_part : (end : ConnEnd) (a b : Linked) (s t : State) (bytes : List ℕ) (n : ℕ) → bytes ≡ s.calls.session.output → n ≤ length bytes → Writes a b (take n bytes)
    → ((end ≡ ends.WriteFault) × Rose a.write_faults b.write_faults) ⊎ (end ≡ ends.OutOfMemory) → t.read ≡ s.read → t.written ≡ min (s.written + n) (2 ^ 64 - 1) → Flushes (Some end) a b s t
flushed_part end a b s t bytes n is le writes why read written =
    (take n bytes, drop n bytes, take-append-drop n bytes ∙ is, writes, why, read, omega (arith, written, length-take-le n bytes le))

pub flushed_by : {T : Type 0} (r : Result T SinkEnd) (a b : Linked) (s : State) (d : Calls) (bytes : List ℕ) (n written : ℕ) → bytes ≡ s.calls.session.output → d ≡ record s.calls { session = record s.calls.session { output = [] } } → n ≤ length bytes
    → Writes a b (take n bytes) → OnOk r (n ≡ length bytes) → IfErr r (Refuses a b) → written ≡ min (s.written + n) (2 ^ 64 - 1) → Flushes (write_end r) a b s (state d s.live s.over s.read written)
flushed_by (Ok x) a b s d bytes n written is rest le writes all refuses count =
    let whole : take n bytes ≡ s.calls.session.output = take_all n bytes (omega (arith, all)) ∙ is in
    let many : written ≡ min (s.written + length s.calls.session.output) (2 ^ 64 - 1) = count ∙ ap (λ (m : ℕ). min (s.written + m) (2 ^ 64 - 1)) (all ∙ ap (λ (xs : List ℕ). length xs) is) in
    (subst (λ (xs : List ℕ). Writes a b xs) whole writes, ap (λ (m : Calls). state m s.live s.over s.read written) rest ∙ ap (λ (m : ℕ). state (record s.calls { session = record s.calls.session { output = [] } }) s.live s.over s.read m) many)
flushed_by (Err sinks.Failed) a b s d bytes n written is rest le writes all refuses count =
    flushed_part ends.WriteFault a b s (state d s.live s.over s.read written) bytes n is le writes (inl (refl, refuses)) refl count
flushed_by (Err sinks.OutOfMemory) a b s d bytes n written is rest le writes all refuses count =
    flushed_part ends.OutOfMemory a b s (state d s.live s.over s.read written) bytes n is le writes (inr refl) refl count

pub fits_by : (taken : Taken) → is_out taken ≡ false → taken ≡ takens.OutOfMemory → ⊥
fits_by taken fits is = let out : is_out taken ≡ true = ap (λ (t : Taken). is_out t) is in cc

pub out_by : (taken : Taken) (v w : View) (x y : Shelved) (c d : Calls) (live live' : List Waiter) (over over' : Bool) → is_out taken ≡ true → Takes taken v w x y c d live live' over over' → RunsOut v w x y c live over
out_by takens.OutOfMemory v w x y c d live live' over over' is h = h
out_by takens.All v w x y c d live live' over over' is h = absurd cc
out_by takens.Over v w x y c d live live' over over' is h = absurd cc
out_by takens.Spent v w x y c d live live' over over' is h = absurd cc
out_by (takens.Offence code place) v w x y c d live live' over over' is h = absurd cc

-- a piece that brings no end was taken whole
pub all_by : (taken : Taken) → is_out taken ≡ false → end_of taken ≡ None → taken ≡ takens.All
all_by takens.All fits none = refl
all_by takens.Over fits none = absurd cc
all_by takens.Spent fits none = absurd cc
all_by (takens.Offence code place) fits none = absurd cc
all_by takens.OutOfMemory fits none = absurd cc

-- it leaves the connection ready
pub ready_by : (taken : Taken) (v w : View) (x y : Shelved) (c d : Calls) (live live' : List Waiter) (over over' : Bool) (a b : Linked) (s t : State) → taken ≡ takens.All → Takes taken v w x y c d live live' over over' → Flushes None a b (state d live' over' s.read s.written) t
    → w.entered ≡ true → 2 ^ 29 ≤ w.left → d.reader.at + length d.reader.rest ≡ s.read → s.read ≤ 2 ^ 50 → IsReady t w
ready_by taken v w x y c d live live' over over' a b s t all takes f is_in turns fed few =
    let k = (subst (λ (q : Taken). Takes q v w x y c d live live' over over') all takes).0 in
    subst (λ (n : State). IsReady n w) (sym f.1)
    (record { serving = record { sound = k.serving.sound; role = k.serving.role; quiet = k.serving.quiet }; pending = k.pending; is_in = is_in; turns = turns; fed = fed; few = few })

-- whatever was taken, a write was refused
pub settle_refused : (taken : Taken) (end : ConnEnd) (u v w : View) (x y z : Shelved) (a b c : Linked) (s : State) (d : Calls) (live : List Waiter) (over : Bool) (t : State) → (k : Stands u v x y a b s)
    → Takes taken v w y z s.calls d s.live live s.over over → (taken ≡ takens.OutOfMemory → ⊥) → Flushes (Some end) b c (state d live over s.read s.written) t → Ran end u w x z a c t.read t.written
unfolding IsRefusal
settle_refused taken end u v w x y z a b c s d live over t k takes fits f =
    let to : RunsTo v w y z s.calls d s.live live s.over over → Ran end u w x z a c s.read t.written = λ r. refused_to end u v w x y z a b c s d live over f.0 f.1 t.written k r f.2 f.3 f.4 f.6 in
    subst (λ (n : ℕ). Ran end u w x z a c n t.written) (sym f.5) (by taken takes fits to)
  where
    by : (taken : Taken) → Takes taken v w y z s.calls d s.live live s.over over → (taken ≡ takens.OutOfMemory → ⊥) → (RunsTo v w y z s.calls d s.live live s.over over → Ran end u w x z a c s.read t.written) → Ran end u w x z a c s.read t.written
    by takens.All h fits to = to h.0
    by takens.Over h fits to = to h.0
    by takens.Spent h fits to = to h.0
    by (takens.Offence code place) h fits to = refused_into end u v w x y z a b c s code place d.session.output f.0 f.1 t.written k h f.2 f.3 f.4 f.6
    by takens.OutOfMemory h fits to = absurd (fits refl)

-- ---- all was written

wrote_to : (u v w : View) (x y z : Shelved) (a b c : Linked) (s : State) (d : Calls) (live : List Waiter) (over : Bool) → (k : Stands u v x y a b s) → (r : RunsTo v w y z s.calls d s.live live s.over over) → Writes b c d.session.output
    → Stands u w x z a c (state (record d { session = record d.session { output = [] } }) live over s.read (min (s.written + length d.session.output) (2 ^ 64 - 1)))
wrote_to u v w x y z a b c s d live over k r writes =
    let g = gone_on u v w x y z a b s (at d live over []) r.sent d.reader k r.runs in
    let outs = k.outs ++ d.session.output in
    let whole : outs ++ [] ≡ all_out (k.sent ++ r.sent) = some_out k.sent r.sent k.outs s.calls.session.output d.session.output d.session.output [] k.output r.output (append-nil d.session.output) in
    record {
      ins = k.ins;
      outs = outs;
      frames = g.frames;
      steps = g.steps;
      sent = k.sent ++ r.sent;
      turns = g.turns;
      course = g.course;
      does = g.does;
      bytes = k.bytes;
      given = g.given;
      output = sym whole;
      carries = carries_written a b c k.ins k.outs d.session.output k.carries writes;
      unmet = unmet_written a b c d.session.output k.unmet writes;
      read = k.read;
      written = counted s.written (min (s.written + length d.session.output) (2 ^ 64 - 1)) 0 k.outs d.session.output k.written refl;
    }

-- the loop is left with all written
wrote_left : (end : ConnEnd) (u w : View) (x z : Shelved) (a b : Linked) (t : State) → (k : Stands u w x z a b t) → t.calls.session.output ≡ [] → IsServing t.calls → t.calls.pending ≡ []
    → (IsStill (at t.calls t.live t.over []) → MayStop end (at t.calls t.live t.over [])) → ReadsSo end k.ins k.frames (record (at t.calls t.live t.over []) { end = Some end })
    → ((outs : List ℕ) → outs ≡ all_out k.sent → WritesSo end outs k.ins k.frames (record (at t.calls t.live t.over []) { end = Some end }) k.sent)
    → Cause end t.over a b (length k.ins) w.left → Ran end u w x z a b t.read t.written
wrote_left end u w x z a b t k empty serving pending may reads writes cause =
    ran_so end u w x z a b k.ins k.outs (at t.calls t.live t.over []) k.sent t.calls.reader t.read t.written
    (record { frames = k.frames; steps = k.steps; turns = k.turns; course = k.course; free = refl; does = k.does; given = k.given })
    (record { may = may (still t.calls t.live t.over serving pending); reads = reads; writes = writes k.outs (sym (k.output ∙ ap (λ (xs : List ℕ). k.outs ++ xs) empty ∙ append-nil k.outs)); cause = cause })
    k.carries k.read k.written

wrote_into : (u v w : View) (x y z : Shelved) (a b c : Linked) (s : State) (code place : ℕ) (output : List ℕ) (written : ℕ) → (k : Stands u v x y a b s) → RunsInto v w y z s.calls s.live s.over code place output
    → Writes b c output → written ≡ min (s.written + length output) (2 ^ 64 - 1) → Ran (ends.Protocol code place) u w x z a c s.read written
unfolding gone_on
wrote_into u v w x y z a b c s code place output written k r writes count =
    let last = at r.before r.waits r.still [] in
    let g = gone_on u v w x y z a b s last r.sent r.before.reader k r.runs in
    let outs = k.outs ++ output in
    let offends : Offends k.ins g.frames r.before.session.part code place r.text = r.offends k.ins k.frames k.bytes k.given in
    let whole : outs ++ [] ≡ all_out (k.sent ++ r.sent) ++ r.text = some_away k.sent r.sent k.outs s.calls.session.output output output [] r.text k.output r.wrote (append-nil output) in
    ran_so (ends.Protocol code place) u w x z a c k.ins outs last (k.sent ++ r.sent) r.before.reader s.read written g
    (record { may = still r.before r.waits r.still r.serving r.pending; reads = (r.before.reader, g.given); writes = (r.text, offends, sym (append-nil outs) ∙ whole); cause = tt })
    (carries_written a b c k.ins k.outs output k.carries writes) k.read (counted s.written written 0 k.outs output k.written count)

pub settle_wrote : (taken : Taken) (u v w : View) (x y z : Shelved) (a b c : Linked) (s : State) (d : Calls) (live : List Waiter) (over : Bool) (t : State) → (k : Stands u v x y a b s)
    → Takes taken v w y z s.calls d s.live live s.over over → (taken ≡ takens.OutOfMemory → ⊥) → Flushes None b c (state d live over s.read s.written) t → TakesAll (end_of taken) u w x z a c t
unfolding wrote_to gone_on
settle_wrote taken u v w x y z a b c s d live over t k takes fits f =
    subst (λ (n : State). TakesAll (end_of taken) u w x z a c n) (sym f.1) (by taken takes fits)
  where
    now : State
    now = state (record d { session = record d.session { output = [] } }) live over s.read (min (s.written + length d.session.output) (2 ^ 64 - 1))

    by : (taken : Taken) → Takes taken v w y z s.calls d s.live live s.over over → (taken ≡ takens.OutOfMemory → ⊥) → TakesAll (end_of taken) u w x z a c now
    by takens.All h fits = record { stands = wrote_to u v w x y z a b c s d live over k h.0 f.0; stream = h.1 k.ins k.frames k.bytes k.given; empty = refl }
    by takens.Over h fits =
        let st = wrote_to u v w x y z a b c s d live over k h.0 f.0 in
        wrote_left ends.Done u w x z a c now st refl (record { sound = h.0.serving.sound; role = h.0.serving.role; quiet = h.0.serving.quiet }) h.0.pending (λ m. (m, due_over d.session.part live h.2)) (inr ((d.reader, st.given), (h.1, h.2))) (λ outs e. e) (inr h.1)
    by takens.Spent h fits =
        let st = wrote_to u v w x y z a b c s d live over k h.0 f.0 in
        wrote_left ends.Spent u w x z a c now st refl (record { sound = h.0.serving.sound; role = h.0.serving.role; quiet = h.0.serving.quiet }) h.0.pending (λ m. m) (d.reader, st.given) (λ outs e. e) (inr h.1)
    by (takens.Offence code place) h fits = wrote_into u v w x y z a b c s code place d.session.output (min (s.written + length d.session.output) (2 ^ 64 - 1)) k h f.0 refl
    by takens.OutOfMemory h fits = absurd (fits refl)

-- ---- a call was given a turn

-- the frames that were read are the same
same_frames : (place : Option ℕ) (ins : List ℕ) (ps qs : List (ℕ × Frame)) → qs ≡ [] → IsStream true ins ps None place → IsStream true ins (ps ++ qs) None place
same_frames place ins ps qs none h = subst (λ (xs : List (ℕ × Frame)). IsStream true ins xs None place) (sym (append-nil ps) ∙ ap (λ (xs : List (ℕ × Frame)). ps ++ xs) (sym none)) h

pub gave_wrote : (u v w : View) (x y z : Shelved) (a b c : Linked) (s : State) (d : Calls) (live : List Waiter) (over : Bool) (t : State) → IsTakenAt u v x y a b s → Wakened v w y z s.calls d s.live live s.over over
    → Flushes None b c (state d live over s.read s.written) t → IsTakenAt u w x z a c t
unfolding wrote_to gone_on
gave_wrote u v w x y z a b c s d live over t k r f =
    subst (λ (n : State). IsTakenAt u w x z a c n) (sym f.1)
    (record {
      stands = wrote_to u v w x y z a b c s d live over k.stands r.run f.0;
      stream = subst (λ (q : Pending). IsStream true k.stands.ins (k.stands.frames ++ r.run.runs.frames) None (rest_place q)) (sym r.reader) (same_frames (rest_place s.calls.reader) k.stands.ins k.stands.frames r.run.runs.frames r.frames k.stream);
      empty = refl;
    })

pub gave_refused : (end : ConnEnd) (u v w : View) (x y z : Shelved) (a b c : Linked) (s : State) (d : Calls) (live : List Waiter) (over : Bool) (t : State) → IsTakenAt u v x y a b s → Wakened v w y z s.calls d s.live live s.over over
    → Flushes (Some end) b c (state d live over s.read s.written) t → Ran end u w x z a c t.read t.written
unfolding IsRefusal
gave_refused end u v w x y z a b c s d live over t k r f =
    subst (λ (n : ℕ). Ran end u w x z a c n t.written) (sym f.5) (refused_to end u v w x y z a b c s d live over f.0 f.1 t.written k.stands r.run f.2 f.3 f.4 f.6)

pub gave_by : (result : Option ConnEnd) (u v w : View) (x y z : Shelved) (a b c : Linked) (s : State) (d : Calls) (live : List Waiter) (over : Bool) (t : State) → IsTakenAt u v x y a b s → Wakened v w y z s.calls d s.live live s.over over
    → Flushes result b c (state d live over s.read s.written) t → TakesAll result u w x z a c t
gave_by None u v w x y z a b c s d live over t k r f = gave_wrote u v w x y z a b c s d live over t k r f
gave_by (Some end) u v w x y z a b c s d live over t k r f = gave_refused end u v w x y z a b c s d live over t k r f

-- the connection is ready then
pub ready_given : (v w : View) (y z : Shelved) (b c : Linked) (s : State) (d : Calls) (live : List Waiter) (over : Bool) (t : State) → IsReady s v → Wakened v w y z s.calls d s.live live s.over over → Flushes None b c (state d live over s.read s.written) t
    → w.entered ≡ true → 2 ^ 29 ≤ w.left → IsReady t w
ready_given v w y z b c s d live over t ready r f is_in turns =
    subst (λ (n : State). IsReady n w) (sym f.1)
    (record {
      serving = record { sound = r.run.serving.sound; role = r.run.serving.role; quiet = r.run.serving.quiet };
      pending = r.run.pending;
      is_in = is_in;
      turns = turns;
      fed = omega (arith, ready.fed, ap (λ (q : Pending). q.at + length q.rest) r.reader);
      few = ready.few;
    })

-- the door may take too few turns
pub give_spent : (u w : View) (x z : Shelved) (a b : Linked) (s : State) → IsTakenAt u w x z a b s → IsServing s.calls → s.calls.pending ≡ [] → w.left < 2 ^ 40 → Ran ends.Spent u w x z a b s.read s.written
give_spent u w x z a b s k serving pending few =
    wrote_left ends.Spent u w x z a b s k.stands k.empty serving pending (λ m. m) (s.calls.reader, k.stands.given) (λ outs e. e) (inr few)

-- ---- reading

bytes_joined : (xs ys : List ℕ) → IsBytes xs → IsBytes ys → IsBytes (xs ++ ys)
bytes_joined [] ys p q i = q i
bytes_joined (x ∷ xs) ys p q zero = p zero
bytes_joined (x ∷ xs) ys p q (suc i) = bytes_joined xs ys (λ j. p (suc j)) q i

pub read_spent : (u w : View) (x z : Shelved) (a b : Linked) (s : State) → IsSettledAt u w x z a b s → IsServing s.calls → s.calls.pending ≡ [] → s.read ≡ 2 ^ 50 → Ran ends.Spent u w x z a b s.read s.written
read_spent u w x z a b s k serving pending many =
    wrote_left ends.Spent u w x z a b s k.taken.stands k.taken.empty serving pending (λ m. m) (s.calls.reader, k.taken.stands.given) (λ outs e. e) (inl (sym k.taken.stands.read ∙ many))

-- the loop is left at the link as it is after a read
read_left : (end : ConnEnd) (u w : View) (x z : Shelved) (a b c : Linked) (s : State) → (k : IsSettledAt u w x z a b s) → IsServing s.calls → s.calls.pending ≡ [] → Carries a c k.taken.stands.ins k.taken.stands.outs
    → (IsSettled (at s.calls s.live s.over []) → MayStop end (at s.calls s.live s.over [])) → ReadsSo end k.taken.stands.ins k.taken.stands.frames (record (at s.calls s.live s.over []) { end = Some end })
    → ((outs : List ℕ) → outs ≡ all_out k.taken.stands.sent → WritesSo end outs k.taken.stands.ins k.taken.stands.frames (record (at s.calls s.live s.over []) { end = Some end }) k.taken.stands.sent)
    → Cause end s.over a c (length k.taken.stands.ins) w.left → Ran end u w x z a c s.read s.written
read_left end u w x z a b c s k serving pending carries may reads writes cause =
    let st = k.taken.stands in
    ran_so end u w x z a c st.ins st.outs (at s.calls s.live s.over []) st.sent s.calls.reader s.read s.written
    (record { frames = st.frames; steps = st.steps; turns = st.turns; course = st.course; free = refl; does = st.does; given = st.given })
    (record { may = may (still s.calls s.live s.over serving pending, k.none); reads = reads; writes = writes st.outs (sym (st.output ∙ ap (λ (xs : List ℕ). st.outs ++ xs) k.taken.empty ∙ append-nil st.outs)); cause = cause })
    carries st.read st.written

pub read_failed : (u w : View) (x z : Shelved) (a b c : Linked) (s : State) → IsSettledAt u w x z a b s → IsServing s.calls → s.calls.pending ≡ [] → c.left ≡ b.left → c.written ≡ b.written → b.read_faults ≤ c.read_faults → c.write_faults ≡ b.write_faults
    → Rose b.read_faults c.read_faults → Ran ends.ReadFault u w x z a c s.read s.written
read_failed u w x z a b c s k serving pending left written reads writes rose =
    read_left ends.ReadFault u w x z a b c s k serving pending (carries_failed a b c k.taken.stands.ins k.taken.stands.outs k.taken.stands.carries left written reads writes) (λ m. m) (rest_place s.calls.reader, k.taken.stream) (λ outs e. e)
    (rose_since a.read_faults b.read_faults c.read_faults k.taken.stands.carries.read_count rose)

pub read_done : (u w : View) (x z : Shelved) (a b c : Linked) (s : State) (bytes : List ℕ) (n : ℕ) (end : ConnEnd) → IsSettledAt u w x z a b s → IsServing s.calls → s.calls.pending ≡ [] → ReadsBytes b c (take n bytes) → n ≡ 0
    → MeetsEnd b c → end ≡ end_at (rest_place s.calls.reader) → Ran end u w x z a c s.read s.written
read_done u w x z a b c s bytes n end k serving pending reads none met told =
    subst (λ (e : ConnEnd). Ran e u w x z a c s.read s.written) (sym told) (by (rest_place s.calls.reader) k.taken.stream)
  where
    no_bytes : take n bytes ≡ []
    no_bytes = ap (λ (m : ℕ). take m bytes) none

    carries : Carries a c k.taken.stands.ins k.taken.stands.outs
    carries = subst (λ (xs : List ℕ). Carries a c xs k.taken.stands.outs) (ap (λ (xs : List ℕ). k.taken.stands.ins ++ xs) no_bytes ∙ append-nil k.taken.stands.ins)
        (carries_read a b c k.taken.stands.ins k.taken.stands.outs (take n bytes) k.taken.stands.carries reads.takes reads.written reads.read_count reads.write_count)

    by : (place : Option ℕ) → IsStream true k.taken.stands.ins k.taken.stands.frames None place → Ran (end_at place) u w x z a c s.read s.written
    by None stream = read_left ends.Done u w x z a b c s k serving pending carries (λ m. m) (inl stream) (λ outs e. e) (inl (met a k.taken.stands.unmet))
    by (Some at) stream = read_left (ends.Truncated at) u w x z a b c s k serving pending carries (λ m. m) stream (λ outs e. e) (met a k.taken.stands.unmet)

-- bytes were read
pub read_more : (u w : View) (x z : Shelved) (a b c : Linked) (s t : State) (bytes : List ℕ) → (k : IsSettledAt u w x z a b s) → IsBytes bytes → s.calls.reader.fault ≡ None → Carries a c (k.taken.stands.ins ++ bytes) k.taken.stands.outs → IsUnmet a c
    → t ≡ record s { calls = record s.calls { reader = fed bytes s.calls.reader }; read = s.read + length bytes } → Stands u w x z a c t
read_more u w x z a b c s t bytes k are sound carries unmet is =
    let st = k.taken.stands in
    subst (λ (n : State). Stands u w x z a c n) (sym is)
    (record {
      ins = st.ins ++ bytes;
      outs = st.outs;
      frames = st.frames;
      steps = st.steps;
      sent = st.sent;
      turns = st.turns;
      course = st.course;
      does = st.does;
      bytes = bytes_joined st.ins bytes st.bytes are;
      given = feeds true st.ins bytes st.frames s.calls.reader sound st.given;
      output = st.output;
      carries = carries;
      unmet = unmet;
      read = omega (arith, st.read, length-append st.ins bytes);
      written = st.written;
    })

-- they were read, and memory was wanting for them
pub read_out : (u w : View) (x z : Shelved) (a b c : Linked) (s : State) (bytes : List ℕ) (read : ℕ) → (k : IsSettledAt u w x z a b s) → s.calls.reader.fault ≡ None → Carries a c (k.taken.stands.ins ++ bytes) k.taken.stands.outs
    → read ≡ s.read + length bytes → Ran ends.OutOfMemory u w x z a c read s.written
read_out u w x z a b c s bytes read k sound carries count =
    let st = k.taken.stands in
    let given = feeds true st.ins bytes st.frames s.calls.reader sound st.given in
    ran_so ends.OutOfMemory u w x z a c (st.ins ++ bytes) st.outs (at s.calls s.live s.over []) st.sent (fed bytes s.calls.reader) read s.written
    (record { frames = st.frames; steps = st.steps; turns = st.turns; course = st.course; free = refl; does = st.does; given = given })
    (record { may = tt; reads = (fed bytes s.calls.reader, given); writes = inl (s.calls.session.output, sym st.output); cause = tt })
    carries (omega (arith, count, st.read, length-append st.ins bytes)) st.written

-- what was read was fed, or memory was wanting for it
pub read_in : (r : Option ConnEnd) (u w : View) (x z : Shelved) (a b c : Linked) (s t : State) (buffer : List ℕ) (n : ℕ) → (k : IsSettledAt u w x z a b s) → ReadsBytes b c (take n buffer) → 0 < n → n ≤ length buffer → IsBytes (take n buffer) → s.calls.reader.fault ≡ None
    → TakesIn r s t (take n buffer) → ReadsOn r u w x z a c t
read_in r u w x z a b c s t buffer n k reads some within are sound takes = by r takes
  where
    bytes : List ℕ
    bytes = take n buffer

    carries : Carries a c (k.taken.stands.ins ++ take n buffer) k.taken.stands.outs
    carries = carries_read a b c k.taken.stands.ins k.taken.stands.outs (take n buffer) k.taken.stands.carries reads.takes reads.written reads.read_count reads.write_count

    by : (r : Option ConnEnd) → TakesIn r s t (take n buffer) → ReadsOn r u w x z a c t
    by None h = read_more u w x z a b c s t (take n buffer) k are sound carries (reads.unmet (omega (arith, length-take-le n buffer within, some)) a k.taken.stands.unmet) h
    by (Some end) h =
        subst (λ (e : ConnEnd). Ran e u w x z a c t.read t.written) (sym h.0)
        (subst (λ (m : ℕ). Ran ends.OutOfMemory u w x z a c t.read m) (sym h.2) (read_out u w x z a b c s (take n buffer) t.read k sound carries h.1))

fed_grows : (f : Option FrameFault) (bytes : List ℕ) (r : Pending) → f ≡ None → (fed_by f bytes r).at + length (fed_by f bytes r).rest ≡ r.at + length r.rest + length bytes
fed_grows None bytes r h = omega (arith, length-append r.rest bytes)
fed_grows (Some e) bytes r h = absurd cc

-- and leaves the connection ready
pub ready_in : (r : Option ConnEnd) (s t : State) (w : View) (bytes : List ℕ) → TakesIn r s t bytes → IsReady s w → s.calls.reader.fault ≡ None → s.read + length bytes ≤ 2 ^ 50 → r ≡ None → IsReady t w
ready_in None s t w bytes h ready sound few is =
    subst (λ (n : State). IsReady n w) (sym h)
    (record {
      serving = record { sound = ready.serving.sound; role = ready.serving.role; quiet = ready.serving.quiet };
      pending = ready.pending;
      is_in = ready.is_in;
      turns = ready.turns;
      fed = omega (arith, fed_grows s.calls.reader.fault bytes s.calls.reader sound, ready.fed);
      few = few;
    })
ready_in (Some end) s t w bytes h ready sound few is = absurd cc

-- more was read
pub more_in : (r : Option ConnEnd) (s t : State) (bytes : List ℕ) → TakesIn r s t bytes → 0 < length bytes → r ≡ None → s.read < t.read
more_in None s t bytes h some is = omega (arith, ap (λ (n : State). n.read) h, some)
more_in (Some end) s t bytes h some is = absurd cc
