-- A frame that was read, and an offence.
use Rattle.std.proofs.Common.{inl, inr, ◌≡◌, ◌≢◌, ◌∙◌, ℕ, Bool, true, false, List, [], ◌∷◌, ◌++◌, Option, Some, None, Result, Ok, Err, refl, sym, ap, subst}
use Rattle.std.specs.Prelude.{◌⊎◌}
use Rattle.proto_wire.specs.Reading.{IsBytes}
use Rattle.h2_frames.specs.declared.frame.Frame.{Frame}
use Rattle.h2_frames.specs.declared.fault.FrameFault.{FrameFault}
use Rattle.h2_frames.specs.declared.fault.FrameFault.TheVariants as faults
use Rattle.h2_frames.specs.Reading.{Fails}
use Rattle.h2_frames.specs.Stream.{Pending, begun, given, rest_place, Answers as AnswersFrame}
use Rattle.h2_frames.specs.Grammar.{IsStream, HasGiven}
use Rattle.h2_frames.proofs.Streams.{gives, waits, refuses}
use Rattle.h2_session.specs.declared.event.SessionEvent.{SessionEvent}
use Rattle.h2_session.specs.declared.event.Out.TheVariants as outs
use Rattle.h2_session.specs.Part.{Part}
use Rattle.h2_session.specs.Faults.{offence}
use Rattle.h2_session.specs.Heard.{heard, at_offence}
use Rattle.h2_session.specs.Said.{said}
use Rattle.h2_session.specs.Sent.{IsQuiet}
use Rattle.h2_session.specs.Session.{Session, Goes, offended, last_of_peer}
use Rattle.grpc_calls.specs.declared.event.CallEvent.{CallEvent}
use Rattle.grpc_calls.specs.Headers.{refusal_headers}
use Rattle.grpc_calls.specs.Streams.{Row, Refused, Told, told}
use Rattle.grpc_calls.specs.Calls.{Calls, Hears, Refuses, Reads, ReadsNone, OffendsAtFront, OffendsByFrame, refusal_at}
use Rattle.casd_connection.specs.Waiters.{Waiter}
use Rattle.casd_connection.specs.Exchange.{Item, Tells, Conn, Saying, Refuse, refusing, telling, spoken, next}
use Rattle.casd_connection.specs.Course.{Course}
use Rattle.casd_connection.specs.Written.{Offends, away, AreFirst}
use Rattle.casd_connection.specs.Steps.{conn, at, IsServing, Moves, Waits, Offended}
use Rattle.casd_connection.proofs.CourseLaws.{course_joined, course_none, moves_joined, moves_none, moves_by, moves_settled, course_read, course_tells, course_says}

-- ---- what a frame means is told

-- a connection at which a frame was just read
abbrev meant : Part → Option SessionEvent → List Row → List Waiter → Bool → Conn
meant p m rows live over = record (conn p rows [] live over []) { meaning = m }

told_moves : (p : Part) (m : Option SessionEvent) (rows : List Row) (live : List Waiter) (over : Bool) (out : List ℕ)
    → Moves (meant p m rows live over) (conn p (told p m rows).calls (told p m rows).events live over (refusing (told p m rows).refused)) [] [] out out
told_moves p None rows live over out = moves_none (conn p rows [] live over []) out
told_moves p (Some e) rows live over out =
    moves_by (meant p (Some e) rows live over) (next (meant p (Some e) rows live over) Tells) [] [] out (course_tells (meant p (Some e) rows live over) e refl refl refl)

-- a request that is refused is answered
refused_moves : (r : Option (ℕ × Refused)) (old new : Session) (rows : List Row) (es : List CallEvent) (live : List Waiter) (over : Bool) → Refuses r old new
    → Moves (conn old.part rows es live over (refusing r)) (conn new.part rows es live over []) [] [] old.output new.output
refused_moves None old new rows es live over h =
    subst (λ (s : Session). Moves (conn old.part rows es live over []) (conn s.part rows es live over []) [] [] old.output s.output) (sym h) (moves_none (conn old.part rows es live over []) old.output)
refused_moves (Some r) old new rows es live over h =
    let q = said r.0 (outs.Headers (refusal_headers r.1) true) old.part in
    moves_joined (conn old.part rows es live over (Refuse r.0 r.1 ∷ [])) (conn q rows es live over []) (conn new.part rows es live over []) [] [] [] [] old.output old.output new.output
    (moves_by (conn old.part rows es live over (Refuse r.0 r.1 ∷ [])) (conn q rows es live over []) [] [] old.output (course_says old.part rows es live over (Refuse r.0 r.1) []))
    (moves_settled (conn q rows es live over []) new.part old.output new.output refl refl h.settles)

pub heard_moves : (old new : Calls) (live : List Waiter) (over : Bool) (f : Frame) → old.pending ≡ [] → Hears old.session old.calls f new
    → Moves (at old live over []) (at new live over []) (f ∷ []) [] old.session.output new.session.output
heard_moves old new live over f empty h =
    let p = old.session.part in
    let rows = old.calls in
    let m = (heard p f).event in
    let q = h.session.part in
    let t = told q m rows in
    let first : Moves (conn p rows [] live over []) (meant (heard p f).part m rows live over) (f ∷ []) [] old.session.output old.session.output =
    moves_by (conn p rows [] live over []) (meant (heard p f).part m rows live over) (f ∷ []) [] old.session.output (course_read p rows live over f h.sound) in
    let wrote : Moves (meant (heard p f).part m rows live over) (meant q m rows live over) [] [] old.session.output h.session.output =
    moves_settled (meant (heard p f).part m rows live over) q old.session.output h.session.output refl refl h.goes.settles in
    let tells : Moves (meant q m rows live over) (conn q t.calls t.events live over (refusing t.refused)) [] [] h.session.output h.session.output = told_moves q m rows live over h.session.output in
    let refuses : Moves (conn q t.calls t.events live over (refusing t.refused)) (conn new.session.part t.calls t.events live over []) [] [] h.session.output new.session.output =
    refused_moves t.refused h.session new.session t.calls t.events live over h.refuses in
    let all : Moves (conn p rows [] live over []) (conn new.session.part t.calls t.events live over []) (f ∷ []) [] old.session.output new.session.output =
    moves_joined (conn p rows [] live over []) (meant (heard p f).part m rows live over) (conn new.session.part t.calls t.events live over []) (f ∷ []) [] [] [] old.session.output old.session.output new.session.output first
    (moves_joined (meant (heard p f).part m rows live over) (meant q m rows live over) (conn new.session.part t.calls t.events live over []) [] [] [] [] old.session.output h.session.output new.session.output wrote
    (moves_joined (meant q m rows live over) (conn q t.calls t.events live over (refusing t.refused)) (conn new.session.part t.calls t.events live over []) [] [] [] [] h.session.output h.session.output new.session.output tells refuses)) in
    let start : conn p rows [] live over [] ≡ at old live over [] = ap (λ (es : List CallEvent). conn p rows es live over []) (sym empty) in
    let stop : conn new.session.part t.calls t.events live over [] ≡ at new live over [] =
    ap (λ (cs : List Row). conn new.session.part cs t.events live over []) (sym h.calls) ∙ ap (λ (es : List CallEvent). conn new.session.part new.calls es live over []) (sym h.pending) in
    subst (λ (c : Conn). Moves c (at new live over []) (f ∷ []) [] old.session.output new.session.output) start
    (subst (λ (d : Conn). Moves (conn p rows [] live over []) d (f ∷ []) [] old.session.output new.session.output) stop all)

-- ---- the reader

pub frame_given : (old new : Calls) (place : ℕ) (f : Frame) → Reads old place f new → (ins : List ℕ) (ps : List (ℕ × Frame)) → IsBytes ins → HasGiven true ins ps old.reader
    → HasGiven true ins (ps ++ (place, f) ∷ []) new.reader
frame_given old new place f r ins ps bytes h = gives true ins ps (place, f) old.reader new.reader bytes h r.given

pub none_given : (old new : Calls) → ReadsNone old new → Waits old new
none_given old new r = record { same = r.1; given = λ ins ps bytes h. waits true ins ps old.reader new.reader bytes h r.0 }

-- ---- offences

no_memory : (e : FrameFault) (code place : ℕ) → refusal_at e ≡ Some (code, place) → e ≢ faults.OutOfMemory
no_memory faults.OutOfMemory code place h = λ _. absurd cc
no_memory (faults.BadPreface at) code place h = λ e. absurd cc
no_memory (faults.TooLong at) code place h = λ e. absurd cc
no_memory (faults.BadLength at) code place h = λ e. absurd cc
no_memory (faults.BadPadding at) code place h = λ e. absurd cc
no_memory (faults.BadStream at) code place h = λ e. absurd cc

fails : (e : FrameFault) (r : Pending) → given r ≡ Err e → Fails e (given r)
fails faults.OutOfMemory r h = tt
fails (faults.BadPreface at) r h = h
fails (faults.TooLong at) r h = h
fails (faults.BadLength at) r h = h
fails (faults.BadPadding at) r h = h
fails (faults.BadStream at) r h = h

pub front_offends : (old new : Calls) (code place : ℕ) → OffendsAtFront old code place new → Offended old code place new.session.output
front_offends old new code place h = record {
  text = away old.session.part code;
  wrote = ap (λ (c : Calls). c.session.output) h.over;
  offends = λ ins ps bytes given.
      let s : Pending = record (begun old.reader) { fault = Some h.fault } in
      let r = refuses true ins ps h.fault old.reader s bytes given (no_memory h.fault code place h.refusal) (fails h.fault old.reader h.given, refl) in
      inl (record { fault = h.fault; place = rest_place s; stream = r.1; told = h.refusal }, refl);
}

pub frame_offends : (old new : Calls) (code place : ℕ) → OffendsByFrame old code place new → Offended old code place new.session.output
frame_offends old new code place h = record {
  text = away (at_offence old.session.part h.frame) code;
  wrote = ap (λ (c : Calls). c.session.output) h.over;
  offends = λ ins ps bytes given.
      inr (record { frame = h.frame; first = (new.reader, gives true ins ps (place, h.frame) old.reader new.reader bytes given h.given); offends = h.offence }, refl);
}

pub offended_by : (old new : Calls) (code place : ℕ) → OffendsAtFront old code place new ⊎ OffendsByFrame old code place new → Offended old code place new.session.output
offended_by old new code place h = elim h [ inl front ↦ front_offends old new code place front | inr frame ↦ frame_offends old new code place frame ]

-- a connection at which a frame was read serves on
pub heard_serves : (old new : Calls) (f : Frame) → IsServing old → Hears old.session old.calls f new → new.session.part.role ≡ old.session.part.role → new.session.fault ≡ None → IsServing new
heard_serves old new f serving h role sound = record { sound = sound; role = role ∙ serving.role; quiet = quiet (told h.session.part (heard old.session.part f).event old.calls).refused h.session new.session h.goes.settles.quiet h.refuses }
  where
    quiet : (r : Option (ℕ × Refused)) (first new : Session) → IsQuiet first.part → Refuses r first new → IsQuiet new.part
    quiet None first new q h = subst (λ (s : Session). IsQuiet s.part) (sym h) q
    quiet (Some r) first new q h = h.settles.quiet
