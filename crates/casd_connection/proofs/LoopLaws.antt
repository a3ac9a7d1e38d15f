-- Frames one after the other, up to where a piece of input ends.
use Rattle.std.proofs.Common.{◌≡◌, ◌∙◌, ◌+◌, ◌^◌, ◌≤◌, ◌<◌, ℕ, Bool, true, false, List, [], ◌∷◌, ◌++◌, append_assoc, length, map, Option, Some, None, refl, sym, ap, subst, arith}
use Rattle.std.proofs.lemmas.List.{append-nil}
use Rattle.proto_wire.specs.Reading.{IsBytes}
use Rattle.h2_frames.specs.declared.frame.Frame.{Frame}
use Rattle.h2_frames.specs.Stream.{Pending, rest_place}
use Rattle.h2_frames.specs.Grammar.{IsStream, HasGiven}
use Rattle.h2_session.specs.Sent.{IsQuiet, spellings}
use Rattle.grpc_calls.specs.declared.event.CallEvent.{CallEvent}
use Rattle.grpc_calls.specs.Calls.{Calls, Reads}
use Rattle.blob_store.specs.View.{View, IsSeated}
use Rattle.blob_store.specs.Shelves.{Shelved}
use Rattle.cas_calls.specs.Script.{Step}
use Rattle.casd_connection.specs.Waiters.{Waiter}
use Rattle.casd_connection.specs.Exchange.{Conn}
use Rattle.casd_connection.specs.Course.{Course}
use Rattle.casd_connection.specs.Written.{frames_of, Offends}
use Rattle.casd_connection.specs.Steps.{at, IsServing, Moves, Does, Turned, Broken, Framed, Unframed, Offended, Waits, Runs, RunsTo, RunsInto, RunsOut, IsAll}
use Rattle.casd_connection.proofs.CourseLaws.{course_joined, course_none, moves_joined, output_joined}
use Rattle.casd_connection.proofs.FrameLaws.{frame_given}
use Rattle.casd_connection.proofs.TurnLaws.{does_none, does_joined}

-- ---- one frame

-- a frame was read, and its events were handed over
pub framed_by : (v w : View) (x y : Shelved) (n place : ℕ) (f : Frame) (a b d : Calls) (live live' : List Waiter) (over over' : Bool)
    → Moves (at a live over []) (at b live over []) (f ∷ []) [] a.session.output b.session.output → Reads a place f b → d.reader ≡ b.reader
    → Turned v w x y n (at b live over []) (at d live' over' []) b.session.output d.session.output
    → Framed v w x y n (at a live over []) (at d live' over' []) a.session.output d.session.output a.reader d.reader
framed_by v w x y n place f a b d live live' over over' first reads same k = record {
  place = place;
  frame = f;
  steps = k.steps;
  moves = moves_joined (at a live over []) (at b live over []) (at d live' over' []) (f ∷ []) [] [] k.steps a.session.output b.session.output d.session.output first k.moves;
  does = k.does;
  given = λ ins ps bytes h. subst (λ (r : Pending). HasGiven true ins (ps ++ (place, f) ∷ []) r) (sym same) (frame_given a b place f reads ins ps bytes h);
}

pub unframed_by : (v w : View) (x y : Shelved) (n place : ℕ) (f : Frame) (a b : Calls) (live : List Waiter) (over : Bool)
    → Moves (at a live over []) (at b live over []) (f ∷ []) [] a.session.output b.session.output → Reads a place f b
    → Broken v w x y n (at b live over []) [] → Unframed v w x y n (at a live over []) a.reader
unframed_by v w x y n place f a b live over first reads k = record {
  frames = (place, f) ∷ [];
  broken = record {
    steps = k.steps;
    sent = first.sent ++ k.sent;
    last = k.last;
    course = course_joined (at a live over []) (at b live over []) k.last (f ∷ []) [] [] k.steps first.sent k.sent first.course k.course;
    free = k.free;
    does = k.does;
  };
  reader = b.reader;
  given = λ ins ps bytes h. frame_given a b place f reads ins ps bytes h;
}

-- memory was wanting before a frame was read
pub unframed_none : (v : View) (x : Shelved) (n : ℕ) (a : Calls) (live : List Waiter) (over : Bool) → v.entered ≡ true → IsSeated v → Unframed v v x x n (at a live over []) a.reader
unframed_none v x n a live over is_in seated = record {
  frames = [];
  broken = record { steps = []; sent = []; last = at a live over []; course = course_none (at a live over []); free = refl; does = does_none v x n is_in seated };
  reader = a.reader;
  given = λ ins ps bytes h. subst (λ (qs : List (ℕ × Frame)). HasGiven true ins qs a.reader) (sym (append-nil ps)) h;
}

-- ---- many frames

pub runs_none : (v : View) (x : Shelved) (c : Calls) (live : List Waiter) (over : Bool) → v.entered ≡ true → IsSeated v → IsServing c → c.pending ≡ [] → RunsTo v v x x c c live live over over
runs_none v x c live over is_in seated serving pending = record {
  sent = [];
  runs = record {
    frames = [];
    steps = [];
    turns = 0;
    course = course_none (at c live over []);
    free = refl;
    does = does_none v x 0 is_in seated;
    given = λ ins ps bytes h. subst (λ (qs : List (ℕ × Frame)). HasGiven true ins qs c.reader) (sym (append-nil ps)) h;
  };
  output = sym (append-nil c.session.output);
  serving = serving;
  pending = pending;
}

pub frames-append : (ps qs : List (ℕ × Frame)) → frames_of (ps ++ qs) ≡ frames_of ps ++ frames_of qs
frames-append [] qs = refl
frames-append (p ∷ ps) qs = ap (λ (fs : List Frame). p.1 ∷ fs) (frames-append ps qs)

-- two parts of a run
pub runs_joined : (u v w : View) (x y z : Shelved) (a b last : Conn) (ms ns : List Frame) (p q r : Pending) → (first : Runs u v x y a b ms p q) → (second : Runs v w y z b last ns q r) → Runs u w x z a last (ms ++ ns) p r
runs_joined u v w x y z a b last ms ns p q r first second = record {
  frames = first.frames ++ second.frames;
  steps = first.steps ++ second.steps;
  turns = first.turns + second.turns;
  course = subst (λ (fs : List Frame). Course a last fs (first.steps ++ second.steps) (ms ++ ns)) (sym (frames-append first.frames second.frames))
      (course_joined a b last (frames_of first.frames) (frames_of second.frames) first.steps second.steps ms ns first.course second.course);
  free = second.free;
  does = does_joined u v w x y z first.turns second.turns first.steps second.steps first.does second.does;
  given = λ ins ps bytes h.
      subst (λ (qs : List (ℕ × Frame)). HasGiven true ins qs r) (append_assoc ps first.frames second.frames)
      (second.given ins (ps ++ first.frames) bytes (first.given ins ps bytes h));
}

pub runs_more : (u v w : View) (x y z : Shelved) (n : ℕ) (c b d : Calls) (live waits live' : List Waiter) (over still over' : Bool) → RunsTo u v x y c b live waits over still
    → Framed v w y z n (at b waits still []) (at d live' over' []) b.session.output d.session.output b.reader d.reader → IsServing d → d.pending ≡ [] → RunsTo u w x z c d live live' over over'
runs_more u v w x y z n c b d live waits live' over still over' first k serving pending = record {
  sent = first.sent ++ k.moves.sent;
  runs = runs_joined u v w x y z (at c live over []) (at b waits still []) (at d live' over' []) first.sent k.moves.sent c.reader b.reader d.reader first.runs
      (record { frames = (k.place, k.frame) ∷ []; steps = k.steps; turns = n; course = k.moves.course; free = refl; does = k.does; given = k.given });
  output = output_joined c.session.output b.session.output d.session.output first.sent k.moves.sent first.output k.moves.output;
  serving = serving;
  pending = pending;
}

-- no further frame is there
pub runs_all : (u v w : View) (x y z : Shelved) (c b d : Calls) (live waits live' : List Waiter) (over still over' : Bool) → (first : RunsTo u v x y c b live waits over still) → Does v w y z 0 [] → Waits b d → live' ≡ waits → over' ≡ still
    → (k : RunsTo u w x z c d live live' over over') × IsAll k.runs.frames c.reader d.reader
runs_all u v w x y z c b d live waits live' over still over' first does wait same_live same_over =
    let place : at b waits still [] ≡ at d live' over' [] =
    ap (λ (m : Calls). at m waits still []) (sym wait.same)
    ∙ ap (λ (l : List Waiter). at d l still []) (sym same_live)
    ∙ ap (λ (o : Bool). at d live' o []) (sym same_over)
    in (
      record {
        sent = first.sent;
        runs = record {
          frames = first.runs.frames;
          steps = first.runs.steps ++ [];
          turns = first.runs.turns + 0;
          course = subst (λ (xs : List Step). Course (at c live over []) (at d live' over' []) (frames_of first.runs.frames) xs first.sent) (sym (append-nil first.runs.steps))
              (subst (λ (e : Conn). Course (at c live over []) e (frames_of first.runs.frames) first.runs.steps first.sent) place first.runs.course);
          free = refl;
          does = does_joined u v w x y z first.runs.turns 0 first.runs.steps [] first.runs.does does;
          given = λ ins ps bytes h. (wait.given ins (ps ++ first.runs.frames) bytes (first.runs.given ins ps bytes h)).0;
        };
        output = ap (λ (m : Calls). m.session.output) wait.same ∙ first.output;
        serving = record {
          sound = ap (λ (m : Calls). m.session.fault) wait.same ∙ first.serving.sound;
          role = ap (λ (m : Calls). m.session.part.role) wait.same ∙ first.serving.role;
          quiet = subst (λ (m : Calls). IsQuiet m.session.part) (sym wait.same) first.serving.quiet;
        };
        pending = ap (λ (m : Calls). m.pending) wait.same ∙ first.pending;
      },
      λ ins ps bytes h. (wait.given ins (ps ++ first.runs.frames) bytes (first.runs.given ins ps bytes h)).1,
    )

pub runs_into : (u v w : View) (x y z : Shelved) (c b : Calls) (live waits : List Waiter) (over still : Bool) (code place : ℕ) (output : List ℕ) → (first : RunsTo u v x y c b live waits over still) → Does v w y z 0 [] → Offended b code place output
    → RunsInto u w x z c live over code place output
runs_into u v w x y z c b live waits over still code place output first does k = record {
  sent = first.sent;
  before = b;
  waits = waits;
  still = still;
  runs = record {
    frames = first.runs.frames;
    steps = first.runs.steps ++ [];
    turns = first.runs.turns + 0;
    course = subst (λ (xs : List Step). Course (at c live over []) (at b waits still []) (frames_of first.runs.frames) xs first.sent) (sym (append-nil first.runs.steps)) first.runs.course;
    free = refl;
    does = does_joined u v w x y z first.runs.turns 0 first.runs.steps [] first.runs.does does;
    given = first.runs.given;
  };
  serving = first.serving;
  pending = first.pending;
  text = k.text;
  wrote = k.wrote ∙ ap (λ (front : List ℕ). front ++ k.text) first.output ∙ append_assoc c.session.output (spellings first.sent) k.text;
  offends = λ ins ps bytes h. k.offends ins (ps ++ first.runs.frames) bytes (first.runs.given ins ps bytes h);
}

pub runs_out : (u v w : View) (x y z : Shelved) (n : ℕ) (c b : Calls) (live waits : List Waiter) (over still : Bool) → RunsTo u v x y c b live waits over still → Unframed v w y z n (at b waits still []) b.reader → RunsOut u w x z c live over
runs_out u v w x y z n c b live waits over still first k = record {
  sent = first.sent ++ k.broken.sent;
  last = k.broken.last;
  reader = k.reader;
  runs = runs_joined u v w x y z (at c live over []) (at b waits still []) k.broken.last first.sent k.broken.sent c.reader b.reader k.reader first.runs
      (record { frames = k.frames; steps = k.broken.steps; turns = n; course = k.broken.course; free = k.broken.free; does = k.broken.does; given = k.given });
}
