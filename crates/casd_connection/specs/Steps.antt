-- What each part of the loop does, as a part of the exchange.
use Rattle.grpc_calls.specs.Streams.{Row}
use Rattle.std.specs.Prelude.{◌≡◌, ◌==◌, ◌&&◌, ◌⊎◌, ◌^◌, ◌+◌, ◌≤◌, ◌<◌, ℕ, Bool, true, false, List, [], ◌∷◌, ◌++◌, slice_get, Option, IfSome, Some, None, Result, Ok, Err}
use Rattle.std.specs.List.{sum_by}
use Rattle.proto_wire.specs.Reading.{IsBytes}
use Rattle.h2_frames.specs.declared.frame.Frame.{Frame}
use Rattle.h2_frames.specs.Stream.{Pending, rest_place}
use Rattle.h2_frames.specs.Grammar.{IsStream, HasGiven}
use Rattle.h2_session.specs.declared.role.Role.TheVariants as roles
use Rattle.h2_session.specs.Part.{Part, stream_of}
use Rattle.h2_session.specs.Said.{waiting}
use Rattle.h2_session.specs.Sent.{IsQuiet, spellings}
use Rattle.grpc_calls.specs.declared.event.CallEvent.{CallEvent}
use Rattle.grpc_calls.specs.Calls.{Calls, may_reply}
use Rattle.blob_store.specs.View.{View, Turns, own_now}
use Rattle.blob_store.specs.Shelves.{Shelved}
use Rattle.cas_calls.specs.Script.{Step, made}
use Rattle.cas_calls.specs.Plays.{Shelves}
use Rattle.live_calls.specs.Places.{is_giving, turns_due}
use Rattle.casd_connection.specs.Waiters.{Waiter}
use Rattle.casd_connection.specs.declared.frames.Stop.{Stop}
use Rattle.casd_connection.specs.declared.frames.Stop.TheVariants as stops
use Rattle.casd_connection.specs.declared.frames.Taken.{Taken}
use Rattle.casd_connection.specs.declared.frames.Taken.TheVariants as takens
use Rattle.casd_connection.specs.Exchange.{Conn, Saying}
use Rattle.casd_connection.specs.Course.{Course}
use Rattle.casd_connection.specs.Written.{frames_of, Offends}

-- a connection on which no call has a turn, and all that the last frame means was told
abbrev pub conn : Part → List Row → List CallEvent → List Waiter → Bool → List Saying → Conn
conn p rows es live over xs = record {
  part = p;
  meaning = None;
  rows = rows;
  pending = es;
  saying = xs;
  live = live;
  busy = None;
  over = over;
  end = None;
}

-- the one that the code stands for
abbrev pub at : Calls → List Waiter → Bool → List Saying → Conn
at c live over xs = conn c.session.part c.calls c.pending live over xs

-- a server that goes on, and has nothing that may be written
pub record IsServing (c : Calls) : Type 0 where
  pub sound : c.session.fault ≡ None
  pub role : c.session.part.role ≡ roles.Server
  pub quiet : IsQuiet c.session.part

-- it serves on, with the same input and the same events
pub record Keeps (old new : Calls) : Type 0 where
  pub serving : IsServing new
  pub reader : new.reader ≡ old.reader
  pub pending : new.pending ≡ old.pending

-- A lawful exchange leads from one place to the other, in which these frames were read and these steps done, and what was
-- written was added to the output.
pub record Moves (c d : Conn) (frames : List Frame) (steps : List Step) (old new : List ℕ) : Type 0 where
  pub sent : List Frame
  pub course : Course c d frames steps sent
  pub output : new ≡ old ++ spellings sent

-- all of this was handed in
pub record Speaks (old new : Calls) (xs : List Saying) : Type 0 where
  pub moves : (live : List Waiter) (over : Bool) (more : List Saying) → Moves (at old live over (xs ++ more)) (at new live over more) [] [] old.session.output new.session.output
  pub keeps : Keeps old new

-- what was done at the door and the shelf on the way
pub record Does (v w : View) (x y : Shelved) (turns : ℕ) (steps : List Step) : Type 0 where
  pub entries : Turns v w turns (made steps)
  pub shelf : Shelves x y steps
  pub leases : own_now w ≡ own_now v

-- a lawful exchange with all that was done on its way
pub record Turned (v w : View) (x y : Shelved) (turns : ℕ) (c d : Conn) (old new : List ℕ) : Type 0 where
  pub steps : List Step
  pub moves : Moves c d [] steps old new
  pub does : Does v w x y turns steps

-- one that memory broke off somewhere
pub record Broken (v w : View) (x y : Shelved) (turns : ℕ) (c : Conn) (frames : List Frame) : Type 0 where
  pub steps : List Step
  pub sent : List Frame
  pub last : Conn
  pub course : Course c last frames steps sent
  pub free : last.end ≡ None
  pub does : Does v w x y turns steps

-- a frame was read, and all that it calls for was done
pub record Framed (v w : View) (x y : Shelved) (turns : ℕ) (c d : Conn) (old new : List ℕ) (r s : Pending) : Type 0 where
  pub place : ℕ
  pub frame : Frame
  pub steps : List Step
  pub moves : Moves c d (frame ∷ []) steps old new
  pub does : Does v w x y turns steps
  pub given : (ins : List ℕ) (ps : List (ℕ × Frame)) → IsBytes ins → HasGiven true ins ps r → HasGiven true ins (ps ++ (place, frame) ∷ []) s

-- memory broke it off, and perhaps not even the frame was read
pub record Unframed (v w : View) (x y : Shelved) (turns : ℕ) (c : Conn) (r : Pending) : Type 0 where
  pub frames : List (ℕ × Frame)
  pub broken : Broken v w x y turns c (frames_of frames)
  pub reader : Pending
  pub given : (ins : List ℕ) (ps : List (ℕ × Frame)) → IsBytes ins → HasGiven true ins ps r → HasGiven true ins (ps ++ frames) reader

-- the next frame offends, or what stands there is malformed, which is told by the last bytes of the output
pub record Offended (c : Calls) (code place : ℕ) (output : List ℕ) : Type 0 where
  pub text : List ℕ
  pub wrote : output ≡ c.session.output ++ text
  pub offends : (ins : List ℕ) (ps : List (ℕ × Frame)) → IsBytes ins → HasGiven true ins ps c.reader → Offends ins ps c.session.part code place text

-- no whole frame is there
pub record Waits (c d : Calls) : Type 0 where
  pub same : d ≡ record c { reader = d.reader }
  pub given : (ins : List ℕ) (ps : List (ℕ × Frame)) → IsBytes ins → HasGiven true ins ps c.reader → HasGiven true ins ps d.reader × IsStream true ins ps None (rest_place d.reader)

-- how a frame was taken
abbrev pub Stops : Result Bool Stop → View → View → Shelved → Shelved → Calls → Calls → List Waiter → List Waiter → Bool → Bool → Type 0
Stops (Ok false) v w x y c d live live' over over' = Does v w x y 0 [] × Waits c d × (live' ≡ live) × (over' ≡ over)
Stops (Ok true) v w x y c d live live' over over' =
    ((n : ℕ) × Framed v w x y n (at c live over []) (at d live' over' []) c.session.output d.session.output c.reader d.reader) × IsServing d × (d.pending ≡ [])
Stops (Err (stops.Offence code place)) v w x y c d live live' over over' = Does v w x y 0 [] × Offended c code place d.session.output
Stops (Err stops.OutOfMemory) v w x y c d live live' over over' = (n : ℕ) × Unframed v w x y n (at c live over []) c.reader

-- the frames of a piece of input were read up to this reader, and all that they call for was done
pub record Runs (v w : View) (x y : Shelved) (c : Conn) (last : Conn) (sent : List Frame) (r s : Pending) : Type 0 where
  pub frames : List (ℕ × Frame)
  pub steps : List Step
  pub turns : ℕ
  pub course : Course c last (frames_of frames) steps sent
  pub free : last.end ≡ None
  pub does : Does v w x y turns steps
  pub given : (ins : List ℕ) (ps : List (ℕ × Frame)) → IsBytes ins → HasGiven true ins ps r → HasGiven true ins (ps ++ frames) s

-- All of them, up to where the code stands.
pub record RunsTo (v w : View) (x y : Shelved) (c d : Calls) (live live' : List Waiter) (over over' : Bool) : Type 0 where
  pub sent : List Frame
  pub runs : Runs v w x y (at c live over []) (at d live' over' []) sent c.reader d.reader
  pub output : d.session.output ≡ c.session.output ++ spellings sent
  pub serving : IsServing d
  pub pending : d.pending ≡ []

-- They were read up to an offence, which is told by the last bytes of the output.
pub record RunsInto (v w : View) (x y : Shelved) (c : Calls) (live : List Waiter) (over : Bool) (code place : ℕ) (output : List ℕ) : Type 0 where
  pub sent : List Frame
  pub before : Calls
  pub waits : List Waiter
  pub still : Bool
  pub runs : Runs v w x y (at c live over []) (at before waits still []) sent c.reader before.reader
  pub serving : IsServing before
  pub pending : before.pending ≡ []
  pub text : List ℕ
  pub wrote : output ≡ c.session.output ++ (spellings sent ++ text)
  pub offends : (ins : List ℕ) (ps : List (ℕ × Frame)) → IsBytes ins → HasGiven true ins ps c.reader → Offends ins (ps ++ runs.frames) before.session.part code place text

-- They were read until memory ran out.
pub record RunsOut (v w : View) (x y : Shelved) (c : Calls) (live : List Waiter) (over : Bool) : Type 0 where
  pub sent : List Frame
  pub last : Conn
  pub reader : Pending
  pub runs : Runs v w x y (at c live over []) last sent c.reader reader

-- whether a call is due, as the code asks
abbrev pub is_due_in : Calls → Waiter → Bool
is_due_in c l = is_giving l.place && may_reply l.stream c && (waiting (stream_of l.stream c.session.part) == 0)

-- how many turns the calls may still take of their own accord
abbrev pub due_in : List Waiter → ℕ
due_in live = sum_by (λ (l : Waiter). turns_due l.place) live

-- The call of a row gave a response or ended, where it may take such turns, and so has fewer of them left.
abbrev pub ComesNearer : ℕ → List Waiter → List Waiter → Type 0
ComesNearer i old new = IfSome (slice_get old i) (λ l. is_giving l.place ≡ true → due_in new < due_in old)

-- A call took a turn of its own, and no frame was read.
pub record Wakened (v w : View) (x y : Shelved) (c d : Calls) (live live' : List Waiter) (over over' : Bool) : Type 0 where
  pub run : RunsTo v w x y c d live live' over over'
  pub frames : run.runs.frames ≡ []
  pub reader : d.reader ≡ c.reader
  pub less : due_in live' < due_in live

-- no further frame is there
abbrev pub IsAll : List (ℕ × Frame) → Pending → Pending → Type 0
IsAll frames r s = (ins : List ℕ) (ps : List (ℕ × Frame)) → IsBytes ins → HasGiven true ins ps r → IsStream true ins (ps ++ frames) None (rest_place s)

-- how the frames of a piece were taken
abbrev pub Takes : Taken → View → View → Shelved → Shelved → Calls → Calls → List Waiter → List Waiter → Bool → Bool → Type 0
Takes takens.All v w x y c d live live' over over' = (k : RunsTo v w x y c d live live' over over') × IsAll k.runs.frames c.reader d.reader
Takes takens.Over v w x y c d live live' over over' = RunsTo v w x y c d live live' over over' × (over' ≡ true) × (d.session.part.streams ≡ [])
Takes (takens.Offence code place) v w x y c d live live' over over' = RunsInto v w x y c live over code place d.session.output
Takes takens.Spent v w x y c d live live' over over' = RunsTo v w x y c d live live' over over' × (w.left < 2 ^ 40)
Takes takens.OutOfMemory v w x y c d live live' over over' = RunsOut v w x y c live over
