-- The one fact of the loop: a lawful exchange of the frames read, the steps done and the frames written so far leads to where the
-- code stands.
use Rattle.std.specs.Prelude.{◌≡◌, ◌⊎◌, ◌^◌, ◌-◌, ◌+◌, ◌≤◌, min, ℕ, Bool, true, false, List, [], ◌++◌, length, Option, Some, None, Result, Ok, Err}
use Rattle.proto_wire.specs.Reading.{IsBytes}
use Rattle.h2_frames.specs.declared.frame.Frame.{Frame}
use Rattle.h2_frames.specs.Stream.{fresh, fed, rest_place}
use Rattle.h2_session.specs.declared.role.Role.TheVariants as roles
use Rattle.h2_session.specs.Part.{new_part}
use Rattle.h2_session.specs.Session.{first_output}
use Rattle.casd_base.specs.Causes.{Rose}
use Rattle.casd_base.specs.declared.sink.SinkEnd.{SinkEnd}
use Rattle.casd_base.specs.declared.sink.SinkEnd.TheVariants as sinks
use Rattle.h2_frames.specs.Grammar.{IsStream, HasGiven}
use Rattle.grpc_calls.specs.Calls.{Calls}
use Rattle.blob_store.specs.View.{View}
use Rattle.blob_store.specs.Shelves.{Shelved}
use Rattle.cas_calls.specs.Script.{Step}
use Rattle.casd_connection.specs.Waiters.{Waiter}
use Rattle.casd_connection.specs.declared.end.ConnEnd.{ConnEnd}
use Rattle.casd_connection.specs.declared.end.ConnEnd.TheVariants as ends
use Rattle.casd_connection.specs.declared.frames.Taken.{Taken}
use Rattle.casd_connection.specs.declared.frames.Taken.TheVariants as takens
use Rattle.casd_connection.specs.Writes.{Writes}
use Rattle.casd_connection.specs.Exchange.{NoneDue, start}
use Rattle.casd_connection.specs.Course.{Course}
use Rattle.casd_connection.specs.Linked.{Linked, Carries, IsUnmet}
use Rattle.casd_connection.specs.Written.{Written, Cause, frames_of, all_out}
use Rattle.casd_connection.specs.Steps.{IsServing, Does, at}

-- what the code keeps of a connection: its calls, where they wait, whether a GOAWAY came, and how many bytes were read and written
pub record State : Type 0 where
  pub calls : Calls
  pub live : List Waiter
  pub over : Bool
  pub read : ℕ
  pub written : ℕ

abbrev pub state : Calls → List Waiter → Bool → ℕ → ℕ → State
state calls live over read written = record { calls = calls; live = live; over = over; read = read; written = written }

-- it can go on: its owner is at the door, which has turns left, and no event waits
pub record IsReady (s : State) (v : View) : Type 0 where
  pub serving : IsServing s.calls
  pub pending : s.calls.pending ≡ []
  pub is_in : v.entered ≡ true
  pub turns : 2 ^ 29 ≤ v.left
  pub fed : s.calls.reader.at + length s.calls.reader.rest ≡ s.read
  pub few : s.read ≤ 2 ^ 50

pub record Stands (v w : View) (x y : Shelved) (a b : Linked) (s : State) : Type 0 where
  pub ins : List ℕ
  pub outs : List ℕ
  pub frames : List (ℕ × Frame)
  pub steps : List Step
  pub sent : List Frame
  pub turns : ℕ
  pub course : Course start (at s.calls s.live s.over []) (frames_of frames) steps sent
  pub does : Does v w x y turns steps
  pub bytes : IsBytes ins
  pub given : HasGiven true ins frames s.calls.reader
  pub output : all_out sent ≡ outs ++ s.calls.session.output
  pub carries : Carries a b ins outs
  pub unmet : IsUnmet a b
  pub read : s.read ≡ length ins
  pub written : s.written ≡ min (length outs) (2 ^ 64 - 1)

-- all frames that are whole were taken, and all that they call for was written
pub record IsTakenAt (v w : View) (x y : Shelved) (a b : Linked) (s : State) : Type 0 where
  pub stands : Stands v w x y a b s
  pub stream : IsStream true stands.ins stands.frames None (rest_place s.calls.reader)
  pub empty : s.calls.session.output ≡ []

-- and no call is due
pub record IsSettledAt (v w : View) (x y : Shelved) (a b : Linked) (s : State) : Type 0 where
  pub taken : IsTakenAt v w x y a b s
  pub none : NoneDue s.calls.session.part s.live

-- the loop is left so
pub record Ran (end : ConnEnd) (v w : View) (x y : Shelved) (a b : Linked) (read written : ℕ) : Type 0 where
  pub ins : List ℕ
  pub outs : List ℕ
  pub steps : List Step
  pub turns : ℕ
  pub whole : Written ins outs steps end
  pub does : Does v w x y turns steps
  pub carries : Carries a b ins outs
  pub cause : Cause end whole.last.over a b (length ins) w.left
  pub read_is : read ≡ length ins
  pub written_is : written ≡ min (length outs) (2 ^ 64 - 1)

abbrev pub TakesAll : Option ConnEnd → View → View → Shelved → Shelved → Linked → Linked → State → Type 0
TakesAll None v w x y a b s = IsTakenAt v w x y a b s
TakesAll (Some end) v w x y a b s = Ran end v w x y a b s.read s.written

abbrev pub Settles : Option ConnEnd → View → View → Shelved → Shelved → Linked → Linked → State → Type 0
Settles None v w x y a b s = IsSettledAt v w x y a b s
Settles (Some end) v w x y a b s = Ran end v w x y a b s.read s.written

abbrev pub ReadsOn : Option ConnEnd → View → View → Shelved → Shelved → Linked → Linked → State → Type 0
ReadsOn None v w x y a b s = Stands v w x y a b s
ReadsOn (Some end) v w x y a b s = Ran end v w x y a b s.read s.written

-- the state at the beginning
abbrev pub fresh_state : State
fresh_state = state (record { reader = fresh true; session = record { part = new_part roles.Server; output = first_output roles.Server; fault = None }; calls = []; pending = [] }) [] false 0 0

-- the output that was due is written, or a first part of it
abbrev pub Flushes : Option ConnEnd → Linked → Linked → State → State → Type 0
Flushes None a b s t = Writes a b s.calls.session.output × (t ≡ record s { calls = record s.calls { session = record s.calls.session { output = [] } }; written = min (s.written + length s.calls.session.output) (2 ^ 64 - 1) })
Flushes (Some end) a b s t = (part : List ℕ) × (more : List ℕ) × (part ++ more ≡ s.calls.session.output) × Writes a b part × (((end ≡ ends.WriteFault) × Rose a.write_faults b.write_faults) ⊎ (end ≡ ends.OutOfMemory))
    × (t.read ≡ s.read) × (t.written ≡ min (s.written + length part) (2 ^ 64 - 1))

-- the end that a piece of input brings
abbrev pub end_of : Taken → Option ConnEnd
end_of takens.All = None
end_of takens.Over = Some ends.Done
end_of (takens.Offence code place) = Some (ends.Protocol code place)
end_of takens.Spent = Some ends.Spent
end_of takens.OutOfMemory = Some ends.OutOfMemory

-- the end that a write brings
abbrev pub write_end : {T : Type 0} → Result T SinkEnd → Option ConnEnd
write_end (Ok x) = None
write_end (Err sinks.Failed) = Some ends.WriteFault
write_end (Err sinks.OutOfMemory) = Some ends.OutOfMemory

-- whether memory ran out
abbrev pub is_out : Taken → Bool
is_out takens.OutOfMemory = true
is_out _ = false

-- the end where nothing is left to read, by where the rest begins
abbrev pub end_at : Option ℕ → ConnEnd
end_at None = ends.Done
end_at (Some place) = ends.Truncated place

-- bytes that were read are fed, if there is memory for them
abbrev pub TakesIn : Option ConnEnd → State → State → List ℕ → Type 0
TakesIn None s t bytes = t ≡ record s { calls = record s.calls { reader = fed bytes s.calls.reader }; read = s.read + length bytes }
TakesIn (Some end) s t bytes = (end ≡ ends.OutOfMemory) × (t.read ≡ s.read + length bytes) × (t.written ≡ s.written)
