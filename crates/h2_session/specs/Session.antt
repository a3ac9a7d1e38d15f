-- A session, as its callers see it.
use Rattle.std.specs.Prelude.{◌≡◌, ℕ, false, List, [], ◌∷◌, ◌++◌, Option, Some, if◌then◌else◌}
use Rattle.h2_frames.specs.declared.frame.Frame.TheVariants as frames
use Rattle.h2_frames.specs.Spelling.{spelled}
use Rattle.h2_session.specs.declared.fault.ConnFault.{ConnFault}
use Rattle.h2_session.specs.declared.fault.ConnFault.TheVariants as faults
use Rattle.h2_session.specs.Part.{Part, new_part}
use Rattle.h2_session.specs.Faults.{is_server}
use Rattle.h2_session.specs.Sent.{Settles}
use Rattle.h2_session.specs.Codes.{max_streams, max_list}
use Rattle.h2_session.specs.declared.role.Role.{Role}
use Rattle.h2_session.specs.declared.role.Role.TheVariants as roles
use Rattle.h2_frames.specs.Stream.{preface}

-- the connection, the bytes that weren't taken, and the refusal that is answered for good
pub record Session : Type 0 where
  pub part : Part
  pub output : List ℕ
  pub fault : Option ConnFault

-- no stream is live after the end
abbrev pub ended : Part → Part
ended p = record (new_part p.role) { highest = p.highest }

-- the highest stream that the peer began
abbrev pub last_of_peer : Part → ℕ
last_of_peer p = if is_server p.role then p.highest else 0

-- An offence is told by GOAWAY (section 6.8), and ends the connection. The part is that at the offence.
abbrev pub offended : Part → ℕ → ℕ → Session → Session
offended p code at s = record {
  part = ended p;
  output = s.output ++ spelled (frames.GoAway (last_of_peer p) code);
  fault = Some (faults.Offence code at);
}

-- Without memory the connection ends, and nothing more is written.
abbrev pub exhausted : Session → Session
exhausted s = record { part = new_part s.part.role; output = []; fault = Some faults.OutOfMemory }

-- the preface of a client, and the first SETTINGS (sections 3.4 and 6.5)
abbrev pub first_output : Role → List ℕ
first_output roles.Server = spelled (frames.Settings false ((3, max_streams) ∷ (6, max_list) ∷ []))
first_output roles.Client = preface ++ spelled (frames.Settings false ((2, 0) ∷ (6, max_list) ∷ []))

-- The session goes on from this part to one in which nothing more may be written; what was written is in its output.
pub record Goes (p : Part) (old new : Session) : Type 0 where
  pub settles : Settles p old.output new.part new.output
  pub fault : new.fault ≡ old.fault
