-- What a connection reads and writes, by its end.
use Rattle.std.specs.Prelude.{◌≡◌, ◌⊎◌, ◌^◌, ◌+◌, ◌-◌, ◌≤◌, ◌<◌, min, map, ℕ, Bool, true, false, List, [], ◌∷◌, ◌++◌, length, Option, Some, None}
use Rattle.h2_frames.specs.declared.frame.Frame.{Frame}
use Rattle.h2_frames.specs.declared.frame.Frame.TheVariants as frames
use Rattle.h2_frames.specs.declared.fault.FrameFault.{FrameFault}
use Rattle.h2_frames.specs.Spelling.{spelled}
use Rattle.h2_frames.specs.Stream.{Pending}
use Rattle.h2_frames.specs.Grammar.{IsStream, HasGiven}
use Rattle.h2_session.specs.declared.role.Role.TheVariants as roles
use Rattle.h2_session.specs.Part.{Part}
use Rattle.h2_session.specs.Faults.{offence}
use Rattle.h2_session.specs.Heard.{at_offence}
use Rattle.h2_session.specs.Sent.{spellings}
use Rattle.h2_session.specs.Session.{first_output, last_of_peer}
use Rattle.grpc_calls.specs.Calls.{refusal_at}
use Rattle.casd_base.specs.Causes.{Rose}
use Rattle.store_core.specs.History.{Entry}
use Rattle.store_core.specs.declared.event.Event.TheVariants as events
use Rattle.store_core.specs.declared.event.Reply.TheVariants as replies
use Rattle.turn_lock.specs.Views.{Extends}
use Rattle.blob_store.specs.View.{View, IsSound, StaysOut, by, own_now}
use Rattle.blob_store.specs.Shelves.{Shelved}
use Rattle.cas_calls.specs.Script.{Step, made}
use Rattle.cas_calls.specs.Plays.{Shelves}
use Rattle.casd_connection.specs.declared.end.ConnEnd.{ConnEnd}
use Rattle.casd_connection.specs.declared.end.ConnEnd.TheVariants as ends
use Rattle.casd_connection.specs.declared.report.ConnReport.{ConnReport}
use Rattle.casd_connection.specs.Exchange.{Conn, start}
use Rattle.casd_connection.specs.Course.{Course}
use Rattle.casd_connection.specs.Linked.{Linked, Carries, FoundEnd}

-- the frames without their places
abbrev pub frames_of : List (ℕ × Frame) → List Frame
frames_of ps = map (λ (p : ℕ × Frame). p.1) ps

-- These frames, one after the other behind the preface of the client, are the first ones that the bytes spell.
abbrev pub AreFirst : List ℕ → List (ℕ × Frame) → Type 0
AreFirst ins ps = (r : Pending) × HasGiven true ins ps r

-- ---- offences, and the GOAWAY that tells them (RFC 9113, section 6.8)

abbrev pub away : Part → ℕ → List ℕ
away p code = spelled (frames.GoAway (last_of_peer p) code)

-- what stands behind the frames is malformed
pub record IsMalformed (ins : List ℕ) (ps : List (ℕ × Frame)) (code at : ℕ) : Type 0 where
  pub fault : FrameFault
  pub place : Option ℕ
  pub stream : IsStream true ins ps (Some fault) place
  pub told : refusal_at fault ≡ Some (code, at)

-- the next frame is one that the peer may not send
pub record IsForbidden (ins : List ℕ) (ps : List (ℕ × Frame)) (p : Part) (code at : ℕ) : Type 0 where
  pub frame : Frame
  pub first : AreFirst ins (ps ++ (at, frame) ∷ [])
  pub offends : offence p frame ≡ Some code

-- the first offence of the bytes, and the GOAWAY that tells it
abbrev pub Offends : List ℕ → List (ℕ × Frame) → Part → ℕ → ℕ → List ℕ → Type 0
Offends ins ps p code at text =
    (IsMalformed ins ps code at × (text ≡ away p code)) ⊎ ((f : IsForbidden ins ps p code at) × (text ≡ away (at_offence p f.frame) code))

-- ---- what was read, by the end

-- a GOAWAY of the peer came, and no stream is live
abbrev pub IsOver : Conn → Type 0
IsOver c = (c.over ≡ true) × (c.part.streams ≡ [])

-- how the bytes that were read are the frames that were read, and then a rest
abbrev pub ReadsSo : ConnEnd → List ℕ → List (ℕ × Frame) → Conn → Type 0
ReadsSo ends.Done ins ps c = IsStream true ins ps None None ⊎ (AreFirst ins ps × IsOver c)
ReadsSo (ends.Truncated at) ins ps c = IsStream true ins ps None (Some at)
ReadsSo (ends.Protocol code at) ins ps c = AreFirst ins ps
ReadsSo ends.ReadFault ins ps c = (place : Option ℕ) × IsStream true ins ps None place
ReadsSo ends.WriteFault ins ps c = AreFirst ins ps
ReadsSo ends.Spent ins ps c = AreFirst ins ps
ReadsSo ends.OutOfMemory ins ps c = AreFirst ins ps

-- ---- what was written, by the end

-- all that was to be written: this end's SETTINGS, and the frames
abbrev pub all_out : List Frame → List ℕ
all_out sent = first_output roles.Server ++ spellings sent

-- what was written, and the rest of what was to be written
abbrev pub IsPrefix : List ℕ → List ℕ → Type 0
IsPrefix outs all = (more : List ℕ) × (outs ++ more ≡ all)

-- it was broken off, perhaps within the GOAWAY that tells an offence
abbrev pub IsBrokenOff : List ℕ → List ℕ → List (ℕ × Frame) → Conn → List Frame → Type 0
IsBrokenOff outs ins ps c sent =
    IsPrefix outs (all_out sent) ⊎ ((code : ℕ) × (at : ℕ) × (text : List ℕ) × Offends ins ps c.part code at text × IsPrefix outs (all_out sent ++ text))

abbrev pub WritesSo : ConnEnd → List ℕ → List ℕ → List (ℕ × Frame) → Conn → List Frame → Type 0
WritesSo ends.Done outs ins ps c sent = outs ≡ all_out sent
WritesSo (ends.Truncated at) outs ins ps c sent = outs ≡ all_out sent
WritesSo (ends.Protocol code at) outs ins ps c sent = (text : List ℕ) × Offends ins ps c.part code at text × (outs ≡ all_out sent ++ text)
WritesSo ends.ReadFault outs ins ps c sent = outs ≡ all_out sent
WritesSo ends.WriteFault outs ins ps c sent = IsBrokenOff outs ins ps c sent
WritesSo ends.Spent outs ins ps c sent = outs ≡ all_out sent
WritesSo ends.OutOfMemory outs ins ps c sent = IsBrokenOff outs ins ps c sent

-- There is a lawful exchange to this end whose frames read are those of the bytes read, whose frames written are those of the
-- bytes written, and whose steps are these.
pub record Written (ins outs : List ℕ) (steps : List Step) (end : ConnEnd) : Type 0 where
  pub frames : List (ℕ × Frame)
  pub sent : List Frame
  pub last : Conn
  pub course : Course start last (frames_of frames) steps sent
  pub ended : last.end ≡ Some end
  pub reads : ReadsSo end ins frames last
  pub writes : WritesSo end outs ins frames last sent

-- ---- causes

abbrev pub Cause : ConnEnd → Bool → Linked → Linked → ℕ → ℕ → Type 0
Cause ends.Done over a b read left = FoundEnd a b ⊎ (over ≡ true)
Cause (ends.Truncated at) over a b read left = FoundEnd a b
Cause (ends.Protocol code at) over a b read left = Unit {0}
Cause ends.ReadFault over a b read left = Rose a.read_faults b.read_faults
Cause ends.WriteFault over a b read left = Rose a.write_faults b.write_faults
-- 2^50 bytes were read, or a frame came where the door may take fewer than 2^40 turns
Cause ends.Spent over a b read left = (read ≡ 2 ^ 50) ⊎ (left < 2 ^ 40)
Cause ends.OutOfMemory over a b read left = Unit {0}

-- ---- the owner

-- the entries of an owner who came, did this, and went
abbrev pub life : ℕ → List Step → List Entry
life owner steps =
    record { owner = owner; event = events.Open; reply = replies.Opened owner } ∷ (by owner (made steps) ++ record { owner = owner; event = events.Close; reply = replies.Closed } ∷ [])

-- an owner came to the door, did this, and went, and holds no lease
pub record Lived (v w : View) (steps : List Step) : Type 0 where
  pub owner : ℕ
  pub is_owner : w.owner ≡ Some owner
  pub is_out : w.entered ≡ false
  pub mine : w.mine ≡ life owner steps
  pub leases : own_now w ≡ []
  pub sound : IsSound w
  pub start : w.start ≡ v.start
  pub seen : Extends v.seen w.seen
  pub count : w.made ≡ v.made + length (life owner steps)
  pub grant : w.grant ≡ v.grant
  pub identity : w.identity ≡ v.identity

-- a whole connection
pub record Served (report : ConnReport) (v w : View) (x y : Shelved) (a b : Linked) : Type 0 where
  pub ins : List ℕ
  pub outs : List ℕ
  pub steps : List Step
  pub written : Written ins outs steps report.end
  pub lived : Lived v w steps
  pub shelf : Shelves x y steps
  pub carries : Carries a b ins outs
  pub cause : Cause report.end written.last.over a b (length ins) w.left
  pub turns : report.turns ≡ length (life lived.owner steps)
  pub read : report.read ≡ length ins
  pub count : report.written ≡ min (length outs) (2 ^ 64 - 1)

-- memory was wanting before the owner came
pub record Unserved (report : ConnReport) (v w : View) (x y : Shelved) (a b : Linked) : Type 0 where
  pub told : report ≡ record { end = ends.OutOfMemory; turns = 0; read = 0; written = 0 }
  pub stays : StaysOut v w ⊎ (w ≡ v)
  pub shelf : y ≡ x
  pub link : b ≡ a

abbrev pub Serves : ConnReport → View → View → Shelved → Shelved → Linked → Linked → Type 0
Serves report v w x y a b = Served report v w x y a b ⊎ Unserved report v w x y a b
