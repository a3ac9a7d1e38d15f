-- Calls, from one frame to the next.
use Rattle.std.proofs.Common.{◌≡◌, ℕ, ◌+◌, ◌<◌, ◌≤◌, Bool, true, false, List, [], ◌∷◌, ◌++◌, length, arith, refl, sym, ap, subst, ◌∙◌, inl, inr}
use Rattle.std.specs.Prelude.{Option, Some, None, Result, Ok, Err, OnOk, IfOk, IfErr, is_none, if◌then◌else◌}
use Rattle.h2_frames.specs.declared.fault.FrameFault.{FrameFault}
use Rattle.h2_frames.specs.declared.fault.FrameFault.TheVariants as reading
use Rattle.h2_frames.specs.declared.frame.Frame.{Frame}
use Rattle.h2_frames.specs.Reading.{Fails}
use Rattle.h2_frames.specs.Stream.{Pending, given, begun as begun_reader}
use Rattle.h2_session.specs.declared.fault.ConnFault.{ConnFault}
use Rattle.h2_session.specs.declared.fault.ConnFault.TheVariants as conn
use Rattle.hpack_tables.specs.declared.header.Header.{Header}
use Rattle.h2_session.specs.declared.role.Role.{Role}
use Rattle.h2_session.specs.declared.role.Role.TheVariants as roles
use Rattle.h2_session.specs.declared.event.SessionEvent.{SessionEvent}
use Rattle.h2_session.specs.declared.event.SessionEvent.TheVariants as session
use Rattle.h2_session.specs.declared.event.Out.{Out}
use Rattle.h2_session.specs.Part.{Part}
use Rattle.h2_session.specs.declared.block.Block.{Block}
use Rattle.h2_session.specs.Faults.{offence, frame_offence, gathered, is_client}
use Rattle.h2_session.specs.Heard.{heard, at_offence, begun_by}
use Rattle.h2_session.specs.Said.{said}
use Rattle.h2_session.specs.Session.{Session, Goes, exhausted, offended}
use Rattle.grpc_calls.specs.declared.call.Call.{Call}
use Rattle.grpc_calls.specs.declared.event.CallEvent.{CallEvent}
use Rattle.grpc_calls.specs.declared.refusal.Refusal.{Refusal}
use Rattle.grpc_calls.specs.Table.{GivesTold}
use Rattle.grpc_calls.specs.Streams.{Told, told, told_by, told_headers, call_in, is_fresh}
use Rattle.grpc_calls.specs.Calls.{Calls, Hears, Heeds, Reads, ReadsOn, ReadsNone, Refuses, GivesUp, over_with, Says, OffendsOr, GivesHeard, GivesFrame, refusal_at}
use Rattle.grpc_calls.proofs.StayLaws.{goes_role, heard_role, said_role, exhausted_is}

-- ---- want of memory

pub gives_up_by : (old mid new : Calls) → mid.session.part.role ≡ old.session.part.role → GivesUp mid new → GivesUp old new
gives_up_by old mid new e h = h ∙ ap (λ (s : Session). over_with s new.reader) (exhausted_is old.session mid.session e)

pub gives_up_role : (old new : Calls) → GivesUp old new → new.session.part.role ≡ old.session.part.role
gives_up_role old new h = ap (λ (c : Calls). c.session.part.role) h

pub says_role : (n : ℕ) (what : Out) (old new : Calls) → Says n what old new → new.session.part.role ≡ old.session.part.role
says_role n what old new h = goes_role (said n what old.session.part) old.session new.session h.goes (said_role n what old.session.part)

-- ---- a frame

pub heard_goes_role : (old new : Session) (f : Frame) → Goes (heard old.part f).part old new → new.part.role ≡ old.part.role
heard_goes_role old new f h = goes_role (heard old.part f).part old new h (heard_role old.part f)

pub hears_by : (old : Session) (f : Frame) (event : Option SessionEvent) (mid new : Calls) → (offence old.part f ≡ None) × (event ≡ (heard old.part f).event) → Goes (heard old.part f).part old mid.session
    → Heeds event mid new → Hears old mid.calls f new
hears_by old f event mid new h goes k = record {
  sound = h.0;
  session = mid.session;
  goes = goes;
  calls = k.calls ∙ ap (λ (o : Option SessionEvent). (told mid.session.part o mid.calls).calls) h.1;
  pending = k.pending ∙ ap (λ (o : Option SessionEvent). (told mid.session.part o mid.calls).events) h.1;
  refuses = subst (λ (o : Option SessionEvent). Refuses (told mid.session.part o mid.calls).refused mid.session new.session) h.1 k.refuses;
}

pub if_ok : {T E : Type 0} (r : Result T E) (P Q : Type 0) → (P → Q) → OnOk r P → OnOk r Q
if_ok (Ok x) P Q f h = f h
if_ok (Err e) P Q f h = tt

pub if_err : {T E : Type 0} (r : Result T E) (P Q : E → Type 0) → ((e : E) → P e → Q e) → IfErr r P → IfErr r Q
if_err (Ok x) P Q f h = tt
if_err (Err e) P Q f h = f e h

pub memory_or : (at : ℕ) (f : Frame) (old new : Calls) (mid : Session) (e : ConnFault) → mid.part.role ≡ old.session.part.role → (e ≡ conn.OutOfMemory) × (new ≡ over_with (exhausted mid) new.reader) → OffendsOr at f old new e
memory_or at f old new mid e role h =
    subst (λ (x : ConnFault). OffendsOr at f old new x) (sym h.0) (h.1 ∙ ap (λ (s : Session). over_with s new.reader) (exhausted_is old.session mid role))

pub offends_by : (at : ℕ) (f : Frame) (old new : Calls) (e : ConnFault) (s : Session)
    → ((code place : ℕ) → e ≡ conn.Offence code place → (offence old.session.part f ≡ Some code) × (place ≡ at) × (s ≡ offended (at_offence old.session.part f) code at old.session))
    → (e ≡ conn.OutOfMemory → s ≡ exhausted old.session) → new ≡ over_with s old.reader → OffendsOr at f old new e
offends_by at f old new (conn.Offence code place) s h k over =
    let x = h code place refl in
    (x.0, x.1, over ∙ ap (λ (y : Session). over_with y old.reader) x.2)
offends_by at f old new conn.OutOfMemory s h k over =
    let here : new.reader ≡ old.reader = ap (λ (c : Calls). c.reader) over in
    over ∙ (ap (λ (y : Session). over_with y old.reader) (k refl) ∙ ap (λ (r : Pending). over_with (exhausted old.session) r) (sym here))

part_role : (t : Bool) (p q r : Part) → p.role ≡ r.role → q.role ≡ r.role → (if t then p else q).role ≡ r.role
part_role true p q r h k = h
part_role false p q r h k = k

begun_role : (o : Option Block) (p : Part) → (begun_by o p).role ≡ p.role
begun_role None p = refl
begun_role (Some b) p = part_role b.begins (record p { highest = b.stream }) p p refl refl

offended_role : (old : Session) (f : Frame) → (at_offence old.part f).role ≡ old.part.role
offended_role old f = part_role (is_none (frame_offence old.part f)) (begun_by (gathered old.part f) old.part) old.part old.part (begun_role (gathered old.part f) old.part) refl

pub offends_role : (at : ℕ) (f : Frame) (old new : Calls) (e : ConnFault) → OffendsOr at f old new e → new.session.part.role ≡ old.session.part.role
offends_role at f old new (conn.Offence code place) h = ap (λ (c : Calls). c.session.part.role) h.2 ∙ offended_role old.session f
offends_role at f old new conn.OutOfMemory h = gives_up_role old new h

-- ---- the next frame

pub gives_frame : (old new : Calls) (rest : Pending) (next : Option (ℕ × Frame)) (r : Result Bool ConnFault) → given old.reader ≡ Ok (next, rest) → new.reader ≡ rest → GivesHeard next (record old { reader = rest }) new r → GivesFrame old new r
gives_frame old new rest None (Ok false) g e h = (
  g ∙ ap (λ (x : Pending). Ok (None, x)) (sym e),
  h ∙ ap (λ (x : Pending). record old { reader = x }) (sym e),
)
gives_frame old new rest None (Ok true) g e h = absurd h
gives_frame old new rest None (Err x) g e h = absurd h
gives_frame old new rest (Some p) (Ok false) g e h = absurd h
gives_frame old new rest (Some p) (Ok true) g e h = (p.0, p.1, record { given = g ∙ ap (λ (x : Pending). Ok (Some p, x)) (sym e); hears = h })
gives_frame old new rest (Some p) (Err (conn.Offence code place)) g e h = inr (record {
  frame = p.1;
  given = g ∙ (ap (λ (x : Pending). Ok (Some p, x)) (sym e) ∙ ap (λ (n : ℕ). Ok (Some (n, p.1), new.reader)) (sym h.1));
  offence = h.0;
  over = h.2 ∙ (ap (λ (x : Pending). over_with (offended (at_offence old.session.part p.1) code p.0 old.session) x) (sym e) ∙ ap (λ (n : ℕ). over_with (offended (at_offence old.session.part p.1) code n old.session) new.reader) (sym h.1));
})
gives_frame old new rest (Some p) (Err conn.OutOfMemory) g e h = (h, inl (p, g ∙ ap (λ (x : Pending). Ok (Some p, x)) (sym e)))

-- a refusal of the reader is that of its definition, but for want of memory
pub refused_given : {A : Type 0} (fault : FrameFault) (g : Result A FrameFault) (x : ℕ × ℕ) → refusal_at fault ≡ Some x → Fails fault g → g ≡ Err fault
refused_given (reading.BadPreface at) g x e h = h
refused_given (reading.TooLong at) g x e h = h
refused_given (reading.BadLength at) g x e h = h
refused_given (reading.BadPadding at) g x e h = h
refused_given (reading.BadStream at) g x e h = h
refused_given reading.OutOfMemory g x e h = absurd cc

pub refused_frame : (old new : Calls) (rest : Pending) (fault : FrameFault) (e : ConnFault) (s : Session) → Fails fault (given old.reader)
    → rest ≡ record (begun_reader old.reader) { fault = Some fault }
    → ((code at : ℕ) → e ≡ conn.Offence code at → (refusal_at fault ≡ Some (code, at)) × (s ≡ offended old.session.part code at old.session))
    → (e ≡ conn.OutOfMemory → s ≡ exhausted old.session) → new ≡ over_with s rest → GivesFrame old new (Err e)
refused_frame old new rest fault (conn.Offence code at) s g left h k over =
    let x = h code at refl in
    let here : new.reader ≡ rest = ap (λ (c : Calls). c.reader) over in
    inl (record {
      fault = fault;
      given = refused_given fault (given old.reader) (code, at) x.0 g;
      refusal = x.0;
      reader = here ∙ left;
      over = over ∙ (ap (λ (y : Session). over_with y rest) x.1 ∙ ap (λ (y : Pending). over_with (offended old.session.part code at old.session) y) (sym here));
    })
refused_frame old new rest fault conn.OutOfMemory s g left h k over =
    let here : new.reader ≡ rest = ap (λ (c : Calls). c.reader) over in (
      over ∙ (ap (λ (y : Session). over_with y rest) (k refl) ∙ ap (λ (y : Pending). over_with (exhausted old.session) y) (sym here)),
      inr (fault, here ∙ left),
    )

pub refused_role : (old s : Session) (fault : FrameFault) (e : ConnFault) → ((code at : ℕ) → e ≡ conn.Offence code at → (refusal_at fault ≡ Some (code, at)) × (s ≡ offended old.part code at old))
    → (e ≡ conn.OutOfMemory → s ≡ exhausted old) → s.part.role ≡ old.part.role
refused_role old s fault (conn.Offence code at) h k = ap (λ (y : Session). y.part.role) (h code at refl).1
refused_role old s fault conn.OutOfMemory h k = ap (λ (y : Session). y.part.role) (k refl)

-- ---- frames without an event

pub reads_more : (c : Calls) (ps : List (ℕ × Frame)) (m : Calls) (at : ℕ) (f : Frame) (d : Calls) → ReadsOn c ps m → Reads m at f d → d.pending ≡ [] → ReadsOn c (ps ++ (at, f) ∷ []) d
reads_more c [] m at f d h r empty = (d, subst (λ (x : Calls). Reads x at f d) (sym h) r, empty, refl)
reads_more c (p ∷ ps) m at f d h r empty = (h.0, h.1, h.2, reads_more h.0 ps m at f d h.3 r empty)

-- ---- what an event tells

pub client_is : (t : Bool) (r : Role) → (t ≡ true → r ≡ roles.Client) → (t ≡ false → r ≡ roles.Server) → t ≡ is_client r
client_is true r h k = sym (ap is_client (h refl))
client_is false r h k = sym (ap is_client (k refl))

headers_same : (p : Part) (calls : List Call) (client fresh : Bool) (n : ℕ) (headers : List Header) (end : Bool) (event : SessionEvent) → client ≡ is_client p.role → fresh ≡ is_fresh n p → event ≡ session.Headers n headers end
    → told_headers client fresh n headers end (call_in n calls) calls ≡ told_by p event calls
headers_same p calls client fresh n headers end event c f e =
    ap (λ (t : Bool). told_headers t fresh n headers end (call_in n calls) calls) c
    ∙ (ap (λ (t : Bool). told_headers (is_client p.role) t n headers end (call_in n calls) calls) f ∙ ap (λ (x : SessionEvent). told_by p x calls) (sym e))

pub headers_told : {E : Type 0} (old : Calls) (client fresh : Bool) (n : ℕ) (headers : List Header) (end : Bool) (event : SessionEvent) (calls : List Call) (pending : List CallEvent) (r : Result (Option (ℕ × Refusal)) E)
    → client ≡ is_client old.session.part.role → fresh ≡ is_fresh n old.session.part → event ≡ session.Headers n headers end
    → OnOk r (GivesTold (told_headers client fresh n headers end (call_in n old.calls) old.calls) calls old.pending pending)
    → OnOk r (record old { calls = calls; pending = pending } ≡ record old { calls = (told_by old.session.part event old.calls).calls; pending = old.pending ++ (told_by old.session.part event old.calls).events })
headers_told old client fresh n headers end event calls pending r c f e h =
    let same = headers_same old.session.part old.calls client fresh n headers end event c f e in
    if_ok r _ _ (λ g.
    ap (λ (x : List Call). record old { calls = x; pending = pending }) (g.0 ∙ ap (λ (t : Told). t.calls) same)
    ∙ ap (λ (x : List CallEvent). record old { calls = (told_by old.session.part event old.calls).calls; pending = x }) (g.1 ∙ ap (λ (t : Told). old.pending ++ t.events) same)) h

pub headers_refused : {E : Type 0} (old : Calls) (client fresh : Bool) (n : ℕ) (headers : List Header) (end : Bool) (event : SessionEvent) (r : Result (Option (ℕ × Refusal)) E)
    → client ≡ is_client old.session.part.role → fresh ≡ is_fresh n old.session.part → event ≡ session.Headers n headers end
    → IfOk r (λ x. x ≡ (told_headers client fresh n headers end (call_in n old.calls) old.calls).refused) → IfOk r (λ x. x ≡ (told_by old.session.part event old.calls).refused)
headers_refused old client fresh n headers end event (Ok x) c f e h = h ∙ ap (λ (t : Told). t.refused) (headers_same old.session.part old.calls client fresh n headers end event c f e)
headers_refused old client fresh n headers end event (Err x) c f e h = tt
