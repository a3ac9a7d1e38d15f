-- What may be handed in.
use Rattle.std.proofs.Common.{◌≡◌, ℕ, ◌≤◌, Bool, true, false, List, [], refl, sym, ap, subst, ◌∙◌}
use Rattle.std.specs.Prelude.{Option, Some, None, Result, Ok, Err, OnOk, is_none, is_some, ◌&&◌}
use Rattle.std.proofs.lemmas.Bool.{and_parts}
use Rattle.hpack_tables.specs.declared.header.Header.{Header}
use Rattle.hpack_tables.specs.Table.{list_size}
use Rattle.h2_session.specs.Codes.{max_list}
use Rattle.h2_session.specs.declared.fault.ConnFault.{ConnFault}
use Rattle.h2_session.specs.declared.role.Role.{Role}
use Rattle.h2_session.specs.declared.role.Role.TheVariants as roles
use Rattle.h2_session.specs.declared.stream.Stream.{Stream}
use Rattle.h2_session.specs.declared.stream.Sending.{Sending}
use Rattle.h2_session.specs.declared.stream.Sending.TheVariants as sending
use Rattle.h2_session.specs.declared.event.Out.{Out}
use Rattle.h2_session.specs.declared.event.Out.TheVariants as outs
use Rattle.h2_session.specs.Part.{Part, stream_of}
use Rattle.h2_session.specs.Faults.{is_server, is_client}
use Rattle.h2_session.specs.Rows.{is_unopened}
use Rattle.h2_session.specs.Said.{said, may_say, is_sending, IsSayable, IsSayableNow}
use Rattle.h2_session.specs.Session.{Session, Goes}
use Rattle.grpc_calls.specs.Streams.{is_fresh, is_fresh_stream}
use Rattle.grpc_calls.specs.Calls.{Calls, Says, IsOpen, Opened, Opens, may_reply, may_reply_to, may_reply_on, Replies, Finishes}
use Rattle.grpc_calls.specs.Headers.{answer_headers, trailers}
use Rattle.grpc_calls.specs.Framing.{framed}
use Rattle.casd_base.specs.declared.status.Status.{Status}
use Rattle.grpc_calls.proofs.StayLaws.{OpenIn, open_stays, open_is, opened_said}

no_fault : (o : Option ConnFault) → is_none o ≡ true → o ≡ None
no_fault None e = refl
no_fault (Some x) e = absurd cc

pub live_sound : (n : ℕ) (c : Calls) → may_reply n c ≡ true → c.session.fault ≡ None
unfolding may_reply
live_sound n c h = no_fault c.session.fault (and_parts _ _ h).0

live_to : (n : ℕ) (c : Calls) → may_reply n c ≡ true → may_reply_to (is_client c.session.part.role) (stream_of n c.session.part) ≡ true
unfolding may_reply
live_to n c h = (and_parts _ _ h).1

-- ---- streams that are open

pub record OpenAt (o : Option Stream) : Type 0 where
  pub stream : Stream
  pub found : o ≡ Some stream
  pub is_open : stream.sending ≡ sending.Open

open_client : (x : Sending) → may_reply_on true x ≡ true → x ≡ sending.Open
open_client sending.Unopened h = absurd cc
open_client sending.Open h = refl
open_client (sending.Trailers hs) h = absurd cc
open_client sending.HalfClose h = absurd cc
open_client sending.Ended h = absurd cc

open_server : (x : Sending) → is_sending x ≡ true → is_unopened x ≡ false → x ≡ sending.Open
open_server sending.Unopened h u = absurd cc
open_server sending.Open h u = refl
open_server (sending.Trailers hs) h u = absurd cc
open_server sending.HalfClose h u = absurd cc
open_server sending.Ended h u = absurd cc

open_at : (r : Role) (o : Option Stream) → may_reply_to (is_client r) o ≡ true → (is_server r && is_fresh_stream o) ≡ false → OpenAt o
open_at roles.Server None h u = absurd cc
open_at roles.Client None h u = absurd cc
open_at roles.Server (Some s) h u = record { stream = s; found = refl; is_open = open_server s.sending h u }
open_at roles.Client (Some s) h u = record { stream = s; found = refl; is_open = open_client s.sending h }

-- a call that is live, whose headers are out
pub open_live : (n : ℕ) (c : Calls) → may_reply n c ≡ true → is_fresh n c.session.part ≡ false → IsOpen n c.session.part
open_live n c h u =
    let o = open_at c.session.part.role (stream_of n c.session.part) (live_to n c h) u in
    record { stream = o.stream; found = o.found; is_open = o.is_open }

client_stale : (r : Role) (o : Option Stream) → r ≡ roles.Client → (is_server r && is_fresh_stream o) ≡ false
client_stale roles.Server o e = absurd cc
client_stale roles.Client o e = refl

pub client_open : (n : ℕ) (c : Calls) → may_reply n c ≡ true → c.session.part.role ≡ roles.Client → IsOpen n c.session.part
client_open n c h e = open_live n c h (client_stale c.session.part.role (stream_of n c.session.part) e)

-- ---- what is sayable on them

pub open_says : (n : ℕ) (p : Part) → IsOpen n p → may_say (stream_of n p) ≡ true
open_says n p o = ap may_say o.found ∙ ap is_sending o.is_open

sayable_by : (r : Role) (what : Out) (n : ℕ) (p : Part) → (o : IsOpen n p) → IsSayableNow r what sending.Open → IsSayable r what (stream_of n p)
sayable_by r what n p o h =
    subst (λ (x : Option Stream). IsSayable r what x) (sym o.found) (subst (λ (x : Sending). IsSayableNow r what x) (sym o.is_open) h)

piece_now : (r : Role) (bytes : List ℕ) → IsSayableNow r (outs.Piece bytes false) sending.Open
piece_now roles.Server bytes = refl
piece_now roles.Client bytes = tt

pub piece_sayable : (r : Role) (bytes : List ℕ) (n : ℕ) (p : Part) → IsOpen n p → IsSayable r (outs.Piece bytes false) (stream_of n p)
piece_sayable r bytes n p o = sayable_by r (outs.Piece bytes false) n p o (piece_now r bytes)

pub last_sayable : (r : Role) (bytes : List ℕ) (n : ℕ) (p : Part) → r ≡ roles.Client → IsOpen n p → IsSayable r (outs.Piece bytes true) (stream_of n p)
last_sayable r bytes n p e o = subst (λ (x : Role). IsSayable x (outs.Piece bytes true) (stream_of n p)) (sym e) (sayable_by roles.Client (outs.Piece bytes true) n p o tt)

pub trailers_sayable : (r : Role) (headers : List Header) (n : ℕ) (p : Part) → r ≡ roles.Server → list_size headers ≤ max_list → IsOpen n p → IsSayable r (outs.Headers headers true) (stream_of n p)
trailers_sayable r headers n p e small o = subst (λ (x : Role). IsSayable x (outs.Headers headers true) (stream_of n p)) (sym e) (sayable_by roles.Server (outs.Headers headers true) n p o (refl, small))

-- ---- streams that haven't been answered

pub record FreshAt (r : Role) (o : Option Stream) : Type 0 where
  pub role : r ≡ roles.Server
  pub stream : Stream
  pub found : o ≡ Some stream
  pub unopened : stream.sending ≡ sending.Unopened

unopened_is : (x : Sending) → is_unopened x ≡ true → x ≡ sending.Unopened
unopened_is sending.Unopened u = refl
unopened_is sending.Open u = absurd cc
unopened_is (sending.Trailers hs) u = absurd cc
unopened_is sending.HalfClose u = absurd cc
unopened_is sending.Ended u = absurd cc

fresh_at : (r : Role) (o : Option Stream) → (is_server r && is_fresh_stream o) ≡ true → FreshAt r o
fresh_at roles.Server None u = absurd cc
fresh_at roles.Client None u = absurd cc
fresh_at roles.Server (Some s) u = record { role = refl; stream = s; found = refl; unopened = unopened_is s.sending u }
fresh_at roles.Client (Some s) u = absurd cc

pub fresh_says : (n : ℕ) (p : Part) → is_fresh n p ≡ true → may_say (stream_of n p) ≡ true
fresh_says n p u = let f = fresh_at p.role (stream_of n p) u in ap may_say f.found ∙ ap is_sending f.unopened

fresh_now : (r : Role) (o : Option Stream) (headers : List Header) (end : Bool) → FreshAt r o → list_size headers ≤ max_list → IsSayable r (outs.Headers headers end) o
fresh_now r o headers end f small =
    subst (λ (x : Role). IsSayable x (outs.Headers headers end) o) (sym f.role)
    (subst (λ (x : Option Stream). IsSayable roles.Server (outs.Headers headers end) x) (sym f.found)
    (subst (λ (x : Sending). IsSayableNow roles.Server (outs.Headers headers end) x) (sym f.unopened) small))

pub fresh_sayable : (n : ℕ) (p : Part) (headers : List Header) (end : Bool) → is_fresh n p ≡ true → list_size headers ≤ max_list → IsSayable p.role (outs.Headers headers end) (stream_of n p)
fresh_sayable n p headers end u small = fresh_now p.role (stream_of n p) headers end (fresh_at p.role (stream_of n p) u) small

-- behind its headers, a stream is open
pub headers_open : (n : ℕ) (headers : List Header) (old new : Session) → is_fresh n old.part ≡ true → Goes (said n (outs.Headers headers false) old.part) old new → IsOpen n new.part
headers_open n headers old new u g =
    let f = fresh_at old.part.role (stream_of n old.part) u in
    open_is n new.part (open_stays n (said n (outs.Headers headers false) old.part) g.settles.frames new.part g.settles.sends (opened_said n headers old.part f.stream f.found (ap is_unopened f.unopened)))

-- ---- whether a call is live

some_none : (o : Option ConnFault) → is_some o ≡ true → (b : Bool) → false ≡ (is_none o && b)
some_none None e b = absurd cc
some_none (Some x) e b = refl

pub not_live : (n : ℕ) (c : Calls) → is_some c.session.fault ≡ true → false ≡ may_reply n c
unfolding may_reply
not_live n c h = some_none c.session.fault h _

none_of : (o : Option ConnFault) (b : Bool) → is_some o ≡ false → b ≡ (is_none o && b)
none_of None b e = refl
none_of (Some x) b e = absurd cc

server_live : (r : Role) (o : Option Stream) → r ≡ roles.Server → may_say o ≡ may_reply_to (is_client r) o
server_live roles.Server None e = refl
server_live roles.Server (Some s) e = refl
server_live roles.Client o e = absurd cc

pub live_server : (n : ℕ) (c : Calls) → is_some c.session.fault ≡ false → c.session.part.role ≡ roles.Server → may_say (stream_of n c.session.part) ≡ may_reply n c
unfolding may_reply
live_server n c f e = server_live c.session.part.role (stream_of n c.session.part) e ∙ none_of c.session.fault _ f

sayable_open : (s : Sending) (bytes : List ℕ) → IsSayableNow roles.Client (outs.Piece bytes false) s → s ≡ sending.Open
sayable_open sending.Unopened bytes h = absurd h
sayable_open sending.Open bytes h = refl
sayable_open (sending.Trailers hs) bytes h = absurd h
sayable_open sending.HalfClose bytes h = absurd h
sayable_open sending.Ended bytes h = absurd h

reply_sayable : (s : Sending) (bytes : List ℕ) → may_reply_on true s ≡ true → IsSayableNow roles.Client (outs.Piece bytes false) s
reply_sayable s bytes h = subst (λ (x : Sending). IsSayableNow roles.Client (outs.Piece bytes false) x) (sym (open_client s h)) tt

client_live : (o : Option Stream) (bytes : List ℕ) (t u : Bool) → u ≡ may_reply_to true o → (t ≡ true → IsSayable roles.Client (outs.Piece bytes false) o) → (IsSayable roles.Client (outs.Piece bytes false) o → t ≡ true) → t ≡ u
client_live None bytes true u e if_so if_not = absurd (if_so refl)
client_live None bytes false u e if_so if_not = sym e
client_live (Some s) bytes true u e if_so if_not = sym (e ∙ ap (may_reply_on true) (sayable_open s.sending bytes (if_so refl)))
client_live (Some s) bytes false true e if_so if_not = if_not (reply_sayable s.sending bytes (sym e))
client_live (Some s) bytes false false e if_so if_not = refl

pub live_client : (n : ℕ) (c : Calls) (bytes : List ℕ) (t : Bool) → is_some c.session.fault ≡ false → c.session.part.role ≡ roles.Client
    → (t ≡ true → IsSayable c.session.part.role (outs.Piece bytes false) (stream_of n c.session.part)) → (IsSayable c.session.part.role (outs.Piece bytes false) (stream_of n c.session.part) → t ≡ true) → t ≡ may_reply n c
unfolding may_reply
live_client n c bytes t f e if_so if_not =
    let o = stream_of n c.session.part in
    client_live o bytes t (may_reply_to (is_client c.session.part.role) o) (ap (λ (r : Role). may_reply_to (is_client r) o) e)
    (λ h. subst (λ (r : Role). IsSayable r (outs.Piece bytes false) o) e (if_so h))
    (λ h. if_not (subst (λ (r : Role). IsSayable r (outs.Piece bytes false) o) (sym e) h))
    ∙ none_of c.session.fault _ f

-- ---- what follows the headers

pub replies_by : (n : ℕ) (message : List ℕ) (old mid new : Calls) → Opened n old mid → Says n (outs.Piece (framed message) false) mid new → Replies n message old new
replies_by n message old mid new o s = record {
  opened = mid.session;
  opens = o.opens;
  goes = s.goes;
  rest = s.rest ∙ ap (λ (c : Calls). record c { session = new.session }) o.rest;
}

-- ---- the headers of an answer

pub opened_before : (n : ℕ) (c : Calls) → may_reply n c ≡ true → is_fresh n c.session.part ≡ false → Opened n c c
opened_before n c h u = record {
  opens = subst (λ (t : Bool). Opens t n c.session c.session) (sym u) refl;
  rest = refl;
  is_open = open_live n c h u;
}

pub opened_now : (n : ℕ) (headers : List Header) (old new : Calls) → is_fresh n old.session.part ≡ true → headers ≡ answer_headers → Says n (outs.Headers headers false) old new → Opened n old new
opened_now n headers old new u e s =
    let g : Goes (said n (outs.Headers answer_headers false) old.session.part) old.session new.session =
    subst (λ (hs : List Header). Goes (said n (outs.Headers hs false) old.session.part) old.session new.session) e s.goes in
    record {
      opens = subst (λ (t : Bool). Opens t n old.session new.session) (sym u) g;
      rest = s.rest;
      is_open = headers_open n answer_headers old.session new.session u g;
    }

pub says_sound : (n : ℕ) (what : Out) (old new : Calls) → old.session.fault ≡ None → Says n what old new → new.session.fault ≡ None
says_sound n what old new e s = s.goes.fault ∙ e

pub if_ok : {T E : Type 0} (r : Result T E) (P Q : Type 0) → (P → Q) → OnOk r P → OnOk r Q
if_ok (Ok x) P Q f h = f h
if_ok (Err e) P Q f h = tt
