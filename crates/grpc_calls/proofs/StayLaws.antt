-- What a session's own writing leaves as it is: its role, and a stream on which more may be handed in.
use Rattle.std.proofs.Common.{◌≡◌, ℕ, zero, suc, ◌+◌, ◌-◌, ◌<◌, ◌≤◌, Bool, true, false, cond, List, [], ◌∷◌, ◌++◌, length, arith, refl, sym, ap, subst, ◌∙◌, inl, inr}
use Rattle.std.specs.Prelude.{Option, Some, None, Result, Ok, Err, nat_le, position, slice_get, slice_set, remove, option_and_then, nat_lt, ◌==◌, if◌then◌else◌}
use Rattle.std.specs.Option.{option_map}
use Rattle.std.specs.List.{position_or_len}
use Rattle.std.proofs.lemmas.Bool.{eqb-true, eqb-false, eq-eqb, ne_eqb, lt-ltb, ltb-true, ltb-false, le-ltb, cond-true, cond-false, cases_eq}
use Rattle.h2_frames.specs.declared.frame.Frame.{Frame}
use Rattle.h2_frames.specs.declared.frame.Frame.TheVariants as frames
use Rattle.hpack_tables.specs.declared.header.Header.{Header}
use Rattle.h2_session.specs.declared.stream.Stream.{Stream}
use Rattle.h2_session.specs.declared.stream.Sending.{Sending}
use Rattle.h2_session.specs.declared.stream.Sending.TheVariants as sending
use Rattle.h2_session.specs.declared.event.Out.{Out}
use Rattle.h2_session.specs.declared.event.Out.TheVariants as outs
use Rattle.hpack_tables.specs.declared.fault.HpackFault.{HpackFault}
use Rattle.hpack_tables.specs.Table.{HeaderTable}
use Rattle.h2_session.specs.Codes.{max_streams}
use Rattle.h2_session.specs.declared.block.Block.{Block}
use Rattle.h2_session.specs.declared.role.Role.{Role}
use Rattle.h2_session.specs.declared.fault.ConnFault.TheVariants as faults
use Rattle.h2_session.specs.Part.{Part, new_part, place_of, stream_of, put_at, taken_at, with_stream, without, owing, is_live}
use Rattle.h2_session.specs.Said.{said, said_to, said_on, said_headers, closed, owing_headers, cancelled}
use Rattle.h2_session.specs.Windows.{passes_max, grown}
use Rattle.h2_session.specs.Requests.{is_malformed}
use Rattle.h2_session.specs.Rows.{is_done, is_unopened}
use Rattle.h2_session.specs.Faults.{gathered, decoded}
use Rattle.h2_session.specs.Heard.{Heard, heard, ended_by_peer, granted, data_on, requested, headed, fragment, begun_by, with_setting, with_settings, updated}
use Rattle.h2_session.specs.Session.{Session, Goes, exhausted}
use Rattle.h2_session.specs.Sent.{Sends, MaySend, MaySendFirst, MaySendOn, IsPiece, IsTrailers, sent, sent_first, sent_on, after_piece, after_trailers, is_closing, number_of}
use Rattle.grpc_calls.specs.Calls.{IsOpen}

-- ---- a table of streams by recursion

behind_first : (k n : ℕ) (t : Bool) → nat_lt k n ≡ t → cond (nat_lt (1 + k) (suc n)) (Some (1 + k)) None ≡ option_map suc (cond t (Some k) None)
behind_first k n true h =
    let l = ltb-true k n h in
    cond-true (nat_lt (1 + k) (suc n)) (Some (1 + k)) None (lt-ltb (1 + k) (suc n) (omega (arith, l))) ∙ ap (λ (i : ℕ). Some i) (omega arith)
behind_first k n false h =
    let l = ltb-false k n h in
    cond-false (nat_lt (1 + k) (suc n)) (Some (1 + k)) None (le-ltb (1 + k) (suc n) (omega (arith, l)))

-- the first place in a list, by its first element
pub step_by : {X : Type 0} (t : Bool) (p : X → Bool) (x : X) (xs : List X) → p x ≡ t → position p (x ∷ xs) ≡ cond t (Some 0) (option_map suc (position p xs))
step_by true p x xs h = rw h (cond-true (nat_lt 0 (length (x ∷ xs))) (Some 0) None (lt-ltb 0 (length (x ∷ xs)) (omega arith)))
step_by false p x xs h = rw h (behind_first (position_or_len p xs) (length xs) (nat_lt (position_or_len p xs) (length xs)) refl)

pub find_in : ℕ → List Stream → Option Stream
find_in n [] = None
find_in n (x ∷ xs) = cond (x.number == n) (Some x) (find_in n xs)

pub set_in : ℕ → Stream → List Stream → List Stream
set_in n t [] = []
set_in n t (x ∷ xs) = cond (x.number == n) (t ∷ xs) (x ∷ set_in n t xs)

pub drop_in : ℕ → List Stream → List Stream
drop_in n [] = []
drop_in n (x ∷ xs) = cond (x.number == n) xs (x ∷ drop_in n xs)

next_get : (x : Stream) (xs : List Stream) (o : Option ℕ) → option_and_then (λ (i : ℕ). slice_get (x ∷ xs) i) (option_map suc o) ≡ option_and_then (λ (i : ℕ). slice_get xs i) o
next_get x xs None = refl
next_get x xs (Some i) = refl

next_put : (t x : Stream) (xs : List Stream) (o : Option ℕ) → put_at (option_map suc o) t (x ∷ xs) ≡ x ∷ put_at o t xs
next_put t x xs None = refl
next_put t x xs (Some i) = refl

next_taken : (x : Stream) (xs : List Stream) (o : Option ℕ) → taken_at (option_map suc o) (x ∷ xs) ≡ x ∷ taken_at o xs
next_taken x xs None = refl
next_taken x xs (Some i) = refl

found_by : (t : Bool) (n : ℕ) (x : Stream) (xs : List Stream) → (x.number == n) ≡ t → option_and_then (λ (i : ℕ). slice_get xs i) (place_of n xs) ≡ find_in n xs
    → option_and_then (λ (i : ℕ). slice_get (x ∷ xs) i) (place_of n (x ∷ xs)) ≡ find_in n (x ∷ xs)
unfolding find_in
found_by true n x xs h k =
    ap (option_and_then (λ (i : ℕ). slice_get (x ∷ xs) i)) (step_by true (λ (s : Stream). s.number == n) x xs h) ∙ sym (cond-true (x.number == n) (Some x) (find_in n xs) h)
found_by false n x xs h k =
    ap (option_and_then (λ (i : ℕ). slice_get (x ∷ xs) i)) (step_by false (λ (s : Stream). s.number == n) x xs h)
    ∙ (next_get x xs (place_of n xs) ∙ (k ∙ sym (cond-false (x.number == n) (Some x) (find_in n xs) h)))

pub found_is : (n : ℕ) (ss : List Stream) → option_and_then (λ (i : ℕ). slice_get ss i) (place_of n ss) ≡ find_in n ss
unfolding find_in
found_is n [] = refl
found_is n (x ∷ xs) = found_by (x.number == n) n x xs refl (found_is n xs)

set_by : (b : Bool) (n : ℕ) (t x : Stream) (xs : List Stream) → (x.number == n) ≡ b → put_at (place_of n xs) t xs ≡ set_in n t xs → put_at (place_of n (x ∷ xs)) t (x ∷ xs) ≡ set_in n t (x ∷ xs)
unfolding set_in
set_by true n t x xs h k =
    ap (λ (o : Option ℕ). put_at o t (x ∷ xs)) (step_by true (λ (s : Stream). s.number == n) x xs h) ∙ sym (cond-true (x.number == n) (t ∷ xs) (x ∷ set_in n t xs) h)
set_by false n t x xs h k =
    ap (λ (o : Option ℕ). put_at o t (x ∷ xs)) (step_by false (λ (s : Stream). s.number == n) x xs h)
    ∙ (next_put t x xs (place_of n xs) ∙ (ap (λ (ys : List Stream). x ∷ ys) k ∙ sym (cond-false (x.number == n) (t ∷ xs) (x ∷ set_in n t xs) h)))

pub set_is : (n : ℕ) (t : Stream) (ss : List Stream) → put_at (place_of n ss) t ss ≡ set_in n t ss
unfolding set_in
set_is n t [] = refl
set_is n t (x ∷ xs) = set_by (x.number == n) n t x xs refl (set_is n t xs)

drop_by : (b : Bool) (n : ℕ) (x : Stream) (xs : List Stream) → (x.number == n) ≡ b → taken_at (place_of n xs) xs ≡ drop_in n xs → taken_at (place_of n (x ∷ xs)) (x ∷ xs) ≡ drop_in n (x ∷ xs)
unfolding drop_in
drop_by true n x xs h k =
    ap (λ (o : Option ℕ). taken_at o (x ∷ xs)) (step_by true (λ (s : Stream). s.number == n) x xs h) ∙ sym (cond-true (x.number == n) xs (x ∷ drop_in n xs) h)
drop_by false n x xs h k =
    ap (λ (o : Option ℕ). taken_at o (x ∷ xs)) (step_by false (λ (s : Stream). s.number == n) x xs h)
    ∙ (next_taken x xs (place_of n xs) ∙ (ap (λ (ys : List Stream). x ∷ ys) k ∙ sym (cond-false (x.number == n) xs (x ∷ drop_in n xs) h)))

pub drop_is : (n : ℕ) (ss : List Stream) → taken_at (place_of n ss) ss ≡ drop_in n ss
unfolding drop_in
drop_is n [] = refl
drop_is n (x ∷ xs) = drop_by (x.number == n) n x xs refl (drop_is n xs)

-- ---- what is found in a table that has changed

cond_is : {A : Type 0} (t : Bool) (x y : A) (P : A → Type 0) → (t ≡ true → P x) → (t ≡ false → P y) → P (cond t x y)
cond_is true x y P h k = h refl
cond_is false x y P h k = k refl

pub found_number : (n : ℕ) (ss : List Stream) (s : Stream) → find_in n ss ≡ Some s → s.number ≡ n
unfolding find_in
found_number n [] s e = absurd cc
found_number n (x ∷ xs) s e =
    cond_is (x.number == n) (Some x) (find_in n xs) (λ (o : Option Stream). o ≡ Some s → s.number ≡ n)
    (λ t k. let same : x ≡ s = cc in ap (λ (y : Stream). y.number) (sym same) ∙ eqb-true x.number n t)
    (λ t k. found_number n xs s k) e

set_same : (n : ℕ) (t : Stream) (ss : List Stream) (s : Stream) → t.number ≡ n → find_in n ss ≡ Some s → find_in n (set_in n t ss) ≡ Some t
unfolding find_in set_in
set_same n t [] s e f = absurd cc
set_same n t (x ∷ xs) s e f =
    let hit = eq-eqb t.number n e in
    elim (x.number == n) as (λ b. (x.number == n) ≡ b → find_in n (cond b (t ∷ xs) (x ∷ set_in n t xs)) ≡ Some t) [
      | true ↦ λ h. cond-true (t.number == n) (Some t) (find_in n xs) hit
      | false ↦ λ h. cond-false (x.number == n) (Some x) (find_in n (set_in n t xs)) h ∙ set_same n t xs s e (sym (cond-false (x.number == n) (Some x) (find_in n xs) h) ∙ f)
    ] refl

set_other : (n m : ℕ) (t : Stream) (ss : List Stream) → t.number ≡ m → (n ≡ m → ⊥) → find_in n (set_in m t ss) ≡ find_in n ss
unfolding find_in set_in
set_other n m t [] e d = refl
set_other n m t (x ∷ xs) e d =
    let miss = ne_eqb t.number n (λ k. d (sym k ∙ e)) in
    elim (x.number == m) as (λ b. (x.number == m) ≡ b → find_in n (cond b (t ∷ xs) (x ∷ set_in m t xs)) ≡ find_in n (x ∷ xs)) [
      | true ↦ λ h. let off = ne_eqb x.number n (λ k. d (sym k ∙ eqb-true x.number m h)) in
          cond-false (t.number == n) (Some t) (find_in n xs) miss ∙ sym (cond-false (x.number == n) (Some x) (find_in n xs) off)
      | false ↦ λ h. ap (λ (o : Option Stream). cond (x.number == n) (Some x) o) (set_other n m t xs e d)
    ] refl

drop_other : (n m : ℕ) (ss : List Stream) → (n ≡ m → ⊥) → find_in n (drop_in m ss) ≡ find_in n ss
unfolding find_in drop_in
drop_other n m [] d = refl
drop_other n m (x ∷ xs) d =
    elim (x.number == m) as (λ b. (x.number == m) ≡ b → find_in n (cond b xs (x ∷ drop_in m xs)) ≡ find_in n (x ∷ xs)) [
      | true ↦ λ h. let off = ne_eqb x.number n (λ k. d (sym k ∙ eqb-true x.number m h)) in sym (cond-false (x.number == n) (Some x) (find_in n xs) off)
      | false ↦ λ h. ap (λ (o : Option Stream). cond (x.number == n) (Some x) o) (drop_other n m xs d)
    ] refl

-- ---- a stream on which more may be handed in, behind the headers

pub record OpenIn (n : ℕ) (ss : List Stream) : Type 0 where
  pub stream : Stream
  pub found : find_in n ss ≡ Some stream
  pub is_open : stream.sending ≡ sending.Open

open_set : (n : ℕ) (s t : Stream) (ss : List Stream) → find_in s.number ss ≡ Some s → t.number ≡ s.number → (s.sending ≡ sending.Open → t.sending ≡ sending.Open) → OpenIn n ss → OpenIn n (put_at (place_of s.number ss) t ss)
open_set n s t ss f e g h = subst (OpenIn n) (sym (set_is s.number t ss)) (elim (cases_eq n s.number) [
  | inl k ↦
      let here : find_in n ss ≡ Some s = subst (λ (i : ℕ). find_in i ss ≡ Some s) (sym k) f in
      let same : s ≡ h.stream = let both : Some s ≡ Some h.stream = sym here ∙ h.found in cc in
      record {
        stream = t;
        found = subst (λ (i : ℕ). find_in i (set_in s.number t ss) ≡ Some t) (sym k) (set_same s.number t ss s e f);
        is_open = g (ap (λ (x : Stream). x.sending) same ∙ h.is_open);
      }
  | inr k ↦ record { stream = h.stream; found = set_other n s.number t ss e k ∙ h.found; is_open = h.is_open }
])

open_drop : (n : ℕ) (s : Stream) (ss : List Stream) → find_in s.number ss ≡ Some s → (s.sending ≡ sending.Open → ⊥) → OpenIn n ss → OpenIn n (taken_at (place_of s.number ss) ss)
open_drop n s ss f g h = subst (OpenIn n) (sym (drop_is s.number ss)) (elim (cases_eq n s.number) [
  | inl k ↦
      let here : find_in n ss ≡ Some s = subst (λ (i : ℕ). find_in i ss ≡ Some s) (sym k) f in
      let same : s ≡ h.stream = let both : Some s ≡ Some h.stream = sym here ∙ h.found in cc in
      absurd (g (ap (λ (x : Stream). x.sending) same ∙ h.is_open))
  | inr k ↦ record { stream = h.stream; found = drop_other n s.number ss k ∙ h.found; is_open = h.is_open }
])

closing_not_open : (x : Sending) → is_closing x ≡ true → x ≡ sending.Open → ⊥
closing_not_open sending.Unopened h e = absurd cc
closing_not_open sending.Open h e = absurd cc
closing_not_open (sending.Trailers hs) h e = absurd cc
closing_not_open sending.HalfClose h e = absurd cc
closing_not_open sending.Ended h e = absurd cc

if_true : (t u e : Bool) → e ≡ (if t then u else false) → e ≡ true → u ≡ true
if_true true u e h k = sym h ∙ k
if_true false u e h k = absurd cc

piece_open : (n size : ℕ) (end : Bool) (s : Stream) (p : Part) → find_in s.number p.streams ≡ Some s → (end ≡ true → is_closing s.sending ≡ true) → OpenIn n p.streams → OpenIn n (after_piece size end (Some s) p).streams
piece_open n size false s p f g h = open_set n s _ p.streams f refl (λ e. e) h
piece_open n size true s p f g h =
    let shut = closing_not_open s.sending (g refl) in
    cond_is s.ended (without s.number p) _ (λ (q : Part). OpenIn n q.streams)
    (λ t. open_drop n s p.streams f shut h)
    (λ t. open_set n s _ p.streams f refl (λ e. absurd (shut e)) h)

trailers_open : (n : ℕ) (s : Stream) (p : Part) → find_in s.number p.streams ≡ Some s → (s.sending ≡ sending.Open → ⊥) → OpenIn n p.streams → OpenIn n (after_trailers (Some s) p).streams
trailers_open n s p f shut h =
    cond_is s.ended (without s.number (record p { shrink = false })) _ (λ (q : Part). OpenIn n q.streams)
    (λ t. open_drop n s p.streams f shut h)
    (λ t. open_drop n s p.streams f shut h)

own_number : (n : ℕ) (p : Part) (s : Stream) → stream_of n p ≡ Some s → find_in s.number p.streams ≡ Some s
own_number n p s e =
    let f : find_in n p.streams ≡ Some s = sym (found_is n p.streams) ∙ e in
    subst (λ (i : ℕ). find_in i p.streams ≡ Some s) (sym (found_number n p.streams s f)) f

on_open : (n : ℕ) (o : Option Stream) (p : Part) (f : Frame) → stream_of (number_of f) p ≡ o → MaySendOn o p f → OpenIn n p.streams → OpenIn n (sent_on o p f).streams
on_open n (Some s) p (frames.Data number bytes size end) e m h =
    piece_open n size end s (record p { window = p.window - size }) (own_number number p s e) (if_true _ _ end m.1.last) h
on_open n (Some s) p (frames.Headers number block end true) e m h =
    trailers_open n s p (own_number number p s e) (λ k. subst (λ (x : Sending). IsTrailers number block end s x p) k m) h
on_open n (Some s) p (frames.Headers number block end false) e m h = absurd m
on_open n (Some s) p (frames.Priority stream) e m h = absurd m
on_open n (Some s) p (frames.Reset stream code) e m h = absurd m
on_open n (Some s) p (frames.Settings ack values) e m h = absurd m
on_open n (Some s) p (frames.Push stream) e m h = absurd m
on_open n (Some s) p (frames.Ping ack bytes) e m h = absurd m
on_open n (Some s) p (frames.GoAway last code) e m h = absurd m
on_open n (Some s) p (frames.Window stream increment) e m h = absurd m
on_open n (Some s) p (frames.Continuation stream block whole) e m h = absurd m
on_open n (Some s) p (frames.Unknown kind) e m h = absurd m
on_open n None p f e m h = absurd m

first_open : (n : ℕ) (ds : List Frame) (p : Part) (f : Frame) → MaySendFirst ds p f → OpenIn n p.streams → OpenIn n (sent_first ds p f).streams
first_open n [] p f m h = on_open n (stream_of (number_of f) p) p f refl m h
first_open n (d ∷ ds) p f m h = h

pub open_stays : (n : ℕ) (p : Part) (fs : List Frame) (q : Part) → Sends p fs q → OpenIn n p.streams → OpenIn n q.streams
open_stays n p [] q e h = subst (λ (x : Part). OpenIn n x.streams) e h
open_stays n p (f ∷ fs) q m h = open_stays n (sent p f) fs q m.1 (first_open n p.due p f m.0 h)

-- ---- the role

if_role : (t : Bool) (p q : Part) (r : Part) → p.role ≡ r.role → q.role ≡ r.role → (if t then p else q).role ≡ r.role
if_role true p q r h k = h
if_role false p q r h k = k

pub closed_role : (s : Stream) (p : Part) → (closed s p).role ≡ p.role
closed_role s p = if_role s.ended (without s.number p) _ p refl refl

piece_role : (size : ℕ) (end : Bool) (o : Option Stream) (p : Part) → (after_piece size end o p).role ≡ p.role
piece_role size true None p = refl
piece_role size false None p = refl
piece_role size true (Some s) p = if_role s.ended (without s.number p) _ p refl refl
piece_role size false (Some s) p = refl

trailers_role : (o : Option Stream) (p : Part) → (after_trailers o p).role ≡ p.role
trailers_role None p = refl
trailers_role (Some s) p = closed_role s (record p { shrink = false })

on_role : (o : Option Stream) (p : Part) (f : Frame) → (sent_on o p f).role ≡ p.role
on_role o p (frames.Data number bytes size end) = piece_role size end o (record p { window = p.window - size })
on_role o p (frames.Headers number block end whole) = trailers_role o p
on_role o p (frames.Priority stream) = refl
on_role o p (frames.Reset stream code) = refl
on_role o p (frames.Settings ack values) = refl
on_role o p (frames.Push stream) = refl
on_role o p (frames.Ping ack bytes) = refl
on_role o p (frames.GoAway last code) = refl
on_role o p (frames.Window stream increment) = refl
on_role o p (frames.Continuation stream block whole) = refl
on_role o p (frames.Unknown kind) = refl

first_role : (ds : List Frame) (p : Part) (f : Frame) → (sent_first ds p f).role ≡ p.role
first_role [] p f = on_role (stream_of (number_of f) p) p f
first_role (d ∷ ds) p f = refl

pub role_stays : (p : Part) (fs : List Frame) (q : Part) → Sends p fs q → q.role ≡ p.role
role_stays p [] q e = ap (λ (x : Part). x.role) (sym e)
role_stays p (f ∷ fs) q m = role_stays (sent p f) fs q m.1 ∙ first_role p.due p f

heads_role : (headers : List Header) (end : Bool) (s : Stream) (x : Sending) (p : Part) → (said_headers headers end s x p).role ≡ p.role
heads_role headers true s sending.Unopened p = closed_role s (owing_headers s.number headers true p)
heads_role headers false s sending.Unopened p = refl
heads_role headers true s sending.Open p = refl
heads_role headers false s sending.Open p = refl
heads_role headers true s (sending.Trailers hs) p = refl
heads_role headers false s (sending.Trailers hs) p = refl
heads_role headers true s sending.HalfClose p = refl
heads_role headers false s sending.HalfClose p = refl
heads_role headers true s sending.Ended p = refl
heads_role headers false s sending.Ended p = refl

to_role : (what : Out) (o : Option Stream) (p : Part) → (said_to what o p).role ≡ p.role
to_role what None p = refl
to_role (outs.Headers headers end) (Some s) p = heads_role headers end s s.sending p
to_role (outs.Piece bytes true) (Some s) p = refl
to_role (outs.Piece bytes false) (Some s) p = refl

pub said_role : (n : ℕ) (what : Out) (p : Part) → (said n what p).role ≡ p.role
said_role n what p = to_role what (stream_of n p) p

pub cancelled_role : (n code : ℕ) (p : Part) → (cancelled n code p).role ≡ p.role
cancelled_role n code p = if_role (is_live n p) _ p p refl refl

-- ---- the role behind a frame

ended_role : (s : Stream) (p : Part) → (ended_by_peer s p).role ≡ p.role
ended_role s p = if_role (is_done s.sending) _ _ p refl refl

data_role : (n : ℕ) (bytes : List ℕ) (size : ℕ) (end : Bool) (o : Option Stream) (p : Part) → (data_on n bytes size end o p).part.role ≡ p.role
data_role n bytes size true None p = refl
data_role n bytes size false None p = refl
data_role n bytes size true (Some s) p = ended_role s (granted 0 size p)
data_role n bytes size false (Some s) p = refl

heard_if : (t : Bool) (x y : Heard) (p : Part) → x.part.role ≡ p.role → y.part.role ≡ p.role → (if t then x else y).part.role ≡ p.role
heard_if true x y p h k = h
heard_if false x y p h k = k

requested_role : (n : ℕ) (headers : List Header) (end : Bool) (p : Part) → (requested n headers end p).part.role ≡ p.role
requested_role n headers end p =
    heard_if (is_malformed headers) _ _ p refl (heard_if (nat_le max_streams (length p.streams)) _ _ p refl refl)

headed_role : (n : ℕ) (headers : List Header) (end : Bool) (o : Option Stream) (p : Part) → (headed n headers end o p).part.role ≡ p.role
headed_role n headers end None p = refl
headed_role n headers true (Some s) p = ended_role s p
headed_role n headers false (Some s) p = refl

fragment_role : (o : Option Block) (d : Option (Result (List Header × HeaderTable) HpackFault)) (p : Part) → (fragment o d p).part.role ≡ p.role
fragment_role None None p = refl
fragment_role None (Some d) p = refl
fragment_role (Some b) None p = refl
fragment_role (Some b) (Some (Err e)) p = refl
fragment_role (Some b) (Some (Ok d)) p =
    let q : Part = record p { block = None; table = d.1 } in
    heard_if b.begins _ _ p (requested_role b.stream d.0 b.end q) (headed_role b.stream d.0 b.end (stream_of b.stream q) q)

begun_role : (o : Option Block) (p : Part) → (begun_by o p).role ≡ p.role
begun_role None p = refl
begun_role (Some b) p = if_role b.begins _ p p refl refl

setting_role : (s : ℕ × ℕ) (p : Part) → (with_setting s p).role ≡ p.role
setting_role s p = if_role (s.0 == 1) _ _ p refl (if_role (s.0 == 3) _ _ p refl (if_role (s.0 == 4) _ _ p refl refl))

settings_role : (ss : List (ℕ × ℕ)) (p : Part) → (with_settings ss p).role ≡ p.role
settings_role [] p = refl
settings_role (s ∷ ss) p = settings_role ss (with_setting s p) ∙ setting_role s p

updated_role : (n increment : ℕ) (o : Option Stream) (p : Part) → (updated n increment o p).part.role ≡ p.role
updated_role n increment None p = refl
updated_role n increment (Some s) p = heard_if (increment == 0) _ _ p refl (heard_if (passes_max p.initial (grown increment s.flow)) _ _ p refl refl)

pub heard_role : (p : Part) (f : Frame) → (heard p f).part.role ≡ p.role
heard_role p (frames.Data stream bytes size end) = data_role stream bytes size end (stream_of stream p) p
heard_role p (frames.Headers stream block end whole) =
    let f = frames.Headers stream block end whole in
    fragment_role (gathered p f) (decoded p f) (begun_by (gathered p f) p) ∙ begun_role (gathered p f) p
heard_role p (frames.Continuation stream block whole) = fragment_role (gathered p (frames.Continuation stream block whole)) (decoded p (frames.Continuation stream block whole)) p
heard_role p (frames.Priority stream) = refl
heard_role p (frames.Reset stream code) = heard_if (is_live stream p) _ _ p refl refl
heard_role p (frames.Settings true values) = refl
heard_role p (frames.Settings false values) = settings_role values (record p { begun = true })
heard_role p (frames.Push stream) = refl
heard_role p (frames.Ping true bytes) = refl
heard_role p (frames.Ping false bytes) = refl
heard_role p (frames.GoAway last code) = refl
heard_role p (frames.Window stream increment) = heard_if (stream == 0) _ _ p refl (updated_role stream increment (stream_of stream p) p)
heard_role p (frames.Unknown kind) = refl

-- ---- a session that goes on

pub goes_role : (p : Part) (old new : Session) → Goes p old new → p.role ≡ old.part.role → new.part.role ≡ old.part.role
goes_role p old new g e = role_stays p g.settles.frames new.part g.settles.sends ∙ e

-- want of memory leaves nothing but the role
pub exhausted_is : (old mid : Session) → mid.part.role ≡ old.part.role → exhausted mid ≡ exhausted old
exhausted_is old mid e = ap (λ (r : Role). record { part = new_part r; output = []; fault = Some faults.OutOfMemory }) e

unopened_said : (headers : List Header) (s : Stream) (x : Sending) (p : Part) → is_unopened x ≡ true → (said_headers headers false s x p).streams ≡ put_at (place_of s.number p.streams) (record s { sending = sending.Open }) p.streams
unopened_said headers s sending.Unopened p u = refl
unopened_said headers s sending.Open p u = absurd cc
unopened_said headers s (sending.Trailers hs) p u = absurd cc
unopened_said headers s sending.HalfClose p u = absurd cc
unopened_said headers s sending.Ended p u = absurd cc

-- the headers of an answer open its stream
pub opened_said : (n : ℕ) (headers : List Header) (p : Part) (s : Stream) → stream_of n p ≡ Some s → is_unopened s.sending ≡ true → OpenIn n (said n (outs.Headers headers false) p).streams
opened_said n headers p s e u =
    let f : find_in n p.streams ≡ Some s = sym (found_is n p.streams) ∙ e in
    let same = found_number n p.streams s f in
    let t : Stream = record s { sending = sending.Open } in
    let said_is : (said n (outs.Headers headers false) p).streams ≡ put_at (place_of s.number p.streams) t p.streams = ap (λ (o : Option Stream). (said_to (outs.Headers headers false) o p).streams) e ∙ unopened_said headers s s.sending p u in
    subst (OpenIn n) (sym said_is) (subst (OpenIn n) (sym (set_is s.number t p.streams)) (record {
      stream = t;
      found = subst (λ (i : ℕ). find_in i (set_in s.number t p.streams) ≡ Some t) same (set_same s.number t p.streams s refl (own_number n p s e));
      is_open = refl;
    }))

pub open_is : (n : ℕ) (p : Part) → OpenIn n p.streams → IsOpen n p
open_is n p h = record { stream = h.stream; found = found_is n p.streams ∙ h.found; is_open = h.is_open }
