-- What is handed in, as items of the exchange.
use Rattle.std.proofs.Common.{◌≡◌, ◌∙◌, ◌≤◌, ℕ, Bool, true, false, ◌&&◌, cond, List, [], ◌∷◌, ◌++◌, length, Option, Some, None, Result, refl, sym, ap, subst}
use Rattle.std.specs.Prelude.{is_none}
use Rattle.std.proofs.lemmas.Bool.{and_parts}
use Rattle.h2_frames.specs.declared.frame.Frame.{Frame}
use Rattle.h2_frames.specs.Stream.{Pending}
use Rattle.h2_session.specs.declared.event.Out.{Out}
use Rattle.h2_session.specs.declared.event.Out.TheVariants as outs
use Rattle.h2_session.specs.declared.fault.ConnFault.{ConnFault}
use Rattle.h2_session.specs.declared.role.Role.{Role}
use Rattle.h2_session.specs.declared.role.Role.TheVariants as roles
use Rattle.h2_session.specs.declared.stream.Stream.{Stream}
use Rattle.h2_session.specs.Part.{Part, stream_of}
use Rattle.h2_session.specs.Faults.{is_client}
use Rattle.h2_session.specs.Said.{said, may_say, is_sending as sends}
use Rattle.h2_session.specs.Session.{Session, Goes}
use Rattle.casd_base.specs.declared.status.Status.{Status}
use Rattle.grpc_calls.specs.declared.event.CallEvent.{CallEvent}
use Rattle.grpc_calls.specs.Framing.{framed}
use Rattle.grpc_calls.specs.Headers.{answer_headers, trailers}
use Rattle.grpc_calls.specs.Streams.{Row, is_fresh, without_call}
use Rattle.grpc_calls.specs.Calls.{Calls, Opens, Replies, Finishes, may_reply, may_reply_to}
use Rattle.casd_connection.specs.Waiters.{Waiter}
use Rattle.casd_connection.specs.Exchange.{Conn, Saying, Refuse, Reply, Message, Finish, Trailers, spoken, opened, is_sending}
use Rattle.casd_connection.specs.Course.{Course}
use Rattle.casd_connection.specs.Steps.{conn, at, IsServing, Keeps, Moves, Speaks}
use Rattle.casd_connection.proofs.CourseLaws.{moves_joined, moves_none, moves_by, moves_settled, course_says}

-- ---- whether a stream may be answered

sending_by : (role : Role) (s : Option Stream) → role ≡ roles.Server → may_reply_to (is_client role) s ≡ may_say s
sending_by roles.Server None h = refl
sending_by roles.Server (Some s) h = refl
sending_by roles.Client s h = absurd cc

none_fault : (fault : Option ConnFault) → fault ≡ None → is_none fault ≡ true
none_fault fault h = ap (λ (f : Option ConnFault). is_none f) h

and_true : (a b : Bool) → a ≡ true → (a && b) ≡ b
and_true true b h = refl
and_true false b h = absurd cc

pub answers_on : (n : ℕ) (c : Calls) → IsServing c → may_reply n c ≡ is_sending n c.session.part
unfolding may_reply
answers_on n c s =
    and_true (is_none c.session.fault) (may_reply_to (is_client c.session.part.role) (stream_of n c.session.part)) (none_fault c.session.fault s.sound)
    ∙ sending_by c.session.part.role (stream_of n c.session.part) s.role

-- ---- the headers of an answer

opens_moves : (b : Bool) (n : ℕ) (old new : Session) (rows : List Row) (es : List CallEvent) (live : List Waiter) (over : Bool) (xs : List Saying) → Opens b n old new
    → Moves (conn (cond b (said n (outs.Headers answer_headers false) old.part) old.part) rows es live over xs) (conn new.part rows es live over xs) [] [] old.output new.output
opens_moves true n old new rows es live over xs h =
    moves_settled (conn (said n (outs.Headers answer_headers false) old.part) rows es live over xs) new.part old.output new.output refl refl h.settles
opens_moves false n old new rows es live over xs h =
    subst (λ (s : Session). Moves (conn old.part rows es live over xs) (conn s.part rows es live over xs) [] [] old.output s.output) (sym h) (moves_none (conn old.part rows es live over xs) old.output)

-- a choice that is taken
taken : (b : Bool) (x y : Conn) → b ≡ true → cond b x y ≡ x
taken true x y h = refl
taken false x y h = absurd cc

passed : (b : Bool) (x y : Conn) → b ≡ false → cond b x y ≡ y
passed false x y h = refl
passed true x y h = absurd cc

-- two items and what is written behind each
twice : (a b c d e : Conn) (old mid new : List ℕ) → Moves a b [] [] old old → Moves b c [] [] old mid → Moves c d [] [] mid mid → Moves d e [] [] mid new → Moves a e [] [] old new
twice a b c d e old mid new p q r s =
    moves_joined a b e [] [] [] [] old old new p (moves_joined b c e [] [] [] [] old mid new q (moves_joined c d e [] [] [] [] mid mid new r s))

-- ---- a message

pub reply_speaks : (n : ℕ) (message : List ℕ) (old new : Calls) → IsServing old → may_reply n old ≡ true → Replies n message old new → new.reader ≡ old.reader → new.session.part.role ≡ old.session.part.role
    → Speaks old new (Reply n message ∷ [])
reply_speaks n message old new serving may r reader role = record {
  moves = λ live over more. steps live over more;
  keeps = record {
    serving = record { sound = r.goes.fault ∙ opens_fault (is_fresh n old.session.part) n old.session r.opened r.opens ∙ serving.sound; role = role ∙ serving.role; quiet = r.goes.settles.quiet };
    reader = reader;
    pending = ap (λ (c : Calls). c.pending) r.rest;
  };
}
  where
    opens_fault : (b : Bool) (n : ℕ) (a b' : Session) → Opens b n a b' → b'.fault ≡ a.fault
    opens_fault true n a b' h = h.fault
    opens_fault false n a b' h = ap (λ (s : Session). s.fault) h

    live_is : is_sending n old.session.part ≡ true
    live_is = sym (answers_on n old serving) ∙ may

    steps : (live : List Waiter) (over : Bool) (more : List Saying) → Moves (at old live over (Reply n message ∷ more)) (at new live over more) [] [] old.session.output new.session.output
    steps live over more =
        let p = old.session.part in
        let rows = old.calls in
        let es = old.pending in
        let first : Course (at old live over (Reply n message ∷ more)) (spoken (Reply n message) (conn p rows es live over more)) [] [] [] = course_says p rows es live over (Reply n message) more in
        let opening : spoken (Reply n message) (conn p rows es live over more) ≡ conn (opened n p) rows es live over (Message n message ∷ more) =
        taken (is_sending n p) (conn (opened n p) rows es live over (Message n message ∷ more)) (conn p rows es live over more) live_is in
        let mid = r.opened.part in
        let last : conn new.session.part rows es live over more ≡ at new live over more =
        ap (λ (c : Calls). conn new.session.part c.calls c.pending live over more) (sym r.rest) in
        subst (λ (d : Conn). Moves (at old live over (Reply n message ∷ more)) d [] [] old.session.output new.session.output) last
        (twice (at old live over (Reply n message ∷ more)) (conn (opened n p) rows es live over (Message n message ∷ more)) (conn mid rows es live over (Message n message ∷ more))
        (conn (said n (outs.Piece (framed message) false) mid) rows es live over more) (conn new.session.part rows es live over more) old.session.output r.opened.output new.session.output
        (moves_by (at old live over (Reply n message ∷ more)) (conn (opened n p) rows es live over (Message n message ∷ more)) [] [] old.session.output
        (subst (λ (d : Conn). Course (at old live over (Reply n message ∷ more)) d [] [] []) opening first))
        (opens_moves (is_fresh n p) n old.session r.opened rows es live over (Message n message ∷ more) r.opens)
        (moves_by (conn mid rows es live over (Message n message ∷ more)) (conn (said n (outs.Piece (framed message) false) mid) rows es live over more) [] [] r.opened.output
        (course_says mid rows es live over (Message n message) more))
        (moves_settled (conn (said n (outs.Piece (framed message) false) mid) rows es live over more) new.session.part r.opened.output new.session.output refl refl r.goes.settles))

-- ---- a status

pub finish_speaks : (n : ℕ) (status : Status) (old new : Calls) → IsServing old → may_reply n old ≡ true → Finishes n status old new → new.reader ≡ old.reader → new.session.part.role ≡ old.session.part.role
    → Speaks old new (Finish n status ∷ [])
finish_speaks n status old new serving may r reader role = record {
  moves = λ live over more. steps live over more;
  keeps = record {
    serving = record { sound = r.goes.fault ∙ opens_fault (is_fresh n old.session.part) n old.session r.opened r.opens ∙ serving.sound; role = role ∙ serving.role; quiet = r.goes.settles.quiet };
    reader = reader;
    pending = ap (λ (c : Calls). c.pending) r.rest;
  };
}
  where
    opens_fault : (b : Bool) (n : ℕ) (a b' : Session) → Opens b n a b' → b'.fault ≡ a.fault
    opens_fault true n a b' h = h.fault
    opens_fault false n a b' h = ap (λ (s : Session). s.fault) h

    live_is : is_sending n old.session.part ≡ true
    live_is = sym (answers_on n old serving) ∙ may

    steps : (live : List Waiter) (over : Bool) (more : List Saying) → Moves (at old live over (Finish n status ∷ more)) (at new live over more) [] [] old.session.output new.session.output
    steps live over more =
        let p = old.session.part in
        let rows = old.calls in
        let es = old.pending in
        let first : Course (at old live over (Finish n status ∷ more)) (spoken (Finish n status) (conn p rows es live over more)) [] [] [] = course_says p rows es live over (Finish n status) more in
        let opening : spoken (Finish n status) (conn p rows es live over more) ≡ conn (opened n p) rows es live over (Trailers n status ∷ more) =
        taken (is_sending n p) (conn (opened n p) rows es live over (Trailers n status ∷ more)) (conn p rows es live over more) live_is in
        let mid = r.opened.part in
        let last : conn new.session.part (without_call n rows) es live over more ≡ at new live over more =
        ap (λ (c : Calls). conn new.session.part c.calls c.pending live over more) (sym r.rest) in
        subst (λ (d : Conn). Moves (at old live over (Finish n status ∷ more)) d [] [] old.session.output new.session.output) last
        (twice (at old live over (Finish n status ∷ more)) (conn (opened n p) rows es live over (Trailers n status ∷ more)) (conn mid rows es live over (Trailers n status ∷ more))
        (conn (said n (outs.Headers (trailers status) true) mid) (without_call n rows) es live over more) (conn new.session.part (without_call n rows) es live over more) old.session.output r.opened.output new.session.output
        (moves_by (at old live over (Finish n status ∷ more)) (conn (opened n p) rows es live over (Trailers n status ∷ more)) [] [] old.session.output
        (subst (λ (d : Conn). Course (at old live over (Finish n status ∷ more)) d [] [] []) opening first))
        (opens_moves (is_fresh n p) n old.session r.opened rows es live over (Trailers n status ∷ more) r.opens)
        (moves_by (conn mid rows es live over (Trailers n status ∷ more)) (conn (said n (outs.Headers (trailers status) true) mid) (without_call n rows) es live over more) [] [] r.opened.output
        (course_says mid rows es live over (Trailers n status) more))
        (moves_settled (conn (said n (outs.Headers (trailers status) true) mid) (without_call n rows) es live over more) new.session.part r.opened.output new.session.output refl refl r.goes.settles))

-- ---- a stream that isn't live any longer

still : (n : ℕ) (c : Calls) → IsServing c → may_reply n c ≡ false → is_sending n c.session.part ≡ false
still n c serving may = sym (answers_on n c serving) ∙ may

keeps_still : (c : Calls) → IsServing c → Keeps c c
keeps_still c serving = record { serving = serving; reader = refl; pending = refl }

pub reply_passes : (n : ℕ) (message : List ℕ) (c : Calls) → IsServing c → may_reply n c ≡ false → Speaks c c (Reply n message ∷ [])
reply_passes n message c serving may = record {
  moves = λ live over more.
      let p = c.session.part in
      moves_by (at c live over (Reply n message ∷ more)) (at c live over more) [] [] c.session.output
      (subst (λ (d : Conn). Course (at c live over (Reply n message ∷ more)) d [] [] [])
      (passed (is_sending n p) (conn (opened n p) c.calls c.pending live over (Message n message ∷ more)) (at c live over more) (still n c serving may))
      (course_says p c.calls c.pending live over (Reply n message) more));
  keeps = keeps_still c serving;
}

pub finish_passes : (n : ℕ) (status : Status) (c : Calls) → IsServing c → may_reply n c ≡ false → Speaks c c (Finish n status ∷ [])
finish_passes n status c serving may = record {
  moves = λ live over more.
      let p = c.session.part in
      moves_by (at c live over (Finish n status ∷ more)) (at c live over more) [] [] c.session.output
      (subst (λ (d : Conn). Course (at c live over (Finish n status ∷ more)) d [] [] [])
      (passed (is_sending n p) (conn (opened n p) c.calls c.pending live over (Trailers n status ∷ more)) (at c live over more) (still n c serving may))
      (course_says p c.calls c.pending live over (Finish n status) more));
  keeps = keeps_still c serving;
}

-- ---- a message and then a status

pub answer_speaks : (n : ℕ) (message : List ℕ) (status : Status) (a b c : Calls) → Speaks a b (Reply n message ∷ []) → Speaks b c (Finish n status ∷ []) → Speaks a c (Reply n message ∷ Finish n status ∷ [])
answer_speaks n message status a b c p q = record {
  moves = λ live over more.
      moves_joined (at a live over (Reply n message ∷ Finish n status ∷ more)) (at b live over (Finish n status ∷ more)) (at c live over more) [] [] [] [] a.session.output b.session.output c.session.output
      (p.moves live over (Finish n status ∷ more)) (q.moves live over more);
  keeps = record { serving = q.keeps.serving; reader = q.keeps.reader ∙ p.keeps.reader; pending = q.keeps.pending ∙ p.keeps.pending };
}
