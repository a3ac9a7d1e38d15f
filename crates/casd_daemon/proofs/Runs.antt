-- Runs.
use Rattle.std.proofs.Common.{◌≡◌, ℕ, ◌+◌, ◌-◌, ◌≤◌, ◌<◌, List, [], ◌∷◌, ◌++◌, map, Option, Some, None, refl, sym, ap, subst, ◌∙◌, false, arith, append_assoc, append-nil, length-append}
use Rattle.std.specs.Prelude.{IfSome, IfNone}
use Rattle.std.proofs.lemmas.List.{map-append}
use Rattle.store_core.proofs.Elements.{every_push, every_weaker}
use Rattle.atomic_table.specs.Seated.{TableId}
use Rattle.store_core.specs.State.{State}
use Rattle.store_core.specs.History.{Entry, Legal, own}
use Rattle.turn_lock.specs.Seats.{AtLock, Joined}
use Rattle.turn_lock.specs.Views.{Extends, stays, fresh}
use Rattle.blob_store.specs.Doors.{door_view}
use Rattle.blob_store.proofs.ViewLaws.{extends_more}
use Rattle.casd_connection.specs.declared.report.ConnReport.{ConnReport}
use Rattle.casd_daemon.specs.declared.host.Conn.{Conn}
use Rattle.casd_daemon.specs.Hosting.{Told, Counts, Hosted, NoneFell, Tellers, Comes, behind, before, handing}
use Rattle.casd_daemon.specs.declared.run.RunEnd.{RunEnd}
use Rattle.casd_daemon.specs.declared.run.RunEnd.TheVariants as ends
use Rattle.casd_daemon.specs.Running.{HasCause, IsOver, IsGiven, IsServed, IsFirst, Case, IsTold, turns_of, handed, Runs, IsNext, share}
use Rattle.casd_daemon.proofs.Histories.{stays_own}

-- ---- lists that are told

behind_more : {A : Type 0} (xs ys : List A) (o : Option (List A)) → behind xs (behind ys o) ≡ behind (xs ++ ys) o
behind_more xs ys None = refl
behind_more xs ys (Some zs) = ap Some (sym (append_assoc xs ys zs))

behind_none : {A : Type 0} (o : Option (List A)) → behind [] o ≡ o
behind_none None = refl
behind_none (Some zs) = refl

before_more : {A : Type 0} (o : Option (List A)) (xs ys : List A) → before (before o xs) ys ≡ before o (xs ++ ys)
before_more None xs ys = refl
before_more (Some zs) xs ys = ap Some (append_assoc zs xs ys)

before_none : {A : Type 0} (o : Option (List A)) → before o [] ≡ o
before_none None = refl
before_none (Some zs) = ap Some (append-nil zs)

fell_none : (a : Counts) → NoneFell a a
fell_none a = record { accepting = omega arith; printing = omega arith; keeping = omega arith }

pub fell_more : (a b c : Counts) → NoneFell a b → NoneFell b c → NoneFell a c
fell_more a b c first rest = record { accepting = omega (arith, first.accepting, rest.accepting); printing = omega (arith, first.printing, rest.printing); keeping = omega (arith, first.keeping, rest.keeping) }

-- a cause of an end is one over a longer time
pub cause_wider : (e : RunEnd) (a b c d : Counts) → a.accepting ≤ b.accepting → HasCause e b c → c.accepting ≤ d.accepting → HasCause e a d
cause_wider ends.Done a b c d first cause last = tt
cause_wider ends.Failed a b c d first cause last = omega (arith, first, cause, last)
cause_wider ends.OutOfMemory a b c d first cause last = tt

-- ---- the cases

pub turns_of-append : {K L : Type 0} (xs ys : List (Case K L)) → turns_of (xs ++ ys) ≡ turns_of xs + turns_of ys
turns_of-append [] ys = omega arith
turns_of-append (x ∷ xs) ys = omega (arith, turns_of-append xs ys)

own_on : (s : State) (owner : Option ℕ) (seen log mine : List Entry) → Legal s log → Extends seen log → IfSome owner (λ o. own o seen ≡ mine) → IfSome owner (λ o. IsOver o mine) → IfSome owner (λ o. own o log ≡ mine)
own_on s None seen log mine legal more is over = tt
own_on s (Some o) seen log mine legal more is over = stays_own s o seen log mine legal more is over

-- what is told in a history is told in a longer one
pub told_on : {K L : Type 0} (tell : Tellers K L) (s : State) (seen log : List Entry) (c : Case K L) → Legal s log → Extends seen log → IsTold tell seen c → IsTold tell log c
told_on tell s seen log c legal more told = record {
  seen = extends_more c.new.seen seen log told.seen more;
  own = own_on s c.new.owner seen log c.new.mine legal more told.own told.gone;
  gone = told.gone;
  turns = told.turns;
  serves = told.serves;
}

-- ---- the steps of a run

pub runs_first : {K L : Type 0} (tell : Tellers K L) (at : TableId) (first : AtLock) (host : Hosted K L) → IsFirst at first → Runs tell at first first [] host host 0
runs_first tell at first host is = record {
  cases = [];
  begin = is.begin;
  at_lock = is.at_lock;
  idle = is.idle;
  owner = is.owner;
  start = refl;
  made = omega arith;
  grant = omega arith;
  room = is.room;
  enough = omega (arith, is.enough);
  seen = ([], sym (append-nil first.view.seen));
  given = tt;
  told = tt;
  came = sym (behind_none host.told.left);
  went = sym (before_none host.told.ended);
  rest = refl;
  out = omega arith;
  fell = fell_none host.counts;
  named = refl;
  counted = refl;
}

-- a connection came, and was given a seat
runs_begins : {K L : Type 0} (tell : Tellers K L) (at : TableId) (first seat : AtLock) (waiting : List (AtLock × Conn K L)) (old now later : Hosted K L) (count : ℕ) (conn : Conn K L)
    → Runs tell at first seat waiting old now count → Comes conn now.told later.told → NoneFell now.counts later.counts → later.name ≡ now.name → share < seat.view.left
    → Runs tell at first (record seat { view = stays share seat.view }) (waiting ++ (record seat { view = fresh share seat.view }, conn) ∷ []) old later (count + 1)
runs_begins {K = K} {L = L} tell at first seat waiting old now later count conn runs comes fell name enough =
    let theirs : AtLock = record seat { view = fresh share seat.view } in
    let ended : later.told.ended ≡ now.told.ended = ap (λ (t : Told K L). t.ended) comes.rest in
    record {
      cases = runs.cases;
      begin = runs.begin;
      at_lock = runs.at_lock;
      idle = runs.idle;
      owner = runs.owner;
      start = runs.start;
      made = runs.made;
      grant = omega (arith, runs.grant, runs.room, enough, length-append waiting ((theirs, conn) ∷ []));
      room = omega (arith, runs.room, enough);
      enough = omega (arith, runs.enough, enough);
      seen = runs.seen;
      given = every_push (λ (w : AtLock × Conn K L). IsGiven at first.view.start w.0) waiting (theirs, conn) runs.given (record {
        at_lock = runs.at_lock;
        idle = refl;
        owner = refl;
        mine = refl;
        made = refl;
        left = refl;
        grant = refl;
        start_is = runs.start;
      });
      told = runs.told;
      came = runs.came ∙ ap (behind (map (λ (c : Case K L). c.conn) runs.cases ++ map (λ (w : AtLock × Conn K L). w.1) waiting)) comes.left
          ∙ behind_more (map (λ (c : Case K L). c.conn) runs.cases ++ map (λ (w : AtLock × Conn K L). w.1) waiting) (conn ∷ []) later.told.left
          ∙ ap (λ (xs : List (Conn K L)). behind xs later.told.left)
          (append_assoc (map (λ (c : Case K L). c.conn) runs.cases) (map (λ (w : AtLock × Conn K L). w.1) waiting) (conn ∷ [])
          ∙ ap (λ (xs : List (Conn K L)). map (λ (c : Case K L). c.conn) runs.cases ++ xs) (sym (map-append (λ (w : AtLock × Conn K L). w.1) waiting ((theirs, conn) ∷ []))));
      went = ended ∙ runs.went;
      rest = comes.rest ∙ ap (λ (t : Told K L). record t { left = later.told.left; out = later.told.out }) runs.rest
          ∙ ap (λ e. record old.told { left = later.told.left; ended = e; out = later.told.out }) (sym ended);
      out = omega (arith, comes.out, runs.out, length-append waiting ((theirs, conn) ∷ []));
      fell = fell_more old.counts now.counts later.counts runs.fell fell;
      named = name ∙ runs.named;
      counted = omega (arith, runs.counted, length-append waiting ((theirs, conn) ∷ []));
    }

-- one was served and joined, and was handed back
pub runs_ends : {K L : Type 0} (tell : Tellers K L) (at : TableId) (first seat theirs joined : AtLock) (given : AtLock × Conn K L) (waiting : List (AtLock × Conn K L)) (old now later : Hosted K L) (count : ℕ) (conn : Conn K L) (report : ConnReport)
    → Runs tell at first seat (given ∷ waiting) old now count → IsServed tell given.0 given.1 theirs conn report → Joined seat theirs joined
    → later.told ≡ handing conn report now.told → NoneFell now.counts later.counts → later.name ≡ now.name
    → Runs tell at first joined waiting old later count
runs_ends {K = K} {L = L} tell at first seat theirs joined given waiting old now later count conn report runs served join is fell name =
    let c : Case K L = record { conn = given.1; served = conn; report = report; old = door_view given.0 false; new = door_view theirs false } in
    let legal : Legal first.view.start joined.view.seen = subst (λ (s : State). Legal s joined.view.seen) (join.start ∙ runs.start) join.legal in
    let left : later.told.left ≡ now.told.left = ap (λ (t : Told K L). t.left) is in
    let ended : later.told.ended ≡ before now.told.ended ((conn, report) ∷ []) = ap (λ (t : Told K L). t.ended) is in
    let out : later.told.out ≡ now.told.out - 1 = ap (λ (t : Told K L). t.out) is in
    record {
      cases = runs.cases ++ c ∷ [];
      begin = runs.begin;
      at_lock = join.lock ∙ runs.at_lock;
      idle = join.idle;
      owner = join.owner ∙ runs.owner;
      start = join.start ∙ runs.start;
      made = omega (arith, runs.made, join.made, served.made, runs.given.0.made, turns_of-append runs.cases (c ∷ []));
      grant = omega (arith, runs.grant, join.grant, served.grant, runs.given.0.grant);
      room = omega (arith, runs.room, join.left, join.grant, served.room);
      enough = omega (arith, runs.enough, join.left);
      seen = extends_more first.view.seen seat.view.seen joined.view.seen runs.seen join.begins;
      given = runs.given.1;
      told = every_push (IsTold tell joined.view.seen) runs.cases c
          (every_weaker (IsTold tell seat.view.seen) (IsTold tell joined.view.seen) (λ d told. told_on tell first.view.start seat.view.seen joined.view.seen d legal join.begins told) runs.cases runs.told)
          (told_on tell first.view.start theirs.view.seen joined.view.seen c legal join.begins_too (record {
            seen = ([], sym (append-nil theirs.view.seen));
            own = served.is_own;
            gone = served.gone;
            turns = served.turns;
            serves = served.serves;
          }));
      came = runs.came
          ∙ ap (λ (xs : List (Conn K L)). behind xs now.told.left)
          (sym (append_assoc (map (λ (c : Case K L). c.conn) runs.cases) (given.1 ∷ []) (map (λ (w : AtLock × Conn K L). w.1) waiting))
          ∙ ap (λ (xs : List (Conn K L)). xs ++ map (λ (w : AtLock × Conn K L). w.1) waiting) (sym (map-append (λ (c : Case K L). c.conn) runs.cases (c ∷ []))))
          ∙ ap (behind (map (λ (c : Case K L). c.conn) (runs.cases ++ c ∷ []) ++ map (λ (w : AtLock × Conn K L). w.1) waiting)) (sym left);
      went = ended ∙ ap (λ e. before e ((conn, report) ∷ [])) runs.went ∙ before_more old.told.ended (map handed runs.cases) ((conn, report) ∷ [])
          ∙ ap (before old.told.ended) (sym (map-append handed runs.cases (c ∷ [])));
      rest = is ∙ ap (λ (t : Told K L). record t { ended = before now.told.ended ((conn, report) ∷ []); out = now.told.out - 1 }) runs.rest
          ∙ ap (λ l. record old.told { left = l; ended = before now.told.ended ((conn, report) ∷ []); out = now.told.out - 1 }) (sym left)
          ∙ ap (λ e. record old.told { left = later.told.left; ended = e; out = now.told.out - 1 }) (sym ended)
          ∙ ap (λ k. record old.told { left = later.told.left; ended = later.told.ended; out = k }) (sym out);
      out = omega (arith, runs.out, out);
      fell = fell_more old.counts now.counts later.counts runs.fell fell;
      named = name ∙ runs.named;
      counted = omega (arith, runs.counted, length-append runs.cases (c ∷ []));
    }

-- a connection came, with names for what came of it
pub runs_begun : {K L : Type 0} (tell : Tellers K L) (at : TableId) (first seat seat' theirs : AtLock) (child : AtLock × Conn K L) (a : AtLock) (b : Conn K L) (waiting waiting' : List (AtLock × Conn K L)) (old later : Hosted K L) (count : ℕ) (conn : Conn K L)
    → IsNext tell at first seat waiting old later count conn → share < seat.view.left
    → seat' ≡ record seat { view = stays share seat.view } → theirs ≡ record seat { view = fresh share seat.view } → child ≡ (a, b) → a ≡ theirs → b ≡ conn → waiting' ≡ waiting ++ child ∷ []
    → Runs tell at first seat' waiting' old later (count + 1)
runs_begun tell at first seat seat' theirs child a b waiting waiting' old later count conn next enough seat_is theirs_is child_is a_is b_is waiting_is =
    rw (waiting_is, child_is, a_is, b_is, theirs_is, seat_is)
    (runs_begins tell at first seat waiting old next.was later count conn next.runs next.comes next.fell next.named enough)

pub at_none : {A : Type 0} {P : Type 0} (o : Option A) → o ≡ None → IfNone o P → P
at_none None e h = h
at_none (Some x) e h = absurd cc

pub at_some : {A : Type 0} (P : A → Type 0) (o : Option A) (x : A) → o ≡ Some x → IfSome o P → P x
at_some P o x e h = subst (λ o. IfSome o P) e h
