-- What a turn at the lock is for a door.
use Rattle.std.proofs.Common.{◌≡◌, ◌≢◌, ℕ, ◌+◌, ◌-◌, ◌^◌, ◌<◌, ◌≤◌, Bool, true, false, cond, List, [], ◌∷◌, ◌++◌, length, Option, Some, IfSome, refl, sym, ap, subst, ◌∙◌, arith}
use Rattle.std.specs.Prelude.{is_some, if◌then◌else◌}
use Rattle.std.proofs.lemmas.List.{append-nil}
use Rattle.atomic_table.specs.Seated.{TableId}
use Rattle.digest_types.specs.Name.{HashAndSize}
use Rattle.directory_canon.specs.declared.node.Edge.{Edge}
use Rattle.store_core.specs.Pass.{pass}
use Rattle.store_core.specs.State.{State, Valid, used}
use Rattle.store_core.specs.declared.event.Event.{Event}
use Rattle.store_core.specs.declared.event.Event.TheVariants as events
use Rattle.store_core.specs.declared.event.Reply.{Reply}
use Rattle.store_core.specs.declared.event.Reply.TheVariants as replies
use Rattle.store_core.specs.Step.{is_open, is_opening, is_here, step}
use Rattle.store_core.specs.History.{Entry, IsNumbered, Legal, own}
use Rattle.store_core.proofs.Elements.{every_contains}
use Rattle.store_core.proofs.Histories.{valid_after}
use Rattle.store_core.proofs.OwnerLaws.{open_has}
use Rattle.turn_lock.specs.Noted.{entry}
use Rattle.turn_lock.specs.Views as lock
use Rattle.turn_lock.specs.Seats.{AtLock, number_in, author, MayGive, Takes, Ends, Gives, GivesBack}
use Rattle.blob_store.specs.Asked.{MayAsk, IsAnswer}
use Rattle.blob_store.specs.Calls.{IsPutReply, read_reply}
use Rattle.blob_store.specs.Bodies.{ReadingState}
use Rattle.blob_store.specs.View.{View, Turns, Makes, Waits, Enters, StaysOut, Leaves, MayCall, own_now, leases_by}
use Rattle.blob_store.specs.Benched.{Benched, IsBench, IsSeatAt, view_of, own_by}
use Rattle.blob_store.specs.Doors.{in_after, is_in, door_view, IsDoor, IsLockDoor}
use Rattle.blob_store.proofs.ViewLaws.{extends_more, turns_more, turns_none}
use Rattle.blob_store.proofs.BenchSteps.{numbers_fit, numbers_after, next_after, open_replies, reply_is_numbered, close_is_served, IsServed, not_refused, put_replies, read_replies, pass_replies}
use Rattle.blob_store.proofs.BenchCalls.{asked_comes, asked_served, asked_answer, read_is}
use Rattle.blob_store.proofs.OpenLaws.{open_by_own, is_in_more}

-- ---- events that are asked

asked_is_not_open : (v : View) (event : Event) → MayAsk v event → is_opening event ≡ false
asked_is_not_open v events.Open may = absurd may
asked_is_not_open v (events.Put d edges) may = refl
asked_is_not_open v (events.Find ds) may = refl
asked_is_not_open v (events.Read d) may = refl
asked_is_not_open v (events.Lease root kind) may = refl
asked_is_not_open v (events.Confirm id files) may = refl
asked_is_not_open v (events.Release id) may = refl
asked_is_not_open v (events.Damage d) may = refl
asked_is_not_open v events.Pass may = refl
asked_is_not_open v events.Usage may = refl
asked_is_not_open v events.Close may = refl

asked_stays : (v : View) (event : Event) → MayAsk v event → (was : Bool) → in_after event was ≡ was
asked_stays v events.Open may was = absurd may
asked_stays v (events.Put d edges) may was = refl
asked_stays v (events.Find ds) may was = refl
asked_stays v (events.Read d) may was = refl
asked_stays v (events.Lease root kind) may was = refl
asked_stays v (events.Confirm id files) may was = refl
asked_stays v (events.Release id) may was = refl
asked_stays v (events.Damage d) may was = refl
asked_stays v events.Pass may was = refl
asked_stays v events.Usage may was = refl
asked_stays v events.Close may was = absurd may

-- what may be asked depends on the owner and its own entries alone
asked_as : (a b : View) (event : Event) → a.owner ≡ b.owner → a.mine ≡ b.mine → MayAsk a event → MayAsk b event
asked_as a b events.Open o m may = may
asked_as a b (events.Put d edges) o m may = may
asked_as a b (events.Find ds) o m may = may
asked_as a b (events.Read d) o m may = may
asked_as a b (events.Lease root kind) o m may = may
asked_as a b (events.Confirm id files) o m may = (λ i. Rattle.std.specs.List.list_any (Rattle.store_core.specs.State.has_id id) (Rattle.blob_store.specs.View.leases_by (sym o i) (sym m i))) ∙ may
asked_as a b (events.Release id) o m may = (λ i. Rattle.std.specs.List.list_any (Rattle.store_core.specs.State.has_id id) (Rattle.blob_store.specs.View.leases_by (sym o i) (sym m i))) ∙ may
asked_as a b (events.Damage d) o m may = may
asked_as a b events.Pass o m may = may
asked_as a b events.Usage o m may = may
asked_as a b events.Close o m may = may

-- ---- a seat as a bench of one

abbrev pub bench_at : lock.View → Benched
bench_at v = record { start = v.start; seen = v.seen; seats = record { owner = v.owner; entered = true } ∷ []; chosen = 0 }

some_at : (o : Option ℕ) (P : ℕ → Type 0) (x : ℕ) → o ≡ Some x → IfSome o P → P x
some_at o P x is h = subst (λ (z : Option ℕ). IfSome z P) is h

some_of : (o : Option ℕ) (P : ℕ → Type 0) (x : ℕ) → o ≡ Some x → P x → IfSome o P
some_of o P x is h = subst (λ (z : Option ℕ). IfSome z P) (sym is) h

owner_in : (v : lock.View) (owner : ℕ) → IsDoor v true → v.owner ≡ Some owner → (was : Bool) → is_in was v.mine ≡ true
owner_in v owner door is was = (door.is_in refl).2 was

open_now : (v : lock.View) (owner : ℕ) → IsDoor v true → Legal v.start v.seen → lock.IsOwn v → v.owner ≡ Some owner → is_open (lock.state_of v) owner ≡ true
open_now v owner door legal is_own is =
    open_by_own v.start owner v.seen legal ∙ ap (is_in (is_open v.start owner)) (some_at v.owner (λ o. own o v.seen ≡ v.mine) owner is is_own) ∙ owner_in v owner door is (is_open v.start owner)

pub is_bench : (v : lock.View) (owner : ℕ) → IsDoor v true → Legal v.start v.seen → lock.IsOwn v → length v.seen < 2 ^ 63 → v.owner ≡ Some owner → IsBench (lock.state_of v) (bench_at v)
is_bench v owner door legal is_own few is =
    let there = open_now v owner door legal is_own is in
    let now = valid_after v.start v.seen door.valid in
    let below : owner < (lock.state_of v).next_owner = every_contains (λ o. o < (lock.state_of v).next_owner) (lock.state_of v).owners owner now.owners (open_has (lock.state_of v) owner there) in
    record {
      valid = door.valid;
      first_owner = door.first_owner;
      first_lease = door.first_lease;
      legal = legal;
      at = refl;
      room = omega (arith, few);
      chosen = omega arith;
      seats = (
        record {
          came = some_of v.owner (λ o. (v.start.next_owner ≤ o) × (o < (lock.state_of v).next_owner)) owner is (some_at v.owner (λ o. v.start.next_owner ≤ o) owner is door.came, below);
          is_open = λ _. (owner, is, there);
        },
        tt,
      );
      owners = (some_of v.owner (λ o. Unit {0}) owner is tt, tt);
    }

-- ---- what may be done in a turn

pub record InTurn (v : lock.View) (owner : ℕ) (event : Event) : Type 0 where
  pub owners : (lock.state_of v).next_owner < 2 ^ 64 - 1
  pub leases : (lock.state_of v).next_lease < 2 ^ 64 - 1
  pub gives : (reply : Reply) (stood : State) → (reply, stood) ≡ step (lock.state_of v) owner event → MayGive v event reply stood
  pub answer : IsAnswer (lock.state_of v) event (step (lock.state_of v) owner event).0

pub in_turn : (h : AtLock) (owner : ℕ) (event : Event) → IsDoor h.view true → Legal h.view.start h.view.seen → lock.IsOwn h.view → length h.view.seen < 2 ^ 63 → h.view.owner ≡ Some owner → MayAsk (door_view h true) event → InTurn h.view owner event
in_turn h owner event door legal is_own few is may =
    let v = h.view in
    let s = lock.state_of v in
    let b = bench_at v in
    let bench = is_bench v owner door legal is_own few is in
    let mine : v.mine ≡ (view_of b).mine = sym (some_at v.owner (λ o. own o v.seen ≡ v.mine) owner is is_own) ∙ ap (λ (o : Option ℕ). Rattle.blob_store.specs.Benched.own_by o v.seen) (sym is) in
    let may_too : MayAsk (view_of b) event = asked_as (door_view h true) (view_of b) event refl mine may in
    let fit = numbers_fit s b bench in
    let comes = asked_comes b event may_too in
    let served = asked_served s b owner event bench refl is may_too in
    record {
      owners = fit.owners_fit;
      leases = fit.leases_fit;
      gives = λ reply stood e.
          let first : reply ≡ (step s owner event).0 = ap (λ (r : Reply × State). r.0) e in
          record {
            owner = owner;
            is_owner = ap (λ (b : Bool). cond b (Rattle.turn_lock.specs.Seats.number_in reply) v.owner) (asked_is_not_open (door_view h true) event may) ∙ is;
            legal = record {
              reply = first;
              served = λ refused. served (sym first ∙ refused);
              numbered = subst (IsNumbered owner) (sym first) (reply_is_numbered owner s owner event comes);
            };
            after = ap (λ (r : Reply × State). r.1) e;
          };
      answer = asked_answer s b owner event bench refl is may_too;
    }

-- ---- what a turn makes of the door

taken_door : (old taken : AtLock) (ticket : ℕ) (entered : Bool) → IsDoor old.view entered → Takes old taken ticket → IsDoor taken.view entered
taken_door old taken ticket entered door takes = record {
  valid = subst Valid (sym takes.start) door.valid;
  first_owner = subst (λ (s : State). s.next_owner ≤ 2 ^ 62) (sym takes.start) door.first_owner;
  first_lease = subst (λ (s : State). s.next_lease ≤ 2 ^ 62) (sym takes.start) door.first_lease;
  came = subst (λ (x : Option ℕ × State). IfSome x.0 (λ owner. x.1.next_owner ≤ owner)) (λ i. (sym takes.owner i, sym takes.start i)) door.came;
  is_in = λ e. let was = door.is_in e in (was.0, takes.owner ∙ was.1, (λ b. ap (is_in b) takes.mine ∙ was.2 b));
}

pub asked_in_turn : (old taken : AtLock) (ticket owner : ℕ) (event : Event) → IsDoor old.view true → Takes old taken ticket → taken.view.owner ≡ Some owner → MayAsk (door_view old true) event → InTurn taken.view owner event
asked_in_turn old taken ticket owner event door takes is may =
    in_turn taken owner event (taken_door old taken ticket true door takes) takes.legal takes.is_own takes.few is
    (asked_as (door_view old true) (door_view taken true) event (sym takes.owner) (sym takes.mine) may)

pub record Asks (old new : AtLock) (event : Event) (reply : Reply) : Type 0 where
  pub makes : Makes (door_view old true) (door_view new true) event reply
  pub door : IsDoor new.view true

pub turn_adds : (old taken new : AtLock) (ticket : ℕ) (event : Event) (reply : Reply) → IsDoor old.view true → Takes old taken ticket → Gives taken new event reply → is_opening event ≡ false → ((was : Bool) → in_after event was ≡ was) → Asks old new event reply
turn_adds old taken new ticket event reply door takes gives closed stays =
    let owner = gives.number in
    let was : taken.view.owner ≡ Some owner = ap (λ (b : Bool). cond b (Rattle.turn_lock.specs.Seats.number_in reply) taken.view.owner) (sym closed) ∙ gives.author in
    let is : old.view.owner ≡ Some owner = sym takes.owner ∙ was in
    let mine : new.view.mine ≡ old.view.mine ++ entry owner event reply ∷ [] =
    gives.mine ∙ ap (λ (b : Bool). cond b [] taken.view.mine ++ entry owner event reply ∷ []) closed ∙ ap (λ (l : List Entry). l ++ entry owner event reply ∷ []) takes.mine in
    let start = gives.ends.start ∙ takes.start in
    let was_in = door.is_in refl in
    record {
      makes = record {
        turns = record {
          owner = owner;
          is_owner = is;
          same_owner = gives.owner ∙ sym is;
          was_in = refl;
          is_in = refl;
          start = start;
          seen = extends_more old.view.seen taken.view.seen new.view.seen takes.seen (entry owner event reply ∷ [], gives.seen);
          is_own = some_at new.view.owner (λ o. own o new.view.seen ≡ new.view.mine) owner gives.owner gives.ends.is_own;
          mine = mine;
          count = gives.made ∙ ap (λ (n : ℕ). n + 1) takes.made;
          grant = gives.ends.grant ∙ takes.grant;
          identity = ap (λ (t : TableId). record { lock = Some t; place = 0; seats = [] }) (gives.ends.lock ∙ takes.lock);
          left = omega (arith, gives.ends.left, takes.left);
          used = omega (arith, gives.ends.left, takes.left);
        };
        last = (taken.view.seen, gives.seen);
      };
      door = record {
        valid = subst Valid (sym start) door.valid;
        first_owner = subst (λ (s : State). s.next_owner ≤ 2 ^ 62) (sym start) door.first_owner;
        first_lease = subst (λ (s : State). s.next_lease ≤ 2 ^ 62) (sym start) door.first_lease;
        came = some_of new.view.owner (λ o. new.view.start.next_owner ≤ o) owner gives.owner (subst (λ (s : State). s.next_owner ≤ owner) (sym start) (some_at old.view.owner (λ o. old.view.start.next_owner ≤ o) owner is door.came));
        is_in = λ _. (
          owner,
          gives.owner,
          (λ b. ap (is_in b) mine ∙ is_in_more b old.view.mine (entry owner event reply) ∙ stays (is_in b old.view.mine) ∙ was_in.2 b),
        );
      };
    }

pub turn_makes : (old taken new : AtLock) (ticket : ℕ) (event : Event) (reply : Reply) → IsDoor old.view true → Takes old taken ticket → Gives taken new event reply → MayAsk (door_view old true) event → Asks old new event reply
turn_makes old taken new ticket event reply door takes gives may =
    turn_adds old taken new ticket event reply door takes gives (asked_is_not_open (door_view old true) event may) (asked_stays (door_view old true) event may)

-- an event that no open owner is refused, and after which its owner is as before
pub record PlainTurn (v : lock.View) (owner : ℕ) (event : Event) : Type 0 where
  pub there : is_open (lock.state_of v) owner ≡ true
  pub owners : (lock.state_of v).next_owner < 2 ^ 64 - 1
  pub leases : (lock.state_of v).next_lease < 2 ^ 64 - 1
  pub gives : (reply : Reply) (stood : State) → (reply, stood) ≡ step (lock.state_of v) owner event → MayGive v event reply stood

pub plain_turn : (old taken : AtLock) (ticket owner : ℕ) (event : Event) → IsDoor old.view true → Takes old taken ticket → taken.view.owner ≡ Some owner → IsServed event → is_opening event ≡ false → event ≢ events.Open → PlainTurn taken.view owner event
plain_turn old taken ticket owner event was takes is served closed comes =
    let v = taken.view in
    let s = lock.state_of v in
    let door = taken_door old taken ticket true was takes in
    let there = open_now v owner door takes.legal takes.is_own is in
    let after = numbers_after v.start v.seen in
    record {
      there = there;
      owners = omega (arith, after.0, door.first_owner, takes.few);
      leases = omega (arith, after.1, door.first_lease, takes.few);
      gives = λ reply stood e.
          let first : reply ≡ (step s owner event).0 = ap (λ (r : Reply × State). r.0) e in
          record {
            owner = owner;
            is_owner = ap (λ (b : Bool). cond b (number_in reply) v.owner) closed ∙ is;
            legal = record {
              reply = first;
              served = λ refused. not_refused s owner event served there (sym first ∙ refused);
              numbered = subst (IsNumbered owner) (sym first) (reply_is_numbered owner s owner event comes);
            };
            after = ap (λ (r : Reply × State). r.1) e;
          };
    }

-- a put
pub put_turn : (old taken : AtLock) (ticket owner : ℕ) (d : HashAndSize) (edges : Option (List Edge)) → IsDoor old.view true → Takes old taken ticket → taken.view.owner ≡ Some owner → PlainTurn taken.view owner (events.Put d edges)
put_turn old taken ticket owner d edges was takes is = plain_turn old taken ticket owner (events.Put d edges) was takes is tt refl (λ e. absurd cc)

pub put_turn_reply : (old taken : AtLock) (ticket owner : ℕ) (d : HashAndSize) (edges : Option (List Edge)) (reply : Reply) (stood : State) → IsDoor old.view true → Takes old taken ticket → taken.view.owner ≡ Some owner
    → (reply, stood) ≡ step (lock.state_of taken.view) owner (events.Put d edges) → IsPutReply reply
put_turn_reply old taken ticket owner d edges reply stood was takes is e =
    subst IsPutReply (sym (ap (λ (r : Reply × State). r.0) e)) (put_replies (lock.state_of taken.view) owner d edges (put_turn old taken ticket owner d edges was takes is).there)

pub put_turn_adds : (old taken new : AtLock) (ticket : ℕ) (d : HashAndSize) (edges : Option (List Edge)) (reply : Reply) → IsDoor old.view true → Takes old taken ticket → Gives taken new (events.Put d edges) reply → Asks old new (events.Put d edges) reply
put_turn_adds old taken new ticket d edges reply door takes gives = turn_adds old taken new ticket (events.Put d edges) reply door takes gives refl (λ _. refl)

-- a read
pub read_turn : (old taken : AtLock) (ticket owner : ℕ) (d : HashAndSize) → IsDoor old.view true → Takes old taken ticket → taken.view.owner ≡ Some owner → PlainTurn taken.view owner (events.Read d)
read_turn old taken ticket owner d was takes is = plain_turn old taken ticket owner (events.Read d) was takes is tt refl (λ e. absurd cc)

pub read_turn_adds : (old taken new : AtLock) (ticket owner : ℕ) (d : HashAndSize) (reading : Option ReadingState) (reply : Reply) (stood : State) → IsDoor old.view true → Takes old taken ticket → taken.view.owner ≡ Some owner
    → is_some reading ≡ is_here (lock.state_of taken.view).rows d → (reply, stood) ≡ step (lock.state_of taken.view) owner (events.Read d) → Gives taken new (events.Read d) reply → Asks old new (events.Read d) (read_reply reading)
read_turn_adds old taken new ticket owner d reading reply stood door takes is found e gives =
    let s = lock.state_of taken.view in
    let first : reply ≡ (if is_here s.rows d then replies.Found else replies.Absent) = ap (λ (r : Reply × State). r.0) e ∙ read_replies s owner d (read_turn old taken ticket owner d door takes is).there in
    subst (Asks old new (events.Read d)) (read_is reading (is_here s.rows d) reply found first) (turn_adds old taken new ticket (events.Read d) reply door takes gives refl (λ _. refl))

-- a pass
pub pass_turn : (old taken : AtLock) (ticket owner : ℕ) → IsDoor old.view true → Takes old taken ticket → taken.view.owner ≡ Some owner → PlainTurn taken.view owner events.Pass
pass_turn old taken ticket owner was takes is = plain_turn old taken ticket owner events.Pass was takes is tt refl (λ e. absurd cc)

pub pass_turn_reply : (old taken : AtLock) (ticket owner : ℕ) (reply : Reply) (stood : State) → IsDoor old.view true → Takes old taken ticket → taken.view.owner ≡ Some owner
    → (reply, stood) ≡ step (lock.state_of taken.view) owner events.Pass → (removed : ℕ) × (left : ℕ) × (reply ≡ replies.Passed removed left)
pass_turn_reply old taken ticket owner reply stood was takes is e =
    let s = lock.state_of taken.view in
    (length s.rows - length (pass s s.low).rows, used (pass s s.low), ap (λ (r : Reply × State). r.0) e ∙ pass_replies s owner (pass_turn old taken ticket owner was takes is).there)

pub pass_turn_adds : (old taken new : AtLock) (ticket : ℕ) (reply : Reply) → IsDoor old.view true → Takes old taken ticket → Gives taken new events.Pass reply → Asks old new events.Pass reply
pass_turn_adds old taken new ticket reply door takes gives = turn_adds old taken new ticket events.Pass reply door takes gives refl (λ _. refl)

pub turn_waits : (old taken new : AtLock) (ticket : ℕ) → IsDoor old.view true → Takes old taken ticket → GivesBack taken new → Waits (door_view old true) (door_view new true) × IsDoor new.view true
turn_waits old taken new ticket door takes back =
    let was_in = door.is_in refl in
    let owner = back.owner ∙ takes.owner in
    let mine = back.mine ∙ takes.mine in
    let start = back.ends.start ∙ takes.start in (
      record {
        owner = was_in.0;
        is_owner = was_in.1;
        same_owner = owner;
        was_in = refl;
        is_in = refl;
        start = start;
        seen = subst (λ (l : List Entry). (more : List Entry) × (l ≡ old.view.seen ++ more)) (sym back.seen) takes.seen;
        is_own = some_at new.view.owner (λ o. own o new.view.seen ≡ new.view.mine) was_in.0 (owner ∙ was_in.1) back.ends.is_own;
        mine = mine ∙ sym (append-nil old.view.mine);
        count = omega (arith, back.made, takes.made);
        grant = back.ends.grant ∙ takes.grant;
        identity = ap (λ (t : TableId). record { lock = Some t; place = 0; seats = [] }) (back.ends.lock ∙ takes.lock);
        left = omega (arith, back.ends.left, takes.left);
        used = omega (arith, back.ends.left, takes.left);
      },
      record {
        valid = subst Valid (sym start) door.valid;
        first_owner = subst (λ (s : State). s.next_owner ≤ 2 ^ 62) (sym start) door.first_owner;
        first_lease = subst (λ (s : State). s.next_lease ≤ 2 ^ 62) (sym start) door.first_lease;
        came = subst (λ (x : Option ℕ × State). IfSome x.0 (λ o. x.1.next_owner ≤ o)) (λ i. (sym owner i, sym start i)) door.came;
        is_in = λ e. let was = door.is_in e in (was.0, owner ∙ was.1, (λ b. ap (is_in b) mine ∙ was.2 b));
      },
    )

-- ---- an owner comes

pub record MayOpen (v : lock.View) (owner : ℕ) : Type 0 where
  pub owners : (lock.state_of v).next_owner < 2 ^ 64 - 1
  pub leases : (lock.state_of v).next_lease < 2 ^ 64 - 1
  pub gives : (reply : Reply) (stood : State) → (reply, stood) ≡ step (lock.state_of v) owner events.Open → MayGive v events.Open reply stood

pub may_open : (old taken : AtLock) (ticket owner : ℕ) → IsDoor old.view false → Takes old taken ticket → owner ≡ (lock.state_of taken.view).next_owner → MayOpen taken.view owner
may_open old taken ticket owner was takes next =
    let v = taken.view in
    let s = lock.state_of v in
    let door = taken_door old taken ticket false was takes in
    let after = numbers_after v.start v.seen in
    record {
      owners = omega (arith, after.0, door.first_owner, takes.few);
      leases = omega (arith, after.1, door.first_lease, takes.few);
      gives = λ reply stood e.
          let first : reply ≡ replies.Opened s.next_owner = ap (λ (r : Reply × State). r.0) e ∙ open_replies s owner in
          record {
            owner = owner;
            is_owner = ap number_in first ∙ ap (λ (n : ℕ). Some n) (sym next);
            legal = record {
              reply = ap (λ (r : Reply × State). r.0) e;
              served = λ refused. let no : replies.Opened s.next_owner ≡ replies.Refused = sym first ∙ refused in absurd cc;
              numbered = subst (IsNumbered owner) (sym first) next;
            };
            after = ap (λ (r : Reply × State). r.1) e;
          };
    }

pub record Opens (old new : AtLock) : Type 0 where
  pub enters : Enters (door_view old false) (door_view new true)
  pub door : IsDoor new.view true

pub turn_enters : (old taken new : AtLock) (ticket owner : ℕ) (reply : Reply) (stood : State) → IsDoor old.view false → Takes old taken ticket → (reply, stood) ≡ step (lock.state_of taken.view) owner events.Open
    → Gives taken new events.Open reply → Opens old new
turn_enters old taken new ticket owner reply stood was takes e gives =
    let v = taken.view in
    let s = lock.state_of v in
    let first : reply ≡ replies.Opened s.next_owner = ap (λ (r : Reply × State). r.0) e ∙ open_replies s owner in
    let same : Some gives.number ≡ Some s.next_owner = sym gives.author ∙ ap number_in first in
    let number : gives.number ≡ s.next_owner = cc in
    let told : reply ≡ replies.Opened gives.number = first ∙ ap (λ (n : ℕ). replies.Opened n) (sym number) in
    let mine : new.view.mine ≡ entry gives.number events.Open (replies.Opened gives.number) ∷ [] = gives.mine ∙ ap (λ (r : Reply). entry gives.number events.Open r ∷ []) told in
    let start = gives.ends.start ∙ takes.start in
    let door = taken_door old taken ticket false was takes in
    let came : new.view.start.next_owner ≤ gives.number = let low = next_after v.start v.seen in omega (arith, low, number, ap (λ (t : State). t.next_owner) gives.ends.start) in
    record {
      enters = record {
        number = gives.number;
        is_in = refl;
        owner = gives.owner;
        mine = mine;
        is_own = some_at new.view.owner (λ o. own o new.view.seen ≡ new.view.mine) gives.number gives.owner gives.ends.is_own;
        start = start;
        seen = extends_more old.view.seen taken.view.seen new.view.seen takes.seen (entry gives.number events.Open reply ∷ [], gives.seen);
        last = (taken.view.seen, gives.seen ∙ ap (λ (l : List Entry). taken.view.seen ++ l) (sym gives.mine));
        count = gives.made ∙ ap (λ (n : ℕ). n + 1) takes.made;
        grant = gives.ends.grant ∙ takes.grant;
        identity = ap (λ (t : TableId). record { lock = Some t; place = 0; seats = [] }) (gives.ends.lock ∙ takes.lock);
        left = omega (arith, gives.ends.left, takes.left);
        used = omega (arith, gives.ends.left, takes.left);
      };
      door = record {
        valid = subst Valid (sym gives.ends.start) door.valid;
        first_owner = subst (λ (t : State). t.next_owner ≤ 2 ^ 62) (sym gives.ends.start) door.first_owner;
        first_lease = subst (λ (t : State). t.next_lease ≤ 2 ^ 62) (sym gives.ends.start) door.first_lease;
        came = some_of new.view.owner (λ o. new.view.start.next_owner ≤ o) gives.number gives.owner came;
        is_in = λ _. (gives.number, gives.owner, (λ b. ap (is_in b) mine));
      };
    }

pub turn_stays_out : (old taken new : AtLock) (ticket : ℕ) → IsDoor old.view false → Takes old taken ticket → GivesBack taken new → StaysOut (door_view old false) (door_view new false) × IsDoor new.view false
turn_stays_out old taken new ticket door takes back =
    let owner = back.owner ∙ takes.owner in
    let start = back.ends.start ∙ takes.start in (
      record {
        owner = owner;
        is_out = refl;
        mine = back.mine ∙ takes.mine;
        is_own = back.ends.is_own;
        start = start;
        seen = subst (λ (l : List Entry). (more : List Entry) × (l ≡ old.view.seen ++ more)) (sym back.seen) takes.seen;
        count = omega (arith, back.made, takes.made);
        grant = back.ends.grant ∙ takes.grant;
        identity = ap (λ (t : TableId). record { lock = Some t; place = 0; seats = [] }) (back.ends.lock ∙ takes.lock);
        left = omega (arith, back.ends.left, takes.left);
        used = omega (arith, back.ends.left, takes.left);
      },
      record {
        valid = subst Valid (sym start) door.valid;
        first_owner = subst (λ (s : State). s.next_owner ≤ 2 ^ 62) (sym start) door.first_owner;
        first_lease = subst (λ (s : State). s.next_lease ≤ 2 ^ 62) (sym start) door.first_lease;
        came = subst (λ (x : Option ℕ × State). IfSome x.0 (λ o. x.1.next_owner ≤ o)) (λ i. (sym owner i, sym start i)) door.came;
        is_in = λ e. absurd cc;
      },
    )

-- ---- an owner goes

pub record MayClose (v : lock.View) (owner : ℕ) : Type 0 where
  pub owners : (lock.state_of v).next_owner < 2 ^ 64 - 1
  pub leases : (lock.state_of v).next_lease < 2 ^ 64 - 1
  pub reply : (step (lock.state_of v) owner events.Close).0 ≡ replies.Closed
  pub gives : (reply : Reply) (stood : State) → (reply, stood) ≡ step (lock.state_of v) owner events.Close → MayGive v events.Close reply stood

pub may_close : (old taken : AtLock) (ticket owner : ℕ) → IsDoor old.view true → Takes old taken ticket → taken.view.owner ≡ Some owner → own_now (door_view old true) ≡ [] → MayClose taken.view owner
may_close old taken ticket owner was takes is none =
    let v = taken.view in
    let s = lock.state_of v in
    let b = bench_at v in
    let door = taken_door old taken ticket true was takes in
    let bench = is_bench v owner door takes.legal takes.is_own takes.few is in
    let fit = numbers_fit s b bench in
    let mine : (view_of b).mine ≡ old.view.mine = ap (λ (o : Option ℕ). own_by o v.seen) is ∙ some_at v.owner (λ o. own o v.seen ≡ v.mine) owner is takes.is_own ∙ takes.mine in
    let same : own_now (view_of b) ≡ own_now (door_view old true) = λ i. leases_by (takes.owner i) (mine i) in
    let closed : (step s owner events.Close).0 ≡ replies.Closed = close_is_served s b owner bench refl is (same ∙ none) in
    record {
      owners = fit.owners_fit;
      leases = fit.leases_fit;
      reply = closed;
      gives = λ reply stood e.
          let first : reply ≡ replies.Closed = ap (λ (r : Reply × State). r.0) e ∙ closed in
          record {
            owner = owner;
            is_owner = is;
            legal = record {
              reply = ap (λ (r : Reply × State). r.0) e;
              served = λ refused. let no : replies.Closed ≡ replies.Refused = sym first ∙ refused in absurd cc;
              numbered = subst (IsNumbered owner) (sym first) tt;
            };
            after = ap (λ (r : Reply × State). r.1) e;
          };
    }

pub record Closes (old new : AtLock) : Type 0 where
  pub leaves : Leaves (door_view old true) (door_view new false)
  pub door : IsDoor new.view false

pub turn_leaves : (old taken new : AtLock) (ticket owner : ℕ) (reply : Reply) (stood : State) → IsDoor old.view true → Takes old taken ticket → taken.view.owner ≡ Some owner → own_now (door_view old true) ≡ []
    → (reply, stood) ≡ step (lock.state_of taken.view) owner events.Close → Gives taken new events.Close reply → Closes old new
turn_leaves old taken new ticket owner reply stood was takes is none e gives =
    let may = may_close old taken ticket owner was takes is none in
    let told : reply ≡ replies.Closed = ap (λ (r : Reply × State). r.0) e ∙ may.reply in
    let number = gives.number in
    let is_old : old.view.owner ≡ Some number = sym takes.owner ∙ gives.author in
    let added : entry number events.Close reply ∷ [] ≡ entry number events.Close replies.Closed ∷ [] = ap (λ (r : Reply). entry number events.Close r ∷ []) told in
    let start = gives.ends.start ∙ takes.start in
    record {
      leaves = record {
        owner = number;
        is_owner = is_old;
        same_owner = gives.owner ∙ sym is_old;
        is_out = refl;
        start = start;
        seen = extends_more old.view.seen taken.view.seen new.view.seen takes.seen (entry number events.Close reply ∷ [], gives.seen);
        is_own = some_at new.view.owner (λ o. own o new.view.seen ≡ new.view.mine) number gives.owner gives.ends.is_own;
        mine = gives.mine ∙ (λ i. takes.mine i ++ added i);
        last = (taken.view.seen, gives.seen ∙ ap (λ (l : List Entry). taken.view.seen ++ l) added);
        count = gives.made ∙ ap (λ (n : ℕ). n + 1) takes.made;
        grant = gives.ends.grant ∙ takes.grant;
        identity = ap (λ (t : TableId). record { lock = Some t; place = 0; seats = [] }) (gives.ends.lock ∙ takes.lock);
        left = omega (arith, gives.ends.left, takes.left);
        used = omega (arith, gives.ends.left, takes.left);
      };
      door = record {
        valid = subst Valid (sym start) was.valid;
        first_owner = subst (λ (s : State). s.next_owner ≤ 2 ^ 62) (sym start) was.first_owner;
        first_lease = subst (λ (s : State). s.next_lease ≤ 2 ^ 62) (sym start) was.first_lease;
        came = some_of new.view.owner (λ o. new.view.start.next_owner ≤ o) number gives.owner (subst (λ (s : State). s.next_owner ≤ number) (sym start) (some_at old.view.owner (λ o. old.view.start.next_owner ≤ o) number is_old was.came));
        is_in = λ e. absurd cc;
      };
    }

-- ---- no turn at all

pub door_waits : (at : TableId) (h : AtLock) (entered : Bool) → IsLockDoor at h entered → MayCall (door_view h entered) → Waits (door_view h entered) (door_view h entered)
door_waits at h entered door may =
    let was = door.door.is_in may.is_in in
    turns_more (door_view h entered) (door_view h entered) 0 1 [] (omega arith) (turns_none (door_view h entered) was.0 may.is_in was.1 (some_at h.view.owner (λ o. own o h.view.seen ≡ h.view.mine) was.0 was.1 door.is_own))
