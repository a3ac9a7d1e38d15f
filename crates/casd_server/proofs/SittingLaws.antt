-- What the calls of a bench make of the seats of a replay.
use Rattle.std.proofs.Common.{◌≡◌, ℕ, ◌<◌, Bool, true, false, cond, ◌||◌, Result, Ok, Err, List, [], map, length, filter, Option, Some, None, refl, sym, ap, subst, ◌∙◌}
use Rattle.std.specs.Prelude.{slice_set, slice_index_or, OnOk, OnErr, ⊤}
use Rattle.std.specs.Option.{option_map}
use Rattle.std.proofs.lemmas.Bool.{cond-true, cond-false}
use Rattle.std.proofs.lemmas.List.{map-set, length-set, get_or-set_same}
use Rattle.std.proofs.lemmas.Option.{slice_get-map, slice_get-get_or}
use Rattle.store_core.specs.State.{State, is_of_owner}
use Rattle.store_core.specs.declared.event.Event.{Event}
use Rattle.store_core.specs.declared.event.Event.TheVariants as events
use Rattle.store_core.specs.declared.event.Reply.{Reply}
use Rattle.store_core.specs.declared.event.Reply.TheVariants as replies
use Rattle.store_core.specs.declared.state.Lease.{Lease}
use Rattle.store_core.specs.Step.{step, served, is_opening, is_open}
use Rattle.store_core.specs.History.{leases_of}
use Rattle.store_core.proofs.Entries.{closed_leases}
use Rattle.blob_store.specs.declared.seat.Seat.{Seat}
use Rattle.blob_store.specs.View.{IsSound, Makes, Enters, Leaves, StaysOut}
use Rattle.blob_store.specs.Benched.{Benched, store_of, seat_of, view_of, unseated, seated, unseated_now}
use Rattle.blob_store.proofs.BenchLaws.{makes_at, enters_at, leaves_at, stays_out_at, seat_is}
use Rattle.casd_server.specs.declared.answer.Answer.{Answer}
use Rattle.casd_server.specs.declared.answer.Answer.TheVariants as answers
use Rattle.store_core.specs.declared.event.Usage.{Usage}
use Rattle.casd_server.specs.Answer.{Seated, answer_of, owner_in, owner_at, seated_with, closed_with, opened, by_event, by_close}
use Rattle.casd_server.specs.Sitting.{Sits, StaysSeated, owner_of, seated_at}

-- ---- seats

owner_of_in : (seat : Seat) (owner : ℕ) → seat.entered ≡ true → seat.owner ≡ Some owner → owner_of seat ≡ Some owner
owner_of_in seat owner entered is_owner = cond-true seat.entered seat.owner None entered ∙ is_owner

owner_of_out : (seat : Seat) → seat.entered ≡ false → owner_of seat ≡ None
owner_of_out seat out = cond-false seat.entered seat.owner None out

-- the owner of a seat of a bench
owner_at-is : (b : Benched) (seat : ℕ) → seat < length b.seats → owner_at (seated_at b) seat ≡ owner_of (slice_index_or b.seats seat unseated)
owner_at-is b seat lt =
    ap owner_in (slice_get-map owner_of b.seats seat)
    ∙ ap (λ (o : Option Seat). owner_in (option_map owner_of o)) (slice_get-get_or b.seats seat unseated lt)

pub owner_at_in : (b : Benched) (seat owner : ℕ) → seat < length b.seats → (slice_index_or b.seats seat unseated).entered ≡ true → (slice_index_or b.seats seat unseated).owner ≡ Some owner → owner_at (seated_at b) seat ≡ Some owner
owner_at_in b seat owner lt entered is_owner = owner_at-is b seat lt ∙ owner_of_in (slice_index_or b.seats seat unseated) owner entered is_owner

pub owner_at_out : (b : Benched) (seat : ℕ) → seat < length b.seats → (slice_index_or b.seats seat unseated).entered ≡ false → owner_at (seated_at b) seat ≡ None
owner_at_out b seat lt out = owner_at-is b seat lt ∙ owner_of_out (slice_index_or b.seats seat unseated) out

seated_is : (core : State) (seats : List (Option ℕ)) (s : Seated) → core ≡ s.core → seats ≡ s.seats → record { core = core; seats = seats } ≡ s
seated_is core seats s first second =
    ap (λ (t : State). record { core = t; seats = seats }) first ∙ ap (λ (xs : List (Option ℕ)). record { core = s.core; seats = xs }) second

owners_set : (new : Benched) (seats : List Seat) (i : ℕ) (seat : Seat) → new.seats ≡ slice_set seats i seat → map owner_of new.seats ≡ slice_set (map owner_of seats) i (owner_of seat)
owners_set new seats i seat e = ap (λ (xs : List Seat). map owner_of xs) e ∙ map-set owner_of seats i seat

length_set : (new : Benched) (seats : List Seat) (i : ℕ) (seat : Seat) → new.seats ≡ slice_set seats i seat → length new.seats ≡ length seats
length_set new seats i seat e = ap length e ∙ length-set seats i seat

-- ---- what the store keeps

-- where an event of an open owner keeps the leases, so does it of any
kept_leases : (s : State) (t : Bool) (r : Reply × State) → r.1.leases ≡ s.leases → (cond t r (replies.Refused, s)).1.leases ≡ s.leases
kept_leases s true r kept = kept
kept_leases s false r kept = refl

pub open_leases : (s : State) (owner : ℕ) → (step s owner events.Open).1.leases ≡ s.leases
unfolding step served
open_leases s owner = refl

-- an Open is the same whoever asks
open_same : (s : State) (owner : ℕ) → (step s owner events.Open).1 ≡ (step s 0 events.Open).1
unfolding step served
open_same s owner = refl

pub pass_leases : (s : State) (owner : ℕ) → (step s owner events.Pass).1.leases ≡ s.leases
unfolding step served
pass_leases s owner = kept_leases s (is_opening events.Pass || is_open s owner) (served s owner events.Pass) refl

pub usage_leases : (s : State) (owner : ℕ) → (step s owner events.Usage).1.leases ≡ s.leases
unfolding step served
usage_leases s owner = kept_leases s (is_opening events.Usage || is_open s owner) (served s owner events.Usage) refl

pub close_leases : (s : State) (owner : ℕ) → (step s owner events.Close).1.leases ≡ s.leases
unfolding step served
close_leases s owner = kept_leases s (is_opening events.Close || is_open s owner) (served s owner events.Close) (closed_leases s owner)

-- where the store holds no lease, an owner has none
pub no_leases : (owner : ℕ) (s : State) → s.leases ≡ [] → leases_of owner s ≡ []
no_leases owner s e = ap (λ (leases : List Lease). filter (is_of_owner owner) leases) e

-- ---- a seat is chosen

opened_taken : (s : Seated) (seat owner : ℕ) → owner_at s seat ≡ Some owner → (owner, s) ≡ opened s seat
unfolding opened
opened_taken s seat owner e = sym (ap (λ (o : Option ℕ). seated_with s seat o) e)

opened_free : (s : Seated) (seat : ℕ) → owner_at s seat ≡ None → seated_with s seat None ≡ opened s seat
unfolding opened
opened_free s seat e = sym (ap (λ (o : Option ℕ). seated_with s seat o) e)

sits_in_at : (old : Benched) (seat owner : ℕ) → seat < length old.seats → (slice_index_or old.seats seat unseated).entered ≡ true → (slice_index_or old.seats seat unseated).owner ≡ Some owner → Sits old (record old { chosen = seat }) seat
sits_in_at old seat owner lt entered is_owner = record {
  owner = owner;
  opened = opened_taken (seated_at old) seat owner (owner_at_in old seat owner lt entered is_owner);
  chosen = refl;
  is_in = seat_is (slice_index_or old.seats seat unseated) (record { owner = Some owner; entered = true }) is_owner entered;
  same = refl;
  bare = refl;
}

-- a seat that has its owner
pub sits_in : (old new : Benched) (seat owner : ℕ) → new ≡ record old { chosen = seat } → seat < length old.seats → (seat_of new).entered ≡ true → (seat_of new).owner ≡ Some owner → Sits old new seat
sits_in old new seat owner chose lt entered is_owner =
    subst (λ (b : Benched). Sits old b seat) (sym chose)
    (sits_in_at old seat owner lt
    (subst (λ (b : Benched). (seat_of b).entered ≡ true) chose entered)
    (subst (λ (b : Benched). (seat_of b).owner ≡ Some owner) chose is_owner))

came_in : (new : Benched) (seats : List Seat) (i : ℕ) (seat : Seat) → new.seats ≡ slice_set seats i seat → new.chosen ≡ i → i < length seats → seat_of new ≡ seat
came_in new seats i seat e chosen lt =
    ap (λ (xs : List Seat). slice_index_or xs new.chosen unseated) e
    ∙ ap (λ (n : ℕ). slice_index_or (slice_set seats i seat) n unseated) chosen
    ∙ get_or-set_same seats i seat unseated lt

sits_came_at : (old new : Benched) (seat : ℕ) → seat < length old.seats → (slice_index_or old.seats seat unseated).entered ≡ false → IsSound (view_of new) → Enters (view_of (record old { chosen = seat })) (view_of new) → Sits old new seat
sits_came_at old new seat lt out sound enters =
    let at = enters_at (record old { chosen = seat }) new sound enters in
    let next = (store_of old).next_owner in
    let core : store_of new ≡ (step (store_of old) next events.Open).1 = ap (λ (r : Reply × State). r.1) at.0.step in
    let seats = at.1 in
    let is : seated_at new ≡ (seated_with (seated_at old) seat None).1 =
    seated_is (store_of new) (map owner_of new.seats) (seated_with (seated_at old) seat None).1
    (core ∙ open_same (store_of old) next)
    (owners_set new old.seats seat (seated next) seats) in
    record {
      owner = next;
      opened = ap (λ (s : Seated). (next, s)) is ∙ opened_free (seated_at old) seat (owner_at_out old seat lt out);
      chosen = at.0.chosen;
      is_in = came_in new old.seats seat (seated next) seats at.0.chosen lt;
      same = length_set new old.seats seat (seated next) seats;
      bare = ap (λ (s : State). s.leases) core ∙ open_leases (store_of old) next;
    }

-- a seat whose owner came
pub sits_came : (old mid new : Benched) (seat : ℕ) → mid ≡ record old { chosen = seat } → seat < length old.seats → (seat_of mid).entered ≡ false → IsSound (view_of new) → Enters (view_of mid) (view_of new) → Sits old new seat
sits_came old mid new seat chose lt out sound enters =
    sits_came_at old new seat lt
    (subst (λ (b : Benched). (seat_of b).entered ≡ false) chose out)
    sound
    (subst (λ (b : Benched). Enters (view_of b) (view_of new)) chose enters)

-- ---- a seat's owner goes

pub closed_none : (old new : Benched) (seat : ℕ) → new ≡ record old { chosen = seat } → seat < length old.seats → (seat_of new).entered ≡ false → seated_at new ≡ closed_with (seated_at old) seat (owner_at (seated_at old) seat)
closed_none old new seat chose lt out =
    ap seated_at chose
    ∙ sym (ap (λ (o : Option ℕ). closed_with (seated_at old) seat o) (owner_at_out old seat lt (subst (λ (b : Benched). (seat_of b).entered ≡ false) chose out)))

-- what a Close at the bench leaves
pub record Closes (old new : Benched) (seat owner : ℕ) : Type 0 where
  pub owner_is : owner_at (seated_at old) seat ≡ Some owner
  pub reply : (step (store_of old) owner events.Close).0 ≡ replies.Closed
  pub closed : seated_at new ≡ closed_with (seated_at old) seat (owner_at (seated_at old) seat)
  pub bare : (store_of new).leases ≡ (store_of old).leases

closes_at : (old new : Benched) (seat owner : ℕ) → seat < length old.seats → (slice_index_or old.seats seat unseated).entered ≡ true → (slice_index_or old.seats seat unseated).owner ≡ Some owner
    → IsSound (view_of new) → Leaves (view_of (record old { chosen = seat })) (view_of new) → Closes old new seat owner
closes_at old new seat owner lt entered is_owner sound leaves =
    let at = leaves_at (record old { chosen = seat }) new owner sound leaves is_owner in
    let core : store_of new ≡ (step (store_of old) owner events.Close).1 = ap (λ (r : Reply × State). r.1) at.0.step in
    let owner_is : owner_at (seated_at old) seat ≡ Some owner = owner_at_in old seat owner lt entered is_owner in
    let is : seated_at new ≡ closed_with (seated_at old) seat (Some owner) =
    seated_is (store_of new) (map owner_of new.seats) (closed_with (seated_at old) seat (Some owner)) core
    (owners_set new old.seats seat (unseated_now owner) at.1) in
    record {
      owner_is = owner_is;
      reply = sym (ap (λ (r : Reply × State). r.0) at.0.step);
      closed = is ∙ sym (ap (λ (o : Option ℕ). closed_with (seated_at old) seat o) owner_is);
      bare = ap (λ (s : State). s.leases) core ∙ close_leases (store_of old) owner;
    }

pub closes : (old mid new : Benched) (seat owner : ℕ) → mid ≡ record old { chosen = seat } → seat < length old.seats → (seat_of mid).entered ≡ true → (seat_of mid).owner ≡ Some owner
    → IsSound (view_of new) → Leaves (view_of mid) (view_of new) → Closes old new seat owner
closes old mid new seat owner chose lt entered is_owner sound leaves =
    closes_at old new seat owner lt
    (subst (λ (b : Benched). (seat_of b).entered ≡ true) chose entered)
    (subst (λ (b : Benched). (seat_of b).owner ≡ Some owner) chose is_owner)
    sound
    (subst (λ (b : Benched). Leaves (view_of b) (view_of new)) chose leaves)

-- ---- a call at the chosen seat

-- what a call answers
pub answered : (old new : Benched) (owner : ℕ) (event : Event) (reply : Reply) → IsSound (view_of new) → Makes (view_of old) (view_of new) event reply → (seat_of old).owner ≡ Some owner
    → (answer_of reply, seated_at new) ≡ by_event (seated_at old) owner event
answered old new owner event reply sound makes is_owner =
    let at = makes_at old new owner event reply sound makes is_owner in
    let core : store_of new ≡ (step (store_of old) owner event).1 = ap (λ (r : Reply × State). r.1) at.0.step in
    let is : seated_at new ≡ (by_event (seated_at old) owner event).1 =
    seated_is (store_of new) (map owner_of new.seats) (by_event (seated_at old) owner event).1 core
    (ap (λ (xs : List Seat). map owner_of xs) at.1) in
    ap (λ (r : Reply × State). (answer_of r.0, seated_at new)) at.0.step
    ∙ ap (λ (s : Seated). (answer_of (step (store_of old) owner event).0, s)) is

-- an event that keeps the leases leaves the seats and takes no lease
pub stays : (old new : Benched) (event : Event) (reply : Reply) → ((owner : ℕ) → (step (store_of old) owner event).1.leases ≡ (store_of old).leases)
    → IsSound (view_of new) → Makes (view_of old) (view_of new) event reply → StaysSeated old new
stays old new event reply kept sound makes =
    let owner = makes.turns.owner in
    let at = makes_at old new owner event reply sound makes makes.turns.is_owner in
    record {
      seats = at.1;
      chosen = at.0.chosen;
      bare = ap (λ (r : Reply × State). r.1.leases) at.0.step ∙ kept owner;
    }

-- the answer to a pass
pub passes : (old new : Benched) (owner removed used : ℕ) → IsSound (view_of new) → Makes (view_of old) (view_of new) events.Pass (replies.Passed removed used) → (seat_of old).owner ≡ Some owner
    → (answers.Passed removed used, seated_at new) ≡ by_event (seated_at old) owner events.Pass
unfolding answer_of
passes old new owner removed used sound makes is_owner = answered old new owner events.Pass (replies.Passed removed used) sound makes is_owner

-- the answer to a question for the numbers
pub uses : (old new : Benched) (owner : ℕ) (used : Usage) → IsSound (view_of new) → Makes (view_of old) (view_of new) events.Usage (replies.Used used) → (seat_of old).owner ≡ Some owner
    → (answers.Used used, seated_at new) ≡ by_event (seated_at old) owner events.Usage
unfolding answer_of
uses old new owner used sound makes is_owner = answered old new owner events.Usage (replies.Used used) sound makes is_owner

closed_is : answer_of replies.Closed ≡ answers.Closed
unfolding answer_of
closed_is = refl

-- the answer to a close
pub goes : (s t : Seated) (seat owner : ℕ) → owner_at s seat ≡ Some owner → (step s.core owner events.Close).0 ≡ replies.Closed → t ≡ closed_with s seat (owner_at s seat) → (answers.Closed, t) ≡ by_close s seat owner
goes s t seat owner owner_is reply closed =
    ap (λ (u : Seated). (answers.Closed, u)) (closed ∙ ap (λ (o : Option ℕ). closed_with s seat o) owner_is)
    ∙ ap (λ (a : Answer). (a, closed_with s seat (Some owner))) (sym (ap answer_of reply ∙ closed_is))

-- ---- for `rise`

pub bare_still : (old new : Benched) (seat : ℕ) → new ≡ record old { chosen = seat } → (store_of old).leases ≡ [] → (store_of new).leases ≡ []
bare_still old new seat chose bare = ap (λ (b : Benched). (store_of b).leases) chose ∙ bare

pub same_reply : (old new : Benched) (seat owner number : ℕ) → Closes old new seat owner → owner_at (seated_at old) seat ≡ Some number → (step (store_of old) number events.Close).0 ≡ replies.Closed
same_reply old new seat owner number closed is_number =
    let both : Some owner ≡ Some number = sym closed.owner_is ∙ is_number in
    let same : owner ≡ number = cc in
    subst (λ (o : ℕ). (step (store_of old) o events.Close).0 ≡ replies.Closed) same closed.reply

pub no_reply : (old new : Benched) (seat number : ℕ) → new ≡ record old { chosen = seat } → seat < length old.seats → (seat_of new).entered ≡ false → owner_at (seated_at old) seat ≡ Some number → (step (store_of old) number events.Close).0 ≡ replies.Closed
no_reply old new seat number chose lt out is_number =
    let none : owner_at (seated_at old) seat ≡ None = owner_at_out old seat lt (subst (λ (b : Benched). (seat_of b).entered ≡ false) chose out) in
    let never : None ≡ Some number = sym none ∙ is_number in
    absurd cc

-- ---- for `sit`

-- a seat whose owner did not come
pub sits_none : (old mid new : Benched) (seat : ℕ) → mid ≡ record old { chosen = seat } → (seat_of mid).entered ≡ false → StaysOut (view_of mid) (view_of new) → (store_of new).leases ≡ (store_of old).leases
sits_none old mid new seat chose out stays =
    ap (λ (b : Benched). (store_of b).leases) (stays_out_at mid new out stays ∙ chose)

-- what came or not takes no lease
pub sits_bare : (E : Type 0) (old mid new : Benched) (seat : ℕ) (result : Result ⊤ E) → mid ≡ record old { chosen = seat } → seat < length old.seats → (seat_of mid).entered ≡ false → IsSound (view_of new)
    → OnOk result (Enters (view_of mid) (view_of new)) → OnErr result (StaysOut (view_of mid) (view_of new)) → (store_of new).leases ≡ (store_of old).leases
sits_bare E old mid new seat (Ok x) chose lt out sound enters stays = (sits_came old mid new seat chose lt out sound enters).bare
sits_bare E old mid new seat (Err e) chose lt out sound enters stays = sits_none old mid new seat chose out stays

pub sits_ok : (E : Type 0) (old mid new : Benched) (seat : ℕ) (result : Result ⊤ E) → mid ≡ record old { chosen = seat } → seat < length old.seats → (seat_of mid).entered ≡ false → IsSound (view_of new)
    → OnOk result (Enters (view_of mid) (view_of new)) → OnOk result (Sits old new seat)
sits_ok E old mid new seat (Ok x) chose lt out sound enters = sits_came old mid new seat chose lt out sound enters
sits_ok E old mid new seat (Err e) chose lt out sound enters = tt
