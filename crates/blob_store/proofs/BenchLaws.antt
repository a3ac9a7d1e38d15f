-- What the view of a bench's chosen seat says of all of the bench.
use Rattle.std.proofs.Common.{◌≡◌, ℕ, ◌+◌, Bool, false, List, [], ◌∷◌, ◌++◌, length, set, Option, Some, refl, sym, ap, subst, ◌∙◌, length-append, arith}
use Rattle.std.specs.Prelude.{slice_index_or, slice_set}
use Rattle.std.proofs.lemmas.List.{append-nil, set-set, set-get_or, length-set}
use Rattle.store_core.specs.State.{State}
use Rattle.store_core.specs.declared.event.Event.{Event}
use Rattle.store_core.specs.declared.event.Event.TheVariants as events
use Rattle.store_core.specs.declared.event.Reply.{Reply}
use Rattle.store_core.specs.declared.event.Reply.TheVariants as replies
use Rattle.store_core.specs.Step.{step, served}
use Rattle.store_core.specs.History.{Entry, state, Legal}
use Rattle.blob_store.specs.declared.seat.Seat.{Seat}
use Rattle.turn_lock.specs.Views.{Extends}
use Rattle.blob_store.specs.View.{Identity, IsSound, Turns, Makes, Waits, Enters, StaysOut, Leaves}
use Rattle.blob_store.specs.Benched.{Benched, IsAtStep, store_of, seat_of, view_of, unseated, seated, unseated_now}
use Rattle.blob_store.proofs.ViewLaws.{last_step}

-- ---- what is seen

-- a list that is as long as the one that it begins with is that one
none_more : (old more new : List Entry) → new ≡ old ++ more → length new ≡ length old → new ≡ old
none_more old [] new e n = e ∙ append-nil old
none_more old (first ∷ more) new e n = absurd (omega (arith, ap length e, length-append old (first ∷ more)))

-- where just one entry is added, that which ends the list is added
one_more : (old more before : List Entry) (entry : Entry) → old ++ more ≡ before ++ entry ∷ [] → length more ≡ 1 → before ≡ old
one_more [] more [] entry e n = refl
one_more [] more (b ∷ before) entry e n = absurd (omega (arith, ap length e, length-append before (entry ∷ [])))
one_more (o ∷ old) more [] entry e n = absurd (omega (arith, ap length e, length-append old more))
one_more (o ∷ old) more (b ∷ before) entry e n =
    let same : b ≡ o = cc in
    ap (λ (x : Entry). x ∷ before) same ∙ ap (λ (xs : List Entry). o ∷ xs) (one_more old more before entry (cc) n)

one_added : (old more before new : List Entry) (entry : Entry) → new ≡ old ++ more → new ≡ before ++ entry ∷ [] → length new ≡ length old + 1 → new ≡ old ++ entry ∷ []
one_added old more before new entry grown ends n =
    let one : length more ≡ 1 = omega (arith, ap length grown, length-append old more) in
    ends ∙ ap (λ (front : List Entry). front ++ entry ∷ []) (one_more old more before entry (sym grown ∙ ends) one)

-- ---- the seats

-- what stands beside the chosen seat tells how many seats there are
pub as_many : (old new : Benched) → (view_of new).identity ≡ (view_of old).identity → length new.seats ≡ length old.seats
as_many old new identity =
    sym (length-set new.seats new.chosen unseated) ∙ ap (λ (a : Identity). length a.seats) identity ∙ length-set old.seats old.chosen unseated

-- so do the calls at the chosen seat
pub turns_as_many : (old new : Benched) (turns : ℕ) (made : List (Event × Reply)) → Turns (view_of old) (view_of new) turns made → length new.seats ≡ length old.seats
turns_as_many old new n made turns = as_many old new turns.identity

pub makes_as_many : (old new : Benched) (event : Event) (reply : Reply) → Makes (view_of old) (view_of new) event reply → length new.seats ≡ length old.seats
makes_as_many old new event reply makes = as_many old new makes.turns.identity

pub enters_as_many : (old new : Benched) → Enters (view_of old) (view_of new) → length new.seats ≡ length old.seats
enters_as_many old new enters = as_many old new enters.identity

pub stays_as_many : (old new : Benched) → StaysOut (view_of old) (view_of new) → length new.seats ≡ length old.seats
stays_as_many old new stays = as_many old new stays.identity

pub leaves_as_many : (old new : Benched) → Leaves (view_of old) (view_of new) → length new.seats ≡ length old.seats
leaves_as_many old new leaves = as_many old new leaves.identity

-- the seats are those beside the chosen one and that
seats_by : (xs ys : List Seat) (i : ℕ) (seat : Seat) → slice_set xs i unseated ≡ slice_set ys i unseated → slice_index_or xs i unseated ≡ seat → xs ≡ slice_set ys i seat
seats_by xs ys i seat beside is =
    sym (set-get_or xs i unseated)
    ∙ ap (λ (s : Seat). set xs i s) is
    ∙ sym (set-set xs i unseated seat)
    ∙ ap (λ (seats : List Seat). set seats i seat) beside
    ∙ set-set ys i unseated seat

pub seat_is : (a b : Seat) → a.owner ≡ b.owner → a.entered ≡ b.entered → a ≡ b
seat_is a b owner entered = ap (λ (o : Option ℕ). record { owner = o; entered = a.entered }) owner ∙ ap (λ (e : Bool). record { owner = b.owner; entered = e }) entered

-- what stays beside, and the chosen seat, give all seats
seats_of : (old new : Benched) (seat : Seat) → (view_of new).identity ≡ (view_of old).identity → seat_of new ≡ seat → new.seats ≡ slice_set old.seats old.chosen seat
seats_of old new seat identity is =
    let place : new.chosen ≡ old.chosen = ap (λ (a : Identity). a.place) identity in
    let beside : slice_set new.seats new.chosen unseated ≡ slice_set old.seats old.chosen unseated = ap (λ (a : Identity). a.seats) identity in
    seats_by new.seats old.seats old.chosen seat
    (subst (λ (i : ℕ). slice_set new.seats i unseated ≡ slice_set old.seats old.chosen unseated) place beside)
    (subst (λ (i : ℕ). slice_index_or new.seats i unseated ≡ seat) place is)

-- the seats stay where the chosen one does
pub seats_stay : (old new : Benched) → (view_of new).identity ≡ (view_of old).identity → (seat_of new).owner ≡ (seat_of old).owner → (seat_of new).entered ≡ (seat_of old).entered → new.seats ≡ old.seats
seats_stay old new identity owner entered =
    seats_of old new (seat_of old) identity (seat_is (seat_of new) (seat_of old) owner entered) ∙ set-get_or old.seats old.chosen unseated

bench_is : (old new : Benched) → new.start ≡ old.start → new.seen ≡ old.seen → new.seats ≡ old.seats → new.chosen ≡ old.chosen → new ≡ old
bench_is old new start seen seats chosen =
    ap (λ (s : State). record { start = s; seen = new.seen; seats = new.seats; chosen = new.chosen }) start
    ∙ ap (λ (xs : List Entry). record { start = old.start; seen = xs; seats = new.seats; chosen = new.chosen }) seen
    ∙ ap (λ (xs : List Seat). record { start = old.start; seen = old.seen; seats = xs; chosen = new.chosen }) seats
    ∙ ap (λ (n : ℕ). record { start = old.start; seen = old.seen; seats = old.seats; chosen = n }) chosen

-- ---- the step

pair_is : (reply : Reply) (s : State) (r : Reply × State) → reply ≡ r.0 → s ≡ r.1 → (reply, s) ≡ r
pair_is reply s r first second = ap (λ (x : Reply). (x, s)) first ∙ ap (λ (t : State). (r.0, t)) second

-- an entry that ends what is seen, and is all that was added, is the step from the store before to the store after it
at_step : (old new : Benched) (owner : ℕ) (event : Event) (reply : Reply) → IsSound (view_of new) → new.start ≡ old.start → Extends old.seen new.seen
    → (before : List Entry) → new.seen ≡ before ++ record { owner = owner; event = event; reply = reply } ∷ []
    → length new.seen ≡ length old.seen + 1 → (view_of new).identity ≡ (view_of old).identity → IsAtStep old new owner event reply
at_step old new owner event reply sound start grown before ends n identity =
    let entry : Entry = record { owner = owner; event = event; reply = reply } in
    let seen : new.seen ≡ old.seen ++ entry ∷ [] = one_added old.seen grown.0 before new.seen entry grown.1 ends n in
    let last = last_step new.start old.seen entry (subst (λ (xs : List Entry). Legal new.start xs) seen sound.legal) in
    let from : state new.start old.seen ≡ store_of old = ap (λ (s : State). state s old.seen) start in
    record {
      start = start;
      seen = seen;
      step = pair_is reply (store_of new) (step (state new.start old.seen) owner event) last.0 (ap (λ (xs : List Entry). state new.start xs) seen ∙ last.1) ∙ ap (λ (s : State). step s owner event) from;
      chosen = ap (λ (a : Identity). a.place) identity;
    }

-- ---- the calls

pub makes_at : (old new : Benched) (owner : ℕ) (event : Event) (reply : Reply) → IsSound (view_of new) → Makes (view_of old) (view_of new) event reply → (seat_of old).owner ≡ Some owner
    → IsAtStep old new owner event reply × (new.seats ≡ old.seats)
makes_at old new owner event reply sound makes is_owner =
    let turns = makes.turns in
    let both : (seat_of old).owner ≡ Some turns.owner = turns.is_owner in
    let same : turns.owner ≡ owner = cc in (
      at_step old new owner event reply sound turns.start turns.seen makes.last.0
          (subst (λ (o : ℕ). new.seen ≡ makes.last.0 ++ record { owner = o; event = event; reply = reply } ∷ []) same makes.last.1)
          turns.count turns.identity,
      seats_stay old new turns.identity turns.same_owner (turns.is_in ∙ sym turns.was_in),
    )

pub waits_at : (old new : Benched) → Waits (view_of old) (view_of new) → new ≡ old
waits_at old new turns =
    bench_is old new turns.start
    (none_more old.seen turns.seen.0 new.seen turns.seen.1 (omega (arith, turns.count)))
    (seats_stay old new turns.identity turns.same_owner (turns.is_in ∙ sym turns.was_in))
    (ap (λ (a : Identity). a.place) turns.identity)

-- the owner that an Open lets in is the next
opens_next : (s t : State) (owner : ℕ) → (replies.Opened owner, t) ≡ step s owner events.Open → owner ≡ s.next_owner
unfolding step served
opens_next s t owner e = let same : replies.Opened owner ≡ replies.Opened s.next_owner = ap (λ (r : Reply × State). r.0) e in cc

pub enters_at : (old new : Benched) → IsSound (view_of new) → Enters (view_of old) (view_of new)
    → IsAtStep old new (store_of old).next_owner events.Open (replies.Opened (store_of old).next_owner) × (new.seats ≡ slice_set old.seats old.chosen (seated (store_of old).next_owner))
enters_at old new sound enters =
    let number = enters.number in
    let at = at_step old new number events.Open (replies.Opened number) sound enters.start enters.seen enters.last.0
    (enters.last.1 ∙ ap (λ (mine : List Entry). enters.last.0 ++ mine) enters.mine) enters.count enters.identity in
    let next : number ≡ (store_of old).next_owner = opens_next (store_of old) (store_of new) number at.step in (
      subst (λ (o : ℕ). IsAtStep old new o events.Open (replies.Opened o)) next at,
      seats_of old new (seated (store_of old).next_owner) enters.identity (seat_is (seat_of new) (seated (store_of old).next_owner) (enters.owner ∙ ap (λ (o : ℕ). Some o) next) enters.is_in),
    )

pub stays_out_at : (old new : Benched) → (seat_of old).entered ≡ false → StaysOut (view_of old) (view_of new) → new ≡ old
stays_out_at old new out stays =
    bench_is old new stays.start
    (none_more old.seen stays.seen.0 new.seen stays.seen.1 stays.count)
    (seats_stay old new stays.identity stays.owner (stays.is_out ∙ sym out))
    (ap (λ (a : Identity). a.place) stays.identity)

pub leaves_at : (old new : Benched) (owner : ℕ) → IsSound (view_of new) → Leaves (view_of old) (view_of new) → (seat_of old).owner ≡ Some owner
    → IsAtStep old new owner events.Close replies.Closed × (new.seats ≡ slice_set old.seats old.chosen (unseated_now owner))
leaves_at old new owner sound leaves is_owner =
    let both : (seat_of old).owner ≡ Some leaves.owner = leaves.is_owner in
    let same : leaves.owner ≡ owner = cc in (
      at_step old new owner events.Close replies.Closed sound leaves.start leaves.seen leaves.last.0
          (subst (λ (o : ℕ). new.seen ≡ leaves.last.0 ++ record { owner = o; event = events.Close; reply = replies.Closed } ∷ []) same leaves.last.1)
          leaves.count leaves.identity,
      seats_of old new (unseated_now owner) leaves.identity (seat_is (seat_of new) (unseated_now owner) (leaves.same_owner ∙ is_owner) leaves.is_out),
    )
