-- What the calls of a bench make of it.
use Rattle.std.proofs.Common.{◌≡◌, ◌≢◌, ℕ, zero, suc, ◌-◌, ◌^◌, ◌<◌, ◌≤◌, Bool, true, false, List, [], ◌∷◌, ◌++◌, length, Option, Some, None, Result, Ok, Err, refl, sym, ap, subst, ◌∙◌, arith}
use Rattle.std.specs.Prelude.{is_some, replicate, slice_set, if◌then◌else◌, IfOk, OnErr}
use Rattle.std.specs.List.{AllByRecursion}
use Rattle.std.proofs.lemmas.Bool.{cond-true, cond-false}
use Rattle.std.proofs.lemmas.List.{length-replicate}
use Rattle.std.proofs.lemmas.List.Elements.{All-from_recursion}
use Rattle.digest_types.specs.Name.{HashAndSize}
use Rattle.directory_canon.specs.declared.node.Edge.{Edge}
use Rattle.indexed_core.specs.Events.{moves_bodies}
use Rattle.store_core.specs.declared.event.Event.{Event}
use Rattle.store_core.specs.declared.event.Event.TheVariants as events
use Rattle.store_core.specs.declared.event.Reply.{Reply}
use Rattle.store_core.specs.declared.event.Reply.TheVariants as replies
use Rattle.store_core.specs.State.{State, Valid, used}
use Rattle.store_core.specs.Pass.{guarded, pass}
use Rattle.store_core.specs.Standing.{standing}
use Rattle.store_core.specs.Step.{missing, step}
use Rattle.store_core.specs.History.{IsNumbered, state, leases_of}
use Rattle.turn_lock.specs.Told.{Told}
use Rattle.turn_lock.specs.Noted.{entry}
use Rattle.blob_store.specs.declared.seat.Seat.{Seat}
use Rattle.blob_store.specs.declared.door.PutReply.{PutReply}
use Rattle.blob_store.specs.declared.door.PutReply.TheVariants as puts
use Rattle.blob_store.specs.Applied.{replied_gives_up, passed_gives_up}
use Rattle.blob_store.specs.Asked.{MayAsk, IsAnswer}
use Rattle.blob_store.specs.Bodies.{ReadingState}
use Rattle.blob_store.specs.Calls.{IsPutReply, put_reply, put_discards, read_reply}
use Rattle.blob_store.specs.Noted.{MayNote, IsDone, IsUndone}
use Rattle.blob_store.specs.View.{IsSeated, IsSound, Makes, Waits, Enters, Leaves, MayCall, own_now}
use Rattle.blob_store.specs.Benched.{Benched, IsBench, IsSeatAt, DistinctOwners, unseated, store_of, seat_of, own_by, view_of, seated, unseated_now}
use Rattle.blob_store.proofs.BenchSteps.{find_replies, read_replies, lease_replies, damage_replies, usage_replies, pass_replies, put_replies, open_replies, IsServed, not_refused, reply_is_numbered, numbers_fit, chosen_is_open, held_is_own, leases_are_own, close_is_served, entry_made, bench_waits, owner_enters, owner_leaves}

-- ---- what is known of a bench

-- what a bench has seen is a legal history from a valid state
pub bench_is_sound : (s : State) (b : Benched) → IsBench s b → IsSound (view_of b)
bench_is_sound s b bench = record { valid = bench.valid; legal = bench.legal }

-- a seat that has entered has an owner
pub entered_owner : (s : State) (b : Benched) → IsBench s b → (seat_of b).entered ≡ true → (owner : ℕ) × ((seat_of b).owner ≡ Some owner)
entered_owner s b bench entered =
    let seat : IsSeatAt b.start s (seat_of b) = All-from_recursion (IsSeatAt b.start s) b.seats bench.seats b.chosen unseated bench.chosen in
    let at = seat.is_open entered in
    (at.0, at.1)

-- the chosen seat's entries are its owner's own
pub bench_is_seated : (s : State) (b : Benched) → IsBench s b → (view_of b).entered ≡ true → IsSeated (view_of b)
bench_is_seated s b bench entered =
    let at = entered_owner s b bench entered in
    record { number = at.0; owner = at.1; is_own = ap (λ (o : Option ℕ). own_by o b.seen) (sym at.1) }

-- the leases that the store holds for the chosen seat's owner are those of its own entries
pub bench_leases : (s : State) (b : Benched) → IsBench s b → (owner : ℕ) → (seat_of b).entered ≡ true → (seat_of b).owner ≡ Some owner → leases_of owner (store_of b) ≡ own_now (view_of b)
bench_leases s b bench owner entered is_owner = subst (λ (t : State). leases_of owner t ≡ own_now (view_of b)) bench.at (leases_are_own s b owner bench is_owner)

-- a turn is left: the history takes one more entry
pub turn_is_left : (b : Benched) → MayCall (view_of b) → length b.seen < 2 ^ 63
turn_is_left b may = omega (arith, may.turn)

-- ---- what may be noted

-- an event that isn't refused, and whose reply tells no other number, may be noted
may_note : (s : State) (b : Benched) (owner : ℕ) (event : Event) → IsBench s b → length b.seen < 2 ^ 63 → (step s owner event).0 ≢ replies.Refused → IsNumbered owner (step s owner event).0
    → MayNote s (record { start = b.start; seen = b.seen }) owner event
may_note s b owner event bench room served numbered =
    let fit = numbers_fit s b bench in
    record {
      at = bench.at;
      room = room;
      served = served;
      numbered = numbered;
      owners = fit.owners_fit;
      leases = fit.leases_fit;
    }

-- an event that is asked is neither Open nor Close
pub asked_comes : (b : Benched) (event : Event) → MayAsk (view_of b) event → event ≢ events.Open
asked_comes b events.Open may e = may
asked_comes b (events.Put d edges) may e = may
asked_comes b (events.Find ds) may e = absurd cc
asked_comes b (events.Read d) may e = absurd cc
asked_comes b (events.Lease root kind) may e = absurd cc
asked_comes b (events.Confirm id files) may e = absurd cc
asked_comes b (events.Release id) may e = absurd cc
asked_comes b (events.Damage d) may e = absurd cc
asked_comes b events.Pass may e = may
asked_comes b events.Usage may e = absurd cc
asked_comes b events.Close may e = may

pub asked_goes : (b : Benched) (event : Event) → MayAsk (view_of b) event → event ≢ events.Close
asked_goes b events.Open may e = may
asked_goes b (events.Put d edges) may e = may
asked_goes b (events.Find ds) may e = absurd cc
asked_goes b (events.Read d) may e = absurd cc
asked_goes b (events.Lease root kind) may e = absurd cc
asked_goes b (events.Confirm id files) may e = absurd cc
asked_goes b (events.Release id) may e = absurd cc
asked_goes b (events.Damage d) may e = absurd cc
asked_goes b events.Pass may e = may
asked_goes b events.Usage may e = absurd cc
asked_goes b events.Close may e = may

-- it moves no body
pub asked_quiet : (b : Benched) (event : Event) → MayAsk (view_of b) event → moves_bodies event ≡ false
asked_quiet b events.Open may = refl
asked_quiet b (events.Put d edges) may = absurd may
asked_quiet b (events.Find ds) may = refl
asked_quiet b (events.Read d) may = refl
asked_quiet b (events.Lease root kind) may = refl
asked_quiet b (events.Confirm id files) may = refl
asked_quiet b (events.Release id) may = refl
asked_quiet b (events.Damage d) may = refl
asked_quiet b events.Pass may = absurd may
asked_quiet b events.Usage may = refl
asked_quiet b events.Close may = refl

-- the reply to it has its form
pub asked_answer : (s : State) (b : Benched) (owner : ℕ) (event : Event) → IsBench s b → (seat_of b).entered ≡ true → (seat_of b).owner ≡ Some owner → MayAsk (view_of b) event → IsAnswer s event (step s owner event).0
asked_answer s b owner events.Open bench entered is_owner may = tt
asked_answer s b owner (events.Put d edges) bench entered is_owner may = tt
asked_answer s b owner (events.Find ds) bench entered is_owner may = (missing s.rows ds, find_replies s owner ds (chosen_is_open s b owner bench entered is_owner))
asked_answer s b owner (events.Read d) bench entered is_owner may = read_replies s owner d (chosen_is_open s b owner bench entered is_owner)
asked_answer s b owner (events.Lease root kind) bench entered is_owner may = (s.next_lease, lease_replies s owner root kind (chosen_is_open s b owner bench entered is_owner))
asked_answer s b owner (events.Confirm id files) bench entered is_owner may =
    let held = held_is_own s b owner id bench entered is_owner may in
    (standing s.rows held.lease.root files, held.confirm files)
asked_answer s b owner (events.Release id) bench entered is_owner may = (held_is_own s b owner id bench entered is_owner may).release
asked_answer s b owner (events.Damage d) bench entered is_owner may = damage_replies s owner d (chosen_is_open s b owner bench entered is_owner)
asked_answer s b owner events.Pass bench entered is_owner may = tt
asked_answer s b owner events.Usage bench entered is_owner may =
    (record { used = used s; guarded = guarded s; rows = length s.rows; low = s.low; high = s.high }, usage_replies s owner (chosen_is_open s b owner bench entered is_owner))
asked_answer s b owner events.Close bench entered is_owner may = tt

-- and it isn't refused
pub asked_served : (s : State) (b : Benched) (owner : ℕ) (event : Event) → IsBench s b → (seat_of b).entered ≡ true → (seat_of b).owner ≡ Some owner → MayAsk (view_of b) event → (step s owner event).0 ≢ replies.Refused
asked_served s b owner events.Open bench entered is_owner may = absurd may
asked_served s b owner (events.Put d edges) bench entered is_owner may = absurd may
asked_served s b owner (events.Find ds) bench entered is_owner may = not_refused s owner (events.Find ds) tt (chosen_is_open s b owner bench entered is_owner)
asked_served s b owner (events.Read d) bench entered is_owner may = not_refused s owner (events.Read d) tt (chosen_is_open s b owner bench entered is_owner)
asked_served s b owner (events.Lease root kind) bench entered is_owner may = not_refused s owner (events.Lease root kind) tt (chosen_is_open s b owner bench entered is_owner)
asked_served s b owner (events.Confirm id files) bench entered is_owner may =
    let held = held_is_own s b owner id bench entered is_owner may in
    λ refused. let no : replies.Stands (standing s.rows held.lease.root files) ≡ replies.Refused = sym (held.confirm files) ∙ refused in absurd cc
asked_served s b owner (events.Release id) bench entered is_owner may =
    λ refused. let no : replies.Released ≡ replies.Refused = sym (held_is_own s b owner id bench entered is_owner may).release ∙ refused in absurd cc
asked_served s b owner (events.Damage d) bench entered is_owner may = not_refused s owner (events.Damage d) tt (chosen_is_open s b owner bench entered is_owner)
asked_served s b owner events.Pass bench entered is_owner may = absurd may
asked_served s b owner events.Usage bench entered is_owner may = not_refused s owner events.Usage tt (chosen_is_open s b owner bench entered is_owner)
asked_served s b owner events.Close bench entered is_owner may = absurd may

-- ---- the calls

-- the bench of a diary and seats
abbrev pub bench_of : Told → List Seat → ℕ → Benched
bench_of told seats chosen = record { start = told.start; seen = told.seen; seats = seats; chosen = chosen }

-- an event that is asked may be noted
pub may_ask : (s : State) (told : Told) (seats : List Seat) (chosen : ℕ) (b : Benched) (owner : ℕ) (event : Event)
    → bench_of told seats chosen ≡ b → IsBench s (bench_of told seats chosen) → MayCall (view_of b) → MayAsk (view_of b) event → (seat_of b).owner ≡ Some owner → MayNote s told owner event
may_ask s told seats chosen b owner event is bench call may is_owner =
    let at : IsBench s b = subst (IsBench s) is bench in
    subst (λ (t : Told). MayNote s t owner event)
    (ap (λ (x : Benched). record { start = x.start; seen = x.seen }) (sym is))
    (may_note s b owner event at (turn_is_left b call) (asked_served s b owner event at call.is_in is_owner may) (reply_is_numbered owner s owner event (asked_comes b event may)))

-- What an event that is asked makes of the bench.
pub record Asks {E : Type 0} (result : Result Reply E) (s' : State) (b b' : Benched) (event : Event) : Type 0 where
  pub bench : IsBench s' b'
  pub made : IfOk result (λ r. Makes (view_of b) (view_of b') event r)
  pub answer : IfOk result (λ r. IsAnswer (store_of b) event r)
  pub err : OnErr result (Waits (view_of b) (view_of b'))

asks_at : {E : Type 0} (result : Result Reply E) (s s' : State) (b : Benched) (told' : Told) (owner : ℕ) (event : Event)
    → IsBench s b → MayCall (view_of b) → MayAsk (view_of b) event → (seat_of b).owner ≡ Some owner
    → IfOk result (IsDone s s' (record { start = b.start; seen = b.seen }) told' owner event) → OnErr result (IsUndone s s' (record { start = b.start; seen = b.seen }) told')
    → Asks result s' b (bench_of told' b.seats b.chosen) event
asks_at (Ok reply) s s' b told' owner event bench call may is_owner done undone =
    let replied : reply ≡ (step s owner event).0 = ap (λ (r : Reply × State). r.0) done.step in
    let makes = entry_made s s' b (bench_of told' b.seats b.chosen) owner event reply bench call.is_in is_owner (turn_is_left b call) (asked_comes b event may) (asked_goes b event may)
    done.step (λ refused. asked_served s b owner event bench call.is_in is_owner may (sym replied ∙ refused)) (ap (λ (t : Told). bench_of t b.seats b.chosen) done.noted) in
    record {
      bench = makes.0;
      made = makes.1;
      answer = subst (λ (t : State). IsAnswer t event reply) bench.at (subst (IsAnswer s event) (sym replied) (asked_answer s b owner event bench call.is_in is_owner may));
      err = tt;
    }
asks_at (Err e) s s' b told' owner event bench call may is_owner done undone =
    let same : bench_of told' b.seats b.chosen ≡ b = ap (λ (t : Told). bench_of t b.seats b.chosen) undone.untold in
    record {
      bench = subst (λ (x : Benched). IsBench s' x) (sym same) (subst (λ (t : State). IsBench t b) (sym undone.same) bench);
      made = tt;
      answer = tt;
      err = subst (λ (x : Benched). Waits (view_of b) (view_of x)) (sym same) (bench_waits s b bench call);
    }

pub asks : {E : Type 0} (result : Result Reply E) (s s' : State) (told told' : Told) (seats : List Seat) (chosen : ℕ) (b : Benched) (owner : ℕ) (event : Event)
    → bench_of told seats chosen ≡ b → IsBench s (bench_of told seats chosen) → MayCall (view_of b) → MayAsk (view_of b) event → (seat_of b).owner ≡ Some owner
    → IfOk result (IsDone s s' told told' owner event) → OnErr result (IsUndone s s' told told') → Asks result s' b (bench_of told' seats chosen) event
asks result s s' told told' seats chosen b owner event is bench call may is_owner done undone =
    subst (λ (x : Benched). MayCall (view_of x) → MayAsk (view_of x) event → (seat_of x).owner ≡ Some owner → Asks result s' x (bench_of told' seats chosen) event) is
    (λ call2 may2 is_owner2. asks_at result s s' (bench_of told seats chosen) told' owner event bench call2 may2 is_owner2 done undone) call may is_owner

-- ---- a new bench

unseated_at : (start now : State) → IsSeatAt start now unseated
unseated_at start now = record { came = tt; is_open = λ e. absurd cc }

all_unseated : (start now : State) (count : ℕ) → AllByRecursion (IsSeatAt start now) (replicate count unseated)
all_unseated start now zero = tt
all_unseated start now (suc count) = (unseated_at start now, all_unseated start now count)

none_owned : (count : ℕ) → DistinctOwners (replicate count unseated)
none_owned zero = tt
none_owned (suc count) = (tt, none_owned count)

-- no history yet, and nobody at the seats
pub bench_begins : (s : State) (told : Told) (seats : List Seat) (count : ℕ) → told ≡ record { start = s; seen = [] } → seats ≡ replicate count unseated → 1 ≤ count
    → Valid s → s.next_owner ≤ 2 ^ 62 → s.next_lease ≤ 2 ^ 62 → IsBench s (bench_of told seats 0)
unfolding state
bench_begins s told seats count is_told are_seats some valid owners leases =
    subst (λ (t : Told). IsBench s (bench_of t seats 0)) (sym is_told) (subst (λ (xs : List Seat). IsBench s (bench_of (record { start = s; seen = [] }) xs 0)) (sym are_seats) (record {
      valid = valid;
      first_owner = owners;
      first_lease = leases;
      legal = tt;
      at = refl;
      room = omega arith;
      chosen = omega (arith, length-replicate count unseated);
      seats = all_unseated s s count;
      owners = none_owned count;
    }))

-- ---- an owner comes

-- the next owner's Open may be noted
pub may_enter : (s : State) (told : Told) (seats : List Seat) (chosen : ℕ) (b : Benched) (owner : ℕ)
    → bench_of told seats chosen ≡ b → IsBench s (bench_of told seats chosen) → 0 < (view_of b).left → owner ≡ s.next_owner → MayNote s told owner events.Open
may_enter s told seats chosen b owner is bench turn next =
    let room : length told.seen < 2 ^ 63 = omega (arith, turn, ap (λ (x : Benched). length x.seen) is) in
    may_note s (bench_of told seats chosen) owner events.Open bench room
    (λ refused. let no : replies.Opened s.next_owner ≡ replies.Refused = sym (open_replies s owner) ∙ refused in absurd cc)
    (subst (IsNumbered owner) (sym (open_replies s owner)) next)

-- it takes the chosen seat
pub enters : (s s' : State) (told told' : Told) (seats : List Seat) (chosen : ℕ) (b : Benched) (owner : ℕ) (reply : Reply)
    → bench_of told seats chosen ≡ b → IsBench s (bench_of told seats chosen) → 0 < (view_of b).left → owner ≡ s.next_owner → IsDone s s' told told' owner events.Open reply
    → IsBench s' (bench_of told' (slice_set seats chosen (seated owner)) chosen) × Enters (view_of b) (view_of (bench_of told' (slice_set seats chosen (seated owner)) chosen))
enters s s' told told' seats chosen b owner reply is bench turn next done =
    let room : length told.seen < 2 ^ 63 = omega (arith, turn, ap (λ (x : Benched). length x.seen) is) in
    let after : ℕ → Benched = λ (o : ℕ). bench_of (record told { seen = told.seen ++ entry o events.Open reply ∷ [] }) (slice_set seats chosen (seated o)) chosen in
    let to : bench_of told' (slice_set seats chosen (seated owner)) chosen ≡ after s.next_owner =
    ap (λ (t : Told). bench_of t (slice_set seats chosen (seated owner)) chosen) done.noted ∙ ap after next in
    subst (λ (x : Benched). IsBench s' (bench_of told' (slice_set seats chosen (seated owner)) chosen) × Enters (view_of x) (view_of (bench_of told' (slice_set seats chosen (seated owner)) chosen))) is
    (owner_enters s s' (bench_of told seats chosen) (bench_of told' (slice_set seats chosen (seated owner)) chosen) reply bench room
    (done.step ∙ ap (λ (o : ℕ). step s o events.Open) next) to)

-- ---- an owner goes

-- the Close of an owner that holds no lease may be noted
pub may_leave : (s : State) (told : Told) (seats : List Seat) (chosen : ℕ) (b : Benched) (owner : ℕ)
    → bench_of told seats chosen ≡ b → IsBench s (bench_of told seats chosen) → MayCall (view_of b) → own_now (view_of b) ≡ [] → (seat_of b).owner ≡ Some owner → MayNote s told owner events.Close
may_leave s told seats chosen b owner is bench call none is_owner =
    let at : IsBench s b = subst (IsBench s) is bench in
    let closed : (step s owner events.Close).0 ≡ replies.Closed = close_is_served s b owner at call.is_in is_owner none in
    subst (λ (t : Told). MayNote s t owner events.Close)
    (ap (λ (x : Benched). record { start = x.start; seen = x.seen }) (sym is))
    (may_note s b owner events.Close at (turn_is_left b call)
    (λ refused. let no : replies.Closed ≡ replies.Refused = sym closed ∙ refused in absurd cc)
    (subst (IsNumbered owner) (sym closed) tt))

leaves_at : (s s' : State) (b : Benched) (told' : Told) (owner : ℕ) (reply : Reply)
    → IsBench s b → MayCall (view_of b) → own_now (view_of b) ≡ [] → (seat_of b).owner ≡ Some owner → IsDone s s' (record { start = b.start; seen = b.seen }) told' owner events.Close reply
    → IsBench s' (bench_of told' (slice_set b.seats b.chosen (unseated_now owner)) b.chosen) × Leaves (view_of b) (view_of (bench_of told' (slice_set b.seats b.chosen (unseated_now owner)) b.chosen))
leaves_at s s' b told' owner reply bench call none is_owner done =
    let replied : reply ≡ replies.Closed = ap (λ (r : Reply × State). r.0) done.step ∙ close_is_served s b owner bench call.is_in is_owner none in
    let after : Reply → Benched = λ (r : Reply). bench_of (record { start = b.start; seen = b.seen ++ entry owner events.Close r ∷ [] }) (slice_set b.seats b.chosen (unseated_now owner)) b.chosen in
    owner_leaves s s' b (bench_of told' (slice_set b.seats b.chosen (unseated_now owner)) b.chosen) owner bench call.is_in is_owner (turn_is_left b call)
    (subst (λ (r : Reply). (r, s') ≡ step s owner events.Close) replied done.step)
    (ap (λ (t : Told). bench_of t (slice_set b.seats b.chosen (unseated_now owner)) b.chosen) done.noted ∙ ap after replied)

-- and its seat is left
pub leaves : (s s' : State) (told told' : Told) (seats : List Seat) (chosen : ℕ) (b : Benched) (owner : ℕ) (reply : Reply)
    → bench_of told seats chosen ≡ b → IsBench s (bench_of told seats chosen) → MayCall (view_of b) → own_now (view_of b) ≡ [] → (seat_of b).owner ≡ Some owner → IsDone s s' told told' owner events.Close reply
    → IsBench s' (bench_of told' (slice_set seats chosen (unseated_now owner)) chosen) × Leaves (view_of b) (view_of (bench_of told' (slice_set seats chosen (unseated_now owner)) chosen))
leaves s s' told told' seats chosen b owner reply is bench call none is_owner done =
    subst (λ (x : Benched). MayCall (view_of x) → own_now (view_of x) ≡ [] → (seat_of x).owner ≡ Some owner
    → IsBench s' (bench_of told' (slice_set seats chosen (unseated_now owner)) chosen) × Leaves (view_of x) (view_of (bench_of told' (slice_set seats chosen (unseated_now owner)) chosen))) is
    (λ call2 none2 is_owner2. leaves_at s s' (bench_of told seats chosen) told' owner reply bench call2 none2 is_owner2 done) call none is_owner

-- ---- a put and a pass

-- an event that no open owner is refused may be noted
pub may_make : (s : State) (told : Told) (seats : List Seat) (chosen : ℕ) (b : Benched) (owner : ℕ) (event : Event)
    → bench_of told seats chosen ≡ b → IsBench s (bench_of told seats chosen) → MayCall (view_of b) → (seat_of b).owner ≡ Some owner → IsServed event → event ≢ events.Open → MayNote s told owner event
may_make s told seats chosen b owner event is bench call is_owner served comes =
    let at : IsBench s b = subst (IsBench s) is bench in
    subst (λ (t : Told). MayNote s t owner event)
    (ap (λ (x : Benched). record { start = x.start; seen = x.seen }) (sym is))
    (may_note s b owner event at (turn_is_left b call) (not_refused s owner event served (chosen_is_open s b owner at call.is_in is_owner)) (reply_is_numbered owner s owner event comes))

makes_at : (s s' : State) (b : Benched) (told' : Told) (owner : ℕ) (event : Event) (reply : Reply)
    → IsBench s b → MayCall (view_of b) → (seat_of b).owner ≡ Some owner → IsServed event → event ≢ events.Open → event ≢ events.Close → IsDone s s' (record { start = b.start; seen = b.seen }) told' owner event reply
    → IsBench s' (bench_of told' b.seats b.chosen) × Makes (view_of b) (view_of (bench_of told' b.seats b.chosen)) event reply
makes_at s s' b told' owner event reply bench call is_owner served comes goes done =
    let replied : reply ≡ (step s owner event).0 = ap (λ (r : Reply × State). r.0) done.step in
    entry_made s s' b (bench_of told' b.seats b.chosen) owner event reply bench call.is_in is_owner (turn_is_left b call) comes goes done.step
    (λ refused. not_refused s owner event served (chosen_is_open s b owner bench call.is_in is_owner) (sym replied ∙ refused))
    (ap (λ (t : Told). bench_of t b.seats b.chosen) done.noted)

-- and is one more entry
pub makes : (s s' : State) (told told' : Told) (seats : List Seat) (chosen : ℕ) (b : Benched) (owner : ℕ) (event : Event) (reply : Reply)
    → bench_of told seats chosen ≡ b → IsBench s (bench_of told seats chosen) → MayCall (view_of b) → (seat_of b).owner ≡ Some owner → IsServed event → event ≢ events.Open → event ≢ events.Close → IsDone s s' told told' owner event reply
    → IsBench s' (bench_of told' seats chosen) × Makes (view_of b) (view_of (bench_of told' seats chosen)) event reply
makes s s' told told' seats chosen b owner event reply is bench call is_owner served comes goes done =
    subst (λ (x : Benched). MayCall (view_of x) → (seat_of x).owner ≡ Some owner → IsBench s' (bench_of told' seats chosen) × Makes (view_of x) (view_of (bench_of told' seats chosen)) event reply) is
    (λ call2 is_owner2. makes_at s s' (bench_of told seats chosen) told' owner event reply bench call2 is_owner2 served comes goes done) call is_owner

-- the reply to the chosen seat's Pass
pub passed_is : (s s' : State) (told told' : Told) (seats : List Seat) (chosen : ℕ) (b : Benched) (owner : ℕ) (reply : Reply)
    → bench_of told seats chosen ≡ b → IsBench s (bench_of told seats chosen) → MayCall (view_of b) → (seat_of b).owner ≡ Some owner → IsDone s s' told told' owner events.Pass reply
    → (removed : ℕ) × (now_used : ℕ) × (reply ≡ replies.Passed removed now_used)
passed_is s s' told told' seats chosen b owner reply is bench call is_owner done = (
  length s.rows - length (pass s s.low).rows,
  used (pass s s.low),
  ap (λ (r : Reply × State). r.0) done.step ∙ pass_replies s owner (chosen_is_open s b owner (subst (IsBench s) is bench) call.is_in is_owner),
)

pub passed_gives : (reply : Reply) (removed now_used : ℕ) → reply ≡ replies.Passed removed now_used → passed_gives_up reply ≡ removed
unfolding passed_gives_up
passed_gives reply removed now_used e = ap (λ (r : Reply). passed_gives_up r) e

-- the reply to the chosen seat's Put
pub put_is : (s s' : State) (told told' : Told) (seats : List Seat) (chosen : ℕ) (b : Benched) (owner : ℕ) (d : HashAndSize) (edges : Option (List Edge)) (reply : Reply)
    → bench_of told seats chosen ≡ b → IsBench s (bench_of told seats chosen) → MayCall (view_of b) → (seat_of b).owner ≡ Some owner → IsDone s s' told told' owner (events.Put d edges) reply → IsPutReply reply
put_is s s' told told' seats chosen b owner d edges reply is bench call is_owner done =
    subst IsPutReply (sym (ap (λ (r : Reply × State). r.0) done.step)) (put_replies s owner d edges (chosen_is_open s b owner (subst (IsBench s) is bench) call.is_in is_owner))

put_gives_at : (E : Type 0) (answer : PutReply) → replied_gives_up (put_reply answer) ≡ put_discards {E = E} (Ok answer)
unfolding replied_gives_up
put_gives_at E (puts.Stored removed now_used) = refl
put_gives_at E puts.Present = refl
put_gives_at E puts.Repaired = refl
put_gives_at E (puts.NoSpace held size high) = refl

-- a put gives up as many bodies by its reply as by its answer
pub put_gives : (E : Type 0) (answer : PutReply) (reply : Reply) → put_reply answer ≡ reply → replied_gives_up reply ≡ put_discards {E = E} (Ok answer)
put_gives E answer reply e = ap (λ (r : Reply). replied_gives_up r) (sym e) ∙ put_gives_at E answer

-- ---- a read

-- a reading is there just where the reply is Found
pub read_is : (o : Option ReadingState) (here : Bool) (reply : Reply) → is_some o ≡ here → reply ≡ (if here then replies.Found else replies.Absent) → reply ≡ read_reply o
read_is None here reply e is = is ∙ cond-false here replies.Found replies.Absent (sym e)
read_is (Some reading) here reply e is = is ∙ cond-true here replies.Found replies.Absent (sym e)
