-- What a put at a bench leaves: its step, the seats, the leases and the count of entries.
use Rattle.std.proofs.Common.{◌≡◌, ◌≢◌, ℕ, ◌+◌, ◌^◌, ◌<◌, ◌≤◌, ◌∙◌, Bool, true, false, not, cond, List, [], ◌∷◌, ◌++◌, length, get_or, drop, Option, Some, Result, Ok, Err, IfOk, refl, sym, ap, subst, arith}
use Rattle.std.specs.Prelude.{slice_index_or}
use Rattle.digest_types.specs.Name.{HashAndSize}
use Rattle.digest_types.specs.Digest.{digest_of}
use Rattle.directory_canon.specs.declared.node.Edge.{Edge}
use Rattle.directory_canon.specs.Links.{links}
use Rattle.casd_base.specs.declared.status.Status.{Status}
use Rattle.cas_messages.specs.declared.blobs.BatchUpdateBlobsRequestItem2.{BatchUpdateBlobsRequestItem2 as UpdateItem}
use Rattle.cas_messages.specs.declared.blobs.BatchUpdateBlobsResponseItem1.{BatchUpdateBlobsResponseItem1 as UpdateAnswer}
use Rattle.store_core.specs.declared.state.Lease.{Lease}
use Rattle.store_core.specs.declared.event.Event.{Event}
use Rattle.store_core.specs.declared.event.Event.TheVariants as events
use Rattle.store_core.specs.declared.event.Reply.{Reply}
use Rattle.store_core.specs.State.{State, same}
use Rattle.store_core.specs.Step.{served, step}
use Rattle.store_core.proofs.Same.{same_from_equal, not_same_from_other}
use Rattle.store_core.proofs.Uses.{put_uses}
use Rattle.blob_store.specs.Bodies.{Sealed, IsSealed}
use Rattle.blob_store.specs.View.{IsSound, Makes, Waits}
use Rattle.blob_store.specs.Benched.{Benched, store_of, seat_of, view_of, unseated}
use Rattle.blob_store.specs.declared.seat.Seat.{Seat}
use Rattle.blob_store.proofs.BenchLaws.{makes_at, waits_at}
use Rattle.casd_server.specs.Sitting.{StaysSeated}
use Rattle.casd_server.specs.Batch.{mismatch, put_status, put_item, put_items, rpc_of}
use Rattle.casd_server.proofs.BatchLemmas.{put_after, put_goes_on, put_is_done}

-- ---- a put takes no lease

kept_if : {A : Type 0} (t : Bool) (x y : A × State) (ls : List Lease) → x.1.leases ≡ ls → y.1.leases ≡ ls → (cond t x y).1.leases ≡ ls
kept_if true x y ls p q = p
kept_if false x y ls p q = q

step-put-leases : (s : State) (owner : ℕ) (d : HashAndSize) (edges : Option (List Edge)) → (step s owner (events.Put d edges)).1.leases ≡ s.leases
unfolding step served
step-put-leases s owner d edges = kept_if {A = Reply} _ _ _ _ (put_uses s owner d edges).leases refl

-- ---- a put at a bench

pub put_steps : (old new : Benched) (owner : ℕ) (d : HashAndSize) (edges : Option (List Edge)) (reply : Reply) → IsSound (view_of new) → Makes (view_of old) (view_of new) (events.Put d edges) reply → (seat_of old).owner ≡ Some owner
    → (reply, store_of new) ≡ step (store_of old) owner (events.Put d edges)
put_steps old new owner d edges reply sound makes is_owner = (makes_at old new owner (events.Put d edges) reply sound makes is_owner).0.step

pub put_stays : (old new : Benched) (d : HashAndSize) (edges : Option (List Edge)) (reply : Reply) → IsSound (view_of new) → Makes (view_of old) (view_of new) (events.Put d edges) reply → StaysSeated old new
put_stays old new d edges reply sound makes =
    let owner = makes.turns.owner in
    let at = makes_at old new owner (events.Put d edges) reply sound makes makes.turns.is_owner in
    record {
      seats = at.1;
      chosen = at.0.chosen;
      bare = ap (λ (x : Reply × State). x.1.leases) at.0.step ∙ step-put-leases (store_of old) owner d edges;
    }

pub put_counts : (old new : Benched) (event : Event) (reply : Reply) → Makes (view_of old) (view_of new) event reply → length old.seen < 2 ^ 62 → length new.seen ≤ 2 ^ 62
put_counts old new event reply makes lt = omega (arith, makes.turns.count, lt)

pub stays_itself : (b : Benched) → StaysSeated b b
stays_itself b = record { seats = refl; chosen = refl; bare = refl }

pub waits_stays : (old new : Benched) → Waits (view_of old) (view_of new) → StaysSeated old new
waits_stays old new waits = subst (λ (b : Benched). StaysSeated old b) (sym (waits_at old new waits)) (stays_itself old)

pub waits_counts : (old new : Benched) → Waits (view_of old) (view_of new) → length old.seen < 2 ^ 62 → length new.seen ≤ 2 ^ 62
waits_counts old new waits lt = omega (arith, waits.count, lt)

-- some that stay seated one after the other
pub stays_on : (a b c : Benched) → StaysSeated a b → StaysSeated b c → StaysSeated a c
stays_on a b c first second = record {
  seats = second.seats ∙ first.seats;
  chosen = second.chosen ∙ first.chosen;
  bare = second.bare ∙ first.bare;
}

-- ---- one item

-- the digest of the bytes is the declared one: they are put
pub put_by_step : (s after : State) (owner : ℕ) (item : UpdateItem) (d : HashAndSize) (edges : Option (List Edge)) (reply : Reply) (status : Status) → d ≡ item.digest → d ≡ digest_of item.bytes → edges ≡ links item.bytes
    → (reply, after) ≡ step s owner (events.Put d edges) → status ≡ put_status reply → (status, after) ≡ put_item s owner item
unfolding put_item
put_by_step s after owner item d edges reply status declared is linked e told =
    let stepped : step s owner (events.Put d edges) ≡ step s owner (events.Put item.digest (links item.bytes)) =
    ap (λ (x : HashAndSize). step s owner (events.Put x edges)) declared ∙ ap (λ (x : Option (List Edge)). step s owner (events.Put item.digest x)) linked in
    rw (same_from_equal item.digest (digest_of item.bytes) (sym declared ∙ is))
    (ap (λ (x : Status). (x, after)) told ∙ ap (λ (x : Reply × State). (put_status x.0, x.1)) (e ∙ stepped))

-- it is another: nothing is put
pub put_of_other : (s : State) (owner : ℕ) (item : UpdateItem) (d : HashAndSize) (status : Status) → d ≢ item.digest → d ≡ digest_of item.bytes → status ≡ mismatch item.digest d → (status, s) ≡ put_item s owner item
unfolding put_item
put_of_other s owner item d status other is told =
    rw (not_same_from_other item.digest (digest_of item.bytes) (λ e. other (is ∙ sym e)))
    (ap (λ (x : Status). (x, s)) told ∙ ap (λ (x : HashAndSize). (mismatch item.digest x, s)) is)

-- ---- the results of one item

abbrev pub IsPutOf : Benched → Benched → UpdateItem → Status → Type 0
IsPutOf old new item status = (owner : ℕ) → (seat_of old).owner ≡ Some owner → (status, store_of new) ≡ put_item (store_of old) owner item

pub put_gives : {E : Type 0} (result : Result Status E) (old new : Benched) (item : UpdateItem) (blob : Sealed) (reply : Reply) → IsSealed item.bytes blob → blob.digest ≡ item.digest
    → ((owner : ℕ) → (seat_of old).owner ≡ Some owner → (reply, store_of new) ≡ step (store_of old) owner (events.Put blob.digest blob.edges))
    → IfOk result (λ s. s ≡ put_status reply) → IfOk result (IsPutOf old new item)
put_gives (Err e) old new item blob reply sealed declared steps told = tt
put_gives (Ok status) old new item blob reply sealed declared steps told =
    λ owner is. put_by_step (store_of old) (store_of new) owner item blob.digest blob.edges reply status declared sealed.digest sealed.edges (steps owner is) told

differ : (a b : HashAndSize) (t : Bool) → t ≡ not (same a b) → t ≡ true → a ≢ b
differ a b t e h q = let s = same_from_equal a b q in cc

pub other_gives : {E : Type 0} (result : Result Status E) (bench : Benched) (item : UpdateItem) (d : HashAndSize) (t : Bool) → t ≡ not (same d item.digest) → t ≡ true → d ≡ digest_of item.bytes
    → IfOk result (λ s. s ≡ mismatch item.digest d) → IfOk result (IsPutOf bench bench item)
other_gives (Err e) bench item d t tested other is told = tt
other_gives (Ok status) bench item d t tested other is told = λ owner seated. put_of_other (store_of bench) owner item d status (differ d item.digest t tested other) is told

-- ---- all items

pub seat_stays : (old new : Benched) → StaysSeated old new → seat_of new ≡ seat_of old
seat_stays old new stays =
    ap (λ (xs : List Seat). slice_index_or xs new.chosen unseated) stays.seats ∙ ap (λ (i : ℕ). slice_index_or old.seats i unseated) stays.chosen

pub is_in_still : (old new : Benched) → StaysSeated old new → (seat_of old).entered ≡ true → (seat_of new).entered ≡ true
is_in_still old new stays is_in = ap (λ (seat : Seat). seat.entered) (seat_stays old new stays) ∙ is_in

-- the items before a place were put, with these answers
abbrev pub IsPutBefore : Benched → Benched → List UpdateItem → List UpdateAnswer → ℕ → Type 0
IsPutBefore old now items front i = (owner : ℕ) → (seat_of old).owner ≡ Some owner
    → put_after front (put_items (store_of now) owner (drop i items)) ≡ put_items (store_of old) owner items

pub none_put : (old : Benched) (items : List UpdateItem) → IsPutBefore old old items [] 0
none_put old items = λ owner is. refl

pub one_put : (old now new : Benched) (items : List UpdateItem) (front : List UpdateAnswer) (i : ℕ) (item : UpdateItem) (status : Status) → i < length items → item ≡ get_or items i item → StaysSeated old now
    → IsPutOf now new item status → IsPutBefore old now items front i → IsPutBefore old new items (front ++ record { digest = item.digest; status = rpc_of status } ∷ []) (i + 1)
one_put old now new items front i item status lt at stays puts so_far = λ owner is.
    put_goes_on front (store_of now) (store_of new) owner items i item status (put_items (store_of old) owner items) lt at
    (puts owner (ap (λ (seat : Seat). seat.owner) (seat_stays old now stays) ∙ is)) (so_far owner is)

pub all_put : (old now : Benched) (items : List UpdateItem) (front : List UpdateAnswer) (i : ℕ) → length items ≤ i → IsPutBefore old now items front i
    → (owner : ℕ) → (seat_of old).owner ≡ Some owner → (front, store_of now) ≡ put_items (store_of old) owner items
all_put old now items front i past so_far = λ owner is. put_is_done front (store_of now) owner items i (put_items (store_of old) owner items) past (so_far owner is)
