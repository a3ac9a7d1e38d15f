-- What a step of the store makes of a bench, and what it replies to an owner that is open.
use Rattle.std.proofs.Common.{◌≡◌, ◌≢◌, ℕ, zero, suc, ◌+◌, ◌-◌, ◌^◌, ◌<◌, ◌≤◌, Bool, true, false, cond, not, List, [], ◌∷◌, ◌++◌, length, Option, Some, None, IfSome, inl, inr, refl, sym, ap, subst, ◌∙◌, length-append, arith}
use Rattle.std.specs.Prelude.{◌||◌, ◌&&◌, filter, find, nat_eq, nat_lt, Contains, slice_set, slice_index_or, if◌then◌else◌}
use Rattle.std.specs.List.{AllByRecursion, list_any}
use Rattle.std.proofs.lemmas.Bool.{cond-true, cond-false, eqb-true, eq-eqb, ne_eqb, or_cases, or_left, or_right, or_from}
use Rattle.std.proofs.lemmas.List.{append-nil, get_or-set_same, length-set, set-set}
use Rattle.std.proofs.lemmas.List.Elements.{All-from_recursion, filter-append}
use Rattle.std.proofs.lemmas.List.Folds.{list_any-append}
use Rattle.digest_types.specs.Name.{HashAndSize}
use Rattle.directory_canon.specs.declared.node.Edge.{Edge}
use Rattle.directory_canon.specs.declared.node.Kind.{Kind}
use Rattle.store_core.specs.declared.state.Row.{Row}
use Rattle.store_core.specs.declared.state.Lease.{Lease}
use Rattle.store_core.specs.declared.event.Event.{Event}
use Rattle.store_core.specs.declared.event.Event.TheVariants as events
use Rattle.store_core.specs.declared.event.Reply.{Reply}
use Rattle.store_core.specs.declared.event.Reply.TheVariants as replies
use Rattle.store_core.specs.State.{State, Valid, is_empty, row_of, used, has_id, is_of_owner, other_holds}
use Rattle.store_core.specs.Pass.{guarded, pass}
use Rattle.store_core.specs.Standing.{standing}
use Rattle.store_core.specs.Step.{is_open, is_opening, with_room, with_row, put_over, put, missing, touched, is_here, own_lease, confirmed, released, closed, served, step}
use Rattle.store_core.specs.History.{Entry, state, IsNumbered, IsLegalAt, Legal, own, own_leases, leases_of}
use Rattle.turn_lock.proofs.Owners.{step_next}
use Rattle.store_core.proofs.Elements.{every_weaker, every_contains, every_has}
use Rattle.store_core.proofs.Entries.{leases_by_own, served_by}
use Rattle.store_core.proofs.Histories.{state_after}
use Rattle.store_core.proofs.Kept.{chosen, follows_step}
use Rattle.store_core.proofs.OwnerLaws.{open_has}
use Rattle.store_core.proofs.Uses.{put_uses, read_uses}
use Rattle.turn_lock.specs.Noted.{entry}
use Rattle.blob_store.specs.declared.door.PutReply.TheVariants as puts
use Rattle.blob_store.specs.declared.seat.Seat.{Seat}
use Rattle.blob_store.specs.Calls.{IsPutReply}
use Rattle.blob_store.specs.View.{Makes, Waits, Enters, StaysOut, Leaves, MayCall, leases_by, own_now, holds}
use Rattle.blob_store.specs.Benched.{Benched, IsBench, IsSeatAt, DistinctOwners, store_of, seat_of, own_by, view_of, unseated, seated, unseated_now}
use Rattle.blob_store.proofs.ViewLaws.{turns_more, turns_none}

-- ---- what is replied

-- what holds of the replies of both outcomes holds of that of the one that is chosen
reply_by : (P : Reply → Type 0) (b : Bool) (x y : Reply × State) → (b ≡ true → P x.0) → (b ≡ false → P y.0) → P (cond b x y).0
reply_by P true x y p q = p refl
reply_by P false x y p q = q refl

-- the event of an open owner is served
pub open_is_served : (s : State) (owner : ℕ) (event : Event) → is_open s owner ≡ true → step s owner event ≡ served s owner event
unfolding step
open_is_served s owner event e =
    cond-true (is_opening event || is_open s owner) (served s owner event) (replies.Refused, s) (or_right (is_opening event) (is_open s owner) e)

sound_reply : (b : Bool) → IsPutReply (if b then replies.Present else replies.Repaired)
sound_reply true = (puts.Present, refl)
sound_reply false = (puts.Repaired, refl)

put_over_replies : (s : State) (d : HashAndSize) (edges : Option (List Edge)) (o : Option Row) → IsPutReply (put_over s d edges o).0
put_over_replies s d edges (Some row) = sound_reply row.sound
put_over_replies s d edges None =
    let row : Row = record { digest = d; edges = edges; sound = true } in
    reply_by IsPutReply (nat_lt s.high (guarded s + d.size)) (replies.NoSpace (guarded s) d.size s.high, s)
    (replies.Stored (length s.rows - length (with_room s d.size).rows) (used (with_room s d.size) + d.size), with_row (with_room s d.size) row)
    (λ _. (puts.NoSpace (guarded s) d.size s.high, refl))
    (λ _. (puts.Stored (length s.rows - length (with_room s d.size).rows) (used (with_room s d.size) + d.size), refl))

put_is_reply : (s : State) (d : HashAndSize) (edges : Option (List Edge)) → IsPutReply (put s d edges).0
unfolding put
put_is_reply s d edges =
    reply_by IsPutReply (is_empty d) (replies.Present, s) (put_over s d edges (row_of d s.rows)) (λ _. (puts.Present, refl)) (λ _. put_over_replies s d edges (row_of d s.rows))

-- an open owner's put has one of a put's replies
pub put_replies : (s : State) (owner : ℕ) (d : HashAndSize) (edges : Option (List Edge)) → is_open s owner ≡ true → IsPutReply (step s owner (events.Put d edges)).0
unfolding served
put_replies s owner d edges e =
    subst (λ (r : Reply × State). IsPutReply r.0) (sym (open_is_served s owner (events.Put d edges) e)) (put_is_reply s d edges)

-- its find has those that are missing
pub find_replies : (s : State) (owner : ℕ) (ds : List HashAndSize) → is_open s owner ≡ true → (step s owner (events.Find ds)).0 ≡ replies.Missing (missing s.rows ds)
unfolding served
find_replies s owner ds e = ap (λ (r : Reply × State). r.0) (open_is_served s owner (events.Find ds) e)

here_reply : (b : Bool) (s t : State) → (cond {A = Reply × State} b (replies.Found, s) (replies.Absent, t)).0 ≡ (if b then replies.Found else replies.Absent)
here_reply true s t = refl
here_reply false s t = refl

-- its read has Found exactly where the blob is here
pub read_replies : (s : State) (owner : ℕ) (d : HashAndSize) → is_open s owner ≡ true → (step s owner (events.Read d)).0 ≡ (if is_here s.rows d then replies.Found else replies.Absent)
unfolding served
read_replies s owner d e = ap (λ (r : Reply × State). r.0) (open_is_served s owner (events.Read d) e) ∙ here_reply (is_here s.rows d) (record s { rows = touched d s.rows }) s

pub read_finds : (s : State) (owner : ℕ) (d : HashAndSize) → is_open s owner ≡ true → is_here s.rows d ≡ true → (step s owner (events.Read d)).0 ≡ replies.Found
read_finds s owner d e here = read_replies s owner d e ∙ cond-true (is_here s.rows d) replies.Found replies.Absent here

pub read_misses : (s : State) (owner : ℕ) (d : HashAndSize) → is_open s owner ≡ true → is_here s.rows d ≡ false → (step s owner (events.Read d)).0 ≡ replies.Absent
read_misses s owner d e gone = read_replies s owner d e ∙ cond-false (is_here s.rows d) replies.Found replies.Absent gone

-- its Lease has the next number
pub lease_replies : (s : State) (owner : ℕ) (root : HashAndSize) (kind : Kind) → is_open s owner ≡ true → (step s owner (events.Lease root kind)).0 ≡ replies.Leased s.next_lease
unfolding served
lease_replies s owner root kind e = ap (λ (r : Reply × State). r.0) (open_is_served s owner (events.Lease root kind) e)

pub damage_replies : (s : State) (owner : ℕ) (d : HashAndSize) → is_open s owner ≡ true → (step s owner (events.Damage d)).0 ≡ replies.Marked
unfolding served
damage_replies s owner d e = ap (λ (r : Reply × State). r.0) (open_is_served s owner (events.Damage d) e)

pub pass_replies : (s : State) (owner : ℕ) → is_open s owner ≡ true → (step s owner events.Pass).0 ≡ replies.Passed (length s.rows - length (pass s s.low).rows) (used (pass s s.low))
unfolding served
pass_replies s owner e = ap (λ (r : Reply × State). r.0) (open_is_served s owner events.Pass e)

pub usage_replies : (s : State) (owner : ℕ) → is_open s owner ≡ true
    → (step s owner events.Usage).0 ≡ replies.Used (record { used = used s; guarded = guarded s; rows = length s.rows; low = s.low; high = s.high })
unfolding served
usage_replies s owner e = ap (λ (r : Reply × State). r.0) (open_is_served s owner events.Usage e)

-- Open needs no owner
pub open_replies : (s : State) (owner : ℕ) → (step s owner events.Open).0 ≡ replies.Opened s.next_owner
unfolding step served
open_replies s owner = refl

-- the events that no open owner is refused, in any state
abbrev pub IsServed : Event → Type 0
IsServed events.Open = Unit {0}
IsServed (events.Put d edges) = Unit {0}
IsServed (events.Find ds) = Unit {0}
IsServed (events.Read d) = Unit {0}
IsServed (events.Lease root kind) = Unit {0}
IsServed (events.Confirm id files) = ⊥
IsServed (events.Release id) = ⊥
IsServed (events.Damage d) = Unit {0}
IsServed events.Pass = Unit {0}
IsServed events.Usage = Unit {0}
IsServed events.Close = ⊥

put_not_refused : (reply : Reply) → IsPutReply reply → reply ≢ replies.Refused
put_not_refused reply (puts.Stored removed used, is) refused = absurd (let e : replies.Stored removed used ≡ replies.Refused = is ∙ refused in cc)
put_not_refused reply (puts.Present, is) refused = absurd (let e : replies.Present ≡ replies.Refused = is ∙ refused in cc)
put_not_refused reply (puts.Repaired, is) refused = absurd (let e : replies.Repaired ≡ replies.Refused = is ∙ refused in cc)
put_not_refused reply (puts.NoSpace guarded size high, is) refused = absurd (let e : replies.NoSpace guarded size high ≡ replies.Refused = is ∙ refused in cc)

read_not_refused : (b : Bool) → (if b then replies.Found else replies.Absent) ≢ replies.Refused
read_not_refused true refused = absurd cc
read_not_refused false refused = absurd cc

-- an open owner isn't refused
pub not_refused : (s : State) (owner : ℕ) (event : Event) → IsServed event → is_open s owner ≡ true → (step s owner event).0 ≢ replies.Refused
not_refused s owner events.Open h e refused = let is : replies.Opened s.next_owner ≡ replies.Refused = sym (open_replies s owner) ∙ refused in absurd cc
not_refused s owner (events.Put d edges) h e refused = put_not_refused (step s owner (events.Put d edges)).0 (put_replies s owner d edges e) refused
not_refused s owner (events.Find ds) h e refused = let is : replies.Missing (missing s.rows ds) ≡ replies.Refused = sym (find_replies s owner ds e) ∙ refused in absurd cc
not_refused s owner (events.Read d) h e refused = read_not_refused (is_here s.rows d) (sym (read_replies s owner d e) ∙ refused)
not_refused s owner (events.Lease root kind) h e refused = let is : replies.Leased s.next_lease ≡ replies.Refused = sym (lease_replies s owner root kind e) ∙ refused in absurd cc
not_refused s owner (events.Confirm id files) h e refused = h
not_refused s owner (events.Release id) h e refused = h
not_refused s owner (events.Damage d) h e refused = let is : replies.Marked ≡ replies.Refused = sym (damage_replies s owner d e) ∙ refused in absurd cc
not_refused s owner events.Pass h e refused =
    let is : replies.Passed (length s.rows - length (pass s s.low).rows) (used (pass s s.low)) ≡ replies.Refused = sym (pass_replies s owner e) ∙ refused in absurd cc
not_refused s owner events.Usage h e refused =
    let is : replies.Used (record { used = used s; guarded = guarded s; rows = length s.rows; low = s.low; high = s.high }) ≡ replies.Refused = sym (usage_replies s owner e) ∙ refused in absurd cc
not_refused s owner events.Close h e refused = h

-- ---- the number in a reply

put_numbered : (who : ℕ) (reply : Reply) → IsPutReply reply → IsNumbered who reply
put_numbered who reply (puts.Stored removed used, is) = subst (IsNumbered who) is tt
put_numbered who reply (puts.Present, is) = subst (IsNumbered who) is tt
put_numbered who reply (puts.Repaired, is) = subst (IsNumbered who) is tt
put_numbered who reply (puts.NoSpace guarded size high, is) = subst (IsNumbered who) is tt

confirmed_numbered : (who : ℕ) (s : State) (files : Bool) (o : Option Lease) → IsNumbered who (confirmed s files o).0
confirmed_numbered who s files None = tt
confirmed_numbered who s files (Some lease) = tt

released_numbered : (who : ℕ) (s : State) (id : ℕ) (o : Option Lease) → IsNumbered who (released s id o).0
released_numbered who s id None = tt
released_numbered who s id (Some lease) = tt

served_numbered : (who : ℕ) (s : State) (owner : ℕ) (event : Event) → event ≢ events.Open → IsNumbered who (served s owner event).0
unfolding served
served_numbered who s owner events.Open other = absurd (other refl)
served_numbered who s owner (events.Put d edges) other = put_numbered who (put s d edges).0 (put_is_reply s d edges)
served_numbered who s owner (events.Find ds) other = tt
served_numbered who s owner (events.Read d) other =
    reply_by (IsNumbered who) (is_here s.rows d) (replies.Found, record s { rows = touched d s.rows }) (replies.Absent, s) (λ _. tt) (λ _. tt)
served_numbered who s owner (events.Lease root kind) other = tt
served_numbered who s owner (events.Confirm id files) other = confirmed_numbered who s files (own_lease s owner id)
served_numbered who s owner (events.Release id) other = released_numbered who s id (own_lease s owner id)
served_numbered who s owner (events.Damage d) other = tt
served_numbered who s owner events.Pass other = tt
served_numbered who s owner events.Usage other = tt
served_numbered who s owner events.Close other =
    reply_by (IsNumbered who) (list_any (is_of_owner owner) s.leases) (replies.Refused, s) (replies.Closed, record s { owners = filter (λ o. not (nat_eq o owner)) s.owners; holds = other_holds owner s.holds })
    (λ _. tt) (λ _. tt)

-- only an Open's reply tells the number of an owner
pub reply_is_numbered : (who : ℕ) (s : State) (owner : ℕ) (event : Event) → event ≢ events.Open → IsNumbered who (step s owner event).0
unfolding step
reply_is_numbered who s owner event other =
    reply_by (IsNumbered who) (is_opening event || is_open s owner) (served s owner event) (replies.Refused, s) (λ _. served_numbered who s owner event other) (λ _. tt)

-- ---- the owners

-- the same owners are open, and the same one comes next
abbrev KeepsOwners : State → State → Type 0
KeepsOwners s t = (t.owners ≡ s.owners) × (t.next_owner ≡ s.next_owner)

confirmed_owners : (s : State) (files : Bool) (o : Option Lease) → KeepsOwners s (confirmed s files o).1
confirmed_owners s files None = (refl, refl)
confirmed_owners s files (Some lease) = (refl, refl)

released_owners : (s : State) (id : ℕ) (o : Option Lease) → KeepsOwners s (released s id o).1
released_owners s id None = (refl, refl)
released_owners s id (Some lease) = (refl, refl)

served_owners : (s : State) (owner : ℕ) (event : Event) → event ≢ events.Open → event ≢ events.Close → KeepsOwners s (served s owner event).1
unfolding served
served_owners s owner events.Open comes goes = absurd (comes refl)
served_owners s owner (events.Put d edges) comes goes = ((put_uses s owner d edges).owners, (put_uses s owner d edges).next_owner)
served_owners s owner (events.Find ds) comes goes = (refl, refl)
served_owners s owner (events.Read d) comes goes = ((read_uses s owner d).owners, (read_uses s owner d).next_owner)
served_owners s owner (events.Lease root kind) comes goes = (refl, refl)
served_owners s owner (events.Confirm id files) comes goes = confirmed_owners s files (own_lease s owner id)
served_owners s owner (events.Release id) comes goes = released_owners s id (own_lease s owner id)
served_owners s owner (events.Damage d) comes goes = (refl, refl)
served_owners s owner events.Pass comes goes = (refl, refl)
served_owners s owner events.Usage comes goes = (refl, refl)
served_owners s owner events.Close comes goes = absurd (goes refl)

-- no event but Open and Close changes the owners
pub step_owners : (s : State) (owner : ℕ) (event : Event) → event ≢ events.Open → event ≢ events.Close → ((step s owner event).1.owners ≡ s.owners) × ((step s owner event).1.next_owner ≡ s.next_owner)
unfolding step
step_owners s owner event comes goes =
    chosen (KeepsOwners s) (is_opening event || is_open s owner) (served s owner event) (replies.Refused, s) (λ _. served_owners s owner event comes goes) (λ _. (refl, refl))

pub next_after : (s : State) (entries : List Entry) → s.next_owner ≤ (state s entries).next_owner
unfolding state
next_after s [] = omega arith
next_after s (entry ∷ entries) = omega (arith, step_next s entry.owner entry.event, next_after (step s entry.owner entry.event).1 entries)

-- each entry gives out at most one number of each kind
pub numbers_after : (s : State) (entries : List Entry) → ((state s entries).next_owner ≤ s.next_owner + length entries) × ((state s entries).next_lease ≤ s.next_lease + length entries)
unfolding state
numbers_after s [] = (omega arith, omega arith)
numbers_after s (entry ∷ entries) =
    let rest = numbers_after (step s entry.owner entry.event).1 entries in
    let one = follows_step s entry.owner entry.event in
    (omega (arith, rest.0, one.owners), omega (arith, rest.1, one.leases))

-- What the numbers of a bench's store are at most.
pub record NumbersFit (s : State) (b : Benched) : Type 0 where
  pub owners : s.next_owner ≤ 2 ^ 62 + length b.seen
  pub leases : s.next_lease ≤ 2 ^ 62 + length b.seen
  pub owners_fit : s.next_owner < 2 ^ 64 - 1
  pub leases_fit : s.next_lease < 2 ^ 64 - 1

-- the numbers of a bench's store fit
pub numbers_fit : (s : State) (b : Benched) → IsBench s b → NumbersFit s b
numbers_fit s b bench =
    let after = numbers_after b.start b.seen in
    let owners : s.next_owner ≤ 2 ^ 62 + length b.seen = omega (arith, after.0, bench.first_owner, ap (λ (t : State). t.next_owner) bench.at) in
    let leases : s.next_lease ≤ 2 ^ 62 + length b.seen = omega (arith, after.1, bench.first_lease, ap (λ (t : State). t.next_lease) bench.at) in
    record { owners = owners; leases = leases; owners_fit = omega (arith, owners, bench.room); leases_fit = omega (arith, leases, bench.room) }

-- ---- the owners of a history's entries

opening_is : (event : Event) → is_opening event ≡ true → event ≡ events.Open
opening_is events.Open e = refl
opening_is (events.Put d edges) e = absurd cc
opening_is (events.Find ds) e = absurd cc
opening_is (events.Read d) e = absurd cc
opening_is (events.Lease root kind) e = absurd cc
opening_is (events.Confirm id files) e = absurd cc
opening_is (events.Release id) e = absurd cc
opening_is (events.Damage d) e = absurd cc
opening_is events.Pass e = absurd cc
opening_is events.Usage e = absurd cc
opening_is events.Close e = absurd cc

-- a legal entry opens an owner, or its owner is open
legal_open : (s : State) (entry : Entry) → IsLegalAt s entry → (is_opening entry.event || is_open s entry.owner) ≡ true
unfolding step
legal_open s entry legal = served_by (is_opening entry.event || is_open s entry.owner) (served s entry.owner entry.event) s entry.reply legal.reply legal.served

opens_next_number : (s : State) (entry : Entry) → IsLegalAt s entry → entry.event ≡ events.Open → entry.owner ≡ s.next_owner
opens_next_number s entry legal e =
    subst (IsNumbered entry.owner) (legal.reply ∙ ap (λ (event : Event). (step s entry.owner event).0) e ∙ open_replies s entry.owner) legal.numbered

opened_after : (s : State) (owner : ℕ) → (step s owner events.Open).1.next_owner ≡ s.next_owner + 1
unfolding step served
opened_after s owner = refl

entry_below : (s : State) (entry : Entry) → Valid s → IsLegalAt s entry → entry.owner < (step s entry.owner entry.event).1.next_owner
entry_below s entry v legal =
    elim (or_cases (is_opening entry.event) (is_open s entry.owner) (legal_open s entry legal)) [
      | inl opens ↦
          let is = opening_is entry.event opens in
          omega (arith, opens_next_number s entry legal is, ap (λ (event : Event). (step s entry.owner event).1.next_owner) is ∙ opened_after s entry.owner)
      | inr there ↦
          omega (arith, every_contains (λ o. o < s.next_owner) s.owners entry.owner v.owners (open_has s entry.owner there), step_next s entry.owner entry.event)
    ]

-- the owners of a legal history's entries are below the number of the next one
pub owners_below : (s : State) (entries : List Entry) → Valid s → Legal s entries → AllByRecursion (λ e. e.owner < (state s entries).next_owner) entries
unfolding state
owners_below s [] v legal = tt
owners_below s (entry ∷ entries) v legal =
    let t = (step s entry.owner entry.event).1 in
    let below : entry.owner < t.next_owner = entry_below s entry v legal.0 in
    let more : t.next_owner ≤ (state t entries).next_owner = next_after t entries in
    (omega arith, owners_below t entries ((follows_step s entry.owner entry.event).valid v) legal.1)

own_none : (owner : ℕ) (entries : List Entry) → AllByRecursion (λ e. e.owner < owner) entries → own owner entries ≡ []
own_none owner [] h = refl
own_none owner (entry ∷ entries) h =
    cond-false (nat_eq entry.owner owner) (entry ∷ own owner entries) (own owner entries) (ne_eqb entry.owner owner (λ e. omega (arith, h.0))) ∙ own_none owner entries h.1

-- one more entry of the owner
own_push : (owner : ℕ) (entries : List Entry) (event : Event) (reply : Reply) → own owner (entries ++ entry owner event reply ∷ []) ≡ own owner entries ++ entry owner event reply ∷ []
own_push owner entries event reply =
    let one = entry owner event reply in
    filter-append (λ e. nat_eq e.owner owner) entries (one ∷ [])
    ∙ ap (λ (rest : List Entry). own owner entries ++ rest) (cond-true (nat_eq owner owner) (one ∷ []) [] (eq-eqb owner owner refl))

-- the same where it is the owner of a seat
own_by_push : (o : Option ℕ) (owner : ℕ) (entries : List Entry) (event : Event) (reply : Reply) → o ≡ Some owner
    → own_by o (entries ++ entry owner event reply ∷ []) ≡ own_by o entries ++ entry owner event reply ∷ []
own_by_push o owner entries event reply is =
    ap (λ (x : Option ℕ). own_by x (entries ++ entry owner event reply ∷ [])) is
    ∙ own_push owner entries event reply
    ∙ ap (λ (x : Option ℕ). own_by x entries ++ entry owner event reply ∷ []) (sym is)

-- ---- one more entry of a history

legal_push : (s : State) (entries : List Entry) (last : Entry) → Legal s entries → IsLegalAt (state s entries) last → Legal s (entries ++ last ∷ [])
unfolding state
legal_push s [] last legal at = (at, tt)
legal_push s (first ∷ entries) last legal at = (legal.0, legal_push (step s first.owner first.event).1 entries last legal.1 at)

state_push : (s : State) (entries : List Entry) (last : Entry) → state s (entries ++ last ∷ []) ≡ (step (state s entries) last.owner last.event).1
unfolding state
state_push s entries last = state_after s entries (last ∷ [])

length_push_seen : (entries : List Entry) (last : Entry) → length (entries ++ last ∷ []) ≡ length entries + 1
length_push_seen entries last = omega (arith, length-append entries (last ∷ []))

-- What one more step gives, at a bench.
record IsPushed (b : Benched) (s' : State) (seen : List Entry) : Type 0 where
  legal : Legal b.start seen
  at : s' ≡ state b.start seen
  room : length seen ≤ 2 ^ 63
  count : length seen ≡ length b.seen + 1

pushed : (s s' : State) (b : Benched) (owner : ℕ) (event : Event) (reply : Reply) → IsBench s b → length b.seen < 2 ^ 63 → (reply, s') ≡ step s owner event → reply ≢ replies.Refused → IsNumbered owner reply
    → IsPushed b s' (b.seen ++ entry owner event reply ∷ [])
pushed s s' b owner event reply bench room e served numbered =
    let from : step s owner event ≡ step (store_of b) owner event = ap (λ (t : State). step t owner event) bench.at in
    let is : (reply, s') ≡ step (store_of b) owner event = e ∙ from in
    record {
      legal = legal_push b.start b.seen (entry owner event reply) bench.legal (record { reply = ap (λ (r : Reply × State). r.0) is; served = served; numbered = numbered });
      at = ap (λ (r : Reply × State). r.1) is ∙ sym (state_push b.start b.seen (entry owner event reply));
      room = omega (arith, length_push_seen b.seen (entry owner event reply));
      count = length_push_seen b.seen (entry owner event reply);
    }

-- ---- the seats

some_weaker : (o : Option ℕ) (P Q : ℕ → Type 0) → ((x : ℕ) → P x → Q x) → IfSome o P → IfSome o Q
some_weaker None P Q f h = tt
some_weaker (Some x) P Q f h = f x h

some_is : (o : Option ℕ) (P : ℕ → Type 0) (x : ℕ) → o ≡ Some x → IfSome o P → P x
some_is o P x is h = subst (λ (p : Option ℕ). IfSome p P) is h

some_from : (o : Option ℕ) (P : ℕ → Type 0) → ((x : ℕ) → o ≡ Some x → P x) → IfSome o P
some_from None P f = tt
some_from (Some x) P f = f x refl

-- no seat has this owner
abbrev NoneHas : List Seat → ℕ → Type 0
NoneHas seats owner = AllByRecursion (λ other. other.owner ≢ Some owner) seats

-- what holds of each seat holds of the one at a place
seat_at : (P : Seat → Type 0) (seats : List Seat) (i : ℕ) → AllByRecursion P seats → i < length seats → P (slice_index_or seats i unseated)
seat_at P seats i h lt = All-from_recursion P seats h i unseated lt

-- another seat at a place
every_set : (P : Seat → Type 0) (seats : List Seat) (i : ℕ) (seat : Seat) → AllByRecursion P seats → P seat → AllByRecursion P (slice_set seats i seat)
every_set P [] i seat h p = tt
every_set P (first ∷ seats) zero seat h p = (p, h.1)
every_set P (first ∷ seats) (suc i) seat h p = (h.0, every_set P seats i seat h.1 p)

-- the chosen seat, where it has entered, has an owner that is open
pub chosen_is_open : (s : State) (b : Benched) (owner : ℕ) → IsBench s b → (seat_of b).entered ≡ true → (seat_of b).owner ≡ Some owner → is_open s owner ≡ true
chosen_is_open s b owner bench entered is_owner =
    let at = (seat_at (IsSeatAt b.start s) b.seats b.chosen bench.seats bench.chosen).is_open entered in
    let is : (seat_of b).owner ≡ Some at.0 = at.1 in
    let same : at.0 ≡ owner = cc in
    subst (λ (o : ℕ). is_open s o ≡ true) same at.2

-- the owner of the chosen seat came after the start, and before the next one
pub chosen_came : (s : State) (b : Benched) (owner : ℕ) → IsBench s b → (seat_of b).owner ≡ Some owner → (b.start.next_owner ≤ owner) × (owner < s.next_owner)
chosen_came s b owner bench is_owner =
    some_is (seat_of b).owner (λ o. (b.start.next_owner ≤ o) × (o < s.next_owner)) owner is_owner
    (seat_at (IsSeatAt b.start s) b.seats b.chosen bench.seats bench.chosen).came

-- a seat stays at a store where the numbers grow and its owner stays open
seat_moves : (start s t : State) (seat : Seat) → s.next_owner ≤ t.next_owner → ((owner : ℕ) → seat.owner ≡ Some owner → is_open s owner ≡ true → is_open t owner ≡ true) → IsSeatAt start s seat → IsSeatAt start t seat
seat_moves start s t seat grows stays h = record {
  came = some_weaker seat.owner (λ o. (start.next_owner ≤ o) × (o < s.next_owner)) (λ o. (start.next_owner ≤ o) × (o < t.next_owner)) (λ o c. (c.0, omega (arith, c.1, grows))) h.came;
  is_open = λ entered. let at = h.is_open entered in (at.0, at.1, stays at.0 at.1 at.2);
}

-- ---- an entry of the seat's owner

entered_makes : (s s' : State) (b : Benched) (owner : ℕ) (event : Event) (reply : Reply) → IsPushed b s' (b.seen ++ entry owner event reply ∷ []) → (seat_of b).entered ≡ true → (seat_of b).owner ≡ Some owner
    → Makes (view_of b) (view_of (record b { seen = b.seen ++ entry owner event reply ∷ [] })) event reply
entered_makes s s' b owner event reply more entered is_owner =
    let one = entry owner event reply in
    record {
      turns = record {
        owner = owner;
        is_owner = is_owner;
        same_owner = refl;
        was_in = entered;
        is_in = entered;
        start = refl;
        seen = (one ∷ [], refl);
        is_own = ap (λ (o : Option ℕ). own_by o (b.seen ++ one ∷ [])) (sym is_owner);
        mine = own_by_push (seat_of b).owner owner b.seen event reply is_owner;
        count = omega (arith, more.count);
        grant = refl;
        identity = refl;
        left = omega (arith, more.count);
        used = omega (arith, more.count);
      };
      last = (b.seen, refl);
    }

-- an event of the chosen seat's owner, but for Open and Close
pub entry_made : (s s' : State) (b b' : Benched) (owner : ℕ) (event : Event) (reply : Reply) → IsBench s b → (seat_of b).entered ≡ true → (seat_of b).owner ≡ Some owner → length b.seen < 2 ^ 63
    → event ≢ events.Open → event ≢ events.Close → (reply, s') ≡ step s owner event → reply ≢ replies.Refused → b' ≡ record b { seen = b.seen ++ entry owner event reply ∷ [] }
    → IsBench s' b' × Makes (view_of b) (view_of b') event reply
entry_made s s' b b' owner event reply bench entered is_owner room comes goes e served is =
    let one = entry owner event reply in
    let numbered : IsNumbered owner reply = subst (IsNumbered owner) (sym (ap (λ (r : Reply × State). r.0) e)) (reply_is_numbered owner s owner event comes) in
    let more = pushed s s' b owner event reply bench room e served numbered in
    let kept = step_owners s owner event comes goes in
    let to : (step s owner event).1 ≡ s' = sym (ap (λ (r : Reply × State). r.1) e) in
    let owners : s'.owners ≡ s.owners = ap (λ (t : State). t.owners) (sym to) ∙ kept.0 in
    let next : s'.next_owner ≡ s.next_owner = ap (λ (t : State). t.next_owner) (sym to) ∙ kept.1 in
    subst (λ (x : Benched). IsBench s' x × Makes (view_of b) (view_of x) event reply) (sym is) (
      record {
        valid = bench.valid;
        first_owner = bench.first_owner;
        first_lease = bench.first_lease;
        legal = more.legal;
        at = more.at;
        room = more.room;
        chosen = bench.chosen;
        seats = every_weaker (IsSeatAt b.start s) (IsSeatAt b.start s')
            (λ seat h. seat_moves b.start s s' seat (omega (arith, next)) (λ o has there. ap (λ (os : List ℕ). list_any (nat_eq o) os) owners ∙ there) h) b.seats bench.seats;
        owners = bench.owners;
      },
      entered_makes s s' b owner event reply more entered is_owner,
    )

-- no entry: the store and the bench stay
pub bench_waits : (s : State) (b : Benched) → IsBench s b → MayCall (view_of b) → Waits (view_of b) (view_of b)
bench_waits s b bench may =
    let at = (seat_at (IsSeatAt b.start s) b.seats b.chosen bench.seats bench.chosen).is_open may.is_in in
    turns_more (view_of b) (view_of b) 0 1 [] (omega arith) (turns_none (view_of b) at.0 may.is_in at.1 (ap (λ (o : Option ℕ). own_by o b.seen) (sym at.1)))

own_by_is : (o : Option ℕ) (seen : List Entry) → IfSome o (λ owner. own owner seen ≡ own_by o seen)
own_by_is None seen = tt
own_by_is (Some owner) seen = refl

pub bench_stays_out : (s : State) (b : Benched) → IsBench s b → (view_of b).entered ≡ false → StaysOut (view_of b) (view_of b)
bench_stays_out s b bench out = record {
  owner = refl;
  is_out = out;
  mine = refl;
  is_own = own_by_is (seat_of b).owner b.seen;
  start = refl;
  seen = ([], sym (append-nil b.seen));
  count = refl;
  grant = refl;
  identity = refl;
  left = omega arith;
  used = omega arith;
}

-- ---- an owner comes

open_more : (owners : List ℕ) (owner next : ℕ) → list_any (nat_eq owner) owners ≡ true → list_any (nat_eq owner) (owners ++ next ∷ []) ≡ true
open_more owners owner next e =
    list_any-append (nat_eq owner) owners (next ∷ []) ∙ or_left (list_any (nat_eq owner) owners) (list_any (nat_eq owner) (next ∷ [])) e

open_last : (owners : List ℕ) (next : ℕ) → list_any (nat_eq next) (owners ++ next ∷ []) ≡ true
open_last owners next =
    list_any-append (nat_eq next) owners (next ∷ [])
    ∙ or_right (list_any (nat_eq next) owners) (list_any (nat_eq next) (next ∷ [])) (or_left (nat_eq next next) false (eq-eqb next next refl))

-- what an Open leaves of the owners
opened_owners : (s : State) (owner : ℕ) → (step s owner events.Open).1.owners ≡ s.owners ++ s.next_owner ∷ []
unfolding step served
opened_owners s owner = refl

-- no seat has an owner that comes only now
not_yet : (start s : State) (owner : ℕ) → s.next_owner ≤ owner → (seat : Seat) → IsSeatAt start s seat → seat.owner ≢ Some owner
not_yet start s owner le seat h is =
    let came = some_is seat.owner (λ o. (start.next_owner ≤ o) × (o < s.next_owner)) owner is h.came in
    omega (arith, came.1)

-- an owner that no seat has may be that of a seat
distinct_set : (seats : List Seat) (i owner : ℕ) → DistinctOwners seats → NoneHas seats owner → DistinctOwners (slice_set seats i (seated owner))
distinct_set [] i owner d h = tt
distinct_set (seat ∷ seats) zero owner d h = (h.1, d.1)
distinct_set (seat ∷ seats) (suc i) owner d h = (
  some_from seat.owner (NoneHas (slice_set seats i (seated owner)))
      (λ o is. every_set (λ other. other.owner ≢ Some o) seats i (seated owner) (some_is seat.owner (NoneHas seats) o is d.0) (λ e. h.0 (is ∙ sym e))),
  distinct_set seats i owner d.1 h.1,
)

-- the next owner takes the chosen seat
pub owner_enters : (s s' : State) (b b' : Benched) (reply : Reply) → IsBench s b → length b.seen < 2 ^ 63 → (reply, s') ≡ step s s.next_owner events.Open
    → b' ≡ record b { seen = b.seen ++ entry s.next_owner events.Open reply ∷ []; seats = slice_set b.seats b.chosen (seated s.next_owner) }
    → IsBench s' b' × Enters (view_of b) (view_of b')
owner_enters s s' b b' reply bench room e is =
    let n = s.next_owner in
    let one = entry n events.Open reply in
    let seats = slice_set b.seats b.chosen (seated n) in
    let replied : reply ≡ replies.Opened n = ap (λ (r : Reply × State). r.0) e ∙ open_replies s n in
    let more = pushed s s' b n events.Open reply bench room e (λ refused. let no : replies.Opened n ≡ replies.Refused = sym replied ∙ refused in absurd cc) (subst (IsNumbered n) (sym replied) refl) in
    let to : s' ≡ (step s n events.Open).1 = ap (λ (r : Reply × State). r.1) e in
    let owners : s'.owners ≡ s.owners ++ n ∷ [] = ap (λ (t : State). t.owners) to ∙ opened_owners s n in
    let next : s'.next_owner ≡ n + 1 = ap (λ (t : State). t.next_owner) to ∙ opened_after s n in
    let began : b.start.next_owner ≤ n = omega (arith, next_after b.start b.seen, ap (λ (t : State). t.next_owner) bench.at) in
    let below : AllByRecursion (λ x. x.owner < n) b.seen = subst (λ (t : State). AllByRecursion (λ x. x.owner < t.next_owner) b.seen) (sym bench.at) (owners_below b.start b.seen bench.valid bench.legal) in
    let seat : slice_index_or seats b.chosen unseated ≡ seated n = get_or-set_same b.seats b.chosen (seated n) unseated bench.chosen in
    let own_is : own n (b.seen ++ one ∷ []) ≡ one ∷ [] = own_push n b.seen events.Open reply ∙ ap (λ (xs : List Entry). xs ++ one ∷ []) (own_none n b.seen below) in
    let mine : own_by (slice_index_or seats b.chosen unseated).owner (b.seen ++ one ∷ []) ≡ own n (b.seen ++ one ∷ []) = ap (λ (x : Seat). own_by x.owner (b.seen ++ one ∷ [])) seat in
    subst (λ (x : Benched). IsBench s' x × Enters (view_of b) (view_of x)) (sym is) (
      record {
        valid = bench.valid;
        first_owner = bench.first_owner;
        first_lease = bench.first_lease;
        legal = more.legal;
        at = more.at;
        room = more.room;
        chosen = omega (arith, bench.chosen, length-set b.seats b.chosen (seated n));
        seats = every_set (IsSeatAt b.start s') b.seats b.chosen (seated n)
            (every_weaker (IsSeatAt b.start s) (IsSeatAt b.start s')
            (λ x h. seat_moves b.start s s' x (omega (arith, next)) (λ o has there. ap (λ (os : List ℕ). list_any (nat_eq o) os) owners ∙ open_more s.owners o n there) h) b.seats bench.seats)
            (record { came = (began, omega (arith, next)); is_open = λ _. (n, refl, ap (λ (os : List ℕ). list_any (nat_eq n) os) owners ∙ open_last s.owners n) });
        owners = distinct_set b.seats b.chosen n bench.owners (every_weaker (IsSeatAt b.start s) (λ other. other.owner ≢ Some n) (λ x h. not_yet b.start s n (omega arith) x h) b.seats bench.seats);
      },
      record {
        number = n;
        is_in = ap (λ (x : Seat). x.entered) seat;
        owner = ap (λ (x : Seat). x.owner) seat;
        mine = mine ∙ own_is ∙ ap (λ (r : Reply). entry n events.Open r ∷ []) replied;
        is_own = sym mine;
        start = refl;
        seen = (one ∷ [], refl);
        last = (b.seen, ap (λ (xs : List Entry). b.seen ++ xs) (sym (mine ∙ own_is)));
        count = more.count;
        grant = refl;
        identity = ap (λ (xs : List Seat). record { lock = None; place = b.chosen; seats = xs }) (set-set b.seats b.chosen (seated n) unseated);
        left = omega (arith, more.count);
        used = omega (arith, more.count);
      },
    )

-- ---- an owner goes

-- what an open owner's Close leaves where it isn't refused
closed_owners : (s s' : State) (owner : ℕ) (b : Bool) → (replies.Closed, s') ≡ cond {A = Reply × State} b (replies.Refused, s) (replies.Closed, record s { owners = filter (λ o. not (nat_eq o owner)) s.owners; holds = other_holds owner s.holds })
    → (s'.owners ≡ filter (λ o. not (nat_eq o owner)) s.owners) × (s'.next_owner ≡ s.next_owner)
closed_owners s s' owner true e = let no : replies.Closed ≡ replies.Refused = ap (λ (r : Reply × State). r.0) e in absurd cc
closed_owners s s' owner false e = let to : s' ≡ record s { owners = filter (λ o. not (nat_eq o owner)) s.owners; holds = other_holds owner s.holds } = ap (λ (r : Reply × State). r.1) e in
    (ap (λ (t : State). t.owners) to, ap (λ (t : State). t.next_owner) to)

step_closed : (s s' : State) (owner : ℕ) → is_open s owner ≡ true → (replies.Closed, s') ≡ step s owner events.Close
    → (s'.owners ≡ filter (λ o. not (nat_eq o owner)) s.owners) × (s'.next_owner ≡ s.next_owner)
unfolding served
step_closed s s' owner there e = closed_owners s s' owner (list_any (is_of_owner owner) s.leases) (e ∙ open_is_served s owner events.Close there)

-- in it, b says whether the first owner goes
stays_by : (other owner first : ℕ) (owners : List ℕ) (b : Bool) → nat_eq first owner ≡ b → other ≢ owner → (list_any (nat_eq other) owners ≡ true → list_any (nat_eq other) (filter (λ o. not (nat_eq o owner)) owners) ≡ true)
    → (nat_eq other first || list_any (nat_eq other) owners) ≡ true → list_any (nat_eq other) (cond (not b) (first ∷ filter (λ o. not (nat_eq o owner)) owners) (filter (λ o. not (nat_eq o owner)) owners)) ≡ true
stays_by other owner first owners true e differ later has =
    elim (or_cases (nat_eq other first) (list_any (nat_eq other) owners) has) [
      | inl is ↦ absurd (differ (eqb-true other first is ∙ eqb-true first owner e))
      | inr more ↦ later more
    ]
stays_by other owner first owners false e differ later has =
    elim (or_cases (nat_eq other first) (list_any (nat_eq other) owners) has) [
      | inl is ↦ or_left (nat_eq other first) (list_any (nat_eq other) (filter (λ o. not (nat_eq o owner)) owners)) is
      | inr more ↦ or_right (nat_eq other first) (list_any (nat_eq other) (filter (λ o. not (nat_eq o owner)) owners)) (later more)
    ]

-- another owner stays open
stays_open : (other owner : ℕ) (owners : List ℕ) → other ≢ owner → list_any (nat_eq other) owners ≡ true → list_any (nat_eq other) (filter (λ o. not (nat_eq o owner)) owners) ≡ true
stays_open other owner [] differ e = e
stays_open other owner (first ∷ owners) differ e = stays_by other owner first owners (nat_eq first owner) refl differ (stays_open other owner owners differ) e

apart : (P Q : Seat → Type 0) (seats : List Seat) (owner : ℕ) → ((x : Seat) → x.owner ≢ Some owner → P x → Q x) → NoneHas seats owner → AllByRecursion P seats → AllByRecursion Q seats
apart P Q [] owner f differ h = tt
apart P Q (seat ∷ seats) owner f differ h = (f seat differ.0 h.0, apart P Q seats owner f differ.1 h.1)

-- where the seat of an owner changes, the others have other owners
set_apart : (P Q : Seat → Type 0) (seats : List Seat) (i owner : ℕ) (seat : Seat) → ((x : Seat) → x.owner ≢ Some owner → P x → Q x) → DistinctOwners seats → i < length seats → (slice_index_or seats i unseated).owner ≡ Some owner
    → AllByRecursion P seats → Q seat → AllByRecursion Q (slice_set seats i seat)
set_apart P Q [] i owner seat f d lt is h q = tt
set_apart P Q (first ∷ seats) zero owner seat f d lt is h q =
    (q, apart P Q seats owner f (some_is first.owner (NoneHas seats) owner is d.0) h.1)
set_apart P Q (first ∷ seats) (suc i) owner seat f d lt is h q = (
  f first (λ same. seat_at (λ other. other.owner ≢ Some owner) seats i (some_is first.owner (NoneHas seats) owner same d.0) (omega arith) is) h.0,
  set_apart P Q seats i owner seat f d.1 (omega arith) is h.1 q,
)

-- no seat has an owner where none had it and one keeps its own
kept_apart : (seats : List Seat) (i : ℕ) (seat : Seat) (owner : ℕ) → (slice_index_or seats i unseated).owner ≡ seat.owner → NoneHas seats owner
    → NoneHas (slice_set seats i seat) owner
kept_apart [] i seat owner is h = tt
kept_apart (first ∷ seats) zero seat owner is h = (λ e. h.0 (is ∙ e), h.1)
kept_apart (first ∷ seats) (suc i) seat owner is h = (h.0, kept_apart seats i seat owner is h.1)

-- the owners are as distinct where a seat keeps its owner
distinct_same : (seats : List Seat) (i : ℕ) (seat : Seat) → (slice_index_or seats i unseated).owner ≡ seat.owner → DistinctOwners seats → DistinctOwners (slice_set seats i seat)
distinct_same [] i seat is d = tt
distinct_same (first ∷ seats) zero seat is d = (subst (λ (x : Option ℕ). IfSome x (NoneHas seats)) is d.0, d.1)
distinct_same (first ∷ seats) (suc i) seat is d = (
  some_weaker first.owner (NoneHas seats) (NoneHas (slice_set seats i seat))
      (λ o h. kept_apart seats i seat o is h) d.0,
  distinct_same seats i seat is d.1,
)

-- the owner of the chosen seat goes
pub owner_leaves : (s s' : State) (b b' : Benched) (owner : ℕ) → IsBench s b → (seat_of b).entered ≡ true → (seat_of b).owner ≡ Some owner → length b.seen < 2 ^ 63 → (replies.Closed, s') ≡ step s owner events.Close
    → b' ≡ record b { seen = b.seen ++ entry owner events.Close replies.Closed ∷ []; seats = slice_set b.seats b.chosen (unseated_now owner) }
    → IsBench s' b' × Leaves (view_of b) (view_of b')
owner_leaves s s' b b' owner bench entered is_owner room e is =
    let one = entry owner events.Close replies.Closed in
    let seats = slice_set b.seats b.chosen (unseated_now owner) in
    let more = pushed s s' b owner events.Close replies.Closed bench room e (λ refused. absurd cc) tt in
    let there : is_open s owner ≡ true = chosen_is_open s b owner bench entered is_owner in
    let left = step_closed s s' owner there e in
    let next : s'.next_owner ≡ s.next_owner = left.1 in
    let came = chosen_came s b owner bench is_owner in
    let seat : slice_index_or seats b.chosen unseated ≡ unseated_now owner = get_or-set_same b.seats b.chosen (unseated_now owner) unseated bench.chosen in
    let same_owner : (slice_index_or seats b.chosen unseated).owner ≡ (seat_of b).owner = ap (λ (x : Seat). x.owner) seat ∙ sym is_owner in
    let mine : own_by (slice_index_or seats b.chosen unseated).owner (b.seen ++ one ∷ []) ≡ own owner (b.seen ++ one ∷ []) = ap (λ (x : Seat). own_by x.owner (b.seen ++ one ∷ [])) seat in
    subst (λ (x : Benched). IsBench s' x × Leaves (view_of b) (view_of x)) (sym is) (
      record {
        valid = bench.valid;
        first_owner = bench.first_owner;
        first_lease = bench.first_lease;
        legal = more.legal;
        at = more.at;
        room = more.room;
        chosen = omega (arith, bench.chosen, length-set b.seats b.chosen (unseated_now owner));
        seats = set_apart (IsSeatAt b.start s) (IsSeatAt b.start s') b.seats b.chosen owner (unseated_now owner)
            (λ x differ h. seat_moves b.start s s' x (omega (arith, next))
            (λ o has open_now. ap (λ (os : List ℕ). list_any (nat_eq o) os) left.0 ∙ stays_open o owner s.owners (λ same. differ (has ∙ ap (λ (m : ℕ). Some m) same)) open_now) h)
            bench.owners bench.chosen is_owner bench.seats
            (record { came = (came.0, omega (arith, came.1, next)); is_open = λ in_now. absurd cc });
        owners = distinct_same b.seats b.chosen (unseated_now owner) is_owner bench.owners;
      },
      record {
        owner = owner;
        is_owner = is_owner;
        same_owner = same_owner;
        is_out = ap (λ (x : Seat). x.entered) seat;
        start = refl;
        seen = (one ∷ [], refl);
        is_own = sym mine;
        mine = ap (λ (o : Option ℕ). own_by o (b.seen ++ one ∷ [])) same_owner ∙ own_by_push (seat_of b).owner owner b.seen events.Close replies.Closed is_owner;
        last = (b.seen, refl);
        count = more.count;
        grant = refl;
        identity = ap (λ (xs : List Seat). record { lock = None; place = b.chosen; seats = xs }) (set-set b.seats b.chosen (unseated_now owner) unseated);
        left = omega (arith, more.count);
        used = omega (arith, more.count);
      },
    )

-- ---- the leases of the seat's owner

no_leases : (owner : ℕ) (leases : List Lease) → AllByRecursion (λ lease. is_of_owner owner lease ≡ false) leases → filter (is_of_owner owner) leases ≡ []
no_leases owner [] h = refl
no_leases owner (lease ∷ leases) h = cond-false (is_of_owner owner lease) (lease ∷ filter (is_of_owner owner) leases) (filter (is_of_owner owner) leases) h.0 ∙ no_leases owner leases h.1

-- an owner that is yet to come has none
none_yet : (s : State) (owner : ℕ) → Valid s → s.next_owner ≤ owner → leases_of owner s ≡ []
none_yet s owner v le =
    no_leases owner s.leases
    (every_has (λ lease. is_of_owner owner lease ≡ false) s.leases
    (λ lease has. ne_eqb lease.owner owner (λ same.
    let below : lease.owner < s.next_owner = every_contains (λ o. o < s.next_owner) s.owners lease.owner v.owners (every_contains (λ l. Contains s.owners l.owner) s.leases lease v.lease_owners has) in
    omega arith)))

-- the leases that the store holds for the owner of the chosen seat are those of its own entries
pub leases_are_own : (s : State) (b : Benched) (owner : ℕ) → IsBench s b → (seat_of b).owner ≡ Some owner → leases_of owner s ≡ own_now (view_of b)
leases_are_own s b owner bench is_owner =
    ap (λ (t : State). leases_of owner t) bench.at
    ∙ leases_by_own b.start owner b.seen bench.valid bench.legal
    ∙ ap (λ (leases : List Lease). own_leases owner leases (own owner b.seen)) (none_yet b.start owner bench.valid (chosen_came s b owner bench is_owner).0)
    ∙ ap (λ (o : Option ℕ). leases_by o (own_by o b.seen)) (sym is_owner)

none_by : (p : Lease → Bool) (lease : Lease) (leases : List Lease) (b : Bool) → p lease ≡ b → (filter p leases ≡ [] → list_any p leases ≡ false) → cond b (lease ∷ filter p leases) (filter p leases) ≡ [] → (p lease || list_any p leases) ≡ false
none_by p lease leases true e rest is = absurd cc
none_by p lease leases false e rest is = or_from (p lease) (list_any p leases) e (rest is)

-- where a filter leaves nothing, none passes
none_pass_by : (p : Lease → Bool) (leases : List Lease) → filter p leases ≡ [] → list_any p leases ≡ false
none_pass_by p [] e = refl
none_pass_by p (lease ∷ leases) e = none_by p lease leases (p lease) refl (none_pass_by p leases) e

closed_reply : (s : State) (owner : ℕ) → list_any (is_of_owner owner) s.leases ≡ false → (closed s owner).0 ≡ replies.Closed
closed_reply s owner none =
    ap (λ (r : Reply × State). r.0) (cond-false (list_any (is_of_owner owner) s.leases) (replies.Refused, s) (replies.Closed, record s { owners = filter (λ o. not (nat_eq o owner)) s.owners; holds = other_holds owner s.holds }) none)

-- an open owner without leases may go
pub close_replies : (s : State) (owner : ℕ) → is_open s owner ≡ true → leases_of owner s ≡ [] → (step s owner events.Close).0 ≡ replies.Closed
unfolding served
close_replies s owner there none =
    ap (λ (r : Reply × State). r.0) (open_is_served s owner events.Close there) ∙ closed_reply s owner (none_pass_by (is_of_owner owner) s.leases none)

-- the owner of the chosen seat may go where it holds no lease by its own entries
pub close_is_served : (s : State) (b : Benched) (owner : ℕ) → IsBench s b → (seat_of b).entered ≡ true → (seat_of b).owner ≡ Some owner → own_now (view_of b) ≡ [] → (step s owner events.Close).0 ≡ replies.Closed
close_is_served s b owner bench entered is_owner none =
    close_replies s owner (chosen_is_open s b owner bench entered is_owner) (leases_are_own s b owner bench is_owner ∙ none)

-- in each, t says whether the first lease has the number, and o whether it is the owner's
found_by : (id owner : ℕ) (lease : Lease) (leases : List Lease) (t o : Bool) → has_id id lease ≡ t → is_of_owner owner lease ≡ o
    → (list_any (has_id id) (filter (is_of_owner owner) leases) ≡ true → (it : Lease) × (find (λ l. has_id id l && is_of_owner owner l) leases ≡ Some it))
    → list_any (has_id id) (cond o (lease ∷ filter (is_of_owner owner) leases) (filter (is_of_owner owner) leases)) ≡ true
    → (it : Lease) × (cond (t && o) (Some lease) (find (λ l. has_id id l && is_of_owner owner l) leases) ≡ Some it)
found_by id owner lease leases true true e f rest has = (lease, refl)
found_by id owner lease leases true false e f rest has = rest has
found_by id owner lease leases false false e f rest has = rest has
found_by id owner lease leases false true e f rest has =
    rest (elim (or_cases (has_id id lease) (list_any (has_id id) (filter (is_of_owner owner) leases)) has) [
      | inl is ↦ absurd cc
      | inr more ↦ more
    ])

own_found : (id owner : ℕ) (leases : List Lease) → list_any (has_id id) (filter (is_of_owner owner) leases) ≡ true → (it : Lease) × (find (λ l. has_id id l && is_of_owner owner l) leases ≡ Some it)
own_found id owner [] has = absurd cc
own_found id owner (lease ∷ leases) has = found_by id owner lease leases (has_id id lease) (is_of_owner owner lease) refl refl (own_found id owner leases) has

-- An owner holds this lease: its Confirm tells how it stands, and its Release is served.
pub record IsHeld (s : State) (owner id : ℕ) : Type 0 where
  pub lease : Lease
  pub is_own : own_lease s owner id ≡ Some lease
  pub confirm : (files : Bool) → (step s owner (events.Confirm id files)).0 ≡ replies.Stands (standing s.rows lease.root files)
  pub release : (step s owner (events.Release id)).0 ≡ replies.Released

confirm_replies : (s : State) (owner id : ℕ) (files : Bool) (lease : Lease) → is_open s owner ≡ true → own_lease s owner id ≡ Some lease → (step s owner (events.Confirm id files)).0 ≡ replies.Stands (standing s.rows lease.root files)
unfolding served
confirm_replies s owner id files lease there is =
    ap (λ (r : Reply × State). r.0) (open_is_served s owner (events.Confirm id files) there) ∙ ap (λ (o : Option Lease). (confirmed s files o).0) is

release_replies : (s : State) (owner id : ℕ) (lease : Lease) → is_open s owner ≡ true → own_lease s owner id ≡ Some lease → (step s owner (events.Release id)).0 ≡ replies.Released
unfolding served
release_replies s owner id lease there is =
    ap (λ (r : Reply × State). r.0) (open_is_served s owner (events.Release id) there) ∙ ap (λ (o : Option Lease). (released s id o).0) is

-- a lease that the owner of the chosen seat holds by its own entries is held in the store
pub held_is_own : (s : State) (b : Benched) (owner id : ℕ) → IsBench s b → (seat_of b).entered ≡ true → (seat_of b).owner ≡ Some owner → holds (view_of b) id ≡ true → IsHeld s owner id
held_is_own s b owner id bench entered is_owner has =
    let there : is_open s owner ≡ true = chosen_is_open s b owner bench entered is_owner in
    let found = own_found id owner s.leases (ap (λ (leases : List Lease). list_any (has_id id) leases) (leases_are_own s b owner bench is_owner) ∙ has) in
    record {
      lease = found.0;
      is_own = found.1;
      confirm = λ files. confirm_replies s owner id files found.0 there found.1;
      release = release_replies s owner id found.0 there found.1;
    }
