-- What a legal entry does to the leases of its owner, and to those of others.
use Rattle.std.proofs.Common.{◌≡◌, ◌≢◌, ℕ, Bool, true, false, cond, not, List, [], ◌∷◌, ◌++◌, map, Option, Some, None, refl, sym, ap, subst, ◌∙◌}
use Rattle.std.specs.Prelude.{filter, nat_eq, Contains, ◌||◌, ◌&&◌}
use Rattle.std.specs.List.{list_any}
use Rattle.std.proofs.lemmas.Bool.{cond-true, cond-false, and_parts, eqb-true, eqb-false, eq-eqb, false_from_ne_true, not_from_false, ne_eqb}
use Rattle.std.proofs.lemmas.List.{append-nil}
use Rattle.std.proofs.lemmas.List.Elements.{filter-append}
use Rattle.directory_canon.specs.declared.node.Edge.{Edge}
use Rattle.store_core.specs.declared.state.Lease.{Lease}
use Rattle.store_core.specs.declared.event.Event.{Event}
use Rattle.store_core.specs.declared.event.Event.TheVariants as events
use Rattle.store_core.specs.declared.event.Reply.{Reply}
use Rattle.store_core.specs.declared.event.Reply.TheVariants as replies
use Rattle.store_core.specs.State.{State, Valid, DistinctIds, has_id, is_of_owner, other_holds}
use Rattle.store_core.specs.Step.{is_open, is_opening, own_lease, confirmed, released, closed, served, step}
use Rattle.store_core.specs.History.{Entry, state, IsLegalAt, Legal, own, new_lease, own_after, own_leases, leases_of}
use Rattle.store_core.proofs.Elements.{every_has, find_has, filter_inner, filter_swap}
use Rattle.store_core.proofs.Kept.{chosen, follows_step}
use Rattle.store_core.proofs.OwnerLaws.{one_lease}
use Rattle.store_core.proofs.Uses.{put_uses, read_uses}

-- ---- a legal entry is served

pub served_by : (b : Bool) (x : Reply × State) (s : State) (reply : Reply) → reply ≡ (cond b x (replies.Refused, s)).0 → reply ≢ replies.Refused → b ≡ true
served_by true x s reply e h = refl
served_by false x s reply e h = absurd (h e)

-- its owner is open, or it opens one
pub step_served : (s : State) (entry : Entry) → IsLegalAt s entry → step s entry.owner entry.event ≡ served s entry.owner entry.event
unfolding step
step_served s entry legal =
    let x = served s entry.owner entry.event in
    let b = is_opening entry.event || is_open s entry.owner in
    cond-true b x (replies.Refused, s) (served_by b x s entry.reply legal.reply legal.served)

-- ---- events that change no leases

pub confirmed_leases : (s : State) (files : Bool) (o : Option Lease) → (confirmed s files o).1.leases ≡ s.leases
confirmed_leases s files None = refl
confirmed_leases s files (Some lease) = refl

pub closed_leases : (s : State) (owner : ℕ) → (closed s owner).1.leases ≡ s.leases
closed_leases s owner =
    chosen (λ t. t.leases ≡ s.leases) (list_any (is_of_owner owner) s.leases) (replies.Refused, s) (replies.Closed, record s { owners = filter (λ o. not (nat_eq o owner)) s.owners; holds = other_holds owner s.holds })
    (λ _. refl) (λ _. refl)

-- ---- leases that come and go

-- what is released is the owner's, and the one with its number
pub released_is_own : (s : State) (owner id : ℕ) (found lease : Lease) → DistinctIds s.leases → own_lease s owner id ≡ Some found → Contains s.leases lease → has_id id lease ≡ true → lease.owner ≡ owner
released_is_own s owner id found lease distinct e has is =
    let h = find_has (λ l. has_id id l && is_of_owner owner l) s.leases found e in
    let parts = and_parts (has_id id found) (is_of_owner owner found) h.1 in
    let same : lease ≡ found = one_lease s.leases lease found distinct has h.0 (eqb-true lease.id id is ∙ sym (eqb-true found.id id parts.0)) in
    ap (λ (l : Lease). l.owner) same ∙ eqb-true found.owner owner parts.1

-- a lease is added to those of its owner, and to no one else's
taken_own : (s : State) (owner : ℕ) (root : Edge) (reply : Reply) → reply ≡ replies.Leased s.next_lease
    → filter (is_of_owner owner) (s.leases ++ record { id = s.next_lease; owner = owner; root = root } ∷ [])
    ≡ filter (is_of_owner owner) s.leases ++ map (λ id. record { id = id; owner = owner; root = root }) (new_lease reply)
taken_own s owner root reply e =
    let lease : Lease = record { id = s.next_lease; owner = owner; root = root } in
    filter-append (is_of_owner owner) s.leases (lease ∷ [])
    ∙ ap (λ rest. filter (is_of_owner owner) s.leases ++ rest) (cond-true (nat_eq owner owner) (lease ∷ []) [] (eq-eqb owner owner refl))
    ∙ ap (λ r. filter (is_of_owner owner) s.leases ++ map (λ id. record { id = id; owner = owner; root = root }) (new_lease r)) (sym e)

taken_other : (s : State) (owner who : ℕ) (root : Edge) → owner ≢ who
    → filter (is_of_owner who) (s.leases ++ record { id = s.next_lease; owner = owner; root = root } ∷ []) ≡ filter (is_of_owner who) s.leases
taken_other s owner who root other =
    let lease : Lease = record { id = s.next_lease; owner = owner; root = root } in
    filter-append (is_of_owner who) s.leases (lease ∷ [])
    ∙ ap (λ rest. filter (is_of_owner who) s.leases ++ rest) (cond-false (nat_eq owner who) (lease ∷ []) [] (ne_eqb owner who other))
    ∙ append-nil (filter (is_of_owner who) s.leases)

-- a lease goes from those of its owner, and from no one else's
released_own : (s : State) (owner id : ℕ) (o : Option Lease) (reply : Reply) → reply ≡ (released s id o).0 → reply ≢ replies.Refused
    → leases_of owner (released s id o).1 ≡ filter (λ other. not (has_id id other)) (leases_of owner s)
released_own s owner id None reply e h = absurd (h e)
released_own s owner id (Some lease) reply e h = filter_swap (is_of_owner owner) (λ other. not (has_id id other)) s.leases

released_other : (s : State) (owner who id : ℕ) (o : Option Lease) → own_lease s owner id ≡ o → DistinctIds s.leases → owner ≢ who
    → leases_of who (released s id o).1 ≡ leases_of who s
released_other s owner who id None e distinct other = refl
released_other s owner who id (Some found) e distinct other =
    filter_inner (λ l. not (has_id id l)) (is_of_owner who) s.leases
    (every_has (λ l. is_of_owner who l ≡ true → not (has_id id l) ≡ true) s.leases
    (λ l has is. not_from_false (has_id id l) (false_from_ne_true (has_id id l) (λ named. other (sym (released_is_own s owner id found l distinct e has named) ∙ eqb-true l.owner who is)))))

-- ---- a step, by whose it is

-- a step of the owner
served_own : (s : State) (owner : ℕ) (event : Event) (reply : Reply) → reply ≡ (served s owner event).0 → reply ≢ replies.Refused
    → leases_of owner (served s owner event).1 ≡ own_after owner event reply (leases_of owner s)
unfolding served
served_own s owner events.Open reply e h = refl
served_own s owner (events.Put d edges) reply e h = ap (filter (is_of_owner owner)) (put_uses s owner d edges).leases
served_own s owner (events.Find ds) reply e h = refl
served_own s owner (events.Read d) reply e h = ap (filter (is_of_owner owner)) (read_uses s owner d).leases
served_own s owner (events.Lease root kind) reply e h = taken_own s owner (record { kind = kind; digest = root }) reply e
served_own s owner (events.Confirm id files) reply e h = ap (filter (is_of_owner owner)) (confirmed_leases s files (own_lease s owner id))
served_own s owner (events.Release id) reply e h = released_own s owner id (own_lease s owner id) reply e h
served_own s owner (events.Damage d) reply e h = refl
served_own s owner events.Pass reply e h = refl
served_own s owner events.Usage reply e h = refl
served_own s owner events.Close reply e h = ap (filter (is_of_owner owner)) (closed_leases s owner)

-- a step of another owner
served_other : (s : State) (owner who : ℕ) (event : Event) → DistinctIds s.leases → owner ≢ who → leases_of who (served s owner event).1 ≡ leases_of who s
unfolding served
served_other s owner who events.Open distinct other = refl
served_other s owner who (events.Put d edges) distinct other = ap (filter (is_of_owner who)) (put_uses s owner d edges).leases
served_other s owner who (events.Find ds) distinct other = refl
served_other s owner who (events.Read d) distinct other = ap (filter (is_of_owner who)) (read_uses s owner d).leases
served_other s owner who (events.Lease root kind) distinct other = taken_other s owner who (record { kind = kind; digest = root }) other
served_other s owner who (events.Confirm id files) distinct other = ap (filter (is_of_owner who)) (confirmed_leases s files (own_lease s owner id))
served_other s owner who (events.Release id) distinct other = released_other s owner who id (own_lease s owner id) refl distinct other
served_other s owner who (events.Damage d) distinct other = refl
served_other s owner who events.Pass distinct other = refl
served_other s owner who events.Usage distinct other = refl
served_other s owner who events.Close distinct other = ap (filter (is_of_owner who)) (closed_leases s owner)

-- the same for an entry
step_own : (s : State) (entry : Entry) → IsLegalAt s entry → leases_of entry.owner (step s entry.owner entry.event).1 ≡ own_after entry.owner entry.event entry.reply (leases_of entry.owner s)
step_own s entry legal =
    let is : step s entry.owner entry.event ≡ served s entry.owner entry.event = step_served s entry legal in
    ap (λ (r : Reply × State). leases_of entry.owner r.1) is
    ∙ served_own s entry.owner entry.event entry.reply (legal.reply ∙ ap (λ (r : Reply × State). r.0) is) legal.served

step_other : (s : State) (entry : Entry) (who : ℕ) → Valid s → IsLegalAt s entry → entry.owner ≢ who → leases_of who (step s entry.owner entry.event).1 ≡ leases_of who s
step_other s entry who v legal other =
    ap (λ (r : Reply × State). leases_of who r.1) (step_served s entry legal) ∙ served_other s entry.owner who entry.event v.lease_ids other

-- ---- a history

-- in it, b says whether the entry is the owner's
own_by : (s : State) (owner : ℕ) (entry : Entry) (rest : List Entry) (b : Bool) → nat_eq entry.owner owner ≡ b → Valid s → IsLegalAt s entry
    → own_leases owner (leases_of owner (step s entry.owner entry.event).1) rest ≡ own_leases owner (leases_of owner s) (cond b (entry ∷ rest) rest)
own_by s owner entry rest true e v legal =
    let t = (step s entry.owner entry.event).1 in
    ap (λ (leases : List Lease). own_leases owner leases rest)
    (subst (λ o. leases_of o t ≡ own_after o entry.event entry.reply (leases_of o s)) (eqb-true entry.owner owner e) (step_own s entry legal))
own_by s owner entry rest false e v legal =
    ap (λ (leases : List Lease). own_leases owner leases rest) (step_other s entry owner v legal (eqb-false entry.owner owner e))

-- the leases of an owner follow from its own entries
pub leases_by_own : (s : State) (owner : ℕ) (entries : List Entry) → Valid s → Legal s entries → leases_of owner (state s entries) ≡ own_leases owner (leases_of owner s) (own owner entries)
unfolding state
leases_by_own s owner [] v legal = refl
leases_by_own s owner (entry ∷ entries) v legal =
    leases_by_own (step s entry.owner entry.event).1 owner entries ((follows_step s entry.owner entry.event).valid v) legal.1
    ∙ own_by s owner entry (own owner entries) (nat_eq entry.owner owner) refl v legal.0
