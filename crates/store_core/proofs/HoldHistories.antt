-- What an owner holds over a history, until its Close.
use Rattle.std.proofs.Common.{◌≡◌, ℕ, Bool, true, false, not, List, [], ◌∷◌, ◌++◌, Option, Some, None, refl, sym, ap, subst, ◌∙◌}
use Rattle.std.specs.Prelude.{filter, nat_eq, ◌&&◌}
use Rattle.std.specs.List.{list_any}
use Rattle.std.proofs.lemmas.Bool.{cond_both, cond-true, and_from, and_parts, not_from_false, or_parts, or_right}
use Rattle.digest_types.specs.Name.{HashAndSize}
use Rattle.store_core.specs.declared.state.Lease.{Lease}
use Rattle.store_core.specs.declared.event.Event.{Event}
use Rattle.store_core.specs.declared.event.Event.TheVariants as events
use Rattle.store_core.specs.declared.event.Reply.{Reply}
use Rattle.store_core.specs.declared.event.Reply.TheVariants as replies
use Rattle.store_core.specs.State.{State, Holds, Valid, is_empty, is_of_owner, is_session, has_row, has_hold, is_held, with_hold, other_holds, roots}
use Rattle.store_core.specs.Reach.{blobs, is_reached}
use Rattle.store_core.specs.Pass.{is_guarded}
use Rattle.store_core.specs.Step.{put, read, own_lease, confirmed, released, closed, tells_there, holds_after, holding, served, step}
use Rattle.store_core.specs.History.{Entry, state, IsLegalAt, Legal}
use Rattle.store_core.specs.Guard.{asks_for, is_use_of, closes, is_close}
use Rattle.store_core.proofs.Entries.{step_served}
use Rattle.store_core.proofs.Histories.{state_after, legal_after, valid_after}
use Rattle.store_core.proofs.HoldLaws.{has_with, has_more, has_others, held_has}
use Rattle.store_core.proofs.Kept.{follows_step}
use Rattle.store_core.proofs.Same.{equal_from_same}
use Rattle.store_core.proofs.Uses.{RowsAlone, put_alone, read_alone}

-- an owner holds a digest
abbrev Has : ℕ → HashAndSize → State → Type 0
Has owner d s = has_hold s.holds owner d ≡ true

-- ---- it stays

-- a use takes no hold away
used_has : (s : State) (o owner : ℕ) (d q : HashAndSize) (r : Reply × State) → RowsAlone s r.1 → Has o q s → Has o q (holding owner d r).1
used_has s o owner d q r e has =
    let before : Has o q r.1 = subst (Has o q) (sym e) has in
    cond_both (tells_there r.0) (record r.1 { holds = holds_after r.1.guard owner d r.1.holds }) r.1 (Has o q)
    (λ _. cond_both (is_session r.1.guard && not (is_empty d)) (with_hold owner d r.1.holds) r.1.holds (λ holds. has_hold holds o q ≡ true) (λ _. has_more owner o d q r.1.holds before) (λ _. before))
    (λ _. before)

confirmed_has : (s : State) (files : Bool) (found : Option Lease) (o : ℕ) (q : HashAndSize) → Has o q s → Has o q (confirmed s files found).1
confirmed_has s files None o q has = has
confirmed_has s files (Some lease) o q has = has

released_has : (s : State) (id : ℕ) (found : Option Lease) (o : ℕ) (q : HashAndSize) → Has o q s → Has o q (released s id found).1
released_has s id None o q has = has
released_has s id (Some lease) o q has = has

-- another owner's Close leaves it
closed_has : (s : State) (owner o : ℕ) (q : HashAndSize) → nat_eq owner o ≡ false → Has o q s → Has o q (closed s owner).1
closed_has s owner o q other has =
    let refused : Reply × State = (replies.Refused, s) in
    let gone : Reply × State = (replies.Closed, record s { owners = filter (λ x. not (nat_eq x owner)) s.owners; holds = other_holds owner s.holds }) in
    cond_both (list_any (is_of_owner owner) s.leases) refused gone (λ (r : Reply × State). Has o q r.1) (λ _. has) (λ _. has_others owner o q s.holds other has)

not_closer : (b : Bool) → (b && true) ≡ false → b ≡ false
not_closer true e = e
not_closer false e = refl

-- each event but the owner's Close
served_has : (s : State) (owner : ℕ) (event : Event) (o : ℕ) (q : HashAndSize) → (nat_eq owner o && closes event) ≡ false → Has o q s → Has o q (served s owner event).1
unfolding served
served_has s owner events.Open o q open_still has = has
served_has s owner (events.Put d edges) o q open_still has = used_has s o owner d q (put s d edges) (put_alone s d edges) has
served_has s owner (events.Find ds) o q open_still has = has
served_has s owner (events.Read d) o q open_still has = used_has s o owner d q (read s d) (read_alone s d) has
served_has s owner (events.Lease root kind) o q open_still has = has
served_has s owner (events.Confirm id files) o q open_still has = confirmed_has s files (own_lease s owner id) o q has
served_has s owner (events.Release id) o q open_still has = released_has s id (own_lease s owner id) o q has
served_has s owner (events.Damage d) o q open_still has = has
served_has s owner events.Pass o q open_still has = has
served_has s owner events.Usage o q open_still has = has
served_has s owner events.Close o q open_still has = closed_has s owner o q (not_closer (nat_eq owner o) open_still) has

step_has : (s : State) (entry : Entry) (o : ℕ) (q : HashAndSize) → IsLegalAt s entry → is_close o entry ≡ false → Has o q s → Has o q (step s entry.owner entry.event).1
step_has s entry o q legal open_still has =
    subst (λ (r : Reply × State). Has o q r.1) (sym (step_served s entry legal)) (served_has s entry.owner entry.event o q open_still has)

stays : (s : State) (entries : List Entry) (o : ℕ) (q : HashAndSize) → Legal s entries → list_any (is_close o) entries ≡ false → Has o q s → Has o q (state s entries)
unfolding state
stays s [] o q legal open_still has = has
stays s (entry ∷ entries) o q legal open_still has =
    let parts = or_parts (is_close o entry) (list_any (is_close o) entries) open_still in
    stays (step s entry.owner entry.event).1 entries o q legal.1 parts.1 (step_has s entry o q legal.0 parts.0 has)

-- ---- it comes

-- by a use under the session guard
use_has : (s : State) (owner : ℕ) (d : HashAndSize) (r : Reply × State) → RowsAlone s r.1 → is_session s.guard ≡ true → is_empty d ≡ false → tells_there r.0 ≡ true → Has owner d (holding owner d r).1
use_has s owner d r e session filled there =
    let guard : is_session r.1.guard ≡ true = ap (λ (t : State). is_session t.guard) e ∙ session in
    let now : (is_session r.1.guard && not (is_empty d)) ≡ true = and_from (is_session r.1.guard) (not (is_empty d)) guard (not_from_false (is_empty d) filled) in
    let holds : holds_after r.1.guard owner d r.1.holds ≡ with_hold owner d r.1.holds = cond-true (is_session r.1.guard && not (is_empty d)) (with_hold owner d r.1.holds) r.1.holds now in
    let after : (holding owner d r).1 ≡ record r.1 { holds = holds_after r.1.guard owner d r.1.holds } = cond-true (tells_there r.0) (record r.1 { holds = holds_after r.1.guard owner d r.1.holds }) r.1 there in
    ap (λ (t : State). has_hold t.holds owner d) after ∙ ap (λ (xs : List Holds). has_hold xs owner d) holds ∙ has_with owner d r.1.holds

served_use : (s : State) (owner : ℕ) (event : Event) (d : HashAndSize) → is_session s.guard ≡ true → is_empty d ≡ false → asks_for d event ≡ true → tells_there (served s owner event).0 ≡ true → Has owner d (served s owner event).1
unfolding served
served_use s owner events.Open d session filled asked there = absurd cc
served_use s owner (events.Put p edges) d session filled asked there =
    let is : p ≡ d = equal_from_same p d asked in
    subst (λ x. Has owner x (holding owner p (put s p edges)).1) is (use_has s owner p (put s p edges) (put_alone s p edges) session (ap is_empty is ∙ filled) there)
served_use s owner (events.Find ds) d session filled asked there = absurd cc
served_use s owner (events.Read p) d session filled asked there =
    let is : p ≡ d = equal_from_same p d asked in
    subst (λ x. Has owner x (holding owner p (read s p)).1) is (use_has s owner p (read s p) (read_alone s p) session (ap is_empty is ∙ filled) there)
served_use s owner (events.Lease root kind) d session filled asked there = absurd cc
served_use s owner (events.Confirm id files) d session filled asked there = absurd cc
served_use s owner (events.Release id) d session filled asked there = absurd cc
served_use s owner (events.Damage p) d session filled asked there = absurd cc
served_use s owner events.Pass d session filled asked there = absurd cc
served_use s owner events.Usage d session filled asked there = absurd cc
served_use s owner events.Close d session filled asked there = absurd cc

-- by a legal entry
entry_use : (s : State) (entry : Entry) (d : HashAndSize) → IsLegalAt s entry → is_session s.guard ≡ true → is_empty d ≡ false → is_use_of d entry ≡ true → Has entry.owner d (step s entry.owner entry.event).1
entry_use s entry d legal session filled used =
    let is : step s entry.owner entry.event ≡ served s entry.owner entry.event = step_served s entry legal in
    let parts = and_parts (asks_for d entry.event) (tells_there entry.reply) used in
    let there : tells_there (served s entry.owner entry.event).0 ≡ true = ap tells_there (sym (legal.reply ∙ ap (λ (r : Reply × State). r.0) is)) ∙ parts.1 in
    subst (λ (r : Reply × State). Has entry.owner d r.1) (sym is) (served_use s entry.owner entry.event d session filled parts.0 there)

-- the guard stays what it is
guard_after : (s : State) (entries : List Entry) → (state s entries).guard ≡ s.guard
unfolding state
guard_after s [] = refl
guard_after s (entry ∷ entries) = guard_after (step s entry.owner entry.event).1 entries ∙ (follows_step s entry.owner entry.event).guard

-- from any place of a history
held_from : (s : State) (before entries : List Entry) (entry : Entry) (d : HashAndSize) → Valid s → is_session s.guard ≡ true → Legal s (before ++ entry ∷ entries)
    → is_use_of d entry ≡ true → is_empty d ≡ false → list_any (is_close entry.owner) entries ≡ false → is_held (state s (before ++ entry ∷ entries)).holds d ≡ true
unfolding state
held_from s before entries entry d v session legal used filled open_still =
    let t = state s before in
    let rest = legal_after s before (entry ∷ entries) legal in
    let first = entry_use t entry d rest.0 (ap is_session (guard_after s before) ∙ session) filled used in
    let last = stays (step t entry.owner entry.event).1 entries entry.owner d rest.1 open_still first in
    ap (λ (u : State). is_held u.holds d) (state_after s before (entry ∷ entries)) ∙ held_has entry.owner d (state (step t entry.owner entry.event).1 entries).holds last

pub holds_row : (s : State) (before entries : List Entry) (entry : Entry) (d : HashAndSize) → Valid s → is_session s.guard ≡ true → Legal s (before ++ entry ∷ entries)
    → is_use_of d entry ≡ true → is_empty d ≡ false → list_any (is_close entry.owner) entries ≡ false → has_row (state s (before ++ entry ∷ entries)).rows d ≡ true
holds_row s before entries entry d v session legal used filled open_still =
    (valid_after s (before ++ entry ∷ entries) v).hold_rows d (held_from s before entries entry d v session legal used filled open_still)

pub holds_guard : (s : State) (before entries : List Entry) (entry : Entry) (d : HashAndSize) → Valid s → is_session s.guard ≡ true → Legal s (before ++ entry ∷ entries)
    → is_use_of d entry ≡ true → is_empty d ≡ false → list_any (is_close entry.owner) entries ≡ false → is_guarded (state s (before ++ entry ∷ entries)) d ≡ true
holds_guard s before entries entry d v session legal used filled open_still =
    let t = state s (before ++ entry ∷ entries) in
    or_right (is_reached (blobs t.rows) (roots t.leases) d) (is_held t.holds d) (held_from s before entries entry d v session legal used filled open_still)
