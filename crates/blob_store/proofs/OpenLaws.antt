-- Whether an owner is open, by its own entries.
use Rattle.std.proofs.Common.{◌≡◌, ◌≢◌, ℕ, Bool, true, false, cond, not, List, [], ◌∷◌, ◌++◌, refl, sym, ap, subst, ◌∙◌}
use Rattle.std.specs.Prelude.{filter, nat_eq, ◌||◌}
use Rattle.std.specs.List.{list_any}
use Rattle.std.proofs.lemmas.Bool.{eqb-true, eqb-false, eq-eqb, ne_eqb, or_left, or_right, or_from}
use Rattle.std.proofs.lemmas.List.Folds.{list_any-append}
use Rattle.store_core.specs.declared.event.Event.{Event}
use Rattle.store_core.specs.declared.event.Event.TheVariants as events
use Rattle.store_core.specs.declared.event.Reply.{Reply}
use Rattle.store_core.specs.declared.event.Reply.TheVariants as replies
use Rattle.store_core.specs.State.{State, is_of_owner, other_holds}
use Rattle.store_core.specs.Step.{is_open, closed, served, step}
use Rattle.store_core.specs.History.{Entry, state, IsNumbered, IsLegalAt, Legal, own}
use Rattle.store_core.proofs.Entries.{step_served}
use Rattle.turn_lock.specs.Noted.{entry}
use Rattle.blob_store.specs.Doors.{in_after, is_in}
use Rattle.blob_store.proofs.BenchSteps.{step_owners}

-- ---- lists of owners

any_more : (o next : ℕ) (owners : List ℕ) → o ≢ next → list_any (nat_eq o) (owners ++ next ∷ []) ≡ list_any (nat_eq o) owners
any_more o next [] other = or_from (nat_eq o next) false (ne_eqb o next other) refl
any_more o next (first ∷ owners) other = ap (λ (b : Bool). nat_eq o first || b) (any_more o next owners other)

any_last : (o : ℕ) (owners : List ℕ) → list_any (nat_eq o) (owners ++ o ∷ []) ≡ true
any_last o owners =
    list_any-append (nat_eq o) owners (o ∷ [])
    ∙ or_right (list_any (nat_eq o) owners) (list_any (nat_eq o) (o ∷ [])) (or_left (nat_eq o o) false (eq-eqb o o refl))

stays_by : (o owner first : ℕ) (rest left : List ℕ) (b : Bool) → nat_eq first owner ≡ b → o ≢ owner → list_any (nat_eq o) left ≡ list_any (nat_eq o) rest
    → list_any (nat_eq o) (cond (not b) (first ∷ left) left) ≡ (nat_eq o first || list_any (nat_eq o) rest)
stays_by o owner first rest left false e other same = ap (λ (b : Bool). nat_eq o first || b) same
stays_by o owner first rest left true e other same =
    same ∙ ap (λ (b : Bool). b || list_any (nat_eq o) rest) (sym (ne_eqb o first (λ is. other (is ∙ eqb-true first owner e))))

any_filter_other : (o owner : ℕ) (owners : List ℕ) → o ≢ owner → list_any (nat_eq o) (filter (λ x. not (nat_eq x owner)) owners) ≡ list_any (nat_eq o) owners
any_filter_other o owner [] other = refl
any_filter_other o owner (first ∷ owners) other =
    stays_by o owner first owners (filter (λ x. not (nat_eq x owner)) owners) (nat_eq first owner) refl other (any_filter_other o owner owners other)

goes_by : (o first : ℕ) (left : List ℕ) (b : Bool) → nat_eq first o ≡ b → list_any (nat_eq o) left ≡ false → list_any (nat_eq o) (cond (not b) (first ∷ left) left) ≡ false
goes_by o first left true e none = none
goes_by o first left false e none = or_from (nat_eq o first) (list_any (nat_eq o) left) (ne_eqb o first (λ is. eqb-false first o e (sym is))) none

any_filter_same : (o : ℕ) (owners : List ℕ) → list_any (nat_eq o) (filter (λ x. not (nat_eq x o)) owners) ≡ false
any_filter_same o [] = refl
any_filter_same o (first ∷ owners) = goes_by o first (filter (λ x. not (nat_eq x o)) owners) (nat_eq first o) refl (any_filter_same o owners)

-- ---- one entry

closes_by : (s : State) (owner : ℕ) (reply : Reply) (b : Bool)
    → reply ≡ (cond {A = Reply × State} b (replies.Refused, s) (replies.Closed, record s { owners = filter (λ o. not (nat_eq o owner)) s.owners; holds = other_holds owner s.holds })).0 → reply ≢ replies.Refused
    → (cond {A = Reply × State} b (replies.Refused, s) (replies.Closed, record s { owners = filter (λ o. not (nat_eq o owner)) s.owners; holds = other_holds owner s.holds })).1.owners ≡ filter (λ o. not (nat_eq o owner)) s.owners
closes_by s owner reply true e h = absurd (h e)
closes_by s owner reply false e h = refl

closes : (s : State) (owner : ℕ) (reply : Reply) → IsLegalAt s (entry owner events.Close reply) → (step s owner events.Close).1.owners ≡ filter (λ o. not (nat_eq o owner)) s.owners
unfolding served
closes s owner reply legal =
    let is : step s owner events.Close ≡ closed s owner = step_served s (entry owner events.Close reply) legal in
    ap (λ (r : Reply × State). r.1.owners) is
    ∙ closes_by s owner reply (list_any (is_of_owner owner) s.leases) (legal.reply ∙ ap (λ (r : Reply × State). r.0) is) legal.served

opens : (s : State) (owner : ℕ) (reply : Reply) → IsLegalAt s (entry owner events.Open reply) → ((step s owner events.Open).1.owners ≡ s.owners ++ s.next_owner ∷ []) × (owner ≡ s.next_owner)
unfolding step served
opens s owner reply legal = (refl, subst (IsNumbered owner) legal.reply legal.numbered)

same_owners : (s : State) (o owner : ℕ) (event : Event) (b : Bool) → event ≢ events.Open → event ≢ events.Close → in_after event (is_open s o) ≡ is_open s o
    → is_open (step s owner event).1 o ≡ cond b (in_after event (is_open s o)) (is_open s o)
same_owners s o owner event b not_open not_close same = ap (list_any (nat_eq o)) (step_owners s owner event not_open not_close).0 ∙ sym (either b)
  where
    either : (b : Bool) → cond b (in_after event (is_open s o)) (is_open s o) ≡ is_open s o
    either true = same
    either false = refl

-- b says whether the entry is the owner's
entry_open : (s : State) (o owner : ℕ) (event : Event) (reply : Reply) (b : Bool) → nat_eq owner o ≡ b → IsLegalAt s (entry owner event reply)
    → is_open (step s owner event).1 o ≡ cond b (in_after event (is_open s o)) (is_open s o)
entry_open s o owner events.Open reply true e legal =
    let open_now = opens s owner reply legal in
    ap (list_any (nat_eq o)) open_now.0 ∙ ap (λ (n : ℕ). list_any (nat_eq o) (s.owners ++ n ∷ [])) (sym open_now.1 ∙ eqb-true owner o e) ∙ any_last o s.owners
entry_open s o owner events.Open reply false e legal =
    let open_now = opens s owner reply legal in
    ap (list_any (nat_eq o)) open_now.0 ∙ any_more o s.next_owner s.owners (λ is. eqb-false owner o e (open_now.1 ∙ sym is))
entry_open s o owner events.Close reply true e legal =
    ap (list_any (nat_eq o)) (closes s owner reply legal) ∙ ap (λ (n : ℕ). list_any (nat_eq o) (filter (λ x. not (nat_eq x n)) s.owners)) (eqb-true owner o e) ∙ any_filter_same o s.owners
entry_open s o owner events.Close reply false e legal =
    ap (list_any (nat_eq o)) (closes s owner reply legal) ∙ any_filter_other o owner s.owners (λ is. eqb-false owner o e (sym is))
entry_open s o owner (events.Put d edges) reply b e legal = same_owners s o owner (events.Put d edges) b (λ z. absurd cc) (λ z. absurd cc) refl
entry_open s o owner (events.Find ds) reply b e legal = same_owners s o owner (events.Find ds) b (λ z. absurd cc) (λ z. absurd cc) refl
entry_open s o owner (events.Read d) reply b e legal = same_owners s o owner (events.Read d) b (λ z. absurd cc) (λ z. absurd cc) refl
entry_open s o owner (events.Lease root kind) reply b e legal = same_owners s o owner (events.Lease root kind) b (λ z. absurd cc) (λ z. absurd cc) refl
entry_open s o owner (events.Confirm id files) reply b e legal = same_owners s o owner (events.Confirm id files) b (λ z. absurd cc) (λ z. absurd cc) refl
entry_open s o owner (events.Release id) reply b e legal = same_owners s o owner (events.Release id) b (λ z. absurd cc) (λ z. absurd cc) refl
entry_open s o owner (events.Damage d) reply b e legal = same_owners s o owner (events.Damage d) b (λ z. absurd cc) (λ z. absurd cc) refl
entry_open s o owner events.Pass reply b e legal = same_owners s o owner events.Pass b (λ z. absurd cc) (λ z. absurd cc) refl
entry_open s o owner events.Usage reply b e legal = same_owners s o owner events.Usage b (λ z. absurd cc) (λ z. absurd cc) refl

-- ---- a history

own_step : (o : ℕ) (e : Entry) (rest : List Entry) (was : Bool) (b : Bool) → is_in (cond b (in_after e.event was) was) rest ≡ is_in was (cond b (e ∷ rest) rest)
own_step o e rest was true = refl
own_step o e rest was false = refl

-- an owner is open where its own entries say so
pub open_by_own : (s : State) (o : ℕ) (entries : List Entry) → Legal s entries → is_open (state s entries) o ≡ is_in (is_open s o) (own o entries)
unfolding state
open_by_own s o [] legal = refl
open_by_own s o (e ∷ entries) legal =
    open_by_own (step s e.owner e.event).1 o entries legal.1
    ∙ ap (λ (b : Bool). is_in b (own o entries)) (entry_open s o e.owner e.event e.reply (nat_eq e.owner o) refl legal.0)
    ∙ own_step o e (own o entries) (is_open s o) (nat_eq e.owner o)

pub is_in_more : (was : Bool) (mine : List Entry) (e : Entry) → is_in was (mine ++ e ∷ []) ≡ in_after e.event (is_in was mine)
is_in_more was [] e = refl
is_in_more was (first ∷ mine) e = is_in_more (in_after first.event was) mine e
