-- The owners of a legal history, and the number of the next one.
use Rattle.std.proofs.Common.{◌≡◌, ◌≢◌, ℕ, ◌+◌, ◌-◌, ◌≤◌, Bool, true, cond, not, min, List, [], ◌∷◌, ◌++◌, length, Option, Some, None, eqb, eq-eqb, ne_eqb, refl, sym, ap, subst, ◌∙◌, append_assoc, arith}
use Rattle.std.specs.Prelude.{filter, nat_lt, ◌||◌}
use Rattle.std.specs.List.{list_any}
use Rattle.std.proofs.lemmas.Bool.{cond_both}
use Rattle.std.proofs.lemmas.List.{append-nil, append_cancel_left}
use Rattle.std.proofs.lemmas.List.Elements.{filter-append}
use Rattle.digest_types.specs.Name.{HashAndSize}
use Rattle.directory_canon.specs.declared.node.Edge.{Edge}
use Rattle.store_core.specs.declared.state.Row.{Row}
use Rattle.store_core.specs.declared.state.Lease.{Lease}
use Rattle.store_core.specs.declared.event.Event.{Event}
use Rattle.store_core.specs.declared.event.Event.TheVariants as events
use Rattle.store_core.specs.declared.event.Reply.{Reply}
use Rattle.store_core.specs.declared.event.Reply.TheVariants as replies
use Rattle.store_core.specs.State.{State, is_of_owner, other_holds}
use Rattle.store_core.specs.Step.{is_open, is_opening, own_lease, confirmed, released, closed, served, step}
use Rattle.store_core.specs.History.{Entry, state, IsNumbered, IsLegalAt, Legal, own}
use Rattle.turn_lock.specs.Views.{Extends}
use Rattle.store_core.proofs.Kept.{chosen}
use Rattle.store_core.proofs.Histories.{state_after}
use Rattle.store_core.proofs.Uses.{put_uses, read_uses}

-- ---- the number of the next owner never falls

confirmed_next : (s : State) (files : Bool) (o : Option Lease) → (confirmed s files o).1.next_owner ≡ s.next_owner
confirmed_next s files None = refl
confirmed_next s files (Some lease) = refl

released_next : (s : State) (id : ℕ) (o : Option Lease) → (released s id o).1.next_owner ≡ s.next_owner
released_next s id None = refl
released_next s id (Some lease) = refl

closed_next : (s : State) (owner : ℕ) → (closed s owner).1.next_owner ≡ s.next_owner
closed_next s owner =
    chosen (λ t. t.next_owner ≡ s.next_owner) (list_any (is_of_owner owner) s.leases) (replies.Refused, s) (replies.Closed, record s { owners = filter (λ o. not (eqb o owner)) s.owners; holds = other_holds owner s.holds })
    (λ _. refl) (λ _. refl)

served_next : (s : State) (owner : ℕ) (event : Event) → s.next_owner ≤ (served s owner event).1.next_owner
unfolding served
served_next s owner events.Open = omega arith
served_next s owner (events.Put d edges) = let e = (put_uses s owner d edges).next_owner in omega arith
served_next s owner (events.Find ds) = omega arith
served_next s owner (events.Read d) = let e = (read_uses s owner d).next_owner in omega arith
served_next s owner (events.Lease root kind) = omega arith
served_next s owner (events.Confirm id files) = let e = confirmed_next s files (own_lease s owner id) in omega arith
served_next s owner (events.Release id) = let e = released_next s id (own_lease s owner id) in omega arith
served_next s owner (events.Damage d) = omega arith
served_next s owner events.Pass = omega arith
served_next s owner events.Usage = omega arith
served_next s owner events.Close = let e = closed_next s owner in omega arith

pub step_next : (s : State) (owner : ℕ) (event : Event) → s.next_owner ≤ (step s owner event).1.next_owner
unfolding step
step_next s owner event =
    chosen (λ t. s.next_owner ≤ t.next_owner) (is_opening event || is_open s owner) (served s owner event) (replies.Refused, s) (λ _. served_next s owner event) (λ _. omega arith)

-- ---- who opens gets that number

opens_event : (s : State) (owner : ℕ) (event : Event) (reply : Reply) → reply ≡ (step s owner event).0 → IsNumbered owner reply → is_opening event ≡ true
    → (owner ≡ s.next_owner) × ((step s owner event).1.next_owner ≡ s.next_owner + 1)
unfolding step served
opens_event s owner events.Open reply is numbered e = (subst (IsNumbered owner) is numbered, refl)
opens_event s owner (events.Put d edges) reply is numbered e = absurd cc
opens_event s owner (events.Find ds) reply is numbered e = absurd cc
opens_event s owner (events.Read d) reply is numbered e = absurd cc
opens_event s owner (events.Lease root kind) reply is numbered e = absurd cc
opens_event s owner (events.Confirm id files) reply is numbered e = absurd cc
opens_event s owner (events.Release id) reply is numbered e = absurd cc
opens_event s owner (events.Damage d) reply is numbered e = absurd cc
opens_event s owner events.Pass reply is numbered e = absurd cc
opens_event s owner events.Usage reply is numbered e = absurd cc
opens_event s owner events.Close reply is numbered e = absurd cc

pub opens_next : (s : State) (e : Entry) → IsLegalAt s e → is_opening e.event ≡ true → (e.owner ≡ s.next_owner) × ((step s e.owner e.event).1.next_owner ≡ s.next_owner + 1)
opens_next s e legal is = opens_event s e.owner e.event e.reply legal.reply legal.numbered is

-- ---- one entry more

pub state_none : (s : State) → s ≡ state s []
unfolding state
state_none s = refl

pub state_more : (s : State) (log : List Entry) (e : Entry) → state s (log ++ e ∷ []) ≡ (step (state s log) e.owner e.event).1
unfolding state
state_more s log e = state_after s log (e ∷ [])

pub legal_more : (s : State) (log : List Entry) (e : Entry) → Legal s log → IsLegalAt (state s log) e → Legal s (log ++ e ∷ [])
unfolding state
legal_more s [] e legal at = (at, tt)
legal_more s (first ∷ log) e legal at = (legal.0, legal_more (step s first.owner first.event).1 log e legal.1 at)

-- a beginning of a legal history is legal
pub legal_before : (s : State) (seen more : List Entry) → Legal s (seen ++ more) → Legal s seen
legal_before s [] more legal = tt
legal_before s (first ∷ seen) more legal = (legal.0, legal_before (step s first.owner first.event).1 seen more legal.1)

pub own_other : (o : ℕ) (log : List Entry) (e : Entry) → e.owner ≢ o → own o (log ++ e ∷ []) ≡ own o log
own_other o log e other =
    filter-append (λ (x : Entry). eqb x.owner o) log (e ∷ [])
    ∙ ap (λ (b : Bool). own o log ++ cond b (e ∷ []) []) (ne_eqb e.owner o other)
    ∙ append-nil (own o log)

pub own_more : (o : ℕ) (log : List Entry) (e : Entry) → e.owner ≡ o → own o (log ++ e ∷ []) ≡ own o log ++ e ∷ []
own_more o log e same =
    filter-append (λ (x : Entry). eqb x.owner o) log (e ∷ [])
    ∙ ap (λ (b : Bool). own o log ++ cond b (e ∷ []) []) (eq-eqb e.owner o same)

no_front : {A : Type 0} (xs ys : List A) → xs ++ ys ≡ [] → xs ≡ []
no_front [] ys e = refl
no_front (x ∷ xs) ys e = absurd cc

-- an owner that has all its entries in a beginning has no others in a longer one
pub own_between : (o : ℕ) (before seen log mine : List Entry) → Extends before seen → Extends seen log → own o before ≡ mine → own o log ≡ mine → own o seen ≡ mine
own_between o before seen log mine a b first last =
    let p : Entry → Bool = λ x. eqb x.owner o in
    let whole : own o before ++ (own o a.0 ++ own o b.0) ≡ own o before =
    sym (append_assoc (own o before) (own o a.0) (own o b.0))
    ∙ ap (λ (l : List Entry). l ++ own o b.0) (sym (filter-append p before a.0) ∙ ap (own o) (sym a.1))
    ∙ sym (filter-append p seen b.0)
    ∙ ap (own o) (sym b.1)
    ∙ last
    ∙ sym first in
    let none : own o a.0 ++ own o b.0 ≡ [] = append_cancel_left (own o before) (own o a.0 ++ own o b.0) [] (whole ∙ sym (append-nil (own o before))) in
    ap (own o) a.1 ∙ filter-append p before a.0 ∙ ap (λ (l : List Entry). own o before ++ l) (no_front (own o a.0) (own o b.0) none) ∙ append-nil (own o before) ∙ first
