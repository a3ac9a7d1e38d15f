-- An owner that went makes no more entries.
use Rattle.std.proofs.Common.{◌≡◌, ℕ, ◌+◌, ◌≤◌, ◌<◌, Bool, true, false, cond, List, [], ◌∷◌, ◌++◌, refl, sym, ap, subst, ◌∙◌, inl, inr, ◌⊎◌, arith, append-nil}
use Rattle.std.specs.Prelude.{nat_eq, ◌||◌}
use Rattle.std.proofs.lemmas.Bool.{eqb-true}
use Rattle.std.proofs.lemmas.List.Elements.{filter-append}
use Rattle.store_core.specs.declared.event.Event.TheVariants as events
use Rattle.store_core.specs.declared.event.Reply.{Reply}
use Rattle.store_core.specs.declared.event.Reply.TheVariants as replies
use Rattle.store_core.specs.State.{State}
use Rattle.store_core.specs.Step.{is_open, step, served, is_opening}
use Rattle.store_core.specs.History.{Entry, state, IsLegalAt, Legal, own}
use Rattle.turn_lock.specs.Seats.{EndsInClose}
use Rattle.turn_lock.proofs.Owners.{step_next, opens_next, legal_before}
use Rattle.blob_store.specs.Doors.{is_in}
use Rattle.turn_lock.specs.Views.{Extends}
use Rattle.blob_store.proofs.OpenLaws.{open_by_own, is_in_more}
use Rattle.casd_daemon.specs.Running.{IsOver}

-- the next owner's number after a history
next_after : (s : State) (log : List Entry) → s.next_owner ≤ (state s log).next_owner
unfolding state
next_after s [] = omega arith
next_after s (e ∷ log) = omega (arith, step_next s e.owner e.event, next_after (step s e.owner e.event).1 log)

-- what the first own entry is, by whether the first entry is the owner's
head_own : (o : ℕ) (e : Entry) (log rest : List Entry) (first : Entry) (b : Bool) → nat_eq e.owner o ≡ b → cond b (e ∷ own o log) (own o log) ≡ first ∷ rest
    → ((e ≡ first) × (e.owner ≡ o)) ⊎ (own o log ≡ first ∷ rest)
head_own o e log rest first true is own_is = inl (cc, eqb-true e.owner o is)
head_own o e log rest first false is own_is = inr own_is

-- an owner that came in a history is below the next
known : (s : State) (o : ℕ) (log rest : List Entry) → Legal s log → own o log ≡ record { owner = o; event = events.Open; reply = replies.Opened o } ∷ rest → o < (state s log).next_owner
unfolding state
known s o [] rest legal is = absurd cc
known s o (e ∷ log) rest legal is =
    elim (head_own o e log rest (record { owner = o; event = events.Open; reply = replies.Opened o }) (nat_eq e.owner o) refl is) [
      | inl here ↦
          let opens = opens_next s e legal.0 (ap (λ (x : Entry). is_opening x.event) here.0) in
          omega (arith, opens.0, opens.1, here.1, next_after (step s e.owner e.event).1 log)
      | inr later ↦ known (step s e.owner e.event).1 o log rest legal.1 later
    ]

must_by : (s : State) (e : Entry) (b : Bool) → (is_opening e.event || is_open s e.owner) ≡ b → IsLegalAt s e → b ≡ true
unfolding step
must_by s e true is legal = refl
must_by s e false is legal = absurd (legal.served (legal.reply ∙ ap (λ (b : Bool). (cond {A = Reply × State} b (served s e.owner e.event) (replies.Refused, s)).0) is))

-- an owner that went makes no entry
not_own_by : (s : State) (e : Entry) (o : ℕ) (mine opening : Bool) → nat_eq e.owner o ≡ mine → is_opening e.event ≡ opening → IsLegalAt s e → is_open s o ≡ false → o < s.next_owner → mine ≡ false
not_own_by s e o false opening m i legal out below = refl
not_own_by s e o true true m i legal out below = let opens = opens_next s e legal i in let same = eqb-true e.owner o m in absurd (omega (arith, opens.0, same, below))
not_own_by s e o true false m i legal out below =
    let none : (is_opening e.event || is_open s e.owner) ≡ false = ap (λ (b : Bool). b || is_open s e.owner) i ∙ ap (is_open s) (eqb-true e.owner o m) ∙ out in
    let both : false ≡ true = sym none ∙ must_by s e (is_opening e.event || is_open s e.owner) refl legal in
    absurd cc

none_more : (s : State) (o : ℕ) (more : List Entry) → Legal s more → is_open s o ≡ false → o < s.next_owner → own o more ≡ []
unfolding state
none_more s o [] legal out below = refl
none_more s o (e ∷ more) legal out below =
    let other : nat_eq e.owner o ≡ false = not_own_by s e o (nat_eq e.owner o) (is_opening e.event) refl refl legal.0 out below in
    let still : is_open (step s e.owner e.event).1 o ≡ false =
    open_by_own s o (e ∷ []) (legal.0, tt) ∙ ap (λ (b : Bool). is_in (is_open s o) (cond b (e ∷ []) [])) other ∙ out in
    ap (λ (b : Bool). cond b (e ∷ own o more) (own o more)) other
    ∙ none_more (step s e.owner e.event).1 o more legal.1 still (omega (arith, below, step_next s e.owner e.event))

legal_rest : (s : State) (seen more : List Entry) → Legal s (seen ++ more) → Legal (state s seen) more
unfolding state
legal_rest s [] more legal = legal
legal_rest s (e ∷ seen) more legal = legal_rest (step s e.owner e.event).1 seen more legal.1

closed_by : (was : Bool) (mine : List Entry) → EndsInClose mine → is_in was mine ≡ false
closed_by was mine ends =
    ap (is_in was) ends.2 ∙ is_in_more was ends.0 (record { owner = ends.1; event = events.Close; reply = replies.Closed })

-- the entries of an owner that went are its entries in any longer history
pub stays_own : (s : State) (o : ℕ) (seen log mine : List Entry) → Legal s log → Extends seen log → own o seen ≡ mine → IsOver o mine → own o log ≡ mine
stays_own s o seen log mine legal more is over =
    let whole : Legal s (seen ++ more.0) = subst (Legal s) more.1 legal in
    let before : Legal s seen = legal_before s seen more.0 whole in
    let out : is_open (state s seen) o ≡ false = open_by_own s o seen before ∙ ap (is_in (is_open s o)) is ∙ closed_by (is_open s o) mine over.closes in
    let below : o < (state s seen).next_owner = known s o seen over.opens.0 before (is ∙ over.opens.1) in
    let none : own o more.0 ≡ [] = none_more (state s seen) o more.0 (legal_rest s seen more.0 whole) out below in
    ap (own o) more.1 ∙ filter-append (λ (e : Entry). nat_eq e.owner o) seen more.0 ∙ ap (λ (xs : List Entry). own o seen ++ xs) none ∙ append-nil (own o seen) ∙ is
