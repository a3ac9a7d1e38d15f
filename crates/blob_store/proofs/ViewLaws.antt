-- What the calls at a seat make together, and what the entries of its owner say of the store.
use Rattle.std.proofs.Common.{◌≡◌, ◌≢◌, ℕ, ◌+◌, ◌<◌, ◌≤◌, Bool, true, false, cond, List, [], ◌∷◌, ◌++◌, length, Option, Some, None, IfSome, refl, sym, ap, subst, ◌∙◌, append_assoc, length-append, arith}
use Rattle.std.specs.Prelude.{filter, nat_eq, Contains}
use Rattle.std.specs.List.{AllByRecursion}
use Rattle.std.proofs.lemmas.Bool.{cond-false, eqb-true, false_from_ne_true}
use Rattle.std.proofs.lemmas.List.{append-nil, append_cancel_left}
use Rattle.store_core.specs.State.{State, Valid, is_of_owner}
use Rattle.store_core.specs.declared.state.Lease.{Lease}
use Rattle.store_core.specs.declared.event.Event.{Event}
use Rattle.store_core.specs.declared.event.Event.TheVariants as events
use Rattle.store_core.specs.declared.event.Reply.{Reply}
use Rattle.store_core.specs.declared.event.Reply.TheVariants as replies
use Rattle.store_core.specs.Step.{step, served}
use Rattle.store_core.specs.History.{Entry, state, IsLegalAt, Legal, own, own_after, own_leases, leases_of}
use Rattle.store_core.proofs.Elements.{every_has, every_contains}
use Rattle.store_core.proofs.Entries.{leases_by_own}
use Rattle.store_core.proofs.Kept.{follows_step}
use Rattle.store_core.proofs.Histories.{state_after, legal_after}
use Rattle.turn_lock.specs.Views.{Extends}
use Rattle.blob_store.specs.View.{View, IsSound, IsOwn, by, Turns, Makes, MayCall, state_of, leases_by, own_now}

-- ---- one call after the other

pub by_append : (owner : ℕ) (xs ys : List (Event × Reply)) → by owner (xs ++ ys) ≡ by owner xs ++ by owner ys
by_append owner [] ys = refl
by_append owner (x ∷ xs) ys = ap (λ (rest : List Entry). record { owner = owner; event = x.0; reply = x.1 } ∷ rest) (by_append owner xs ys)

pub extends_more : (a b c : List Entry) → Extends a b → Extends b c → Extends a c
extends_more a b c first second =
    (first.0 ++ second.0, second.1 ∙ ap (λ (front : List Entry). front ++ second.0) first.1 ∙ append_assoc a first.0 second.0)

-- the entries of both calls stand behind the former ones
both_made : (owner : ℕ) (a b c : List Entry) (xs ys : List (Event × Reply)) → b ≡ a ++ by owner xs → c ≡ b ++ by owner ys → c ≡ a ++ by owner (xs ++ ys)
both_made owner a b c xs ys first second =
    second
    ∙ ap (λ (front : List Entry). front ++ by owner ys) first
    ∙ append_assoc a (by owner xs) (by owner ys)
    ∙ ap (λ (rest : List Entry). a ++ rest) (sym (by_append owner xs ys))

-- calls one after the other
pub turns_joined : (a b c : View) (m n : ℕ) (xs ys : List (Event × Reply)) → Turns a b m xs → Turns b c n ys → Turns a c (m + n) (xs ++ ys)
turns_joined a b c m n xs ys first second =
    let is_first : b.owner ≡ Some first.owner = first.same_owner ∙ first.is_owner in
    let is_second : b.owner ≡ Some second.owner = second.is_owner in
    let same : second.owner ≡ first.owner = cc in
    record {
      owner = first.owner;
      is_owner = first.is_owner;
      same_owner = second.same_owner ∙ first.same_owner;
      was_in = first.was_in;
      is_in = second.is_in;
      start = second.start ∙ first.start;
      seen = extends_more a.seen b.seen c.seen first.seen second.seen;
      is_own = subst (λ (o : ℕ). own o c.seen ≡ c.mine) same second.is_own;
      mine = both_made first.owner a.mine b.mine c.mine xs ys first.mine (subst (λ (o : ℕ). c.mine ≡ b.mine ++ by o ys) same second.mine);
      count = omega (arith, first.count, second.count, length-append xs ys);
      grant = second.grant ∙ first.grant;
      identity = second.identity ∙ first.identity;
      left = omega (arith, first.left, second.left);
      used = omega (arith, first.used, second.used);
    }

-- what was done in so many turns was done in at most more
pub turns_more : (a b : View) (m n : ℕ) (xs : List (Event × Reply)) → m ≤ n → Turns a b m xs → Turns a b n xs
turns_more a b m n xs few turns = record {
  owner = turns.owner;
  is_owner = turns.is_owner;
  same_owner = turns.same_owner;
  was_in = turns.was_in;
  is_in = turns.is_in;
  start = turns.start;
  seen = turns.seen;
  is_own = turns.is_own;
  mine = turns.mine;
  count = turns.count;
  grant = turns.grant;
  identity = turns.identity;
  left = turns.left;
  used = omega (arith, turns.used);
}

-- no call
pub turns_none : (v : View) (owner : ℕ) → v.entered ≡ true → v.owner ≡ Some owner → own owner v.seen ≡ v.mine → Turns v v 0 []
turns_none v owner is_in is_owner is_own = record {
  owner = owner;
  is_owner = is_owner;
  same_owner = refl;
  was_in = is_in;
  is_in = is_in;
  start = refl;
  seen = ([], sym (append-nil v.seen));
  is_own = is_own;
  mine = sym (append-nil v.mine);
  count = omega arith;
  grant = refl;
  identity = refl;
  left = omega arith;
  used = omega arith;
}

-- a call can be made where fewer turns were used than could be taken
pub may_go_on : (a b : View) (n : ℕ) (xs : List (Event × Reply)) → Turns a b n xs → n < a.left → MayCall b
may_go_on a b n xs turns more = record { is_in = turns.is_in; turn = omega (arith, turns.used) }

-- after a call the owner's own entries are those of it in what was seen
pub is_own_after : (a b : View) (n : ℕ) (xs : List (Event × Reply)) → Turns a b n xs → IsOwn b
is_own_after a b n xs turns = subst (λ (o : Option ℕ). IfSome o (λ owner. own owner b.seen ≡ b.mine)) (sym (turns.same_owner ∙ turns.is_owner)) turns.is_own

-- the first of the owner's own entries stays the first
pub first_stays : (a b : View) (n : ℕ) (xs : List (Event × Reply)) (first : Entry) (rest : List Entry) → (turns : Turns a b n xs) → a.mine ≡ first ∷ rest → b.mine ≡ first ∷ (rest ++ by turns.owner xs)
first_stays a b n xs first rest turns is = turns.mine ∙ ap (λ (front : List Entry). front ++ by turns.owner xs) is

-- ---- the entry that a call made

-- an entry at the end of a legal history is the step's
pub last_step : (s : State) (before : List Entry) (entry : Entry) → Legal s (before ++ entry ∷ [])
    → (entry.reply ≡ (step (state s before) entry.owner entry.event).0) × (state s (before ++ entry ∷ []) ≡ (step (state s before) entry.owner entry.event).1) × (entry.reply ≢ replies.Refused)
unfolding state
last_step s before entry legal =
    let at = (legal_after s before (entry ∷ []) legal).0 in
    (at.reply, state_after s before (entry ∷ []), at.served)

-- what a call answered is what the step replies at the place of its entry
pub made_by_step : (old new : View) (event : Event) (reply : Reply) → IsSound new → (makes : Makes old new event reply)
    → (reply ≡ (step (state new.start makes.last.0) makes.turns.owner event).0) × (state_of new ≡ (step (state new.start makes.last.0) makes.turns.owner event).1) × (reply ≢ replies.Refused)
made_by_step old new event reply sound makes =
    let entry : Entry = record { owner = makes.turns.owner; event = event; reply = reply } in
    let last = last_step new.start makes.last.0 entry (subst (λ (seen : List Entry). Legal new.start seen) makes.last.1 sound.legal) in
    (last.0, ap (λ (seen : List Entry). state new.start seen) makes.last.1 ∙ last.1, last.2)

-- a list with something behind it begins what stands before the end
begins_before : (old more before : List Entry) (first entry : Entry) → old ++ first ∷ more ≡ before ++ entry ∷ [] → Extends old before
begins_before [] more before first entry e = (before, refl)
begins_before (o ∷ old) more [] first entry e = absurd (omega (arith, ap length e, length-append old (first ∷ more)))
begins_before (o ∷ old) more (b ∷ before) first entry e =
    let same : o ≡ b = cc in
    let rest = begins_before old more before first entry (cc) in
    (rest.0, sym (ap (λ (x : Entry). x ∷ before) same) ∙ ap (λ (xs : List Entry). o ∷ xs) rest.1)

-- where one more entry is the owner's, something was added
begins_before_own : (owner : ℕ) (old mine before : List Entry) (more : List Entry) (entry : Entry) → own owner old ≡ mine → own owner (before ++ entry ∷ []) ≡ mine ++ entry ∷ []
    → before ++ entry ∷ [] ≡ old ++ more → Extends old before
begins_before_own owner old mine before [] entry was is e =
    let same : mine ++ [] ≡ mine ++ entry ∷ [] = append-nil mine ∙ sym was ∙ ap (own owner) (sym (append-nil old)) ∙ ap (own owner) (sym e) ∙ is in
    let none : [] ≡ entry ∷ [] = append_cancel_left mine [] (entry ∷ []) same in
    absurd cc
begins_before_own owner old mine before (first ∷ more) entry was is e = begins_before old more before first entry (sym e)

own_of : (owner : Option ℕ) (number : ℕ) (seen mine : List Entry) → owner ≡ Some number → IfSome owner (λ o. own o seen ≡ mine) → own number seen ≡ mine
own_of None number seen mine e own_is = absurd cc
own_of (Some o) number seen mine e own_is = let same : o ≡ number = cc in subst (λ (n : ℕ). own n seen ≡ mine) same own_is

-- what was seen before a call stands before its entry
pub seen_before : (old new : View) (event : Event) (reply : Reply) → IsOwn old → (makes : Makes old new event reply) → Extends old.seen makes.last.0
seen_before old new event reply was makes =
    let turns = makes.turns in
    let entry : Entry = record { owner = turns.owner; event = event; reply = reply } in
    begins_before_own turns.owner old.seen old.mine makes.last.0 turns.seen.0 entry
    (own_of old.owner turns.owner old.seen old.mine turns.is_owner was)
    (ap (own turns.owner) (sym makes.last.1) ∙ turns.is_own ∙ turns.mine)
    (sym makes.last.1 ∙ turns.seen.1)

-- ---- the leases of an owner

-- where an entry is legal, the owner that it opens is the next
opened_next : (s : State) (owner : ℕ) → IsLegalAt s (record { owner = owner; event = events.Open; reply = replies.Opened owner }) → owner ≡ s.next_owner
unfolding step served
opened_next s owner legal = let e : replies.Opened owner ≡ replies.Opened s.next_owner = legal.reply in cc

filter_none : (p : Lease → Bool) (leases : List Lease) → AllByRecursion (λ lease. p lease ≡ false) leases → filter p leases ≡ []
filter_none p [] h = refl
filter_none p (lease ∷ leases) h = cond-false (p lease) (lease ∷ filter p leases) (filter p leases) h.0 ∙ filter_none p leases h.1

-- the next owner has no lease
next_has_none : (s : State) → Valid s → leases_of s.next_owner s ≡ []
next_has_none s v =
    filter_none (is_of_owner s.next_owner) s.leases
    (every_has (λ lease. is_of_owner s.next_owner lease ≡ false) s.leases
    (λ lease has. false_from_ne_true (is_of_owner s.next_owner lease) (λ is.
    let below : lease.owner < s.next_owner = every_contains (λ owner. owner < s.next_owner) s.owners lease.owner v.owners (every_contains (λ l. Contains s.owners l.owner) s.leases lease v.lease_owners has) in
    let same : lease.owner ≡ s.next_owner = eqb-true lease.owner s.next_owner is in
    omega arith)))

abbrev opening : ℕ → Entry
opening owner = record { owner = owner; event = events.Open; reply = replies.Opened owner }

-- before the first entry of an owner, where that is its Open, the owner has no lease; b says whether the first entry is its
none_by : (s : State) (owner : ℕ) (entry : Entry) (entries rest : List Entry) (b : Bool) → nat_eq entry.owner owner ≡ b → Valid s → IsLegalAt s entry
    → (own owner entries ≡ opening owner ∷ rest → leases_of owner (step s entry.owner entry.event).1 ≡ [])
    → cond b (entry ∷ own owner entries) (own owner entries) ≡ opening owner ∷ rest → leases_of owner s ≡ []
unfolding state
none_by s owner entry entries rest true e v legal later is =
    let first : entry ≡ opening owner = cc in
    let next : owner ≡ s.next_owner = opened_next s owner (subst (λ (x : Entry). IsLegalAt s x) first legal) in
    ap (λ (o : ℕ). leases_of o s) next ∙ next_has_none s v
none_by s owner entry entries rest false e v legal later is =
    let one : leases_of owner (step s entry.owner entry.event).1 ≡ own_leases owner (leases_of owner s) (cond (nat_eq entry.owner owner) (entry ∷ []) []) = leases_by_own s owner (entry ∷ []) v (legal, tt) in
    sym (one ∙ ap (λ (mine : List Entry). own_leases owner (leases_of owner s) mine) (cond-false (nat_eq entry.owner owner) (entry ∷ []) [] e)) ∙ later is

none_before : (s : State) (owner : ℕ) (entries rest : List Entry) → Valid s → Legal s entries → own owner entries ≡ opening owner ∷ rest → leases_of owner s ≡ []
none_before s owner [] rest v legal is = absurd cc
none_before s owner (entry ∷ entries) rest v legal is =
    none_by s owner entry entries rest (nat_eq entry.owner owner) refl v legal.0
    (none_before (step s entry.owner entry.event).1 owner entries rest ((follows_step s entry.owner entry.event).valid v) legal.1)
    is

-- the leases that the store holds for an owner are those of its own entries
pub own_stand : (v : View) (owner : ℕ) (rest : List Entry) → IsSound v → v.owner ≡ Some owner → own owner v.seen ≡ v.mine
    → v.mine ≡ record { owner = owner; event = events.Open; reply = replies.Opened owner } ∷ rest → leases_of owner (state_of v) ≡ own_now v
own_stand v owner rest sound is_owner is_own mine =
    leases_by_own v.start owner v.seen sound.valid sound.legal
    ∙ ap (λ (leases : List Lease). own_leases owner leases (own owner v.seen)) (none_before v.start owner v.seen rest sound.valid sound.legal (is_own ∙ mine))
    ∙ ap (λ (entries : List Entry). own_leases owner [] entries) is_own
    ∙ ap (λ (o : Option ℕ). leases_by o v.mine) (sym is_owner)

-- the leases of an owner after entries and then more of it
pub own_leases_append : (owner : ℕ) (leases : List Lease) (xs ys : List Entry) → own_leases owner leases (xs ++ ys) ≡ own_leases owner (own_leases owner leases xs) ys
own_leases_append owner leases [] ys = refl
own_leases_append owner leases (x ∷ xs) ys = own_leases_append owner (own_after owner x.event x.reply leases) xs ys

-- the leases that the owner holds after calls, from those before and the entries that were made
pub own_now_after : (a b : View) (n : ℕ) (xs : List (Event × Reply)) → (turns : Turns a b n xs) → own_now b ≡ own_leases turns.owner (own_now a) (by turns.owner xs)
own_now_after a b n xs turns =
    ap (λ (o : Option ℕ). leases_by o b.mine) (turns.same_owner ∙ turns.is_owner)
    ∙ ap (λ (mine : List Entry). own_leases turns.owner [] mine) turns.mine
    ∙ own_leases_append turns.owner [] a.mine (by turns.owner xs)
    ∙ ap (λ (o : Option ℕ). own_leases turns.owner (leases_by o a.mine) (by turns.owner xs)) (sym turns.is_owner)
