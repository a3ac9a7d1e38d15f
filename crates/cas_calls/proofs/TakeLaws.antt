-- Steps that calls take, one after the other.
use Rattle.std.proofs.Common.{◌≡◌, ◌+◌, ◌-◌, ◌^◌, ◌≤◌, ◌<◌, ◌∙◌, ℕ, zero, suc, Bool, true, false, List, [], ◌∷◌, ◌++◌, Result, Ok, Err, refl, sym, ap, subst, arith}
use Rattle.std.specs.Prelude.{min, OnErr, IsErrOf}
use Rattle.casd_base.specs.Causes.{Rose}
use Rattle.store_core.specs.declared.event.Event.{Event}
use Rattle.store_core.specs.declared.event.Event.TheVariants as events
use Rattle.store_core.specs.declared.event.Reply.{Reply}
use Rattle.blob_store.specs.Applied.{gives_up}
use Rattle.blob_store.specs.View.{View, Turns, Makes, Waits, own_now}
use Rattle.blob_store.specs.Shelves.{Shelved, counting, discarding, dropping}
use Rattle.store_core.specs.declared.state.Lease.{Lease}
use Rattle.store_core.specs.History.{own_after}
use Rattle.blob_store.proofs.ViewLaws.{turns_joined, turns_more, turns_none, own_now_after}
use Rattle.cas_calls.specs.Script.{Script, End, Make, Room, Ask, Asked, Keep, Discard, Reader, Whole, More, Rest, Draft, Add, Seal, Drop, Told, Did, Failed, IsTold, and_then, Step, Made, Heard, Fit, Broke, Takes, after, Follows, made, failure, failures, discard, discards, drop, drops}
use Rattle.cas_calls.specs.Plays.{IsIn, Shelves, Took, Leaves, Lapses}

-- ---- steps one after the other

pub made-append : (xs ys : List Step) → made (xs ++ ys) ≡ made xs ++ made ys
made-append [] ys = refl
made-append (Made event reply ∷ xs) ys = ap (λ (rest : List (Event × Reply)). (event, reply) ∷ rest) (made-append xs ys)
made-append (Heard asked told ∷ xs) ys = made-append xs ys
made-append (Fit ∷ xs) ys = made-append xs ys
made-append (Broke ∷ xs) ys = made-append xs ys

failures-append : (xs ys : List Step) → failures (xs ++ ys) ≡ failures xs + failures ys
failures-append [] ys = omega arith
failures-append (Made event reply ∷ xs) ys = failures-append xs ys
failures-append (Heard asked told ∷ xs) ys = omega (arith, failures-append xs ys)
failures-append (Fit ∷ xs) ys = failures-append xs ys
failures-append (Broke ∷ xs) ys = failures-append xs ys

discards-append : (xs ys : List Step) → discards (xs ++ ys) ≡ discards xs + discards ys
discards-append [] ys = omega arith
discards-append (Made event reply ∷ xs) ys = omega (arith, discards-append xs ys)
discards-append (Heard asked told ∷ xs) ys = omega (arith, discards-append xs ys)
discards-append (Fit ∷ xs) ys = discards-append xs ys
discards-append (Broke ∷ xs) ys = discards-append xs ys

drops-append : (xs ys : List Step) → drops (xs ++ ys) ≡ drops xs + drops ys
drops-append [] ys = omega arith
drops-append (Made event reply ∷ xs) ys = drops-append xs ys
drops-append (Heard asked told ∷ xs) ys = omega (arith, drops-append xs ys)
drops-append (Fit ∷ xs) ys = drops-append xs ys
drops-append (Broke ∷ xs) ys = drops-append xs ys

follows_joined : {A : Type 0} (s : Script A) (xs : List Step) (t : Script A) (ys : List Step) (u : Script A) → Follows s xs t → Follows t ys u → Follows s (xs ++ ys) u
follows_joined s [] t ys u p q = subst (λ x. Follows x ys u) (sym p) q
follows_joined s (x ∷ xs) t ys u p q = (p.0, follows_joined (after s x) xs t ys u p.1 q)

-- ---- the shelf

counted : (m n k : ℕ) → counting n (counting m k) ≡ counting (m + n) k
counted zero n k = ap (λ (m : ℕ). counting m k) (plain n)
  where
    plain : (n : ℕ) → n ≡ 0 + n
    plain n = omega arith
counted (suc m) zero k = ap (λ (n : ℕ). counting n k) (plain (suc m))
  where
    plain : (n : ℕ) → n ≡ n + 0
    plain n = omega arith
counted (suc m) (suc n) k = capped ∙ ap (λ (j : ℕ). counting j k) sum
  where
    capped : min (min (k + suc m) (2 ^ 64 - 1) + suc n) (2 ^ 64 - 1) ≡ counting (suc (m + suc n)) k
    capped = omega arith

    sum : suc (m + suc n) ≡ suc m + suc n
    sum = omega arith

pub shelves_none : (x : Shelved) → Shelves x x []
shelves_none x = record { faults = omega arith; later = omega arith; may_fail = refl; sure = λ h. refl; discarded = refl; dropped = omega arith }

pub shelves_joined : (x y z : Shelved) (xs ys : List Step) → Shelves x y xs → Shelves y z ys → Shelves x z (xs ++ ys)
shelves_joined x y z xs ys p q =
    let n = failures-append xs ys in
    let d = drops-append xs ys in
    record {
      faults = omega (arith, p.faults, q.faults, n);
      later = omega (arith, p.later, q.later);
      may_fail = q.may_fail ∙ p.may_fail;
      sure = λ h. omega (arith, n, p.sure h, q.sure (p.may_fail ∙ h));
      discarded =
          q.discarded
          ∙ ap (λ (k : ℕ). counting (discards ys) k) p.discarded
          ∙ counted (discards xs) (discards ys) x.discarded
          ∙ ap (λ (k : ℕ). counting k x.discarded) (sym (discards-append xs ys));
      dropped = omega (arith, p.dropped, q.dropped, d);
    }

-- ---- places of a script one after the other

pub took_none : {A : Type 0} (s : Script A) (v : View) (x : Shelved) → IsIn v → Took s v v x x 0 s
took_none s v x h = record {
  steps = [];
  follows = refl;
  entries = turns_none v h.seated.number h.is_in h.seated.owner h.seated.is_own;
  shelf = shelves_none x;
  leases = refl;
}

pub took_joined : {A : Type 0} (s t u : Script A) (v w z : View) (x y r : Shelved) (m n : ℕ) → Took s v w x y m t → Took t w z y r n u → Took s v z x r (m + n) u
took_joined s t u v w z x y r m n p q = record {
  steps = p.steps ++ q.steps;
  follows = follows_joined s p.steps t q.steps u p.follows q.follows;
  entries = subst (λ (es : List (Event × Reply)). Turns v z (m + n) es) (sym (made-append p.steps q.steps)) (turns_joined v w z m n (made p.steps) (made q.steps) p.entries q.entries);
  shelf = shelves_joined x y r p.steps q.steps p.shelf q.shelf;
  leases = q.leases ∙ p.leases;
}

pub took_more : {A : Type 0} (s t : Script A) (v w : View) (x y : Shelved) (m n : ℕ) → m ≤ n → Took s v w x y m t → Took s v w x y n t
took_more s t v w x y m n le p = record { steps = p.steps; follows = p.follows; entries = turns_more v w m n (made p.steps) le p.entries; shelf = p.shelf; leases = p.leases }

-- the door is entered after any steps
pub is_in_after : {A : Type 0} (s t : Script A) (v w : View) (x y : Shelved) (n : ℕ) → Took s v w x y n t → IsIn w
is_in_after s t v w x y n p = record {
  is_in = p.entries.is_in;
  seated = record { number = p.entries.owner; owner = p.entries.same_owner ∙ p.entries.is_owner; is_own = p.entries.is_own };
}

pub left_after : {A : Type 0} (s t : Script A) (v w : View) (x y : Shelved) (n : ℕ) → Took s v w x y n t → v.left ≤ w.left + n
left_after s t v w x y n p = p.entries.used

-- ---- one step

-- memory was there, and the rest was done
pub took_fit : {A : Type 0} (wanting s t : Script A) (v w : View) (x y : Shelved) (n : ℕ) → Took s v w x y n t → Took (Room wanting s) v w x y n t
took_fit wanting s t v w x y n p = record { steps = Fit ∷ p.steps; follows = (tt, p.follows); entries = p.entries; shelf = record { faults = p.shelf.faults; later = p.shelf.later; may_fail = p.shelf.may_fail; sure = p.shelf.sure; discarded = p.shelf.discarded; dropped = p.shelf.dropped }; leases = p.leases }

-- it was wanting
pub took_broke : {A : Type 0} (wanting s t : Script A) (v w : View) (x y : Shelved) (n : ℕ) → Took wanting v w x y n t → Took (Room wanting s) v w x y n t
took_broke wanting s t v w x y n p = record { steps = Broke ∷ p.steps; follows = (tt, p.follows); entries = p.entries; shelf = record { faults = p.shelf.faults; later = p.shelf.later; may_fail = p.shelf.may_fail; sure = p.shelf.sure; discarded = p.shelf.discarded; dropped = p.shelf.dropped }; leases = p.leases }

-- a call of the shelf that gives no body up, and then the rest
pub took_told : {A : Type 0} (asked : Asked) (told : Told) (k : Told → Script A) (t : Script A) (v w : View) (x y z : Shelved) (n : ℕ) → discard asked ≡ 0 → drop asked ≡ 0 → failure told ≡ 0 → IsTold asked told → Leaves x y → Took (k told) v w y z n t → Took (Ask asked k) v w x z n t
took_told asked told k t v w x y z n keeps holds well so leaves p = record {
  steps = Heard asked told ∷ p.steps;
  follows = ((refl, so), p.follows);
  entries = p.entries;
  shelf = record {
    faults = omega (arith, p.shelf.faults, leaves.later, well);
    later = omega (arith, p.shelf.later, leaves.later);
    may_fail = p.shelf.may_fail ∙ leaves.may_fail;
    sure = λ h. omega (arith, p.shelf.sure (leaves.may_fail ∙ h), well);
    discarded = p.shelf.discarded ∙ ap (λ (k : ℕ). counting (discards p.steps) k) leaves.discarded ∙ ap (λ (n : ℕ). counting n x.discarded) (plain (discard asked) (discards p.steps) keeps);
    dropped = omega (arith, p.shelf.dropped, leaves.dropped, holds);
  };
  leases = p.leases;
}
  where
    plain : (m n : ℕ) → m ≡ 0 → n ≡ m + n
    plain m n e = omega (arith, e)

pub took_kept : {A : Type 0} (bytes : List ℕ) (k : Told → Script A) (t : Script A) (v w : View) (x y z : Shelved) (n : ℕ) → Leaves x y → Took (k Did) v w y z n t → Took (Ask (Keep bytes) k) v w x z n t
took_kept bytes k t v w x y z n leaves p = took_told (Keep bytes) Did k t v w x y z n refl refl refl tt leaves p

no_lapse : (x : Shelved) → x.may_fail ≡ true → x.may_fail ≡ false → ⊥
no_lapse x p q = cc

-- one that failed
pub took_lapsed : {A : Type 0} (asked : Asked) (k : Told → Script A) (v : View) (x y : Shelved) → discard asked ≡ 0 → drop asked ≡ 0 → IsTold asked Failed → IsIn v → Leaves x y → Lapses x y → Took (Ask asked k) v v x y 0 (k Failed)
took_lapsed asked k v x y keeps holds so h leaves lapses = record {
  steps = Heard asked Failed ∷ [];
  follows = ((refl, so), refl);
  entries = turns_none v h.seated.number h.is_in h.seated.owner h.seated.is_own;
  shelf = record {
    faults = lapses.1;
    later = leaves.later;
    may_fail = leaves.may_fail;
    sure = λ q. absurd (no_lapse x lapses.0 q);
    discarded = leaves.discarded ∙ ap (λ (n : ℕ). counting n x.discarded) (plain (discard asked) keeps);
    dropped = omega (arith, leaves.dropped, holds);
  };
  leases = refl;
}
  where
    plain : (m : ℕ) → m ≡ 0 → 0 ≡ m + 0
    plain m e = omega (arith, e)

pub took_failed : {A : Type 0} (bytes : List ℕ) (k : Told → Script A) (v : View) (x y : Shelved) → IsIn v → Leaves x y → Lapses x y → Took (Ask (Keep bytes) k) v v x y 0 (k Failed)
took_failed bytes k v x y h leaves lapses = took_lapsed (Keep bytes) k v x y refl refl tt h leaves lapses

-- a draft is given up
pub took_dropped : {A : Type 0} (k : Told → Script A) (v : View) (x y : Shelved) → IsIn v → y ≡ dropping x → Took (Ask Drop k) v v x y 0 (k Did)
took_dropped k v x y h e = record {
  steps = Heard Drop Did ∷ [];
  follows = ((refl, tt), refl);
  entries = turns_none v h.seated.number h.is_in h.seated.owner h.seated.is_own;
  shelf = record {
    faults = omega (arith, ap (λ (s : Shelved). s.faults) e);
    later = omega (arith, ap (λ (s : Shelved). s.faults) e);
    may_fail = ap (λ (s : Shelved). s.may_fail) e;
    sure = λ q. refl;
    discarded = ap (λ (s : Shelved). s.discarded) e;
    dropped = omega (arith, ap (λ (s : Shelved). s.dropped) e);
  };
  leases = refl;
}

-- a turn without an entry
pub took_waited : {A : Type 0} (s : Script A) (v w : View) (x : Shelved) → Waits v w → Took s v w x x 1 s
took_waited s v w x waits = record { steps = []; follows = refl; entries = waits; shelf = shelves_none x; leases = own_now_after v w 1 [] waits }

-- a call of the shelf that wanted memory
pub took_wanting : {A : Type 0} (wanting s : Script A) (v : View) (x y : Shelved) → IsIn v → Leaves x y → Took (Room wanting s) v v x y 0 wanting
took_wanting wanting s v x y h leaves = record {
  steps = Broke ∷ [];
  follows = (tt, refl);
  entries = turns_none v h.seated.number h.is_in h.seated.owner h.seated.is_own;
  shelf = record { faults = omega (arith, leaves.later); later = leaves.later; may_fail = leaves.may_fail; sure = λ q. refl; discarded = leaves.discarded; dropped = omega (arith, leaves.dropped) };
  leases = refl;
}

-- a body is given up
pub took_discarded : {A : Type 0} (k : Told → Script A) (v : View) (x y : Shelved) → IsIn v → y ≡ discarding 1 x → Took (Ask Discard k) v v x y 0 (k Did)
took_discarded k v x y h e = record {
  steps = Heard Discard Did ∷ [];
  follows = ((refl, tt), refl);
  entries = turns_none v h.seated.number h.is_in h.seated.owner h.seated.is_own;
  shelf = record {
    faults = omega (arith, ap (λ (s : Shelved). s.faults) e);
    later = omega (arith, ap (λ (s : Shelved). s.faults) e);
    may_fail = ap (λ (s : Shelved). s.may_fail) e;
    sure = λ q. refl;
    discarded = ap (λ (s : Shelved). s.discarded) e;
    dropped = omega (arith, ap (λ (s : Shelved). s.dropped) e);
  };
  leases = refl;
}

-- an entry is made, and the shelf gives up the bodies that go with it
pub took_made : {A : Type 0} (event : Event) (k : Reply → Script A) (v w : View) (x y : Shelved) (reply : Reply) → Makes v w event reply → y ≡ discarding (gives_up {E = Unit {0}} event (Ok reply)) x
    → ((owner : ℕ) (leases : List Lease) → own_after owner event reply leases ≡ leases) → Took (Make event k) v w x y 1 (k reply)
took_made event k v w x y reply makes e same = record {
  steps = Made event reply ∷ [];
  follows = (refl, refl);
  entries = makes.turns;
  shelf = record {
    faults = omega (arith, ap (λ (s : Shelved). s.faults) e);
    later = omega (arith, ap (λ (s : Shelved). s.faults) e);
    may_fail = ap (λ (s : Shelved). s.may_fail) e;
    sure = λ q. refl;
    discarded = ap (λ (s : Shelved). s.discarded) e ∙ ap (λ (n : ℕ). counting n x.discarded) (one_more (gives_up {E = Unit {0}} event (Ok reply)));
    dropped = omega (arith, ap (λ (s : Shelved). s.dropped) e);
  };
  leases = own_now_after v w 1 ((event, reply) ∷ []) makes.turns ∙ same makes.turns.owner (own_now v);
}
  where
    one_more : (n : ℕ) → n ≡ n + 0
    one_more n = omega arith

-- a call was refused for want of memory, and the body that it was given was given up
pub took_refused : {A : Type 0} (s wanting : Script A) (v w : View) (x y : Shelved) → Waits v w → y ≡ discarding 1 x → Took (Room (Ask Discard (λ told. wanting)) s) v w x y 1 wanting
took_refused s wanting v w x y waits e = record {
  steps = Broke ∷ Heard Discard Did ∷ [];
  follows = (tt, ((refl, tt), refl));
  entries = waits;
  shelf = record {
    faults = omega (arith, ap (λ (s : Shelved). s.faults) e);
    later = omega (arith, ap (λ (s : Shelved). s.faults) e);
    may_fail = ap (λ (s : Shelved). s.may_fail) e;
    sure = λ q. refl;
    discarded = ap (λ (s : Shelved). s.discarded) e;
    dropped = omega (arith, ap (λ (s : Shelved). s.dropped) e);
  };
  leases = own_now_after v w 1 [] waits;
}

-- ---- a script that goes on where it ends

follows_on : {A B : Type 0} (s : Script A) (xs : List Step) (t : Script A) (next : A → Script B) → Follows s xs t → Follows (and_then s next) xs (and_then t next)
follows_on s [] t next h = ap (λ x. and_then x next) h
follows_on (Make event k) (Made e reply ∷ xs) t next h = (h.0, follows_on (k reply) xs t next h.1)
follows_on (Room wanting s) (Fit ∷ xs) t next h = (tt, follows_on s xs t next h.1)
follows_on (Room wanting s) (Broke ∷ xs) t next h = (tt, follows_on wanting xs t next h.1)
follows_on (Ask asked k) (Heard a told ∷ xs) t next h = (h.0, follows_on (k told) xs t next h.1)
follows_on (End a) (x ∷ xs) t next h = absurd h.0
follows_on (Make event k) (Heard a told ∷ xs) t next h = absurd h.0
follows_on (Make event k) (Fit ∷ xs) t next h = absurd h.0
follows_on (Make event k) (Broke ∷ xs) t next h = absurd h.0
follows_on (Room wanting s) (Made e reply ∷ xs) t next h = absurd h.0
follows_on (Room wanting s) (Heard a told ∷ xs) t next h = absurd h.0
follows_on (Ask asked k) (Made e reply ∷ xs) t next h = absurd h.0
follows_on (Ask asked k) (Fit ∷ xs) t next h = absurd h.0
follows_on (Ask asked k) (Broke ∷ xs) t next h = absurd h.0

pub took_then : {A B : Type 0} (s : Script A) (answer : A) (next : A → Script B) (v w : View) (x y : Shelved) (n : ℕ) → Took s v w x y n (End answer) → Took (and_then s next) v w x y n (next answer)
took_then s answer next v w x y n p = record { steps = p.steps; follows = follows_on s p.steps (End answer) next p.follows; entries = p.entries; shelf = p.shelf; leases = p.leases }
