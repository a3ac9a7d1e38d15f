-- Who holds what after holds came or went, and that no hold is there twice.
use Rattle.std.proofs.Common.{◌≡◌, ◌≢◌, ℕ, zero, suc, ◌<◌, Bool, true, false, cond, not, List, [], ◌∷◌, ◌++◌, length, get_or, set, Option, Some, None, inl, inr, refl, sym, ap, ◌∙◌, arith}
use Rattle.std.specs.Prelude.{filter, nat_eq, position, is_some, Contains, ◌||◌, ◌&&◌}
use Rattle.std.specs.List.{AllByRecursion, list_any}
use Rattle.std.proofs.lemmas.Bool.{cond_both, cond-true, cond-false, cases_Bool, eq-eqb, eqb-true, eqb-false, ne_eqb, not_from_false, and_from, and_parts, or_cases, or_left, or_parts, or_right}
use Rattle.std.proofs.lemmas.List.Folds.{list_any-append}
use Rattle.std.proofs.lemmas.List.Quantifiers.{position-Some}
use Rattle.std.proofs.lemmas.Map.Views.{any-filter_same}
use Rattle.digest_types.specs.Name.{HashAndSize}
use Rattle.store_core.specs.State.{Holds, DistinctDigests, DistinctHolds, same, is_among, is_holder, has_hold, is_held, with_digest, with_hold, other_holds}
use Rattle.store_core.proofs.Elements.{every_filter, every_push, every_weaker, every_contains, every_has, has_filter, has_from_filter, none_pass, some_found}
use Rattle.store_core.proofs.Same.{equal_from_same, same_itself, other_from_not_same}
use Rattle.store_core.proofs.UseOrder.{nowhere}

-- ---- tests

-- what is found among some is found among all
kept_any : {X : Type 0} (p : X → Bool) (x : X) (kept : List X) (rest b : Bool) → (list_any p kept ≡ true → rest ≡ true) → list_any p (cond b (x ∷ kept) kept) ≡ true → (p x || rest) ≡ true
kept_any p x kept rest true h e = elim (or_cases (p x) (list_any p kept) e) [ inl here ↦ or_left (p x) rest here | inr later ↦ or_right (p x) rest (h later) ]
kept_any p x kept rest false h e = or_right (p x) rest (h e)

pub any_filter : {X : Type 0} (p q : X → Bool) (xs : List X) → list_any p (filter q xs) ≡ true → list_any p xs ≡ true
any_filter p q [] e = e
any_filter p q (x ∷ xs) e = kept_any p x (filter q xs) (list_any p xs) (q x) (any_filter p q xs) e

pub any_weaker : {X : Type 0} (p q : X → Bool) → ((x : X) → p x ≡ true → q x ≡ true) → (xs : List X) → list_any p xs ≡ true → list_any q xs ≡ true
any_weaker p q h [] e = e
any_weaker p q h (x ∷ xs) e = elim (or_cases (p x) (list_any p xs) e) [ inl here ↦ or_left (q x) (list_any q xs) (h x here) | inr later ↦ or_right (q x) (list_any q xs) (any_weaker p q h xs later) ]

covered : (a b : Bool) → (b ≡ true → a ≡ true) → a ≡ (a || b)
covered true b h = refl
covered false true h = h refl
covered false false h = refl

or_false : (b : Bool) → (b || false) ≡ b
or_false true = refl
or_false false = refl

alone : (b : Bool) → ((b || false) || false) ≡ (false || b)
alone true = refl
alone false = refl

swapped : (a b c : Bool) → ((a || c) || b) ≡ ((a || b) || c)
swapped true b c = refl
swapped false true true = refl
swapped false true false = refl
swapped false false true = refl
swapped false false false = refl

joined : (a b c : Bool) → (a || (b || c)) ≡ ((a || b) || c)
joined true b c = refl
joined false b c = refl

-- ---- one more digest

pub among_with : (d q : HashAndSize) (ds : List HashAndSize) → is_among (with_digest d ds) q ≡ (is_among ds q || same q d)
among_with d q ds =
    elim (cases_Bool (is_among ds d)) [
      | inl there ↦
          ap (λ (xs : List HashAndSize). is_among xs q) (cond-true (is_among ds d) ds (ds ++ d ∷ []) there)
          ∙ covered (is_among ds q) (same q d) (λ is. ap (is_among ds) (equal_from_same q d is) ∙ there)
      | inr new ↦
          ap (λ (xs : List HashAndSize). is_among xs q) (cond-false (is_among ds d) ds (ds ++ d ∷ []) new)
          ∙ list_any-append (same q) ds (d ∷ [])
          ∙ ap (λ b. is_among ds q || b) (or_false (same q d))
    ]

pub distinct_digests_push : (ds : List HashAndSize) (d : HashAndSize) → DistinctDigests ds → AllByRecursion (λ x. x ≢ d) ds → DistinctDigests (ds ++ d ∷ [])
distinct_digests_push [] d v h = (tt, tt)
distinct_digests_push (first ∷ ds) d v h = (every_push (λ x. x ≢ first) ds d v.0 (λ e. h.0 (sym e)), distinct_digests_push ds d v.1 h.1)

distinct_digests_with : (d : HashAndSize) (ds : List HashAndSize) → DistinctDigests ds → DistinctDigests (with_digest d ds)
distinct_digests_with d ds v =
    cond_both (is_among ds d) ds (ds ++ d ∷ []) DistinctDigests (λ _. v)
    (λ new. distinct_digests_push ds d v (every_weaker (λ x. same d x ≡ false) (λ x. x ≢ d) (λ x other e. other_from_not_same d x other (sym e)) ds (none_pass (same d) ds new)))

-- ---- one more hold

held_by : (owner : ℕ) (d q : HashAndSize) (held : Holds) (holds : List Holds) (b : Bool) → is_held (with_hold owner d holds) q ≡ (is_held holds q || same q d)
    → is_held (cond b (record held { digests = with_digest d held.digests } ∷ holds) (held ∷ with_hold owner d holds)) q ≡ (is_held (held ∷ holds) q || same q d)
held_by owner d q held holds true h =
    ap (λ b. b || is_held holds q) (among_with d q held.digests) ∙ swapped (is_among held.digests q) (is_held holds q) (same q d)
held_by owner d q held holds false h =
    ap (λ b. is_among held.digests q || b) h ∙ joined (is_among held.digests q) (is_held holds q) (same q d)

-- what is held then
pub held_with : (owner : ℕ) (d q : HashAndSize) (holds : List Holds) → is_held (with_hold owner d holds) q ≡ (is_held holds q || same q d)
held_with owner d q [] = alone (same q d)
held_with owner d q (held ∷ holds) = held_by owner d q held holds (is_holder owner held) (held_with owner d q holds)

has_by : (owner : ℕ) (d : HashAndSize) (held : Holds) (holds : List Holds) (b : Bool) → is_holder owner held ≡ b → has_hold (with_hold owner d holds) owner d ≡ true
    → has_hold (cond b (record held { digests = with_digest d held.digests } ∷ holds) (held ∷ with_hold owner d holds)) owner d ≡ true
has_by owner d held holds true is h =
    or_left (is_holder owner held && is_among (with_digest d held.digests) d) (has_hold holds owner d)
    (and_from (is_holder owner held) (is_among (with_digest d held.digests) d) is (among_with d d held.digests ∙ or_right (is_among held.digests d) (same d d) (same_itself d)))
has_by owner d held holds false is h = or_right (is_holder owner held && is_among held.digests d) (has_hold (with_hold owner d holds) owner d) h

-- the owner has it
pub has_with : (owner : ℕ) (d : HashAndSize) (holds : List Holds) → has_hold (with_hold owner d holds) owner d ≡ true
has_with owner d [] =
    or_left (nat_eq owner owner && (same d d || false)) false (and_from (nat_eq owner owner) (same d d || false) (eq-eqb owner owner refl) (or_left (same d d) false (same_itself d)))
has_with owner d (held ∷ holds) = has_by owner d held holds (is_holder owner held) refl (has_with owner d holds)

more_by : (owner o : ℕ) (d q : HashAndSize) (held : Holds) (holds : List Holds) (b : Bool) → (has_hold holds o q ≡ true → has_hold (with_hold owner d holds) o q ≡ true) → has_hold (held ∷ holds) o q ≡ true
    → has_hold (cond b (record held { digests = with_digest d held.digests } ∷ holds) (held ∷ with_hold owner d holds)) o q ≡ true
more_by owner o d q held holds true h e =
    elim (or_cases (is_holder o held && is_among held.digests q) (has_hold holds o q) e) [
      | inl first ↦
          let parts = and_parts (is_holder o held) (is_among held.digests q) first in
          or_left (is_holder o held && is_among (with_digest d held.digests) q) (has_hold holds o q)
          (and_from (is_holder o held) (is_among (with_digest d held.digests) q) parts.0 (among_with d q held.digests ∙ or_left (is_among held.digests q) (same q d) parts.1))
      | inr later ↦ or_right (is_holder o held && is_among (with_digest d held.digests) q) (has_hold holds o q) later
    ]
more_by owner o d q held holds false h e =
    elim (or_cases (is_holder o held && is_among held.digests q) (has_hold holds o q) e) [
      | inl first ↦ or_left (is_holder o held && is_among held.digests q) (has_hold (with_hold owner d holds) o q) first
      | inr later ↦ or_right (is_holder o held && is_among held.digests q) (has_hold (with_hold owner d holds) o q) (h later)
    ]

-- and each hold that was there stays
pub has_more : (owner o : ℕ) (d q : HashAndSize) (holds : List Holds) → has_hold holds o q ≡ true → has_hold (with_hold owner d holds) o q ≡ true
has_more owner o d q [] e = absurd cc
has_more owner o d q (held ∷ holds) e = more_by owner o d q held holds (is_holder owner held) (has_more owner o d q holds) e

-- what an owner holds is held
pub held_has : (o : ℕ) (q : HashAndSize) (holds : List Holds) → has_hold holds o q ≡ true → is_held holds q ≡ true
held_has o q holds e =
    any_weaker (λ (held : Holds). is_holder o held && is_among held.digests q) (λ (held : Holds). is_among held.digests q) (λ held both. (and_parts (is_holder o held) (is_among held.digests q) both).1) holds e

-- ---- by the place of the owner

hold_there : (owner : ℕ) (d : HashAndSize) (holds : List Holds) (i : ℕ) (x : Holds) → i < length holds → is_holder owner (get_or holds i x) ≡ true → ((k : ℕ) → k < i → is_holder owner (get_or holds k x) ≡ false)
    → with_hold owner d holds ≡ set holds i (record (get_or holds i x) { digests = with_digest d (get_or holds i x).digests })
hold_there owner d [] i x lt at before = absurd (omega arith)
hold_there owner d (held ∷ holds) zero x lt at before = cond-true (is_holder owner held) (record held { digests = with_digest d held.digests } ∷ holds) (held ∷ with_hold owner d holds) at
hold_there owner d (held ∷ holds) (suc i) x lt at before =
    cond-false (is_holder owner held) (record held { digests = with_digest d held.digests } ∷ holds) (held ∷ with_hold owner d holds) (before 0 (omega arith))
    ∙ ap (λ (rest : List Holds). held ∷ rest) (hold_there owner d holds i x (omega arith) at (λ k le. before (suc k) (omega (arith, le))))

-- one more of an owner that holds something
pub hold_at : (owner : ℕ) (d : HashAndSize) (holds : List Holds) (i : ℕ) (x : Holds) → position (is_holder owner) holds ≡ Some i → x ≡ get_or holds i x
    → with_hold owner d holds ≡ set holds i (record x { digests = with_digest d x.digests })
hold_at owner d holds i x e is =
    let h = position-Some (is_holder owner) holds i x e in
    hold_there owner d holds i x h.0 h.1 h.2 ∙ ap (λ (y : Holds). set holds i (record y { digests = with_digest d y.digests })) (sym is)

none_there : (owner : ℕ) (d : HashAndSize) (holds : List Holds) → list_any (is_holder owner) holds ≡ false → with_hold owner d holds ≡ holds ++ record { owner = owner; digests = d ∷ [] } ∷ []
none_there owner d [] e = refl
none_there owner d (held ∷ holds) e =
    let parts = or_parts (is_holder owner held) (list_any (is_holder owner) holds) e in
    cond-false (is_holder owner held) (record held { digests = with_digest d held.digests } ∷ holds) (held ∷ with_hold owner d holds) parts.0
    ∙ ap (λ (rest : List Holds). held ∷ rest) (none_there owner d holds parts.1)

-- and of one that holds nothing
pub hold_first : (owner : ℕ) (d : HashAndSize) (holds : List Holds) → position (is_holder owner) holds ≡ None → with_hold owner d holds ≡ holds ++ record { owner = owner; digests = d ∷ [] } ∷ []
hold_first owner d holds e =
    none_there owner d holds (some_found (is_holder owner) holds ∙ ap (λ (o : Option Holds). is_some o) (nowhere (is_holder owner) holds e))

-- ---- the owners of the holds

every_by : (P : ℕ → Type 0) (owner : ℕ) (d : HashAndSize) (held : Holds) (holds : List Holds) (b : Bool) → P held.owner → AllByRecursion (λ h. P h.owner) holds → AllByRecursion (λ h. P h.owner) (with_hold owner d holds)
    → AllByRecursion (λ h. P h.owner) (cond b (record held { digests = with_digest d held.digests } ∷ holds) (held ∷ with_hold owner d holds))
every_by P owner d held holds true first rest more = (first, rest)
every_by P owner d held holds false first rest more = (first, more)

pub every_with : (P : ℕ → Type 0) (owner : ℕ) (d : HashAndSize) (holds : List Holds) → P owner → AllByRecursion (λ h. P h.owner) holds → AllByRecursion (λ h. P h.owner) (with_hold owner d holds)
every_with P owner d [] is h = (is, tt)
every_with P owner d (held ∷ holds) is h = every_by P owner d held holds (is_holder owner held) h.0 h.1 (every_with P owner d holds is h.1)

distinct_by : (owner : ℕ) (d : HashAndSize) (held : Holds) (holds : List Holds) (b : Bool) → is_holder owner held ≡ b → DistinctHolds (held ∷ holds) → DistinctHolds (with_hold owner d holds)
    → DistinctHolds (cond b (record held { digests = with_digest d held.digests } ∷ holds) (held ∷ with_hold owner d holds))
distinct_by owner d held holds true is v more = (v.0, distinct_digests_with d held.digests v.1, v.2)
distinct_by owner d held holds false is v more = (every_with (λ o. o ≢ held.owner) owner d holds (λ e. eqb-false held.owner owner is (sym e)) v.0, v.1, more)

pub distinct_with : (owner : ℕ) (d : HashAndSize) (holds : List Holds) → DistinctHolds holds → DistinctHolds (with_hold owner d holds)
distinct_with owner d [] v = (tt, (tt, tt), tt)
distinct_with owner d (held ∷ holds) v = distinct_by owner d held holds (is_holder owner held) refl v (distinct_with owner d holds v.2)

-- ---- an owner's holds go

keep : (b : Bool) (x : Holds) (xs : List Holds) → AllByRecursion (λ other. other.owner ≢ x.owner) xs → DistinctDigests x.digests → DistinctHolds xs → DistinctHolds (cond b (x ∷ xs) xs)
keep true x xs h e d = (h, e, d)
keep false x xs h e d = d

pub distinct_holds_filter : (p : Holds → Bool) (holds : List Holds) → DistinctHolds holds → DistinctHolds (filter p holds)
distinct_holds_filter p [] v = tt
distinct_holds_filter p (held ∷ holds) v = keep (p held) held (filter p holds) (every_filter (λ other. other.owner ≢ held.owner) p holds v.0) v.1 (distinct_holds_filter p holds v.2)

-- the holds of others stay
pub has_others : (owner o : ℕ) (q : HashAndSize) (holds : List Holds) → nat_eq owner o ≡ false → has_hold holds o q ≡ true → has_hold (other_holds owner holds) o q ≡ true
has_others owner o q holds other e =
    any-filter_same (λ (held : Holds). is_holder o held && is_among held.digests q) (λ (held : Holds). not (is_holder owner held)) true
    (λ held is. not_from_false (is_holder owner held) (ne_eqb held.owner owner (λ same_owner. eqb-false owner o other (sym same_owner ∙ eqb-true held.owner o (and_parts (is_holder o held) (is_among held.digests q) is).0))))
    holds
    ∙ e

-- the owners of those are among the owners that stay
pub holders_stay : (owner : ℕ) (owners : List ℕ) (holds : List Holds) → AllByRecursion (λ held. Contains owners held.owner) holds
    → AllByRecursion (λ held. Contains (filter (λ o. not (nat_eq o owner)) owners) held.owner) (other_holds owner holds)
holders_stay owner owners holds v =
    every_has (λ held. Contains (filter (λ o. not (nat_eq o owner)) owners) held.owner) (other_holds owner holds)
    (λ held has.
    let h = has_from_filter (λ (x : Holds). not (is_holder owner x)) holds held has in
    has_filter (λ o. not (nat_eq o owner)) owners held.owner (every_contains (λ x. Contains owners x.owner) holds held v h.0) h.1)
