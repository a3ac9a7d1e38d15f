-- The slots of the order of use, and the places of digests in them.
use Rattle.std.proofs.Common.{◌≡◌, ◌≢◌, ℕ, zero, suc, ◌+◌, ◌<◌, ◌≤◌, Bool, true, false, cond, not, ◌||◌, List, [], ◌∷◌, ◌++◌, length, get_or, set, take, drop, Option, Some, None, refl, sym, ap, subst, ◌∙◌, arith}
use Rattle.std.specs.Prelude.{◌-◌, ◌*◌, filter, is_some, slice_get, Contains}
use Rattle.std.specs.List.{AllByRecursion}
use Rattle.std.specs.Option.{option_map}
use Rattle.std.specs.Map.{lookup}
use Rattle.std.proofs.lemmas.Bool.{or_parts}
use Rattle.std.proofs.lemmas.List.{at_drop_all}
use Rattle.std.proofs.lemmas.Option.{same_Some}
use Rattle.digest_types.specs.Name.{HashAndSize}
use Rattle.store_core.specs.State.{same, is_among}
use Rattle.store_core.proofs.Same.{equal_from_same, not_same_from_other, other_from_not_same}
use Rattle.store_core.proofs.Elements.{every_contains, has_first, has_later}
use Rattle.store_core.proofs.Guarding.{same_swap}
use Rattle.lease_table.specs.Table.{Table, is_guarded, unguarded, other_digests, from_digest, DistinctDigests}
use Rattle.lease_table.specs.Slots.{has_digest, live, place_in, IsPlaced}
use Rattle.lease_table.proofs.OrderLaws.{all_others, distinct_kept, distinct_more, others_differ, apart}

-- ---- the digests of the slots

-- those of two lists of slots
pub live_both : (xs ys : List (Option HashAndSize)) → live (xs ++ ys) ≡ live xs ++ live ys
live_both [] ys = refl
live_both (None ∷ xs) ys = live_both xs ys
live_both (Some d ∷ xs) ys = ap (λ (ds : List HashAndSize). d ∷ ds) (live_both xs ys)

-- slots that are not empty have the same digests
pub live_packed : (slots : List (Option HashAndSize)) → live (filter is_some slots) ≡ live slots
live_packed [] = refl
live_packed (None ∷ slots) = live_packed slots
live_packed (Some d ∷ slots) = ap (λ (ds : List HashAndSize). d ∷ ds) (live_packed slots)

-- and are as many
pub packed_length : (slots : List (Option HashAndSize)) → length (filter is_some slots) ≡ length (live slots)
packed_length [] = refl
packed_length (None ∷ slots) = packed_length slots
packed_length (Some d ∷ slots) = ap suc (packed_length slots)

-- a digest has a place just where it is among the digests
missing_by : (b : Bool) (rest : Bool) (o : Option ℕ) → (b || rest) ≡ false → (rest ≡ false → o ≡ None) → cond b (Some 0) (option_map suc o) ≡ None
missing_by true rest o e h = absurd cc
missing_by false rest o e h = ap (option_map suc) (h e)

pub no_place : (d : HashAndSize) (slots : List (Option HashAndSize)) → is_among (live slots) d ≡ false → place_in d slots ≡ None
no_place d [] e = refl
no_place d (None ∷ slots) e = ap (option_map suc) (no_place d slots e)
no_place d (Some other ∷ slots) e = missing_by (same d other) (is_among (live slots) d) (place_in d slots) e (no_place d slots)

absent_by : (b : Bool) (rest : Bool) (o : Option ℕ) → cond b (Some 0) (option_map suc o) ≡ None → (o ≡ None → rest ≡ false) → (b || rest) ≡ false
absent_by true rest o e h = absurd cc
absent_by false rest None e h = h refl
absent_by false rest (Some i) e h = absurd cc

none_under : (o : Option ℕ) → option_map suc o ≡ None → o ≡ None
none_under None e = refl
none_under (Some i) e = absurd cc

pub not_among : (d : HashAndSize) (slots : List (Option HashAndSize)) → place_in d slots ≡ None → is_among (live slots) d ≡ false
not_among d [] e = refl
not_among d (None ∷ slots) e = not_among d slots (none_under (place_in d slots) e)
not_among d (Some other ∷ slots) e = absent_by (same d other) (is_among (live slots) d) (place_in d slots) e (not_among d slots)

-- ---- a slot more

pushed_by : (b c : Bool) (n : ℕ) (o p : Option ℕ) → p ≡ cond c (Some n) o → (b ≡ true → c ≡ false) → cond b (Some 0) (option_map suc p) ≡ cond c (Some (suc n)) (cond b (Some 0) (option_map suc o))
pushed_by true true n o p e h = absurd (let q = h refl in cc)
pushed_by true false n o p e h = refl
pushed_by false true n o p e h = ap (option_map suc) e
pushed_by false false n o p e h = ap (option_map suc) e

one_by : (b : Bool) → cond b (Some 0) (option_map suc None) ≡ cond b (Some 0) None
one_by true = refl
one_by false = refl

other_than : (e d first : HashAndSize) → same d first ≡ false → same e first ≡ true → same e d ≡ false
other_than e d first other is = not_same_from_other e d (λ q. other_from_not_same d first other (sym q ∙ equal_from_same e first is))

-- the places after a digest that had none is added
pub place_pushed : (d e : HashAndSize) (slots : List (Option HashAndSize)) → is_among (live slots) d ≡ false
    → place_in e (slots ++ Some d ∷ []) ≡ cond (same e d) (Some (length slots)) (place_in e slots)
place_pushed d e [] none = one_by (same e d)
place_pushed d e (None ∷ slots) none = pushed_by false (same e d) (length slots) (place_in e slots) _ (place_pushed d e slots none) (λ q. absurd cc)
place_pushed d e (Some first ∷ slots) none =
    let h = or_parts (same d first) (is_among (live slots) d) none in
    pushed_by (same e first) (same e d) (length slots) (place_in e slots) _ (place_pushed d e slots h.1) (other_than e d first h.0)

-- ---- a slot emptied

-- where no slot has the digest, no other place changes
emptied_by : (b c : Bool) (o p : Option ℕ) → p ≡ cond c None o → (b ≡ true → c ≡ false) → cond b (Some 0) (option_map suc p) ≡ cond c None (cond b (Some 0) (option_map suc o))
emptied_by true true o p e h = absurd (let q = h refl in cc)
emptied_by true false o p e h = refl
emptied_by false true o p e h = ap (option_map suc) e
emptied_by false false o p e h = ap (option_map suc) e

-- what an emptied slot says of a digest
pub record IsEmptied (d : HashAndSize) (slots : List (Option HashAndSize)) (place : ℕ) : Type 0 where
  pub within : place < length slots
  pub live_is : live (set slots place None) ≡ other_digests d (live slots)
  pub fewer : suc (length (other_digests d (live slots))) ≡ length (live slots)
  pub places : (e : HashAndSize) → place_in e (set slots place None) ≡ cond (same e d) None (place_in e slots)

-- an empty slot before it
later : (d : HashAndSize) (rest : List (Option HashAndSize)) (q : ℕ) → IsEmptied d rest q → IsEmptied d (None ∷ rest) (suc q)
later d rest q h = record {
  within = omega (arith, h.within);
  live_is = h.live_is;
  fewer = h.fewer;
  places = λ e. emptied_by false (same e d) (place_in e rest) _ (h.places e) (λ q. absurd cc);
}

-- the slot of another digest before it
after_other : (d first : HashAndSize) (rest : List (Option HashAndSize)) (q : ℕ) → same d first ≡ false → IsEmptied d rest q → IsEmptied d (Some first ∷ rest) (suc q)
after_other d first rest q other h =
    let keeps : other_digests d (first ∷ live rest) ≡ first ∷ other_digests d (live rest) = kept_by (same first d) first (other_digests d (live rest)) (same_swap first d ∙ other) in
    record {
      within = omega (arith, h.within);
      live_is = ap (λ (ds : List HashAndSize). first ∷ ds) h.live_is ∙ sym keeps;
      fewer = ap (λ (ds : List HashAndSize). suc (length ds)) keeps ∙ ap suc h.fewer;
      places = λ e. emptied_by (same e first) (same e d) (place_in e rest) _ (h.places e) (other_than e d first other);
    }
  where
    kept_by : (b : Bool) (first : HashAndSize) (ds : List HashAndSize) → b ≡ false → cond (not b) (first ∷ ds) ds ≡ first ∷ ds
    kept_by true first ds e = absurd cc
    kept_by false first ds e = refl

at_front : (c b : Bool) (o : Option ℕ) → b ≡ c → (c ≡ true → o ≡ None) → option_map suc o ≡ cond c None (cond b (Some 0) (option_map suc o))
at_front true b o e h = ap (option_map suc) (h refl)
at_front false true o e h = absurd cc
at_front false false o e h = refl

left_by : (b : Bool) (first : HashAndSize) (ds : List HashAndSize) → b ≡ true → cond (not b) (first ∷ ds) ds ≡ ds
left_by true first ds e = refl
left_by false first ds e = absurd cc

pub not_there : (d : HashAndSize) (ds : List HashAndSize) → AllByRecursion (λ other. other ≢ d) ds → is_among ds d ≡ false
not_there d [] h = refl
not_there d (first ∷ ds) h = rw (not_same_from_other d first (λ q. h.0 (sym q))) (not_there d ds h.1)

-- its own slot in front
front : (d first : HashAndSize) (rest : List (Option HashAndSize)) → same d first ≡ true → DistinctDigests (first ∷ live rest) → IsEmptied d (Some first ∷ rest) 0
front d first rest is distinct =
    let equal : d ≡ first = equal_from_same d first is in
    let apart : AllByRecursion (λ other. other ≢ d) (live rest) = subst (λ (x : HashAndSize). AllByRecursion (λ other. other ≢ x) (live rest)) (sym equal) distinct.0 in
    let others : other_digests d (first ∷ live rest) ≡ live rest = left_by (same first d) first (other_digests d (live rest)) (same_swap first d ∙ is) ∙ all_others d (live rest) apart in
    record {
      within = omega arith;
      live_is = sym others;
      fewer = ap (λ (ds : List HashAndSize). suc (length ds)) others;
      places = λ e.
          at_front (same e d) (same e first) (place_in e rest) (ap (same e) (sym equal))
          (λ t. no_place e rest (ap (is_among (live rest)) (equal_from_same e d t) ∙ not_there d (live rest) apart));
    }

emptied_rest : (d : HashAndSize) (rest : List (Option HashAndSize)) (place : ℕ) (o : Option ℕ) → ((q : ℕ) → o ≡ Some q → IsEmptied d rest q) → option_map suc o ≡ Some place
    → (q : ℕ) × IsEmptied d rest q × (suc q ≡ place)
emptied_rest d rest place None h is = absurd cc
emptied_rest d rest place (Some q) h is = (q, h q refl, same_Some (suc q) place is)

emptied_some : (d first : HashAndSize) (rest : List (Option HashAndSize)) (place : ℕ) (b : Bool) → DistinctDigests (first ∷ live rest) → same d first ≡ b
    → ((q : ℕ) → place_in d rest ≡ Some q → IsEmptied d rest q) → cond b (Some 0) (option_map suc (place_in d rest)) ≡ Some place → IsEmptied d (Some first ∷ rest) place
emptied_some d first rest place true distinct t h is = subst (IsEmptied d (Some first ∷ rest)) (same_Some 0 place is) (front d first rest t distinct)
emptied_some d first rest place false distinct t h is =
    let found = emptied_rest d rest place (place_in d rest) h is in
    subst (IsEmptied d (Some first ∷ rest)) found.2 (after_other d first rest found.0 t found.1)

-- the slot of a digest, emptied
pub emptied : (d : HashAndSize) (slots : List (Option HashAndSize)) (place : ℕ) → DistinctDigests (live slots) → place_in d slots ≡ Some place → IsEmptied d slots place
emptied d [] place distinct e = absurd cc
emptied d (None ∷ rest) place distinct e =
    let h = emptied_rest d rest place (place_in d rest) (λ q. emptied d rest q distinct) e in
    subst (IsEmptied d (None ∷ rest)) h.2 (later d rest h.0 h.1)
emptied d (Some first ∷ rest) place distinct e = emptied_some d first rest place (same d first) distinct refl (λ q. emptied d rest q distinct.1) e

length_push : {X : Type 0} (xs : List X) (x : X) → length (xs ++ x ∷ []) ≡ suc (length xs)
length_push [] x = refl
length_push (y ∷ xs) x = ap suc (length_push xs x)

pub length_set : {X : Type 0} (xs : List X) (i : ℕ) (x : X) → length (set xs i x) ≡ length xs
length_set [] i x = refl
length_set (y ∷ xs) zero x = refl
length_set (y ∷ xs) (suc i) x = ap suc (length_set xs i x)

-- a digest that leaves its slot for a new one
pub last_is : (d : HashAndSize) (slots : List (Option HashAndSize)) (place : ℕ) → DistinctDigests (live slots) → place_in d slots ≡ Some place
    → live (set slots place None ++ Some d ∷ []) ≡ other_digests d (live slots) ++ d ∷ []
last_is d slots place distinct e =
    live_both (set slots place None) (Some d ∷ []) ∙ ap (λ (ds : List HashAndSize). ds ++ d ∷ []) (emptied d slots place distinct e).live_is

twice : (b : Bool) (n : ℕ) (o : Option ℕ) → cond b (Some n) (cond b None o) ≡ cond b (Some n) o
twice true n o = refl
twice false n o = refl

-- ---- empty slots dropped, and all places set anew

-- the digest of a slot is in none before it
pub not_before : (d : HashAndSize) (slots : List (Option HashAndSize)) (i : ℕ) (x : Option HashAndSize) → DistinctDigests (live slots) → i < length slots → get_or slots i x ≡ Some d → is_among (live (take i slots)) d ≡ false
not_before d [] i x distinct lt e = absurd (omega arith)
not_before d (slot ∷ slots) zero x distinct lt e = refl
not_before d (None ∷ slots) (suc i) x distinct lt e = not_before d slots i x distinct (omega arith) e
not_before d (Some first ∷ slots) (suc i) x distinct lt e =
    rw (not_same_from_other d first (every_contains (λ other. other ≢ first) (live slots) d distinct.0 (has_at d slots i x (omega arith) e)))
    (not_before d slots i x distinct.1 (omega arith) e)
  where
    has_at : (d : HashAndSize) (slots : List (Option HashAndSize)) (i : ℕ) (x : Option HashAndSize) → i < length slots → get_or slots i x ≡ Some d → Contains (live slots) d
    has_at d [] i x lt e = absurd (omega arith)
    has_at d (None ∷ slots) zero x lt e = absurd cc
    has_at d (Some first ∷ slots) zero x lt e = subst (λ y. Contains (first ∷ live slots) y) (same_Some first d e) (has_first first (live slots))
    has_at d (None ∷ slots) (suc i) x lt e = has_at d slots i x (omega arith) e
    has_at d (Some first ∷ slots) (suc i) x lt e = has_later first d (live slots) (has_at d slots i x (omega arith) e)

live_next : (slots : List (Option HashAndSize)) (i : ℕ) → i < length slots → live (drop i slots) ≡ live (get_or slots i None ∷ drop (suc i) slots)
live_next [] i lt = absurd (omega arith)
live_next (slot ∷ slots) zero lt = refl
live_next (slot ∷ slots) (suc i) lt = live_next slots i (omega arith)

one_more : (i : ℕ) → suc i ≡ i + 1
one_more i = omega arith

-- one step along the slots
pub live_here : (slots : List (Option HashAndSize)) (i : ℕ) → i < length slots → live (drop i slots) ≡ live (get_or slots i None ∷ drop (i + 1) slots)
live_here slots i lt = live_next slots i lt ∙ ap (λ (n : ℕ). live (get_or slots i None ∷ drop n slots)) (one_more i)

take_next : {X : Type 0} (xs : List X) (i : ℕ) (x : X) → i < length xs → take (suc i) xs ≡ take i xs ++ get_or xs i x ∷ []
take_next [] i x lt = absurd (omega arith)
take_next (y ∷ xs) zero x lt = refl
take_next (y ∷ xs) (suc i) x lt = ap (λ (ys : List _). y ∷ ys) (take_next xs i x (omega arith))

take_more : {X : Type 0} (xs : List X) (i : ℕ) (x : X) → i < length xs → take (i + 1) xs ≡ take i xs ++ get_or xs i x ∷ []
take_more xs i x lt = ap (λ (n : ℕ). take n xs) (sym (one_more i)) ∙ take_next xs i x lt

-- ---- the map that goes with the slots

module _ (d : HashAndSize) (slots : List (Option HashAndSize)) (places now : List (HashAndSize × ℕ)) (h : IsPlaced slots places) where
  -- a digest more
  pub placed_more : is_among (live slots) d ≡ false → ((q : HashAndSize) → lookup (same q) now ≡ cond (same d q) (Some (length slots)) (lookup (same q) places)) → length now ≡ suc (length places)
      → IsPlaced (slots ++ Some d ∷ []) now
  placed_more none at count = record {
    distinct = subst DistinctDigests (sym (live_both slots (Some d ∷ []))) (distinct_more (live slots) d h.distinct (apart d (live slots) none));
    placed = λ e.
        at e
        ∙ ap (λ (b : Bool). cond b (Some (length slots)) (lookup (same e) places)) (same_swap d e)
        ∙ ap (λ (o : Option ℕ). cond (same e d) (Some (length slots)) o) (h.placed e)
        ∙ sym (place_pushed d e slots none);
    count = count ∙ ap suc h.count ∙ sym (ap length (live_both slots (Some d ∷ [])) ∙ length_push (live slots) d);
  }

  module _ (place : ℕ) (is : lookup (same d) places ≡ Some place) where
    gone : IsEmptied d slots place
    gone = emptied d slots place h.distinct (sym (h.placed d) ∙ is)

    -- a digest that goes
    pub placed_without : ((q : HashAndSize) → lookup (same q) now ≡ cond (same d q) None (lookup (same q) places)) → suc (length now) ≡ length places → IsPlaced (set slots place None) now
    placed_without at count = record {
      distinct = subst DistinctDigests (sym gone.live_is) (distinct_kept _ (live slots) h.distinct);
      placed = λ e.
          at e
          ∙ ap (λ (b : Bool). cond b None (lookup (same e) places)) (same_swap d e)
          ∙ ap (λ (o : Option ℕ). cond (same e d) None o) (h.placed e)
          ∙ sym (gone.places e);
      count = let n = ap length gone.live_is in let m = gone.fewer in let k = h.count in omega (arith, n, m, k, count);
    }

    -- and one that comes last
    pub placed_last : ((q : HashAndSize) → lookup (same q) now ≡ cond (same d q) (Some (length slots)) (lookup (same q) places)) → length now ≡ length places
        → IsPlaced (set slots place None ++ Some d ∷ []) now
    placed_last at count =
        let len = length_set slots place None in
        let out : is_among (live (set slots place None)) d ≡ false = ap (λ ds. is_among ds d) gone.live_is ∙ not_there d (other_digests d (live slots)) (others_differ d (live slots)) in
        record {
          distinct = subst DistinctDigests (sym (last_is d slots place h.distinct (sym (h.placed d) ∙ is))) (distinct_more (other_digests d (live slots)) d (distinct_kept _ (live slots) h.distinct) (others_differ d (live slots)));
          placed = λ e.
              at e
              ∙ ap (λ (b : Bool). cond b (Some (length slots)) (lookup (same e) places)) (same_swap d e)
              ∙ ap (λ (o : Option ℕ). cond (same e d) (Some (length slots)) o) (h.placed e)
              ∙ sym (twice (same e d) (length slots) (place_in e slots))
              ∙ ap (λ (o : Option ℕ). cond (same e d) (Some (length slots)) o) (sym (gone.places e))
              ∙ ap (λ (n : ℕ). cond (same e d) (Some n) (place_in e (set slots place None))) (sym len)
              ∙ sym (place_pushed d e (set slots place None) out);
          count = let n = ap length (last_is d slots place h.distinct (sym (h.placed d) ∙ is)) in let p = length_push (other_digests d (live slots)) d in let m = gone.fewer in let k = h.count in omega (arith, n, p, m, k, count);
        }

-- ---- places set one after the other

-- the map has the places of the first i slots
pub record IsNumbered (slots : List (Option HashAndSize)) (i : ℕ) (places : List (HashAndSize × ℕ)) (spare : ℕ) : Type 0 where
  pub placed : IsPlaced (take i slots) places
  pub room : length (live (drop i slots)) ≤ spare

-- with no slots
pub none_numbered : (slots : List (Option HashAndSize)) (places : List (HashAndSize × ℕ)) (spare : ℕ) → places ≡ [] → length (live slots) ≤ spare → IsNumbered slots 0 places spare
none_numbered slots places spare e le = record {
  placed = record {
    distinct = tt;
    placed = λ d. ap (lookup (same d)) e;
    count = ap length e;
  };
  room = le;
}

-- with an empty slot more
pub numbered_skip : (slots : List (Option HashAndSize)) (i : ℕ) (places : List (HashAndSize × ℕ)) (spare : ℕ) → i < length slots → get_or slots i None ≡ None → IsNumbered slots i places spare
    → IsNumbered slots (i + 1) places spare
numbered_skip slots i places spare lt e h =
    let more : take (i + 1) slots ≡ take i slots ++ None ∷ [] = take_more slots i None lt ∙ ap (λ (s : Option HashAndSize). take i slots ++ s ∷ []) e in
    let lives : live (take (i + 1) slots) ≡ live (take i slots) = ap live more ∙ live_both (take i slots) (None ∷ []) ∙ append_none (live (take i slots)) in
    record {
      placed = record {
        distinct = subst DistinctDigests (sym lives) h.placed.distinct;
        placed = λ d. h.placed.placed d ∙ sym (place_skip d (take i slots)) ∙ ap (place_in d) (sym more);
        count = h.placed.count ∙ ap length (sym lives);
      };
      room = subst (λ (n : ℕ). n ≤ spare) (ap length (live_here slots i lt ∙ ap (λ (s : Option HashAndSize). live (s ∷ drop (i + 1) slots)) e)) h.room;
    }
  where
    append_none : (ds : List HashAndSize) → ds ++ [] ≡ ds
    append_none [] = refl
    append_none (d ∷ ds) = ap (λ (rest : List HashAndSize). d ∷ rest) (append_none ds)

    place_skip : (d : HashAndSize) (slots : List (Option HashAndSize)) → place_in d (slots ++ None ∷ []) ≡ place_in d slots
    place_skip d [] = refl
    place_skip d (slot ∷ slots) = ap (λ (o : Option ℕ). cond (has_digest d slot) (Some 0) (option_map suc o)) (place_skip d slots)

-- with a digest more
pub numbered_more : (slots : List (Option HashAndSize)) (i : ℕ) (d : HashAndSize) (places now : List (HashAndSize × ℕ)) (spare left : ℕ) → DistinctDigests (live slots) → i < length slots → get_or slots i None ≡ Some d
    → ((q : HashAndSize) → lookup (same q) now ≡ cond (same d q) (Some i) (lookup (same q) places)) → length now ≡ suc (length places) → spare ≤ left + 1
    → IsNumbered slots i places spare → IsNumbered slots (i + 1) now left
numbered_more slots i d places now spare left distinct lt e at count room h =
    let more : take (i + 1) slots ≡ take i slots ++ Some d ∷ [] = take_more slots i None lt ∙ ap (λ (s : Option HashAndSize). take i slots ++ s ∷ []) e in
    let n : length (take i slots) ≡ i = length_take slots i (omega (arith, lt)) in
    let fits = subst (λ (n : ℕ). n ≤ spare) (ap length (live_here slots i lt ∙ ap (λ (s : Option HashAndSize). live (s ∷ drop (i + 1) slots)) e)) h.room in
    record {
      placed = subst (λ (xs : List (Option HashAndSize)). IsPlaced xs now) (sym more)
          (placed_more d (take i slots) places now h.placed (not_before d slots i None distinct lt e) (λ q. at q ∙ ap (λ (k : ℕ). cond (same d q) (Some k) (lookup (same q) places)) (sym n)) count);
      room = omega (arith, fits, room);
    }
  where
    length_take : {X : Type 0} (xs : List X) (i : ℕ) → i ≤ length xs → length (take i xs) ≡ i
    length_take xs zero le = refl
    length_take [] (suc i) le = absurd (omega arith)
    length_take (x ∷ xs) (suc i) le = ap suc (length_take xs i (omega arith))

-- all of them
pub numbered_all : (slots : List (Option HashAndSize)) (i : ℕ) (places : List (HashAndSize × ℕ)) (spare : ℕ) → length slots ≤ i → IsNumbered slots i places spare → IsPlaced slots places
numbered_all slots i places spare le h = subst (λ (xs : List (Option HashAndSize)). IsPlaced xs places) (take_all slots i le) h.placed
  where
    take_all : {X : Type 0} (xs : List X) (i : ℕ) → length xs ≤ i → take i xs ≡ xs
    take_all [] zero le = refl
    take_all [] (suc i) le = refl
    take_all (x ∷ xs) zero le = absurd (omega arith)
    take_all (x ∷ xs) (suc i) le = ap (λ (ys : List _). x ∷ ys) (take_all xs i (omega arith))

-- ---- what is asked of the slots

has_by : (o : Option ℕ) (b : Bool) → (b ≡ false → o ≡ None) → (o ≡ None → b ≡ false) → is_some o ≡ b
has_by None true f g = absurd (let e = g refl in cc)
has_by None false f g = refl
has_by (Some i) true f g = refl
has_by (Some i) false f g = absurd (let e = f refl in cc)

-- a digest has a place where it is among the digests
pub has_told : (d : HashAndSize) (slots : List (Option HashAndSize)) (places : List (HashAndSize × ℕ)) → IsPlaced slots places → is_some (lookup (same d) places) ≡ is_among (live slots) d
has_told d slots places h = ap is_some (h.placed d) ∙ has_by (place_in d slots) (is_among (live slots) d) (no_place d slots) (not_among d slots)

-- a digest that is among them has one
pub place_is : (d : HashAndSize) (slots : List (Option HashAndSize)) (places : List (HashAndSize × ℕ)) → IsPlaced slots places → is_among (live slots) d ≡ true → lookup (same d) places ≡ None → ⊥
place_is d slots places h there none = let e = ap is_some none in let f = has_told d slots places h in cc

-- and one that has none isn't among them
pub not_placed : (d : HashAndSize) (slots : List (Option HashAndSize)) (places : List (HashAndSize × ℕ)) → IsPlaced slots places → lookup (same d) places ≡ None → live slots ≡ other_digests d (live slots)
not_placed d slots places h none = sym (all_others d (live slots) (apart d (live slots) (not_among d slots (sym (h.placed d) ∙ none))))

module _ (t : Table) where
  free_some : (slot : Option HashAndSize) (rest : List HashAndSize) (d : HashAndSize) → slice_get (unguarded t (live (slot ∷ []))) 0 ≡ Some d → unguarded t (live (slot ∷ [])) ++ rest ≡ d ∷ rest
  free_some None rest d e = absurd cc
  free_some (Some first) rest d e = by (is_guarded t first) e
    where
      by : (b : Bool) → slice_get (cond (not b) (first ∷ []) []) 0 ≡ Some d → cond (not b) (first ∷ []) [] ++ rest ≡ d ∷ rest
      by true e = absurd cc
      by false e = ap (λ (x : HashAndSize). x ∷ rest) (same_Some first d e)

  free_none : (slot : Option HashAndSize) (rest : List HashAndSize) → slice_get (unguarded t (live (slot ∷ []))) 0 ≡ None → unguarded t (live (slot ∷ [])) ++ rest ≡ rest
  free_none None rest e = refl
  free_none (Some first) rest e = by (is_guarded t first) e
    where
      by : (b : Bool) → slice_get (cond (not b) (first ∷ []) []) 0 ≡ None → cond (not b) (first ∷ []) [] ++ rest ≡ rest
      by true e = refl
      by false e = absurd cc

  free_both : (slot : Option HashAndSize) (slots : List (Option HashAndSize)) → unguarded t (live (slot ∷ slots)) ≡ unguarded t (live (slot ∷ [])) ++ unguarded t (live slots)
  free_both None slots = refl
  free_both (Some first) slots = by (is_guarded t first)
    where
      by : (b : Bool) → cond (not b) (first ∷ unguarded t (live slots)) (unguarded t (live slots)) ≡ cond (not b) (first ∷ []) [] ++ unguarded t (live slots)
      by true = refl
      by false = refl

  default_by : (slots : List (Option HashAndSize)) (i : ℕ) (x y : Option HashAndSize) → i < length slots → get_or slots i x ≡ get_or slots i y
  default_by [] i x y lt = absurd (omega arith)
  default_by (slot ∷ slots) zero x y lt = refl
  default_by (slot ∷ slots) (suc i) x y lt = default_by slots i x y (omega arith)

  at_slot : (slots : List (Option HashAndSize)) (i : ℕ) (slot : Option HashAndSize) → i < length slots → slot ≡ get_or slots i slot → unguarded t (live (drop i slots)) ≡ unguarded t (live (slot ∷ drop (i + 1) slots))
  at_slot slots i slot lt is =
      ap (unguarded t) (live_here slots i lt)
      ∙ ap (λ (s : Option HashAndSize). unguarded t (live (s ∷ drop (i + 1) slots))) (default_by slots i None slot lt ∙ sym is)

  -- one step along the slots, at a digest that isn't guarded
  pub free_here : (slots : List (Option HashAndSize)) (i : ℕ) (slot : Option HashAndSize) (d : HashAndSize) → i < length slots → slot ≡ get_or slots i slot → slice_get (unguarded t (live (slot ∷ []))) 0 ≡ Some d
      → unguarded t (live (drop i slots)) ≡ d ∷ unguarded t (live (drop (i + 1) slots))
  free_here slots i slot d lt is e = at_slot slots i slot lt is ∙ free_both slot (drop (i + 1) slots) ∙ free_some slot (unguarded t (live (drop (i + 1) slots))) d e

  -- and where there is none
  pub free_later : (slots : List (Option HashAndSize)) (i : ℕ) (slot : Option HashAndSize) → i < length slots → slot ≡ get_or slots i slot → slice_get (unguarded t (live (slot ∷ []))) 0 ≡ None
      → unguarded t (live (drop i slots)) ≡ unguarded t (live (drop (i + 1) slots))
  free_later slots i slot lt is e = at_slot slots i slot lt is ∙ free_both slot (drop (i + 1) slots) ∙ free_none slot (unguarded t (live (drop (i + 1) slots))) e

  -- their end
  pub free_done : (slots : List (Option HashAndSize)) (i : ℕ) → length slots ≤ i → unguarded t (live (drop i slots)) ≡ []
  free_done slots i le = at_drop_all (λ (xs : List (Option HashAndSize)). unguarded t (live xs)) slots i le

-- the first so many
pub take_here : (n : ℕ) (before : List HashAndSize) (d : HashAndSize) (rest : List HashAndSize) → (n ≡ 0 → ⊥) → (before ++ d ∷ []) ++ take (n - 1) rest ≡ before ++ take n (d ∷ rest)
take_here zero before d rest some = absurd (some refl)
take_here (suc n) before d rest some = ap (λ (k : ℕ). (before ++ d ∷ []) ++ take k rest) (less_one n) ∙ push_both before d (take n rest)
  where
    less_one : (n : ℕ) → suc n - 1 ≡ n
    less_one n = omega arith

    push_both : (xs : List HashAndSize) (d : HashAndSize) (ys : List HashAndSize) → (xs ++ d ∷ []) ++ ys ≡ xs ++ d ∷ ys
    push_both [] d ys = refl
    push_both (x ∷ xs) d ys = ap (λ (zs : List HashAndSize). x ∷ zs) (push_both xs d ys)

take_nothing : (n : ℕ) → take {A = HashAndSize} n [] ≡ []
take_nothing zero = refl
take_nothing (suc n) = refl

pub none_more : (ds : List HashAndSize) → ds ++ [] ≡ ds
none_more [] = refl
none_more (d ∷ ds) = ap (λ (rest : List HashAndSize). d ∷ rest) (none_more ds)

pub take_end : (n : ℕ) (before rest : List HashAndSize) → rest ≡ [] → before ++ take n rest ≡ before
take_end n before rest e = ap (λ (xs : List HashAndSize). before ++ take n xs) e ∙ ap (λ (xs : List HashAndSize). before ++ xs) (take_nothing n) ∙ none_more before

pub take_none : (n : ℕ) (before rest : List HashAndSize) → n ≡ 0 → before ++ take n rest ≡ before
take_none zero before rest e = none_more before
take_none (suc n) before rest e = absurd (omega (arith, e))

-- ---- how many there are

few_by : (b : Bool) (first : HashAndSize) (ds : List HashAndSize) (n : ℕ) → length ds ≤ n → length (cond b (first ∷ ds) ds) ≤ suc n
few_by true first ds n h = omega arith
few_by false first ds n h = omega arith

-- without a digest there are no more
pub fewer_digests : (d : HashAndSize) (ds : List HashAndSize) → length (other_digests d ds) ≤ length ds
fewer_digests d [] = omega arith
fewer_digests d (first ∷ ds) = few_by (not (same first d)) first (other_digests d ds) (length ds) (fewer_digests d ds)

-- there are no more digests than slots
pub fewer_live : (slots : List (Option HashAndSize)) → length (live slots) ≤ length slots
fewer_live [] = omega arith
fewer_live (None ∷ slots) = omega (arith, fewer_live slots)
fewer_live (Some d ∷ slots) = omega (arith, fewer_live slots)

some_live : (d : HashAndSize) (ds : List HashAndSize) → is_among ds d ≡ true → 0 < length ds
some_live d [] e = absurd cc
some_live d (first ∷ ds) e = omega arith

-- a digest that moves leaves as many
pub moved_length : (d : HashAndSize) (slots : List (Option HashAndSize)) → DistinctDigests (live slots) → is_among (live slots) d ≡ true → length (other_digests d (live slots) ++ d ∷ []) ≡ length (live slots)
moved_length d slots distinct there = by (place_in d slots) refl
  where
    by : (o : Option ℕ) → place_in d slots ≡ o → length (other_digests d (live slots) ++ d ∷ []) ≡ length (live slots)
    by None e = absurd (let f = not_among d slots e in cc)
    by (Some place) e = length_push (other_digests d (live slots)) d ∙ (emptied d slots place distinct e).fewer

-- where one is there, there are fewer than half the room
pub has_room : (d : HashAndSize) (ds : List HashAndSize) (n : ℕ) → is_among ds d ≡ true → 2 * length ds ≤ n → length ds < n
has_room d ds n e h = omega (arith, some_live d ds e, h)

-- a value at a place, by another default
pub at_default : (slots : List (Option HashAndSize)) (i : ℕ) (x : Option HashAndSize) → i < length slots → get_or slots i None ≡ get_or slots i x
at_default [] i x lt = absurd (omega arith)
at_default (slot ∷ slots) zero x lt = refl
at_default (slot ∷ slots) (suc i) x lt = at_default slots i x (omega arith)

-- at a slot that has a digest there is room in the map
pub numbered_spare : (slots : List (Option HashAndSize)) (i : ℕ) (d : HashAndSize) (places : List (HashAndSize × ℕ)) (spare : ℕ) → i < length slots → get_or slots i None ≡ Some d → IsNumbered slots i places spare → 0 < spare
numbered_spare slots i d places spare lt e h =
    let fits = subst (λ (n : ℕ). n ≤ spare) (ap length (live_here slots i lt ∙ ap (λ (s : Option HashAndSize). live (s ∷ drop (i + 1) slots)) e)) h.room in
    omega (arith, fits)

-- ---- slots that are empty in front

-- a slot that is emptied
pub front_set : (slots : List (Option HashAndSize)) (place n : ℕ) → live (take n slots) ≡ [] → live (take n (set slots place None)) ≡ []
front_set slots place zero e = refl
front_set [] place (suc n) e = e
front_set (None ∷ slots) zero (suc n) e = e
front_set (Some d ∷ slots) zero (suc n) e = absurd cc
front_set (None ∷ slots) (suc place) (suc n) e = front_set slots place n e
front_set (Some d ∷ slots) (suc place) (suc n) e = absurd cc

-- slots behind
pub front_push : (slots more : List (Option HashAndSize)) (n : ℕ) → n ≤ length slots → live (take n slots) ≡ [] → live (take n (slots ++ more)) ≡ []
front_push slots more zero le e = refl
front_push [] more (suc n) le e = absurd (omega arith)
front_push (None ∷ slots) more (suc n) le e = front_push slots more n (omega arith) e
front_push (Some d ∷ slots) more (suc n) le e = absurd cc

-- one more
pub front_more : (slots : List (Option HashAndSize)) (i : ℕ) → i < length slots → get_or slots i None ≡ None → live (take i slots) ≡ [] → live (take (i + 1) slots) ≡ []
front_more slots i lt e h =
    ap live (take_more slots i None lt ∙ ap (λ (s : Option HashAndSize). take i slots ++ s ∷ []) e)
    ∙ live_both (take i slots) (None ∷ []) ∙ ap (λ (ds : List HashAndSize). ds ++ []) h

-- the digests are those of the slots behind
pub front_dropped : (slots : List (Option HashAndSize)) (n : ℕ) → live (take n slots) ≡ [] → live (drop n slots) ≡ live slots
front_dropped slots zero e = refl
front_dropped [] (suc n) e = refl
front_dropped (None ∷ slots) (suc n) e = front_dropped slots n e
front_dropped (Some d ∷ slots) (suc n) e = absurd cc

-- ---- the digests from one on

under : (o : Option ℕ) (place : ℕ) → option_map suc o ≡ Some place → (q : ℕ) × (o ≡ Some q) × (suc q ≡ place)
under None place e = absurd cc
under (Some q) place e = (q, refl, same_Some (suc q) place e)

-- what a place says of the digests from one on
pub record IsFrom (d : HashAndSize) (slots : List (Option HashAndSize)) (place : ℕ) : Type 0 where
  pub within : place < length slots
  pub from : live (drop place slots) ≡ from_digest d (live slots)
  pub next : slice_get (live (drop (suc place) slots)) 0 ≡ slice_get (from_digest d (live slots)) 1

from_later : (d : HashAndSize) (slot : Option HashAndSize) (rest : List (Option HashAndSize)) (q : ℕ) → from_digest d (live (slot ∷ rest)) ≡ from_digest d (live rest) → IsFrom d rest q → IsFrom d (slot ∷ rest) (suc q)
from_later d slot rest q e h = record {
  within = let lt = h.within in omega (arith, lt);
  from = h.from ∙ sym e;
  next = h.next ∙ ap (λ (ds : List HashAndSize). slice_get ds 1) (sym e);
}

from_rest : (d : HashAndSize) (slot : Option HashAndSize) (rest : List (Option HashAndSize)) (place : ℕ) → from_digest d (live (slot ∷ rest)) ≡ from_digest d (live rest) → ((q : ℕ) → place_in d rest ≡ Some q → IsFrom d rest q)
    → option_map suc (place_in d rest) ≡ Some place → IsFrom d (slot ∷ rest) place
from_rest d slot rest place e h is =
    let u = under (place_in d rest) place is in
    subst (IsFrom d (slot ∷ rest)) u.2 (from_later d slot rest u.0 e (h u.0 u.1))

from_here : (b : Bool) (first : HashAndSize) (ds more : List HashAndSize) → b ≡ true → cond b (first ∷ ds) more ≡ first ∷ ds
from_here true first ds more e = refl
from_here false first ds more e = absurd cc

from_there : (b : Bool) (ds more : List HashAndSize) → b ≡ false → cond b ds more ≡ more
from_there true ds more e = absurd cc
from_there false ds more e = refl

from_some : (d first : HashAndSize) (rest : List (Option HashAndSize)) (place : ℕ) (b : Bool) → same d first ≡ b → ((q : ℕ) → place_in d rest ≡ Some q → IsFrom d rest q)
    → cond b (Some 0) (option_map suc (place_in d rest)) ≡ Some place → IsFrom d (Some first ∷ rest) place
from_some d first rest place true t h is =
    let here = from_here (same d first) first (live rest) (from_digest d (live rest)) t in
    subst (IsFrom d (Some first ∷ rest)) (same_Some 0 place is)
    (record {
      within = omega arith;
      from = sym here;
      next = ap (λ (ds : List HashAndSize). slice_get ds 1) (sym here);
    })
from_some d first rest place false t h is =
    from_rest d (Some first) rest place (from_there (same d first) (first ∷ live rest) (from_digest d (live rest)) t) h is

-- a digest's place
pub from_place : (d : HashAndSize) (slots : List (Option HashAndSize)) (place : ℕ) → place_in d slots ≡ Some place → IsFrom d slots place
from_place d [] place e = absurd cc
from_place d (None ∷ rest) place e = from_rest d None rest place refl (from_place d rest) e
from_place d (Some first ∷ rest) place e = from_some d first rest place (same d first) refl (from_place d rest) e

-- and where it has none
pub from_none : (d : HashAndSize) (ds : List HashAndSize) → is_among ds d ≡ false → from_digest d ds ≡ []
from_none d [] e = refl
from_none d (first ∷ ds) e =
    let h = or_parts (same d first) (is_among ds d) e in
    from_there (same d first) (first ∷ ds) (from_digest d ds) h.0 ∙ from_none d ds h.1

-- ---- the digests one after the other

live_at : (slots : List (Option HashAndSize)) (i : ℕ) (slot : Option HashAndSize) → i < length slots → slot ≡ get_or slots i slot → live (drop i slots) ≡ live (slot ∷ drop (i + 1) slots)
live_at slots i slot lt is = live_here slots i lt ∙ ap (λ (s : Option HashAndSize). live (s ∷ drop (i + 1) slots)) (at_default slots i slot lt ∙ sym is)

-- at a slot that isn't empty
pub live_some : (slots : List (Option HashAndSize)) (i : ℕ) (slot : Option HashAndSize) (d : HashAndSize) → i < length slots → slot ≡ get_or slots i slot → slot ≡ Some d → live (drop i slots) ≡ d ∷ live (drop (i + 1) slots)
live_some slots i slot d lt is e = live_at slots i slot lt is ∙ ap (λ (s : Option HashAndSize). live (s ∷ drop (i + 1) slots)) e

-- and at one that is
pub live_skip : (slots : List (Option HashAndSize)) (i : ℕ) (slot : Option HashAndSize) → i < length slots → slot ≡ get_or slots i slot → slot ≡ None → live (drop i slots) ≡ live (drop (i + 1) slots)
live_skip slots i slot lt is e = live_at slots i slot lt is ∙ ap (λ (s : Option HashAndSize). live (s ∷ drop (i + 1) slots)) e

-- their end
pub live_done : (slots : List (Option HashAndSize)) (i : ℕ) → length slots ≤ i → live (drop i slots) ≡ []
live_done slots i le = at_drop_all live slots i le
