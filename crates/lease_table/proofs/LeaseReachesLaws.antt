-- The leases with their pairs, changed one after the other.
use Rattle.std.proofs.Common.{◌≡◌, ℕ, zero, suc, ◌+◌, ◌-◌, ◌<◌, ◌≤◌, Bool, true, false, cond, not, ◌&&◌, ◌||◌, List, [], ◌∷◌, ◌++◌, length, get_or, set, take, drop, map, filter, Option, None, refl, sym, ap, subst, ◌∙◌, arith}
use Rattle.std.specs.Prelude.{nat_lt, nat_eq}
use Rattle.std.proofs.lemmas.List.{append_assoc, drop_more, at_drop_all}
use Rattle.std.proofs.lemmas.Bool.{eq-eqb, eqb-true, lt-ltb, or_parts}
use Rattle.std.specs.List.{AllByRecursion, list_any}
use Rattle.std.proofs.lemmas.List.Sums.{sum_by-cons, sum_by-set, sum_by-drop_more, sum_by_push}
use Rattle.digest_types.specs.Name.{HashAndSize}
use Rattle.directory_canon.specs.declared.node.Edge.{Edge}
use Rattle.store_core.specs.Reach.{Linked, as_dir, as_file, links_to, reaches, is_reached}
use Rattle.store_core.proofs.Elements.{every_map, every_weaker}
use Rattle.store_core.proofs.ReachLaws.{roots_apart}
use Rattle.lease_table.specs.declared.lease_reach.LeaseReach.{LeaseReach}
use Rattle.lease_table.specs.Table.{has_id, roots}
use Rattle.lease_table.specs.Pairs.{has, IsReach}
use Rattle.lease_table.specs.Tallies.{touch, touches, other_kind, IsTallied}
use Rattle.lease_table.specs.LeaseReaches.{leases_of, pairs_of, Share, share, shares, whole, wholes, total_in, uncounted, AreReached, AreFull}
use Rattle.lease_table.proofs.PairSetLaws.{has_both, take_all, take_next, one_more, walked_again, walked_all, reach_more}
use Rattle.lease_table.proofs.LeaseReachLaws.{touch_small, tallied_same, kinds_of}

-- ---- what leases of each element

module _ {X : Type 0} (P : X → Type 0) where
  every_next : (xs : List X) (i : ℕ) (y : X) → i < length xs → AllByRecursion P (take i xs) → P y → AllByRecursion P (take (suc i) (set xs i y))
  every_next [] i y lt h p = absurd (omega arith)
  every_next (x ∷ xs) zero y lt h p = (p, tt)
  every_next (x ∷ xs) (suc i) y lt h p = (h.0, every_next xs i y (omega arith) h.1 p)

  -- of those before a place, and of one that is set there
  pub every_set : (xs : List X) (i : ℕ) (y : X) → i < length xs → AllByRecursion P (take i xs) → P y → AllByRecursion P (take (i + 1) (set xs i y))
  every_set xs i y lt h p = subst (λ (n : ℕ). AllByRecursion P (take n (set xs i y))) (one_more i) (every_next xs i y lt h p)

  every_there : (xs : List X) (i : ℕ) (d : X) → i < length xs → AllByRecursion P (take i xs) → P (get_or xs i d) → AllByRecursion P (take (suc i) xs)
  every_there [] i d lt h p = absurd (omega arith)
  every_there (x ∷ xs) zero d lt h p = (p, tt)
  every_there (x ∷ xs) (suc i) d lt h p = (h.0, every_there xs i d (omega arith) h.1 p)

  -- and of one that stands there
  pub every_further : (xs : List X) (i : ℕ) (d : X) → i < length xs → AllByRecursion P (take i xs) → P (get_or xs i d) → AllByRecursion P (take (i + 1) xs)
  every_further xs i d lt h p = subst (λ (n : ℕ). AllByRecursion P (take n xs)) (one_more i) (every_there xs i d lt h p)

  -- of all
  pub every_all : (xs : List X) (i : ℕ) → length xs ≤ i → AllByRecursion P (take i xs) → AllByRecursion P xs
  every_all xs i le h = subst (AllByRecursion P) (take_all xs i le) h

  -- of the one at a place
  pub every_here : (xs : List X) (i : ℕ) (d : X) → i < length xs → AllByRecursion P (drop i xs) → P (get_or xs i d)
  every_here [] i d lt h = absurd (omega arith)
  every_here (x ∷ xs) zero d lt h = h.0
  every_here (x ∷ xs) (suc i) d lt h = every_here xs i d (omega arith) h

  rest_next : (xs : List X) (i : ℕ) (y : X) → i < length xs → AllByRecursion P (drop i xs) → AllByRecursion P (drop (suc i) (set xs i y))
  rest_next [] i y lt h = absurd (omega arith)
  rest_next (x ∷ xs) zero y lt h = h.1
  rest_next (x ∷ xs) (suc i) y lt h = rest_next xs i y (omega arith) h

  -- of those behind it
  pub every_rest : (xs : List X) (i : ℕ) (y : X) → i < length xs → AllByRecursion P (drop i xs) → AllByRecursion P (drop (i + 1) (set xs i y))
  every_rest xs i y lt h = subst (λ (n : ℕ). AllByRecursion P (drop n (set xs i y))) (one_more i) (rest_next xs i y lt h)

  rest_there : (xs : List X) (i : ℕ) → i < length xs → AllByRecursion P (drop i xs) → AllByRecursion P (drop (suc i) xs)
  rest_there [] i lt h = absurd (omega arith)
  rest_there (x ∷ xs) zero lt h = h.1
  rest_there (x ∷ xs) (suc i) lt h = rest_there xs i (omega arith) h

  pub every_later : (xs : List X) (i : ℕ) → i < length xs → AllByRecursion P (drop i xs) → AllByRecursion P (drop (i + 1) xs)
  every_later xs i lt h = subst (λ (n : ℕ). AllByRecursion P (drop n xs)) (one_more i) (rest_there xs i lt h)

-- ---- maps of the leases

module _ {X Y : Type 0} (f : X → Y) where
  length_mapped : (xs : List X) → length (map f xs) ≡ length xs
  length_mapped [] = refl
  length_mapped (x ∷ xs) = ap suc (length_mapped xs)

  -- those that are told the same are as many
  pub same_length : (xs ys : List X) → map f xs ≡ map f ys → length xs ≡ length ys
  same_length xs ys e = sym (length_mapped xs) ∙ ap length e ∙ length_mapped ys

  pub map_of_set : (xs : List X) (i : ℕ) (y : X) → map f (set xs i y) ≡ set (map f xs) i (f y)
  map_of_set [] i y = refl
  map_of_set (x ∷ xs) zero y = refl
  map_of_set (x ∷ xs) (suc i) y = ap (λ (ys : List Y). f x ∷ ys) (map_of_set xs i y)

  -- one that is told the same changes nothing that is told
  pub map_kept : (xs : List X) (i : ℕ) (y d : X) → i < length xs → f y ≡ f (get_or xs i d) → map f (set xs i y) ≡ map f xs
  map_kept [] i y d lt e = absurd (omega arith)
  map_kept (x ∷ xs) zero y d lt e = ap (λ (z : Y). z ∷ map f xs) e
  map_kept (x ∷ xs) (suc i) y d lt e = ap (λ (ys : List Y). f x ∷ ys) (map_kept xs i y d (omega arith) e)

  pub map_at : (xs : List X) (i : ℕ) (d : X) → get_or (map f xs) i (f d) ≡ f (get_or xs i d)
  map_at [] i d = refl
  map_at (x ∷ xs) zero d = refl
  map_at (x ∷ xs) (suc i) d = map_at xs i d

-- where all pairs are counted, they are the whole
pub full_shares : (kept : List LeaseReach) → AreFull kept → shares kept ≡ wholes kept
full_shares [] h = refl
full_shares (reach ∷ kept) h = (λ i. (record { lease = reach.lease; pairs = (ap (λ (n : ℕ). take n reach.pairs) h.0 ∙ take_all reach.pairs (length reach.pairs) (omega arith)) i }) ∷ full_shares kept h.1 i)

-- ---- sums

-- what the leases but one tell, and that one
pub total_of_others : (shared : List Share) (i : ℕ) (none m d : Share) (q : HashAndSize) → i < length shared → none.pairs ≡ [] → m ≡ get_or shared i d → total_in (set shared i none) q + touch m.pairs q ≡ total_in shared q
total_of_others shared i none m d q lt empty is =
    ap (λ (x : Share). total_in (set shared i none) q + touch x.pairs q) is
    ∙ sum_by-set (λ (x : Share). touch x.pairs q) shared i none d lt
    ∙ ap (λ (xs : List Edge). total_in shared q + touch xs q) empty
    ∙ plus_none (total_in shared q)
  where
    plus_none : (n : ℕ) → n + 0 ≡ n
    plus_none n = omega arith

-- the same with another in its place
pub total_with : (shared : List Share) (i : ℕ) (none y d : Share) (q : HashAndSize) → i < length shared → none.pairs ≡ [] → total_in (set shared i none) q + touch y.pairs q ≡ total_in (set shared i y) q
total_with shared i none y d q lt empty =
    let old = total_of_others shared i none (get_or shared i d) d q lt empty refl in
    let new = sum_by-set (λ (x : Share). touch x.pairs q) shared i y d lt in
    by (total_in (set shared i none) q) (touch (get_or shared i d).pairs q) (total_in shared q) (touch y.pairs q) (total_in (set shared i y) q) old new
  where
    by : (a b c e f : ℕ) → a + b ≡ c → f + b ≡ c + e → a + e ≡ f
    by a b c e f p q = omega (arith, p, q)

-- ---- a lease at its place

every_at : {X : Type 0} (P : X → Type 0) (xs : List X) (i : ℕ) (d : X) → i < length xs → AllByRecursion P xs → P (get_or xs i d)
every_at P [] i d lt h = absurd (omega arith)
every_at P (x ∷ xs) zero d lt h = h.0
every_at P (x ∷ xs) (suc i) d lt h = every_at P xs i d (omega arith) h.1

-- what it is told to reach is all its pairs, where all are counted
pub reached_here : (rows : List Linked) (kept : List LeaseReach) (i : ℕ) (x : LeaseReach) → i < length kept → x ≡ get_or kept i x → x.len ≡ length x.pairs → AreReached rows (shares kept) → IsReach rows x.lease.root x.pairs
reached_here rows kept i x lt is full h =
    let at = every_at (λ m. IsReach rows m.lease.root m.pairs) (shares kept) i (share x) (subst (λ (n : ℕ). i < n) (sym (length_mapped share kept)) lt) h in
    let here : get_or (shares kept) i (share x) ≡ share x = map_at share kept i x ∙ ap share (sym is) in
    subst (λ (xs : List Edge). IsReach rows x.lease.root xs) (ap (λ (n : ℕ). take n x.pairs) full ∙ take_all x.pairs (length x.pairs) (omega arith))
    (subst (λ (m : Share). IsReach rows m.lease.root m.pairs) here at)

-- a lease that is cut back to what is counted
pub share_cut : (r y : LeaseReach) → y.lease ≡ r.lease → y.pairs ≡ take r.len r.pairs → y.len ≡ length y.pairs → share y ≡ share r
share_cut r y lease keys len = (λ i. record { lease = lease i; pairs = (ap (λ (n : ℕ). take n y.pairs) len ∙ take_all y.pairs (length y.pairs) (omega arith) ∙ keys) i })

drop_set : {X : Type 0} (xs : List X) (i : ℕ) (y : X) → drop (suc i) (set xs i y) ≡ drop (suc i) xs
drop_set [] i y = refl
drop_set (x ∷ xs) zero y = refl
drop_set (x ∷ xs) (suc i) y = drop_set xs i y

-- what is left to count behind a place
pub uncounted_rest : (kept : List LeaseReach) (i : ℕ) (x y : LeaseReach) → i < length kept → x ≡ get_or kept i x → uncounted (drop i kept) ≡ (length x.pairs - x.len) + uncounted (drop (i + 1) (set kept i y))
uncounted_rest kept i x y lt is =
    sum_by-drop_more (λ (reach : LeaseReach). length reach.pairs - reach.len) kept i x lt
    ∙ ap (λ (h : LeaseReach). (length h.pairs - h.len) + uncounted (drop (i + 1) kept)) (sym is)
    ∙ ap (λ (hs : List LeaseReach). (length x.pairs - x.len) + uncounted hs) (ap (λ (n : ℕ). drop n kept) (sym (one_more i)) ∙ sym (drop_set kept i y) ∙ ap (λ (n : ℕ). drop n (set kept i y)) (one_more i))

-- each lease counts once at most
pub total_small : (shared : List Share) (q : HashAndSize) → total_in shared q ≤ length shared
total_small [] q = omega arith
total_small (m ∷ ms) q = let h = total_small ms q in let s = sum_by-cons (λ (x : Share). touch x.pairs q) m ms in let t = touch_small m.pairs q in omega (arith, h, s, t)

pub length_set : {X : Type 0} (xs : List X) (i : ℕ) (y : X) → length (set xs i y) ≡ length xs
length_set [] i y = refl
length_set (x ∷ xs) zero y = refl
length_set (x ∷ xs) (suc i) y = ap suc (length_set xs i y)

module _ (rows : List Linked) (kept : List LeaseReach) (i : ℕ) (x : LeaseReach) (counts : List (HashAndSize × ℕ)) (bytes : ℕ) (lt : i < length kept) (is : x ≡ get_or kept i x) where
  -- the leases but this one
  abbrev pub nothing : Share
  nothing = record { lease = x.lease; pairs = [] }

  abbrev pub of_others : HashAndSize → ℕ
  of_others q = total_in (set (shares kept) i nothing) q

  within : i < length (shares kept)
  within = subst (λ (n : ℕ). i < n) (sym (length_mapped share kept)) lt

  -- as many as there are leases
  pub others_small : (q : HashAndSize) → of_others q ≤ length kept
  others_small q = subst (λ (n : ℕ). of_others q ≤ n) (length_set (shares kept) i nothing ∙ length_mapped share kept) (total_small (set (shares kept) i nothing) q)

  here : share x ≡ get_or (shares kept) i (share x)
  here = ap share is ∙ sym (map_at share kept i x)

  with_more : (a b c g : ℕ) → a + b ≡ c → c + g ≡ (a + g) + b
  with_more a b c g e = omega (arith, e)

  -- with what this one counts, they are all, whatever more is counted
  pub tallied_apart : (more : HashAndSize → ℕ) → IsTallied rows (λ q. total_in (shares kept) q + more q) counts bytes → IsTallied rows (λ q. (of_others q + more q) + touch (take x.len x.pairs) q) counts bytes
  tallied_apart more = tallied_same rows (λ q. total_in (shares kept) q + more q) (λ q. (of_others q + more q) + touch (take x.len x.pairs) q) counts bytes
      (λ q. with_more (of_others q) (touch (take x.len x.pairs) q) (total_in (shares kept) q) (more q) (total_of_others (shares kept) i nothing (share x) (share x) q within refl here))

  -- with all pairs of this one, they are all once these are counted
  pub tallied_whole : (more : HashAndSize → ℕ) (y : LeaseReach) → share y ≡ whole x → IsTallied rows (λ q. (of_others q + more q) + touch x.pairs q) counts bytes → IsTallied rows (λ q. total_in (shares (set kept i y)) q + more q) counts bytes
  tallied_whole more y e = tallied_same rows (λ q. (of_others q + more q) + touch x.pairs q) (λ q. total_in (shares (set kept i y)) q + more q) counts bytes
      (λ q. sym (with_more (of_others q) (touch x.pairs q) (total_in (shares (set kept i y)) q) (more q)
      (total_with (shares kept) i nothing (whole x) (share x) q within refl ∙ ap (λ (m : Share). total_in (set (shares kept) i m) q) (sym e) ∙ ap (λ (ms : List Share). total_in ms q) (sym (map_of_set share kept i y)))))

  -- and without them once they are not
  pub tallied_nothing : (more : HashAndSize → ℕ) (y : LeaseReach) → share y ≡ nothing → IsTallied rows (λ q. of_others q + more q) counts bytes → IsTallied rows (λ q. total_in (shares (set kept i y)) q + more q) counts bytes
  tallied_nothing more y e = tallied_same rows (λ q. of_others q + more q) (λ q. total_in (shares (set kept i y)) q + more q) counts bytes
      (λ q. ap (λ (n : ℕ). n + more q) (ap (λ (m : Share). total_in (set (shares kept) i m) q) (sym e) ∙ ap (λ (ms : List Share). total_in ms q) (sym (map_of_set share kept i y))))

-- ---- leases that go

filter_by : {X : Type 0} (b : Bool) (x : X) (xs ys : List X) → b ≡ false → xs ≡ ys → cond b (x ∷ xs) xs ≡ ys
filter_by true x xs ys e h = absurd cc
filter_by false x xs ys e h = h

-- one that goes changes nothing of what stays
pub filter_set : {X : Type 0} (p : X → Bool) (xs : List X) (i : ℕ) (y d : X) → i < length xs → p (get_or xs i d) ≡ false → p y ≡ false → filter p (set xs i y) ≡ filter p xs
filter_set p [] i y d lt e f = absurd (omega arith)
filter_set p (x ∷ xs) zero y d lt e f = filter_by (p y) y (filter p xs) (filter p xs) f refl ∙ sym (filter_by (p x) x (filter p xs) (filter p xs) e refl)
filter_set p (x ∷ xs) (suc i) y d lt e f = ap (λ (ys : List _). cond (p x) (x ∷ ys) ys) (filter_set p xs i y d (omega arith) e f)

left_by : (reach : LeaseReach) (kept left : List LeaseReach) (q : HashAndSize) (b : Bool) → (b ≡ true → reach.len ≡ 0) → total_in (shares left) q ≡ total_in (shares kept) q
    → total_in (shares (cond (not b) (reach ∷ left) left)) q ≡ total_in (shares (reach ∷ kept)) q
left_by reach kept left q true none h =
    h ∙ zero_plus (total_in (shares kept) q) ∙ ap (λ (n : ℕ). touch (take n reach.pairs) q + total_in (shares kept) q) (sym (none refl)) ∙ sym (sum_by-cons (λ (x : Share). touch x.pairs q) (share reach) (shares kept))
  where
    zero_plus : (n : ℕ) → n ≡ 0 + n
    zero_plus n = omega arith
left_by reach kept left q false none h =
    sum_by-cons (λ (x : Share). touch x.pairs q) (share reach) (shares left) ∙ ap (λ (n : ℕ). touch (share reach).pairs q + n) h ∙ sym (sum_by-cons (λ (x : Share). touch x.pairs q) (share reach) (shares kept))

-- those that go count nothing
pub total_left : (id : ℕ) (kept : List LeaseReach) (q : HashAndSize) → AllByRecursion (λ reach. has_id id reach.lease ≡ true → reach.len ≡ 0) kept → total_in (shares (filter (λ reach. not (has_id id reach.lease)) kept)) q ≡ total_in (shares kept) q
total_left id [] q h = refl
total_left id (reach ∷ kept) q h = left_by reach kept (filter (λ x. not (has_id id x.lease)) kept) q (has_id id reach.lease) h.0 (total_left id kept q h.1)

-- what leases of all pairs
pub all_whole : (rows : List Linked) (kept : List LeaseReach) → AllByRecursion (λ reach. IsReach rows reach.lease.root reach.pairs) kept → AreReached rows (wholes kept)
all_whole rows kept h = every_map (λ (reach : LeaseReach). IsReach rows reach.lease.root reach.pairs) (λ (m : Share). IsReach rows m.lease.root m.pairs) whole (λ reach e. e) kept h

pub whole_share : (x : LeaseReach) → record { lease = x.lease; pairs = take (length x.pairs) x.pairs } ≡ whole x
whole_share x = (λ i. record { lease = x.lease; pairs = take_all x.pairs (length x.pairs) (omega arith) i })

pub out : (b : Bool) → b ≡ true → not b ≡ false
out true e = refl
out false e = absurd cc

pub has_told : (a b : ℕ) → a ≡ b → nat_eq a b ≡ true
has_told a b e = eq-eqb a b e

pub id_told : (a b : ℕ) → nat_eq a b ≡ true → a ≡ b
id_told a b e = eqb-true a b e

get_same : {X : Type 0} (xs : List X) (i : ℕ) (a b : X) → i < length xs → get_or xs i a ≡ get_or xs i b
get_same [] i a b lt = absurd (omega arith)
get_same (x ∷ xs) zero a b lt = refl
get_same (x ∷ xs) (suc i) a b lt = get_same xs i a b (omega arith)

-- two readings of one place
pub read_again : {X : Type 0} (xs : List X) (i : ℕ) (a b : X) → i < length xs → a ≡ get_or xs i a → b ≡ get_or xs i b → a ≡ b
read_again xs i a b lt p q = p ∙ get_same xs i a b lt ∙ sym q

-- ---- a row that reaches no lease

none_touch : (ms : List Share) (d : HashAndSize) → total_in ms d ≡ 0 → AllByRecursion (λ m. touches m.pairs d ≡ false) ms
none_touch [] d e = tt
none_touch (m ∷ ms) d e =
    let s = sum_by-cons (λ (x : Share). touch x.pairs d) m ms in
    (by (touches m.pairs d) (omega (arith, s, e)), none_touch ms d (omega (arith, s, e)))
  where
    by : (b : Bool) → cond {A = ℕ} b 1 0 ≡ 0 → b ≡ false
    by true e = absurd (omega (arith, e))
    by false e = refl

both_hold : {X : Type 0} (P Q R : X → Type 0) → ((x : X) → P x → Q x → R x) → (xs : List X) → AllByRecursion P xs → AllByRecursion Q xs → AllByRecursion R xs
both_hold P Q R f [] p q = tt
both_hold P Q R f (x ∷ xs) p q = (f x p.0 q.0, both_hold P Q R f xs p.1 q.1)

-- where no lease reaches the new row, each reaches what it did
pub uncounted_more : (before : List Linked) (new : Linked) (kept : List LeaseReach) → AreFull kept → AreReached before (shares kept) → total_in (shares kept) new.digest ≡ 0 → AreReached (before ++ new ∷ []) (wholes kept)
uncounted_more before new kept full reached none =
    subst (AreReached (before ++ new ∷ [])) (full_shares kept full)
    (both_hold (λ (m : Share). IsReach before m.lease.root m.pairs) (λ (m : Share). touches m.pairs new.digest ≡ false) (λ (m : Share). IsReach (before ++ new ∷ []) m.lease.root m.pairs)
    (λ m r t. reach_more before new m.lease.root m.pairs (or_parts (has m.pairs (as_dir new.digest)) (has m.pairs (other_kind (as_dir new.digest))) (kinds_of m.pairs (as_dir new.digest) ∙ t)).0 r)
    (shares kept) reached (none_touch (shares kept) new.digest none))

-- nor does it by a row that links to nothing
pub file_more : (before : List Linked) (new : Linked) (kept : List LeaseReach) → new.edges ≡ None → AreFull kept → AreReached before (shares kept) → AreReached (before ++ new ∷ []) (wholes kept)
file_more before new kept none full reached =
    subst (AreReached (before ++ new ∷ [])) (full_shares kept full)
    (every_weaker (λ (m : Share). IsReach before m.lease.root m.pairs) (λ (m : Share). IsReach (before ++ new ∷ []) m.lease.root m.pairs)
    (λ m r. walked_all (before ++ new ∷ []) m.lease.root m.pairs (length m.pairs) (omega arith)
    (walked_again before new m.lease.root m.pairs m.pairs r (take_all m.pairs (length m.pairs) (omega arith))
    (λ pair. sym (by (has m.pairs pair) (has m.pairs (as_dir new.digest)) ∙ refl) ∙ ap (λ (o : Option (List Edge)). has m.pairs pair || (has m.pairs (as_dir new.digest) && links_to o pair)) (sym none))))
    (shares kept) reached)
  where
    by : (a b : Bool) → (a || (b && false)) ≡ a
    by true b = refl
    by false true = refl
    by false false = refl

-- what is full has nothing to count
pub full_uncounted : (kept : List LeaseReach) → AreFull kept → uncounted kept ≡ 0
full_uncounted [] h = refl
full_uncounted (reach ∷ kept) h = let s = sum_by-cons (λ (x : LeaseReach). length x.pairs - x.len) reach kept in let r = full_uncounted kept h.1 in let e = h.0 in omega (arith, s, r, e)

-- ---- what is guarded

pub any_touches : (ms : List Share) (q : HashAndSize) → nat_lt 0 (total_in ms q) ≡ list_any (λ m. touches m.pairs q) ms
any_touches [] q = refl
any_touches (m ∷ ms) q = ap (λ (n : ℕ). nat_lt 0 n) (sum_by-cons (λ (x : Share). touch x.pairs q) m ms) ∙ by (touches m.pairs q) (total_in ms q) (any_touches ms q)
  where
    by : (b : Bool) (n : ℕ) → nat_lt 0 n ≡ list_any (λ x. touches x.pairs q) ms → nat_lt 0 (cond b 1 0 + n) ≡ (b || list_any (λ x. touches x.pairs q) ms)
    by true n e = lt-ltb 0 (1 + n) (omega arith)
    by false n e = ap (λ (k : ℕ). nat_lt 0 k) (zero_plus n) ∙ e
      where
        zero_plus : (n : ℕ) → 0 + n ≡ n
        zero_plus n = omega arith

touches_reached : (rows : List Linked) (m : Share) (q : HashAndSize) → IsReach rows m.lease.root m.pairs → touches m.pairs q ≡ is_reached rows (m.lease.root ∷ []) q
touches_reached rows m q exact = sym (kinds_of m.pairs (as_file q)) ∙ (λ i. exact (as_file q) i || exact (as_dir q) i)

any_reached : (rows : List Linked) (ms : List Share) (q : HashAndSize) → AreReached rows ms → list_any (λ m. touches m.pairs q) ms ≡ list_any (λ root. is_reached rows (root ∷ []) q) (map (λ m. m.lease.root) ms)
any_reached rows [] q h = refl
any_reached rows (m ∷ ms) q h = (λ i. touches_reached rows m q h.0 i || any_reached rows ms q h.1 i)

any_both : {X : Type 0} (f g : X → Bool) (xs : List X) → list_any (λ x. f x || g x) xs ≡ (list_any f xs || list_any g xs)
any_both f g [] = refl
any_both f g (x ∷ xs) = ap (λ (b : Bool). (f x || g x) || b) (any_both f g xs) ∙ shuffle (f x) (g x) (list_any f xs) (list_any g xs)
  where
    shuffle : (a b c d : Bool) → ((a || b) || (c || d)) ≡ ((a || c) || (b || d))
    shuffle true b c d = refl
    shuffle false true true d = refl
    shuffle false true false d = refl
    shuffle false false c d = refl

-- a digest counts more than nothing just where some lease reaches it
pub total_reached : (rows : List Linked) (ms : List Share) (q : HashAndSize) → AreReached rows ms → nat_lt 0 (total_in ms q) ≡ is_reached rows (map (λ m. m.lease.root) ms) q
total_reached rows ms q h =
    any_touches ms q ∙ any_reached rows ms q h
    ∙ any_both (λ root. reaches rows (root ∷ []) (as_file q)) (λ root. reaches rows (root ∷ []) (as_dir q)) (map (λ m. m.lease.root) ms)
    ∙ (λ i. sym (roots_apart rows (map (λ m. m.lease.root) ms) (as_file q)) i || sym (roots_apart rows (map (λ m. m.lease.root) ms) (as_dir q)) i)

-- the roots of the leases
pub share_roots : (kept : List LeaseReach) → map (λ m. m.lease.root) (shares kept) ≡ roots (leases_of kept)
share_roots [] = refl
share_roots (reach ∷ kept) = ap (λ (rs : List Edge). reach.lease.root ∷ rs) (share_roots kept)

-- ---- one lease more

pub shares_push : (kept : List LeaseReach) (reach : LeaseReach) → shares (kept ++ reach ∷ []) ≡ shares kept ++ share reach ∷ []
shares_push [] reach = refl
shares_push (x ∷ kept) reach = ap (λ (ms : List Share). share x ∷ ms) (shares_push kept reach)

pub total_push : (kept : List LeaseReach) (reach : LeaseReach) (q : HashAndSize) → total_in (shares (kept ++ reach ∷ [])) q ≡ total_in (shares kept) q + touch (share reach).pairs q
total_push kept reach q = ap (λ (ms : List Share). total_in ms q) (shares_push kept reach) ∙ sum_by_push (λ (m : Share). touch m.pairs q) (shares kept) (share reach)

pub total_fits : (kept : List LeaseReach) (q : HashAndSize) → total_in (shares kept) q ≤ length kept
total_fits kept q = subst (λ (n : ℕ). total_in (shares kept) q ≤ n) (length_mapped share kept) (total_small (shares kept) q)

-- ---- the pairs of the leases with a number

pub append_none : (xs ys : List Edge) → xs ≡ xs ++ take 0 ys
append_none [] ys = refl
append_none (x ∷ xs) ys = ap (λ (zs : List Edge). x ∷ zs) (append_none xs ys)

-- one pair more
pub append_next : (xs ys : List Edge) (i : ℕ) (y : Edge) → i < length ys → get_or ys i y ≡ y → (xs ++ take i ys) ++ y ∷ [] ≡ xs ++ take (i + 1) ys
append_next xs ys i y lt is =
    append_assoc xs (take i ys) (y ∷ [])
    ∙ ap (λ (zs : List Edge). xs ++ zs) (ap (λ (z : Edge). take i ys ++ z ∷ []) (sym is) ∙ sym (take_next ys i y lt) ∙ ap (λ (n : ℕ). take n ys) (one_more i))

-- one lease more
pub pairs_next : (id : ℕ) (kept : List LeaseReach) (i : ℕ) (x : LeaseReach) (got : List Edge) → i < length kept → x ≡ get_or kept i x
    → (got ++ cond (has_id id x.lease) x.pairs []) ++ pairs_of id (drop (i + 1) kept) ≡ got ++ pairs_of id (drop i kept)
pairs_next id kept i x got lt is =
    append_assoc got (cond (has_id id x.lease) x.pairs []) (pairs_of id (drop (i + 1) kept))
    ∙ ap (λ (xs : List Edge). got ++ xs) (ap (λ (y : LeaseReach). cond (has_id id y.lease) y.pairs [] ++ pairs_of id (drop (i + 1) kept)) is ∙ sym (ap (pairs_of id) (drop_more kept i x lt)))

-- all of them
pub pairs_done : (id : ℕ) (kept : List LeaseReach) (i : ℕ) (got : List Edge) → length kept ≤ i → got ++ pairs_of id (drop i kept) ≡ got
pairs_done id kept i got le = ap (λ (xs : List Edge). got ++ xs) (at_drop_all (pairs_of id) kept i le) ∙ sym (append_none got [])

apart_by_id : (rows : List Linked) (id : ℕ) (kept : List LeaseReach) (pair : Edge) → AreReached rows (wholes kept) → has (pairs_of id kept) pair ≡ list_any (λ root. reaches rows (root ∷ []) pair) (roots (filter (has_id id) (leases_of kept)))
apart_by_id rows id [] pair h = refl
apart_by_id rows id (x ∷ kept) pair h = has_both (cond (has_id id x.lease) x.pairs []) (pairs_of id kept) pair ∙ by (has_id id x.lease) (apart_by_id rows id kept pair h.1)
  where
    by : (b : Bool) → has (pairs_of id kept) pair ≡ list_any (λ root. reaches rows (root ∷ []) pair) (roots (filter (has_id id) (leases_of kept)))
        → (has (cond b x.pairs []) pair || has (pairs_of id kept) pair) ≡ list_any (λ root. reaches rows (root ∷ []) pair) (roots (cond b (x.lease ∷ filter (has_id id) (leases_of kept)) (filter (has_id id) (leases_of kept))))
    by true e = (λ i. h.0 pair i || e i)
    by false e = e

-- they are what the roots of these leases reach
pub reached_by_id : (rows : List Linked) (id : ℕ) (kept : List LeaseReach) → AreFull kept → AreReached rows (shares kept) → (pair : Edge) → has (pairs_of id kept) pair ≡ reaches rows (roots (filter (has_id id) (leases_of kept))) pair
reached_by_id rows id kept full reached pair =
    apart_by_id rows id kept pair (subst (AreReached rows) (full_shares kept full) reached)
    ∙ sym (roots_apart rows (roots (filter (has_id id) (leases_of kept))) pair)
