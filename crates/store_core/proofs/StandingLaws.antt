-- How a lease stands, by what the code finds.
use Rattle.std.proofs.Common.{◌≡◌, ℕ, ◌+◌, ◌<◌, ◌≤◌, Bool, true, false, cond, ltb, ◌&&◌, List, [], ◌∷◌, length, map, filter, Option, Some, None, refl, sym, ap, subst, ◌∙◌, arith}
use Rattle.std.specs.Bool.{◌==◌}
use Rattle.std.specs.Prelude.{find, slice_get}
use Rattle.std.specs.Option.{option_map}
use Rattle.std.proofs.lemmas.Bool.{eqb-true, lt-ltb, le-ltb}
use Rattle.std.proofs.lemmas.Option.{same_Some}
use Rattle.digest_types.specs.Name.{HashAndSize}
use Rattle.directory_canon.specs.declared.node.Edge.{Edge}
use Rattle.store_core.specs.declared.state.Row.{Row}
use Rattle.store_core.specs.declared.event.Standing.{Standing}
use Rattle.store_core.specs.declared.event.Standing.TheVariants as standings
use Rattle.store_core.specs.Reach.{blobs, is_dir, is_deep, reached}
use Rattle.store_core.specs.Standing.{counted, digests_of, is_plain, max_pairs, max_steps, not_directories, standing, standing_by, wanted}

-- ---- the first that isn't a Directory

-- the digest of the first pair of kind Dir that passes
abbrev first_plain : (HashAndSize → Bool) → List Edge → Option HashAndSize
first_plain plain pairs = option_map (λ pair. pair.digest) (find (λ pair. is_dir pair && plain pair.digest) pairs)

-- the digests of the pairs of kind Dir that pass
abbrev plain_dirs : (HashAndSize → Bool) → List Edge → List HashAndSize
plain_dirs plain pairs = filter plain (map (λ pair. pair.digest) (filter is_dir pairs))

-- by whether the first pair is of kind Dir, and passes
first_by : (plain : HashAndSize → Bool) (pair : Edge) (rest kept : List Edge) (found : Option Edge) (b c : Bool) → plain pair.digest ≡ c
    → slice_get (filter plain (map (λ p. p.digest) kept)) 0 ≡ option_map (λ p. p.digest) found
    → slice_get (filter plain (map (λ p. p.digest) (cond b (pair ∷ kept) kept))) 0 ≡ option_map (λ p. p.digest) (cond (b && plain pair.digest) (Some pair) found)
first_by plain pair rest kept found true true p e = rw (p) refl
first_by plain pair rest kept found true false p e = rw (p) e
first_by plain pair rest kept found false c p e = e

-- the first of those digests is that of the first such pair
first_dir : (plain : HashAndSize → Bool) (pairs : List Edge) → slice_get (plain_dirs plain pairs) 0 ≡ first_plain plain pairs
first_dir plain [] = refl
first_dir plain (pair ∷ rest) = first_by plain pair rest (filter is_dir rest) (find (λ p. is_dir p && plain p.digest) rest) (is_dir pair) (plain pair.digest) refl (first_dir plain rest)

-- what the code finds is the first digest that isn't a Directory's
pub first_is : (rows : List Row) (pairs : List Edge) → first_plain (is_plain rows) pairs ≡ slice_get (not_directories rows pairs) 0
first_is rows pairs = sym (first_dir (is_plain rows) pairs)

-- ---- by what is found

-- where some digest isn't a Directory's, the first is told
by_first : (ds wants all : List HashAndSize) (d : HashAndSize) → Some d ≡ slice_get ds 0 → standings.NotDirectory d ≡ standing_by ds wants all
by_first [] wants all d e = absurd cc
by_first (first ∷ rest) wants all d e = ap standings.NotDirectory (same_Some d first e)

-- where there is none, those that are wanted are told
by_wants : (ds wants all : List HashAndSize) → None ≡ slice_get ds 0 → false ≡ (length wants == 0) → standings.Wants wants ≡ standing_by ds wants all
by_wants [] [] all e f = absurd cc
by_wants [] (d ∷ wants) all e f = refl
by_wants (first ∷ rest) wants all e f = absurd cc

-- where none is wanted either, all are told
by_all : (ds wants all : List HashAndSize) → None ≡ slice_get ds 0 → true ≡ (length wants == 0) → standings.Complete all ≡ standing_by ds wants all
by_all [] [] all e f = refl
by_all [] (d ∷ wants) all e f = absurd (omega (arith, eqb-true (length (d ∷ wants)) 0 (sym f)))
by_all (first ∷ rest) wants all e f = absurd cc

-- the same with what the code has in hand
pub not_directory_stands : (rows : List Row) (pairs : List Edge) (wants all : List HashAndSize) (d : HashAndSize) → Some d ≡ first_plain (is_plain rows) pairs
    → standings.NotDirectory d ≡ standing_by (not_directories rows pairs) wants all
not_directory_stands rows pairs wants all d e = by_first (not_directories rows pairs) wants all d (e ∙ first_is rows pairs)

pub wants_stand : (rows : List Row) (pairs : List Edge) (wants all given : List HashAndSize) (n : ℕ) → None ≡ first_plain (is_plain rows) pairs → given ≡ wants → n ≡ length given
    → false ≡ (n == 0) → standings.Wants given ≡ standing_by (not_directories rows pairs) wants all
wants_stand rows pairs wants all given n e same long some =
    by_wants (not_directories rows pairs) given all (e ∙ first_is rows pairs) (subst (λ (k : ℕ). false ≡ (k == 0)) long some)
    ∙ ap (λ (ds : List HashAndSize). standing_by (not_directories rows pairs) ds all) same

pub complete_stands : (rows : List Row) (pairs : List Edge) (wants all given : List HashAndSize) (n : ℕ) → None ≡ first_plain (is_plain rows) pairs → given ≡ wants → n ≡ length given
    → true ≡ (n == 0) → standings.Complete all ≡ standing_by (not_directories rows pairs) wants all
complete_stands rows pairs wants all given n e same long none =
    by_all (not_directories rows pairs) given all (e ∙ first_is rows pairs) (subst (λ (k : ℕ). true ≡ (k == 0)) long none)
    ∙ ap (λ (ds : List HashAndSize). standing_by (not_directories rows pairs) ds all) same

-- ---- whether it is too large

-- a standing, unless the lease is too large
sized : Bool → Bool → Standing → Standing
sized many deep other = cond many standings.TooMany (cond deep standings.TooDeep other)

by_many : (many deep : Bool) (other : Standing) → many ≡ true → standings.TooMany ≡ sized many deep other
unfolding sized
by_many true deep other e = refl
by_many false deep other e = absurd cc

by_deep : (many deep : Bool) (other : Standing) → many ≡ false → deep ≡ true → standings.TooDeep ≡ sized many deep other
unfolding sized
by_deep true deep other e f = absurd cc
by_deep false true other e f = refl
by_deep false false other e f = absurd cc

by_neither : (many deep : Bool) (other : Standing) → many ≡ false → deep ≡ false → other ≡ sized many deep other
unfolding sized
by_neither true deep other e f = absurd cc
by_neither false true other e f = absurd cc
by_neither false false other e f = refl

-- whether there are too many pairs
abbrev is_many : List Edge → Bool
is_many pairs = ltb (max_pairs + 1) (length pairs)

-- the standing of a lease that isn't too large, by its pairs
abbrev by_pairs : List Row → Bool → List Edge → Standing
by_pairs rows files pairs = standing_by (not_directories rows pairs) (wanted rows (digests_of (counted files pairs))) (digests_of pairs)

-- the standing of a lease, in these words
standing_is : (rows : List Row) (root : Edge) (files : Bool)
    → sized (is_many (reached (blobs rows) (root ∷ []))) (is_deep (blobs rows) (root ∷ []) max_steps) (by_pairs rows files (reached (blobs rows) (root ∷ []))) ≡ standing rows root files
unfolding sized standing
standing_is rows root files = refl

-- what was found of the pairs that a root reaches, of which there are n
pub record HasPairs (rows : List Row) (root : Edge) (pairs : List Edge) (n : ℕ) : Type 0 where
  pub all : pairs ≡ reached (blobs rows) (root ∷ [])
  pub count : n ≡ length pairs

-- more pairs than the limit
pub too_many : (rows : List Row) (root : Edge) (files : Bool) (pairs : List Edge) (n : ℕ) → HasPairs rows root pairs n → max_pairs + 1 < n → standings.TooMany ≡ standing rows root files
too_many rows root files pairs n found lt =
    let there = blobs rows in
    let starts = root ∷ [] in
    by_many (is_many (reached there starts)) (is_deep there starts max_steps) (by_pairs rows files (reached there starts)) (lt-ltb _ _ (omega (arith, found.count, ap length found.all)))
    ∙ standing_is rows root files

-- a pair that is too deep
pub too_deep : (rows : List Row) (root : Edge) (files : Bool) (pairs : List Edge) (n : ℕ) → HasPairs rows root pairs n → n ≤ max_pairs + 1
    → is_deep (blobs rows) (root ∷ []) max_steps ≡ true → standings.TooDeep ≡ standing rows root files
too_deep rows root files pairs n found le deep =
    let there = blobs rows in
    let starts = root ∷ [] in
    by_deep (is_many (reached there starts)) (is_deep there starts max_steps) (by_pairs rows files (reached there starts)) (le-ltb _ _ (omega (arith, found.count, ap length found.all))) deep
    ∙ standing_is rows root files

-- neither
pub not_too_large : (rows : List Row) (root : Edge) (files : Bool) (pairs : List Edge) (n : ℕ) → HasPairs rows root pairs n → n ≤ max_pairs + 1
    → is_deep (blobs rows) (root ∷ []) max_steps ≡ false → by_pairs rows files pairs ≡ standing rows root files
not_too_large rows root files pairs n found le shallow =
    let there = blobs rows in
    let starts = root ∷ [] in
    ap (by_pairs rows files) found.all
    ∙ by_neither (is_many (reached there starts)) (is_deep there starts max_steps) (by_pairs rows files (reached there starts)) (le-ltb _ _ (omega (arith, found.count, ap length found.all))) shallow
    ∙ standing_is rows root files

-- ---- where it is Complete

-- it is Complete only where none is wanted, and then with all
by_complete : (many deep : Bool) (nd wants all ds : List HashAndSize) → sized many deep (standing_by nd wants all) ≡ standings.Complete ds → (wants ≡ []) × (all ≡ ds)
unfolding sized
by_complete true deep nd wants all ds e = absurd cc
by_complete false true nd wants all ds e = absurd cc
by_complete false false (d ∷ nd) wants all ds e = absurd cc
by_complete false false [] (d ∷ wants) all ds e = absurd cc
by_complete false false [] [] all ds e = (refl, cc)

-- none is wanted, and all are listed
pub complete_parts : (rows : List Row) (root : Edge) (files : Bool) (ds : List HashAndSize) → standing rows root files ≡ standings.Complete ds
    → (wanted rows (digests_of (counted files (reached (blobs rows) (root ∷ [])))) ≡ []) × (digests_of (reached (blobs rows) (root ∷ [])) ≡ ds)
complete_parts rows root files ds e =
    let pairs = reached (blobs rows) (root ∷ []) in
    by_complete (is_many pairs) (is_deep (blobs rows) (root ∷ []) max_steps) (not_directories rows pairs) (wanted rows (digests_of (counted files pairs))) (digests_of pairs) ds (standing_is rows root files ∙ e)
