-- Keys of pairs.
use Rattle.std.proofs.Common.{◌≡◌, ℕ, suc, zero, ◌+◌, Bool, true, false, cond, not, ltb, ◌||◌, List, [], ◌∷◌, ◌++◌, length, take, Some, None, refl, sym, ap, ◌∙◌}
use Rattle.std.specs.Prelude.{nat_eq, position, slice_get}
use Rattle.std.specs.List.{AllByRecursion, IsDistinct, list_any, position_or_len}
use Rattle.std.specs.Option.{option_map}
use Rattle.std.proofs.lemmas.Map.Keys.{IsDistinct-head, IsDistinct-tail}
use Rattle.indexmap.specs.IndexSet.{insert_key}
use Rattle.digest_types.specs.Name.{HashAndSize}
use Rattle.directory_canon.specs.declared.node.Edge.{Edge}
use Rattle.directory_canon.specs.declared.node.Kind.{Kind}
use Rattle.directory_canon.specs.declared.node.Kind.TheVariants as kinds
use Rattle.store_core.specs.State.{same}
use Rattle.store_core.specs.Reach.{kind_number, is_pair}
use Rattle.lease_table.specs.declared.pairs.Key.{Key}
use Rattle.lease_table.specs.Pairs.{has}
use Rattle.lease_table.specs.PairKeys.{key_of, pair_of, pairs_of}

-- a digest as a key, in each kind
abbrev pub key : Bool → HashAndSize → Key
key dir d = record { is_dir = dir; digest = d }

-- the pair of its key is the pair
pub key_pair : (p : Edge) → pair_of (key_of p) ≡ p
key_pair p = (λ i. record { kind = by p.kind i; digest = p.digest })
  where
    by : (k : Kind) → cond (nat_eq (kind_number k) 1) kinds.Dir kinds.File ≡ k
    by kinds.File = refl
    by kinds.Dir = refl

module _ (eq : Key → Key → Bool) (tests : (d e : HashAndSize) → (eq (key false d) (key false e) ≡ same d e) × (eq (key true d) (key true e) ≡ same d e) × (eq (key false d) (key true e) ≡ false) × (eq (key true d) (key false e) ≡ false)) where
  -- keys are compared as their pairs
  keys_test : (x y : Key) → eq x y ≡ is_pair (pair_of x) (pair_of y)
  keys_test x y = by x.is_dir y.is_dir
    where
      by : (a b : Bool) → eq (key a x.digest) (key b y.digest) ≡ is_pair (pair_of (key a x.digest)) (pair_of (key b y.digest))
      by false false = (tests x.digest y.digest).0
      by true true = (tests x.digest y.digest).1
      by false true = (tests x.digest y.digest).2
      by true false = (tests x.digest y.digest).3

  key_test : (p : Edge) (y : Key) → eq (key_of p) y ≡ is_pair p (pair_of y)
  key_test p y = keys_test (key_of p) y ∙ ap (λ (q : Edge). is_pair q (pair_of y)) (key_pair p)

  -- a pair is among them where its key is
  pub has_key : (p : Edge) (keys : List Key) → list_any (eq (key_of p)) keys ≡ has (pairs_of keys) p
  has_key p [] = refl
  has_key p (y ∷ keys) = (λ i. key_test p y i || has_key p keys i)

  place_by : (b c : Bool) (m n : ℕ) → b ≡ c → m ≡ n → cond (not b) (1 + m) 0 ≡ cond (not c) (1 + n) 0
  place_by b c m n e h = (λ i. cond (not (e i)) (1 + h i) 0)

  place_or_len : (p : Edge) (keys : List Key) → position_or_len (eq (key_of p)) keys ≡ position_or_len (is_pair p) (pairs_of keys)
  place_or_len p [] = refl
  place_or_len p (y ∷ keys) = place_by (eq (key_of p) y) (is_pair p (pair_of y)) _ _ (key_test p y) (place_or_len p keys)

  -- it stands where its key does
  pub key_place : (p : Edge) (keys : List Key) → position (eq (key_of p)) keys ≡ position (is_pair p) (pairs_of keys)
  key_place p keys = (λ i. cond (ltb (place_or_len p keys i) (length_pairs keys i)) (Some (place_or_len p keys i)) None)
    where
      length_pairs : (keys : List Key) → length keys ≡ length (pairs_of keys)
      length_pairs [] = refl
      length_pairs (y ∷ keys) = ap suc (length_pairs keys)

  pairs_push : (keys : List Key) (y : Key) → pairs_of (keys ++ y ∷ []) ≡ pairs_of keys ++ pair_of y ∷ []
  pairs_push [] y = refl
  pairs_push (x ∷ keys) y = ap (λ (ps : List Edge). pair_of x ∷ ps) (pairs_push keys y)

  -- a key that is inserted
  pub key_inserted : (p : Edge) (keys : List Key) → pairs_of (insert_key eq keys (key_of p)) ≡ insert_key is_pair (pairs_of keys) p
  key_inserted p keys =
      by (list_any (eq (key_of p)) keys)
      ∙ ap (λ (b : Bool). cond b (pairs_of keys) (pairs_of keys ++ p ∷ [])) (has_key p keys)
    where
      by : (b : Bool) → pairs_of (cond b keys (keys ++ key_of p ∷ [])) ≡ cond b (pairs_of keys) (pairs_of keys ++ p ∷ [])
      by true = refl
      by false = pairs_push keys (key_of p) ∙ ap (λ (q : Edge). pairs_of keys ++ q ∷ []) (key_pair p)

  differ : (x : Key) (keys : List Key) → AllByRecursion (λ y. eq x y ≡ false) keys → AllByRecursion (λ q. is_pair (pair_of x) q ≡ false) (pairs_of keys)
  differ x [] h = tt
  differ x (y ∷ keys) h = (sym (keys_test x y) ∙ h.0, differ x keys h.1)

  -- distinct keys are those of distinct pairs
  pub distinct_pairs : (keys : List Key) → IsDistinct eq keys → IsDistinct is_pair (pairs_of keys)
  unfolding IsDistinct
  distinct_pairs [] h = tt
  distinct_pairs (x ∷ keys) h = (differ x keys (IsDistinct-head eq x keys h), distinct_pairs keys (IsDistinct-tail eq x keys h))

-- the pair at a place
pub key_at : (keys : List Key) (i : ℕ) → slice_get (pairs_of keys) i ≡ option_map pair_of (slice_get keys i)
key_at [] i = refl
key_at (y ∷ keys) zero = refl
key_at (y ∷ keys) (suc i) = key_at keys i

-- the first so many
pub keys_taken : (n : ℕ) (keys : List Key) → pairs_of (take n keys) ≡ take n (pairs_of keys)
keys_taken zero keys = refl
keys_taken (suc n) [] = refl
keys_taken (suc n) (y ∷ keys) = ap (λ (ps : List Edge). pair_of y ∷ ps) (keys_taken n keys)

-- how many there are
pub keys_length : (keys : List Key) → length (pairs_of keys) ≡ length keys
keys_length [] = refl
keys_length (y ∷ keys) = ap suc (keys_length keys)
