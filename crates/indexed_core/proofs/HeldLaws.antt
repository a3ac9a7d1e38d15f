-- How many bytes the rows of an index have, or those of them that pass a test.
use Rattle.std.proofs.Common.{◌≡◌, ◌≢◌, ℕ, ◌+◌, ◌≤◌, Bool, true, false, cond, not, ◌&&◌, ◌||◌, List, [], ◌∷◌, map, refl, sym, ap, ◌∙◌, arith}
use Rattle.std.specs.Prelude.{filter, slice_get, Some}
use Rattle.std.specs.List.{AllByRecursion, list_any}
use Rattle.std.proofs.lemmas.List.Sums.{sum_by-cons}
use Rattle.std.proofs.lemmas.Map.Views.{any-filter_same}
use Rattle.digest_types.specs.Name.{HashAndSize}
use Rattle.store_core.specs.declared.state.Row.{Row}
use Rattle.store_core.specs.State.{same, is_among, total, sizes}
use Rattle.store_core.specs.Reach.{Linked}
use Rattle.store_core.proofs.Elements.{every_map, filter_of_map, every_weaker}
use Rattle.store_core.proofs.Passes.{not_among}
use Rattle.store_core.proofs.Same.{equal_from_same, same_itself}
use Rattle.store_core.proofs.Guarding.{same_swap}
use Rattle.lease_table.specs.Table as table
use Rattle.lease_table.specs.Table.{Table, Distinct, DistinctDigests, guarded, is_blob, other_digests, unguarded}
use Rattle.lease_table.proofs.OrderLaws.{distinct_kept, all_others}
use Rattle.indexed_core.specs.Joined.{Soundness, IsJoined, row_in, rows_in}
use Rattle.indexed_core.specs.Parts.{Guards, guarded_bytes}
use Rattle.indexed_core.proofs.ReachedRows.{first_in_order, rows_wanted}

-- ---- digests that are kept

-- a digest is among those that are kept where it is kept
pub among_kept : (keep : HashAndSize → Bool) (ds : List HashAndSize) (d : HashAndSize) → is_among (filter keep ds) d ≡ (keep d && is_among ds d)
among_kept keep ds d = any-filter_same (same d) keep (keep d) (λ x e. ap keep (sym (equal_from_same d x e))) ds

-- ---- sums of sizes

total_first : (d : HashAndSize) (ds : List HashAndSize) → total (d ∷ ds) ≡ d.size + total ds
total_first d ds = sum_by-cons (λ (x : HashAndSize). x.size) d ds

others_by : (b : Bool) (d first : HashAndSize) (ds : List HashAndSize) → same first d ≡ b → AllByRecursion (λ other. other ≢ first) ds → (is_among ds d ≡ true → total ds ≡ d.size + total (other_digests d ds)) → is_among (first ∷ ds) d ≡ true
    → total (first ∷ ds) ≡ d.size + total (cond (not b) (first ∷ other_digests d ds) (other_digests d ds))
others_by true d first ds e apart rest among =
    let is : first ≡ d = equal_from_same first d e in
    let size : first.size ≡ d.size = ap (λ (x : HashAndSize). x.size) is in
    let stay : total (other_digests d ds) ≡ total ds = ap total (all_others d ds (every_weaker (λ other. other ≢ first) (λ other. other ≢ d) (λ other n q. n (q ∙ sym is)) ds apart)) in
    omega (arith, total_first first ds, size, stay)
others_by false d first ds e apart rest among =
    let later : is_among ds d ≡ true = ap (λ (b : Bool). b || is_among ds d) (sym (same_swap d first ∙ e)) ∙ among in
    let sum = rest later in
    omega (arith, total_first first ds, total_first first (other_digests d ds), sum)

-- the sum without one digest
pub total_others : (d : HashAndSize) (ds : List HashAndSize) → DistinctDigests ds → is_among ds d ≡ true → total ds ≡ d.size + total (other_digests d ds)
total_others d [] distinct among = absurd cc
total_others d (first ∷ ds) distinct among = others_by (same first d) d first ds refl distinct.0 (total_others d ds distinct.1) among

-- the sum without the first unguarded digest
pub first_total : (t : Table) (order : List HashAndSize) (d : HashAndSize) (used size : ℕ) → DistinctDigests order → used ≡ total order → size ≡ d.size → slice_get (unguarded t order) 0 ≡ Some d
    → used ≡ size + total (other_digests d order)
first_total t order d used size distinct counted is first = let sum = total_others d order distinct (first_in_order t order d first) in omega arith

-- the sum over those that are kept is no more
kept_less : (b : Bool) (d : HashAndSize) (kept : List HashAndSize) (n : ℕ) → total kept ≤ n → total (cond b (d ∷ kept) kept) ≤ d.size + n
kept_less true d kept n h = omega (arith, total_first d kept)
kept_less false d kept n h = omega arith

pub total_kept : (keep : HashAndSize → Bool) (ds : List HashAndSize) → total (filter keep ds) ≤ total ds
total_kept keep [] = omega arith
total_kept keep (d ∷ ds) = let less = kept_less (keep d) d (filter keep ds) (total ds) (total_kept keep ds) in omega (arith, total_first d ds, less)

first_among : (d : HashAndSize) (ds : List HashAndSize) → is_among (d ∷ ds) d ≡ true
first_among d ds = ap (λ (b : Bool). b || is_among ds d) (same_itself d)

rest_by : (b : Bool) (x d : HashAndSize) (xs : List HashAndSize) → same d x ≡ b → AllByRecursion (λ other. other ≢ x) xs → is_among xs d ≡ (not b && (b || is_among xs d))
rest_by true x d xs e apart =
    let is : d ≡ x = equal_from_same d x e in
    not_among xs d (every_weaker (λ other. other ≢ x) (λ other. other ≢ d) (λ other n q. n (q ∙ is)) xs apart)
rest_by false x d xs e apart = refl

-- what is among the rest is among the others
rest_same : (x : HashAndSize) (xs ys : List HashAndSize) → AllByRecursion (λ other. other ≢ x) xs → ((d : HashAndSize) → is_among (x ∷ xs) d ≡ is_among ys d) → (d : HashAndSize) → is_among xs d ≡ is_among (other_digests x ys) d
rest_same x xs ys apart h d =
    rest_by (same d x) x d xs refl apart
    ∙ ap (λ (b : Bool). not (same d x) && b) (h d)
    ∙ sym (among_kept (λ other. not (same other x)) ys d)

-- digests of the same members have the same sum
pub same_total : (xs ys : List HashAndSize) → DistinctDigests xs → DistinctDigests ys → ((d : HashAndSize) → is_among xs d ≡ is_among ys d) → total xs ≡ total ys
same_total [] [] dx dy h = refl
same_total [] (y ∷ ys) dx dy h = absurd (let a = first_among y ys in let b = h y in cc)
same_total (x ∷ xs) ys dx dy h =
    let among : is_among ys x ≡ true = sym (h x) ∙ first_among x xs in
    let rest : total xs ≡ total (other_digests x ys) = same_total xs (other_digests x ys) dx.1 (distinct_kept (λ other. not (same other x)) ys dy) (rest_same x xs ys dx.0 h) in
    omega (arith, total_first x xs, total_others x ys dy among, rest)

-- ---- blobs and rows

-- the digests of blobs
abbrev pub names : List Linked → List HashAndSize
names there = map (λ blob. blob.digest) there

pub names_distinct : (there : List Linked) → Distinct there → DistinctDigests (names there)
names_distinct [] distinct = tt
names_distinct (blob ∷ there) distinct = (every_map (λ (other : Linked). other.digest ≢ blob.digest) (λ other. other ≢ blob.digest) (λ (other : Linked). other.digest) (λ other n. n) there distinct.0, names_distinct there distinct.1)

-- a digest is among them where it has a blob
pub names_among : (there : List Linked) (d : HashAndSize) → is_among (names there) d ≡ list_any (is_blob d) there
names_among [] d = refl
names_among (blob ∷ there) d = ap (λ (b : Bool). b || is_among (names there) d) (same_swap d blob.digest) ∙ ap (λ (b : Bool). same blob.digest d || b) (names_among there d)

-- the sum over blobs is that of their digests
pub names_total : (there : List Linked) → table.sizes there ≡ total (names there)
names_total [] = refl
names_total (blob ∷ there) = omega (arith, sum_by-cons (λ (x : Linked). x.digest.size) blob there, total_first blob.digest (names there), names_total there)

-- the sum over rows is that of their digests
pub rows_total : (ds : List HashAndSize) (there : List Linked) (flags : Soundness) → sizes (rows_in ds there flags) ≡ total ds
rows_total [] there flags = refl
rows_total (d ∷ ds) there flags =
    omega (arith, sum_by-cons (λ (x : Row). x.digest.size) (row_in there flags d) (rows_in ds there flags), total_first d ds, rows_total ds there flags)

module _ (order : List HashAndSize) (there : List Linked) (flags : Soundness) (used : ℕ) (joined : IsJoined order there flags used) where
  names_order : (d : HashAndSize) → is_among order d ≡ is_among (names there) d
  names_order d = sym (names_among there d ∙ joined.has_blobs d)

  -- the table's blobs have as many bytes as the rows
  pub blobs_total : table.sizes there ≡ total order
  blobs_total = names_total there ∙ sym (same_total order (names there) joined.distinct (names_distinct there joined.distinct_blobs) names_order)

  -- those that pass a test have as many bytes as the rows that do
  pub kept_total : (keep : HashAndSize → Bool) → table.sizes (filter (λ blob. keep blob.digest) there) ≡ sizes (filter (λ row. keep row.digest) (rows_in order there flags))
  kept_total keep =
      names_total (filter (λ blob. keep blob.digest) there)
      ∙ ap total (sym (filter_of_map (λ (blob : Linked). blob.digest) keep there))
      ∙ sym (same_total (filter keep order) (filter keep (names there)) (distinct_kept keep order joined.distinct) (distinct_kept keep (names there) (names_distinct there joined.distinct_blobs))
      (λ d. among_kept keep order d ∙ ap (λ (b : Bool). keep d && b) (names_order d) ∙ sym (among_kept keep (names there) d)))
      ∙ sym (rows_total (filter keep order) there flags)
      ∙ ap sizes (sym (filter_of_map (row_in there flags) (λ (row : Row). keep row.digest) order))

  -- the guarded bytes of the table are those of the rows
  pub rows_guarded : (guards : Guards) → guarded (record { blobs = there; leases = guards.leases; holds = guards.holds }) ≡ guarded_bytes (record { rows = rows_in order there flags; guards = guards })
  rows_guarded guards =
      kept_total (λ d. table.is_wanted (record { blobs = there; leases = guards.leases; holds = guards.holds }) d)
      ∙ ap (λ (test : HashAndSize → Bool). sizes (filter (λ row. test row.digest) (rows_in order there flags))) (λ i d. sym (rows_wanted order there flags used joined guards d) i)
