-- Rows that are joined from an order, blobs and flags.
use Rattle.std.proofs.Common.{◌≡◌, ◌≢◌, ℕ, Bool, true, false, cond, not, ◌||◌, ◌&&◌, List, [], ◌∷◌, ◌++◌, Option, Some, None, refl, sym, ap, ◌∙◌, arith}
use Rattle.std.specs.Prelude.{filter, find, map, is_some, is_none}
use Rattle.std.specs.List.{AllByRecursion, list_any}
use Rattle.std.proofs.Math.Bool.{and-true}
use Rattle.std.proofs.lemmas.Bool.{cond-true, cond-false, and_parts}
use Rattle.std.proofs.lemmas.List.{map-append}
use Rattle.std.proofs.lemmas.List.Filters.{sum_by-filter_both}
use Rattle.std.proofs.lemmas.List.Folds.{list_any-append}
use Rattle.std.proofs.lemmas.List.Sums.{sum_by-append}
use Rattle.digest_types.specs.Name.{HashAndSize}
use Rattle.directory_canon.specs.declared.node.Edge.{Edge}
use Rattle.store_core.specs.declared.state.Row.{Row}
use Rattle.store_core.specs.State.{same, is_of, row_of, others, is_sound, is_among, total, has_row}
use Rattle.store_core.specs.Reach.{Linked}
use Rattle.store_core.specs.Standing.{is_plain}
use Rattle.store_core.specs.Step.{touched, damaged}
use Rattle.store_core.proofs.Elements.{filter_of_map, every_weaker}
use Rattle.store_core.proofs.Same.{equal_from_same, not_same_from_other}
use Rattle.store_core.proofs.Guarding.{same_swap}
use Rattle.lease_table.specs.Table.{is_blob, Distinct, other_digests, DistinctDigests}
use Rattle.lease_table.proofs.RowLaws.{others_fail}
use Rattle.lease_table.proofs.OrderLaws.{distinct_kept, distinct_more, others_differ}
use Rattle.indexed_core.specs.Joined.{Soundness, sound_in, set_flag, edges_if, edges_in, row_in, rows_in, IsJoined}
use Rattle.indexed_core.proofs.FlagLaws.{set_has, set_same, set_other, sound_has}

or_false : (b : Bool) → (b || false) ≡ b
or_false true = refl
or_false false = refl

and_false : (b : Bool) → (b && false) ≡ false
and_false true = refl
and_false false = refl

-- ---- the row of a digest

-- the digests of the order have the rows
pub row_among : (order : List HashAndSize) (there : List Linked) (flags : Soundness) (d : HashAndSize) → has_row (rows_in order there flags) d ≡ is_among order d
row_among [] there flags d = refl
row_among (x ∷ order) there flags d = (λ i. same_swap x d i || row_among order there flags d i)

absorbed : (m r : Bool) → (r || (m && r)) ≡ r
absorbed m true = refl
absorbed true false = refl
absorbed false false = refl

pick_by : (b c p r rest m : Bool) → b ≡ c → (b ≡ true → p ≡ r) → rest ≡ (m && r) → ((b && p) || rest) ≡ ((c || m) && r)
pick_by true true p r rest m e h k = rw (h refl, k) (absorbed m r)
pick_by false false p r rest m e h k = k
pick_by true false p r rest m e h k = absurd cc
pick_by false true p r rest m e h k = absurd cc

-- a test of the rows of a digest is one of its row
pub row_passes : (q : Row → Bool) (order : List HashAndSize) (there : List Linked) (flags : Soundness) (d : HashAndSize)
    → list_any (λ row. is_of d row && q row) (rows_in order there flags) ≡ (is_among order d && q (row_in there flags d))
row_passes q [] there flags d = refl
row_passes q (x ∷ order) there flags d =
    pick_by (same x d) (same d x) (q (row_in there flags x)) (q (row_in there flags d)) _ (is_among order d) (same_swap x d)
    (λ t. ap (λ (y : HashAndSize). q (row_in there flags y)) (equal_from_same x d t))
    (row_passes q order there flags d)

found_by : (there : List Linked) (flags : Soundness) (d x : HashAndSize) (b c m : Bool) (o : Option Row) → b ≡ c → (b ≡ true → x ≡ d) → (m ≡ true → o ≡ Some (row_in there flags d)) → (c || m) ≡ true
    → cond b (Some (row_in there flags x)) o ≡ Some (row_in there flags d)
found_by there flags d x true true m o e is h has = ap (λ (y : HashAndSize). Some (row_in there flags y)) (is refl)
found_by there flags d x false false m o e is h has = h has
found_by there flags d x true false m o e is h has = absurd cc
found_by there flags d x false true m o e is h has = absurd cc

-- it is found
pub row_found : (order : List HashAndSize) (there : List Linked) (flags : Soundness) (d : HashAndSize) → is_among order d ≡ true → row_of d (rows_in order there flags) ≡ Some (row_in there flags d)
row_found [] there flags d has = absurd cc
row_found (x ∷ order) there flags d has =
    found_by there flags d x (same x d) (same d x) (is_among order d) _ (same_swap x d) (equal_from_same x d) (row_found order there flags d) has

-- ---- what joined parts tell

-- a digest that is sound is one of the order
pub sound_among : (order : List HashAndSize) (there : List Linked) (flags : Soundness) (used : ℕ) (d : HashAndSize) → IsJoined order there flags used → (is_among order d && sound_in flags d) ≡ sound_in flags d
sound_among order there flags used d joined = ap (λ (b : Bool). b && sound_in flags d) (sym (joined.has_flags d)) ∙ sound_has d flags

pub among_from_sound : (order : List HashAndSize) (there : List Linked) (flags : Soundness) (used : ℕ) (d : HashAndSize) → IsJoined order there flags used → sound_in flags d ≡ true → is_among order d ≡ true
among_from_sound order there flags used d joined e = (and_parts (is_among order d) (sound_in flags d) (sound_among order there flags used d joined ∙ e)).0

-- the flags tell which rows are sound
pub sound_told : (order : List HashAndSize) (there : List Linked) (flags : Soundness) (used : ℕ) (d : HashAndSize) → IsJoined order there flags used → sound_in flags d ≡ is_sound (rows_in order there flags) d
sound_told order there flags used d joined = sym (sound_among order there flags used d joined) ∙ sym (row_passes (λ row. row.sound) order there flags d)

none_fails : (test other : Linked → Bool) (there : List Linked) → AllByRecursion (λ blob. test blob ≡ false) there → list_any (λ blob. test blob && other blob) there ≡ false
none_fails test other [] h = refl
none_fails test other (blob ∷ there) h = rw (h.0) (none_fails test other there h.1)

dir_by : (blob : Linked) (o : Option Linked) (b rest : Bool) → (b ≡ true → rest ≡ false) → rest ≡ is_some (edges_if o) → ((b && is_some blob.edges) || rest) ≡ is_some (edges_if (cond b (Some blob) o))
dir_by blob o true rest none h = ap (λ (r : Bool). is_some blob.edges || r) (none refl) ∙ or_false (is_some blob.edges)
dir_by blob o false rest none h = h

-- the blobs tell which digests have edges
pub dir_told : (there : List Linked) (d : HashAndSize) → Distinct there → list_any (λ blob. is_blob d blob && is_some blob.edges) there ≡ is_some (edges_in there d)
dir_told [] d distinct = refl
dir_told (blob ∷ there) d distinct =
    dir_by blob (find (is_blob d) there) (is_blob d blob) _
    (λ t. none_fails (is_blob d) (λ x. is_some x.edges) there (others_fail d blob there (equal_from_same blob.digest d t) distinct.0))
    (dir_told there d distinct.1)

not_some : (o : Option (List Edge)) → not (is_some o) ≡ is_none o
not_some (Some edges) = refl
not_some None = refl

regroup : (a s n : Bool) → (a && s) ≡ s → (a && (s && n)) ≡ (s && n)
regroup true s n h = refl
regroup false true n h = absurd cc
regroup false false n h = refl

-- and together which digests are those of sound rows without edges
pub plain_told : (order : List HashAndSize) (there : List Linked) (flags : Soundness) (used : ℕ) (d : HashAndSize) → IsJoined order there flags used
    → (sound_in flags d && not (list_any (λ blob. is_blob d blob && is_some blob.edges) there)) ≡ is_plain (rows_in order there flags) d
plain_told order there flags used d joined =
    ap (λ (b : Bool). sound_in flags d && b) (ap not (dir_told there d joined.distinct_blobs) ∙ not_some (edges_in there d))
    ∙ sym (regroup (is_among order d) (sound_in flags d) (is_none (edges_in there d)) (sound_among order there flags used d joined))
    ∙ sym (row_passes (λ row. row.sound && is_none row.edges) order there flags d)

-- ---- digests that are kept

kept_by : (e x : HashAndSize) (kept : List HashAndSize) (b : Bool) → is_among (cond b (x ∷ kept) kept) e ≡ ((same e x && b) || is_among kept e)
kept_by e x kept true = ap (λ (b : Bool). b || is_among kept e) (sym (and-true (same e x)))
kept_by e x kept false = ap (λ (b : Bool). b || is_among kept e) (sym (and_false (same e x)))

-- those that were there and pass the test
pub among_kept : (p : HashAndSize → Bool) (ds : List HashAndSize) (e : HashAndSize) → is_among (filter p ds) e ≡ (is_among ds e && p e)
among_kept p [] e = refl
among_kept p (x ∷ ds) e =
    kept_by e x (filter p ds) (p x)
    ∙ pick_by (same e x) (same e x) (p x) (p e) (is_among (filter p ds) e) (is_among ds e) refl (λ t. ap p (sym (equal_from_same e x t))) (among_kept p ds e)

none_same : (d : HashAndSize) (ds : List HashAndSize) → AllByRecursion (λ other. other ≢ d) ds → filter (λ other. same other d) ds ≡ []
none_same d [] h = refl
none_same d (x ∷ ds) h = cond-false (same x d) (x ∷ filter (λ other. same other d) ds) (filter (λ other. same other d) ds) (not_same_from_other x d h.0) ∙ none_same d ds h.1

one_by : (d x : HashAndSize) (kept : List HashAndSize) (b c m : Bool) → b ≡ c → (b ≡ true → x ≡ d) → (b ≡ true → kept ≡ []) → (m ≡ true → kept ≡ d ∷ []) → (c || m) ≡ true → cond b (x ∷ kept) kept ≡ d ∷ []
one_by d x kept true true m e is none h has = (λ i. is refl i ∷ none refl i)
one_by d x kept false false m e is none h has = h has
one_by d x kept true false m e is none h has = absurd cc
one_by d x kept false true m e is none h has = absurd cc

-- a digest stands once among distinct ones
pub one_same : (d : HashAndSize) (ds : List HashAndSize) → DistinctDigests ds → is_among ds d ≡ true → filter (λ other. same other d) ds ≡ d ∷ []
one_same d [] distinct has = absurd cc
one_same d (x ∷ ds) distinct has =
    one_by d x (filter (λ other. same other d) ds) (same x d) (same d x) (is_among ds d) (same_swap x d) (equal_from_same x d)
    (λ t. none_same d ds (every_weaker (λ other. other ≢ x) (λ other. other ≢ d) (λ other n q. n (q ∙ sym (equal_from_same x d t))) ds distinct.0))
    (one_same d ds distinct.1) has

-- ---- a digest that becomes the most recent one

-- the digests, with this one as the last
abbrev pub moved : HashAndSize → List HashAndSize → List HashAndSize
moved d order = other_digests d order ++ d ∷ []

moved_by : (a t : Bool) → (t ≡ true → a ≡ true) → ((a && not t) || (t || false)) ≡ a
moved_by true true h = refl
moved_by true false h = refl
moved_by false true h = sym (h refl)
moved_by false false h = refl

-- the same digests are there
pub moved_among : (d : HashAndSize) (order : List HashAndSize) (e : HashAndSize) → is_among order d ≡ true → is_among (moved d order) e ≡ is_among order e
moved_among d order e has =
    list_any-append (same e) (other_digests d order) (d ∷ [])
    ∙ ap (λ (b : Bool). b || (same e d || false)) (among_kept (λ other. not (same other d)) order e)
    ∙ moved_by (is_among order e) (same e d) (λ t. ap (is_among order) (equal_from_same e d t) ∙ has)

-- with as many bytes
pub moved_total : (d : HashAndSize) (order : List HashAndSize) → DistinctDigests order → is_among order d ≡ true → total (moved d order) ≡ total order
moved_total d order distinct has =
    let all = sum_by-append (λ (x : HashAndSize). x.size) (other_digests d order) (d ∷ []) in
    let parts = sum_by-filter_both (λ (x : HashAndSize). same x d) (λ (x : HashAndSize). not (same x d)) (λ _. refl) (λ (x : HashAndSize). x.size) order in
    let one : total (filter (λ other. same other d) order) ≡ total (d ∷ []) = ap total (one_same d order distinct has) in
    omega (arith, all, parts, one)

pub moved_joined : (order : List HashAndSize) (there : List Linked) (flags : Soundness) (used : ℕ) (d : HashAndSize) → IsJoined order there flags used → is_among order d ≡ true
    → IsJoined (moved d order) there flags used
moved_joined order there flags used d joined has = record {
  distinct = distinct_more (other_digests d order) d (distinct_kept (λ other. not (same other d)) order joined.distinct) (others_differ d order);
  distinct_blobs = joined.distinct_blobs;
  has_blobs = λ e. joined.has_blobs e ∙ sym (moved_among d order e has);
  has_flags = λ e. joined.has_flags e ∙ sym (moved_among d order e has);
  sum = joined.sum ∙ sym (moved_total d order joined.distinct has);
  small = joined.small;
}

-- the rows of other digests
pub others_joined : (order : List HashAndSize) (there : List Linked) (flags : Soundness) (d : HashAndSize) → rows_in (other_digests d order) there flags ≡ others d (rows_in order there flags)
others_joined order there flags d = sym (filter_of_map (row_in there flags) (λ row. not (is_of d row)) order)

-- a sound row is touched
pub touched_joined : (order : List HashAndSize) (there : List Linked) (flags : Soundness) (used : ℕ) (d : HashAndSize) → IsJoined order there flags used → sound_in flags d ≡ true
    → rows_in (moved d order) there flags ≡ touched d (rows_in order there flags)
touched_joined order there flags used d joined e =
    let rows = rows_in order there flags in
    let has = among_from_sound order there flags used d joined e in
    let own : row_in there flags d ∷ [] ≡ filter (is_of d) rows =
    ap (map (row_in there flags)) (sym (one_same d order joined.distinct has)) ∙ sym (filter_of_map (row_in there flags) (is_of d) order) in
    map-append (row_in there flags) (other_digests d order) (d ∷ [])
    ∙ (λ i. others_joined order there flags d i ++ own i)
    ∙ sym (cond-true (is_sound rows d) (others d rows ++ filter (is_of d) rows) rows (sym (sound_told order there flags used d joined) ∙ e))

-- and one that isn't stays
pub untouched_joined : (order : List HashAndSize) (there : List Linked) (flags : Soundness) (used : ℕ) (d : HashAndSize) → IsJoined order there flags used → sound_in flags d ≡ false
    → rows_in order there flags ≡ touched d (rows_in order there flags)
untouched_joined order there flags used d joined e =
    let rows = rows_in order there flags in
    sym (cond-false (is_sound rows d) (others d rows ++ filter (is_of d) rows) rows (sym (sound_told order there flags used d joined) ∙ e))

-- ---- a flag that is set

pub set_joined : (order : List HashAndSize) (there : List Linked) (flags : Soundness) (used : ℕ) (d : HashAndSize) (sound : Bool) → IsJoined order there flags used
    → IsJoined order there (set_flag d sound flags) used
set_joined order there flags used d sound joined = record {
  distinct = joined.distinct;
  distinct_blobs = joined.distinct_blobs;
  has_blobs = joined.has_blobs;
  has_flags = λ e. set_has d e sound flags ∙ joined.has_flags e;
  sum = joined.sum;
  small = joined.small;
}

-- the row of a digest, with this test
abbrev with_sound : List Linked → HashAndSize → Bool → Row
with_sound there d sound = record { digest = d; edges = edges_in there d; sound = sound }

map_same : (f g : HashAndSize → Row) (ds : List HashAndSize) → AllByRecursion (λ d. f d ≡ g d) ds → map f ds ≡ map g ds
map_same f g [] h = refl
map_same f g (d ∷ ds) h = (λ i. h.0 i ∷ map_same f g ds h.1 i)

-- the rows of other digests stay
set_others : (ds : List HashAndSize) (there : List Linked) (flags : Soundness) (d : HashAndSize) (sound : Bool) → AllByRecursion (λ other. other ≢ d) ds
    → rows_in ds there (set_flag d sound flags) ≡ rows_in ds there flags
set_others ds there flags d sound differ =
    map_same (row_in there (set_flag d sound flags)) (row_in there flags) ds
    (every_weaker (λ other. other ≢ d) (λ other. row_in there (set_flag d sound flags) other ≡ row_in there flags other)
    (λ other n. ap (with_sound there other) (set_other d other sound flags (not_same_from_other other d n))) ds differ)

-- a row that becomes sound and the most recent one
pub renewed_joined : (order : List HashAndSize) (there : List Linked) (flags : Soundness) (used : ℕ) (d : HashAndSize) → IsJoined order there flags used → is_among order d ≡ true
    → rows_in (moved d order) there (set_flag d true flags) ≡ others d (rows_in order there flags) ++ record (row_in there flags d) { sound = true } ∷ []
renewed_joined order there flags used d joined has =
    let rest : rows_in (other_digests d order) there (set_flag d true flags) ≡ others d (rows_in order there flags) =
    set_others (other_digests d order) there flags d true (others_differ d order) ∙ others_joined order there flags d in
    let own : sound_in (set_flag d true flags) d ≡ true = set_same d true flags ∙ and-true (is_some (flags d)) ∙ joined.has_flags d ∙ has in
    map-append (row_in there (set_flag d true flags)) (other_digests d order) (d ∷ [])
    ∙ (λ i. rest i ++ with_sound there d (own i) ∷ [])

unsound_by : (there : List Linked) (flags : Soundness) (d x : HashAndSize) (b : Bool) → same x d ≡ b
    → row_in there (set_flag d false flags) x ≡ cond b (record (row_in there flags x) { sound = false }) (row_in there flags x)
unsound_by there flags d x true e =
    let own : sound_in (set_flag d false flags) d ≡ false = set_same d false flags ∙ and_false (is_some (flags d)) in
    ap (with_sound there x) (ap (sound_in (set_flag d false flags)) (equal_from_same x d e) ∙ own)
unsound_by there flags d x false e = ap (with_sound there x) (set_other d x false flags e)

-- a row that becomes unsound
pub damaged_joined : (order : List HashAndSize) (there : List Linked) (flags : Soundness) (d : HashAndSize) → rows_in order there (set_flag d false flags) ≡ damaged d (rows_in order there flags)
damaged_joined [] there flags d = refl
damaged_joined (x ∷ order) there flags d = (λ i. unsound_by there flags d x (same x d) refl i ∷ damaged_joined order there flags d i)
