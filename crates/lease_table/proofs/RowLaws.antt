-- Rows of different digests, and how they are kept.
use Rattle.std.proofs.Common.{◌≡◌, ◌≢◌, ℕ, zero, suc, ◌+◌, ◌<◌, ◌≤◌, ◌||◌, ◌&&◌, Bool, true, false, cond, not, ltb, List, [], ◌∷◌, ◌++◌, length, take, Option, Some, None, refl, sym, ap, ◌∙◌, arith}
use Rattle.std.proofs.Common.{get_or}
use Rattle.std.specs.Prelude.{filter, position, is_some, unwrap_or}
use Rattle.std.specs.List.{AllByRecursion, list_any, position_or_len}
use Rattle.std.specs.Map.{lookup}
use Rattle.std.proofs.lemmas.Bool.{ltb-false, or_parts}
use Rattle.digest_types.specs.Name.{HashAndSize}
use Rattle.directory_canon.specs.declared.node.Edge.{Edge}
use Rattle.store_core.specs.State.{same, is_among}
use Rattle.store_core.specs.Reach.{Linked, is_pair, links_to}
use Rattle.store_core.proofs.Same.{equal_from_same, same_itself, not_same_from_other, other_from_not_same}
use Rattle.store_core.proofs.Elements.{every_filter, every_push}
use Rattle.store_core.proofs.Guarding.{same_swap}
use Rattle.store_core.proofs.UseOrder.{no_place}
use Rattle.lease_table.specs.Table.{is_blob, without, others, other_digests, Distinct, DistinctDigests}
use Rattle.lease_table.specs.Rows.{row_in, rows_in, IsIndexed}
use Rattle.lease_table.proofs.OrderLaws.{apart, distinct_kept, distinct_more}

-- an entry of the index
abbrev pub Entry : Type 0
Entry = HashAndSize × Option (List Edge)

-- ---- no digest has two rows

-- the other row has another digest
abbrev Differs : Linked → Linked → Type 0
Differs row other = other.digest ≢ row.digest

keep : (b : Bool) (x : Linked) (xs : List Linked) → AllByRecursion (Differs x) xs → Distinct xs → Distinct (cond b (x ∷ xs) xs)
keep true x xs h d = (h, d)
keep false x xs h d = d

-- among rows that are kept
pub distinct_filter : (p : Linked → Bool) (rows : List Linked) → Distinct rows → Distinct (filter p rows)
distinct_filter p [] d = tt
distinct_filter p (row ∷ rows) d = keep (p row) row (filter p rows) (every_filter (Differs row) p rows d.0) (distinct_filter p rows d.1)

-- with one row more
pub distinct_push : (rows : List Linked) (row : Linked) → Distinct rows → AllByRecursion (λ other. other.digest ≢ row.digest) rows → Distinct (rows ++ row ∷ [])
distinct_push [] row d h = (tt, tt)
distinct_push (first ∷ rows) row d h = (every_push (Differs first) rows row d.0 (λ e. h.0 (sym e)), distinct_push rows row d.1 h.1)

-- a digest with no row differs from those that have one
pub absent : (d : HashAndSize) (rows : List Linked) → list_any (is_blob d) rows ≡ false → AllByRecursion (λ row. row.digest ≢ d) rows
absent d [] e = tt
absent d (row ∷ rows) e =
    let h = or_parts (is_blob d row) (list_any (is_blob d) rows) e in
    (other_from_not_same row.digest d h.0, absent d rows h.1)

-- a row's digest is that of no other
pub others_fail : (d : HashAndSize) (row : Linked) (rows : List Linked) → row.digest ≡ d → AllByRecursion (λ other. other.digest ≢ row.digest) rows → AllByRecursion (λ other. is_blob d other ≡ false) rows
others_fail d row [] e h = tt
others_fail d row (other ∷ rows) e h = (not_same_from_other other.digest d (λ q. h.0 (q ∙ sym e)), others_fail d row rows e h.1)

-- ---- tests

all_fail_by : (b : Bool) (m n : ℕ) → suc m ≤ cond (not b) (1 + n) 0 → (b ≡ false) × (m ≤ n)
all_fail_by true m n h = absurd (omega arith)
all_fail_by false m n h = (refl, omega arith)

all_fail : {X : Type 0} (test : X → Bool) (xs : List X) → length xs ≤ position_or_len test xs → AllByRecursion (λ x. test x ≡ false) xs
all_fail test [] h = tt
all_fail test (x ∷ xs) h = let p = all_fail_by (test x) (length xs) (position_or_len test xs) h in (p.0, all_fail test xs p.1)

-- where no place is found, nothing passes
pub nowhere : {X : Type 0} (test : X → Bool) (xs : List X) → position test xs ≡ None → AllByRecursion (λ x. test x ≡ false) xs
nowhere test xs e = all_fail test xs (ltb-false _ _ (no_place (ltb (position_or_len test xs) (length xs)) (position_or_len test xs) e))

-- what nothing passes, none passes
pub none_any : {X : Type 0} (test : X → Bool) (xs : List X) → AllByRecursion (λ x. test x ≡ false) xs → list_any test xs ≡ false
none_any test [] h = refl
none_any test (x ∷ xs) h = rw (h.0) (none_any test xs h.1)

-- ---- the rows of an order

-- those of distinct digests are distinct
pub distinct_rows : (order : List HashAndSize) (entries : List Entry) → DistinctDigests order → Distinct (rows_in order entries)
distinct_rows [] entries h = tt
distinct_rows (d ∷ order) entries h = (differ order h.0, distinct_rows order entries h.1)
  where
    differ : (ds : List HashAndSize) → AllByRecursion (λ other. other ≢ d) ds → AllByRecursion (λ other. other.digest ≢ d) (rows_in ds entries)
    differ [] h = tt
    differ (e ∷ ds) h = (h.0, differ ds h.1)

-- a digest has a row where it is in the order
pub has_in : (order : List HashAndSize) (entries : List Entry) (d : HashAndSize) → list_any (is_blob d) (rows_in order entries) ≡ is_among order d
has_in [] entries d = refl
has_in (e ∷ order) entries d = (λ i. same_swap e d i || has_in order entries d i)

any_by : (a b rest x y : Bool) (others : Bool) → a ≡ b → (b ≡ true → x ≡ y) → others ≡ (rest && y) → ((a && x) || others) ≡ ((b || rest) && y)
any_by true true rest x true others e h f = ap (λ (v : Bool). v || others) (h refl)
any_by true true rest x false others e h f = (λ i. h refl i || f i) ∙ none rest
  where
    none : (b : Bool) → (b && false) ≡ false
    none true = refl
    none false = refl
any_by false false rest x y others e h f = f
any_by true false rest x y others e h f = absurd cc
any_by false true rest x y others e h f = absurd cc

-- and its row passes a test where that does
pub test_in : (f : Linked → Bool) (order : List HashAndSize) (entries : List Entry) (d : HashAndSize) → list_any (λ row. is_blob d row && f row) (rows_in order entries) ≡ (is_among order d && f (row_in entries d))
test_in f [] entries d = refl
test_in f (e ∷ order) entries d =
    any_by (same e d) (same d e) (is_among order d) (f (row_in entries e)) (f (row_in entries d)) _ (same_swap e d) (λ t. ap (λ (x : HashAndSize). f (row_in entries x)) (sym (equal_from_same d e t))) (test_in f order entries d)

-- with a digest more
pub rows_push : (order : List HashAndSize) (entries : List Entry) (d : HashAndSize) → rows_in (order ++ d ∷ []) entries ≡ rows_in order entries ++ row_in entries d ∷ []
rows_push [] entries d = refl
rows_push (e ∷ order) entries d = ap (λ (rows : List Linked). row_in entries e ∷ rows) (rows_push order entries d)

-- by entries that say the same of each digest but one, which isn't among them
pub rows_alike : (order : List HashAndSize) (old now : List Entry) (d : HashAndSize) → ((q : HashAndSize) → same d q ≡ false → lookup (same q) now ≡ lookup (same q) old) → is_among order d ≡ false → rows_in order now ≡ rows_in order old
rows_alike [] old now d h none = refl
rows_alike (e ∷ order) old now d h none =
    let p = or_parts (same d e) (is_among order d) none in
    (λ i. record { digest = e; edges = unwrap_or (h e p.0 i) None } ∷ rows_alike order old now d h p.1 i)

kept_by : (b : Bool) (entries : List Entry) (e : HashAndSize) (ds : List HashAndSize) (rows : List Linked) → rows_in ds entries ≡ rows → rows_in (cond b (e ∷ ds) ds) entries ≡ cond b (row_in entries e ∷ rows) rows
kept_by true entries e ds rows h = ap (λ (rest : List Linked). row_in entries e ∷ rest) h
kept_by false entries e ds rows h = h

-- those of the digests that are kept
pub rows_kept : (p : HashAndSize → Bool) (order : List HashAndSize) (entries : List Entry) → rows_in (filter p order) entries ≡ filter (λ row. p row.digest) (rows_in order entries)
rows_kept p [] entries = refl
rows_kept p (e ∷ order) entries = kept_by (p e) entries e (filter p order) (filter (λ row. p row.digest) (rows_in order entries)) (rows_kept p order entries)

-- a digest isn't among the others
pub not_other : (d : HashAndSize) (ds : List HashAndSize) → is_among (other_digests d ds) d ≡ false
not_other d [] = refl
not_other d (e ∷ ds) = by (same e d) (same_swap d e) (not_other d ds)
  where
    by : (b : Bool) → same d e ≡ b → is_among (other_digests d ds) d ≡ false → is_among (cond (not b) (e ∷ other_digests d ds) (other_digests d ds)) d ≡ false
    by true q h = h
    by false q h = (λ i. q i || h i)

-- but others that were among them are
pub other_among : (d q : HashAndSize) (ds : List HashAndSize) → same d q ≡ false → is_among (other_digests d ds) q ≡ is_among ds q
other_among d q [] n = refl
other_among d q (e ∷ ds) n = by (same e d) refl (other_among d q ds n)
  where
    by : (b : Bool) → same e d ≡ b → is_among (other_digests d ds) q ≡ is_among ds q → is_among (cond (not b) (e ∷ other_digests d ds) (other_digests d ds)) q ≡ (same q e || is_among ds q)
    by true t h = h ∙ ap (λ (b : Bool). b || is_among ds q) (sym (ap (same q) (equal_from_same e d t) ∙ same_swap q d ∙ n))
    by false t h = ap (λ (b : Bool). same q e || b) h

-- one more digest
among_push : (ds : List HashAndSize) (x d : HashAndSize) → is_among (ds ++ x ∷ []) d ≡ (is_among ds d || same d x)
among_push [] x d = none (same d x)
  where
    none : (b : Bool) → (b || false) ≡ b
    none true = refl
    none false = refl
among_push (e ∷ ds) x d = ap (λ (b : Bool). same d e || b) (among_push ds x d) ∙ assoc (same d e) (is_among ds d) (same d x)
  where
    assoc : (a b c : Bool) → (a || (b || c)) ≡ ((a || b) || c)
    assoc true b c = refl
    assoc false b c = refl

-- ---- what the map tells

-- whether the row of a digest passes a test
told_in : (f : Linked → Bool) (order : List HashAndSize) (entries : List Entry) (d : HashAndSize) (o : Option (Option (List Edge))) → IsIndexed order entries → lookup (same d) entries ≡ o
    → list_any (λ row. is_blob d row && f row) (rows_in order entries) ≡ (is_some o && f (record { digest = d; edges = unwrap_or o None }))
told_in f order entries d o h e = test_in f order entries d ∙ (λ i. (sym (h.has d) ∙ ap is_some e) i && f (record { digest = d; edges = unwrap_or (e i) None }))

pub told_there : (f : Linked → Bool) (order : List HashAndSize) (entries : List Entry) (d : HashAndSize) (edges : Option (List Edge)) → IsIndexed order entries → lookup (same d) entries ≡ Some edges
    → list_any (λ row. is_blob d row && f row) (rows_in order entries) ≡ f (record { digest = d; edges = edges })
told_there f order entries d edges h e = told_in f order entries d (Some edges) h e

pub told_nowhere : (f : Linked → Bool) (order : List HashAndSize) (entries : List Entry) (d : HashAndSize) → IsIndexed order entries → lookup (same d) entries ≡ None
    → list_any (λ row. is_blob d row && f row) (rows_in order entries) ≡ false
told_nowhere f order entries d h e = told_in f order entries d None h e

-- the links of edges that may be none
pub same_links : (edges : Option (List Edge)) (pair : Edge) → list_any (is_pair pair) (unwrap_or edges []) ≡ links_to edges pair
same_links None pair = refl
same_links (Some edges) pair = refl

-- ---- a row more, and one less

module _ (order : List HashAndSize) (entries now : List Entry) (d : HashAndSize) (h : IsIndexed order entries) where
  -- a digest more
  pub indexed_more : (edges : Option (List Edge)) → is_among order d ≡ false → ((q : HashAndSize) → lookup (same q) now ≡ cond (same d q) (Some edges) (lookup (same q) entries)) → IsIndexed (order ++ d ∷ []) now
  indexed_more edges none at = record {
    distinct = distinct_more order d h.distinct (apart d order none);
    has = λ q. ap is_some (at q ∙ ap (λ (b : Bool). cond b (Some edges) (lookup (same q) entries)) (same_swap d q)) ∙ by q (same q d) ∙ sym (among_push order d q);
  }
    where
      by : (q : HashAndSize) (b : Bool) → is_some (cond b (Some edges) (lookup (same q) entries)) ≡ (is_among order q || b)
      by q true = sym (yes (is_among order q))
        where
          yes : (a : Bool) → (a || true) ≡ true
          yes true = refl
          yes false = refl
      by q false = h.has q ∙ sym (no (is_among order q))
        where
          no : (a : Bool) → (a || false) ≡ a
          no true = refl
          no false = refl

  -- its row is the last one
  pub rows_more : (edges : Option (List Edge)) → is_among order d ≡ false → ((q : HashAndSize) → lookup (same q) now ≡ cond (same d q) (Some edges) (lookup (same q) entries))
      → rows_in (order ++ d ∷ []) now ≡ rows_in order entries ++ record { digest = d; edges = edges } ∷ []
  rows_more edges none at =
      rows_push order now d
      ∙ (λ i. rows_alike order entries now d (λ q n. at q ∙ ap (λ (b : Bool). cond b (Some edges) (lookup (same q) entries)) n) none i ++ record { digest = d; edges = unwrap_or (at d i) None } ∷ [])
      ∙ ap (λ (b : Bool). rows_in order entries ++ record { digest = d; edges = unwrap_or (cond b (Some edges) (lookup (same d) entries)) None } ∷ []) (same_itself d)

  -- a digest less
  pub indexed_less : ((q : HashAndSize) → lookup (same q) now ≡ cond (same d q) None (lookup (same q) entries)) → IsIndexed (other_digests d order) now
  indexed_less at = record {
    distinct = distinct_kept (λ x. not (same x d)) order h.distinct;
    has = λ q. ap is_some (at q) ∙ by q (same d q) refl;
  }
    where
      by : (q : HashAndSize) (b : Bool) → same d q ≡ b → is_some (cond b None (lookup (same q) entries)) ≡ is_among (other_digests d order) q
      by q true e = sym (not_other d order) ∙ ap (is_among (other_digests d order)) (equal_from_same d q e)
      by q false e = h.has q ∙ sym (other_among d q order e)

  -- its row is gone
  pub rows_less : ((q : HashAndSize) → lookup (same q) now ≡ cond (same d q) None (lookup (same q) entries)) → rows_in (other_digests d order) now ≡ others d (rows_in order entries)
  rows_less at =
      rows_alike (other_digests d order) entries now d (λ q n. at q ∙ ap (λ (b : Bool). cond b None (lookup (same q) entries)) n) (not_other d order)
      ∙ rows_kept (λ x. not (same x d)) order entries

-- ---- rows that go one after the other

-- those without these digests, and then without another one
without_more : (ds : List HashAndSize) (x : HashAndSize) (rows : List Linked) → others x (without ds rows) ≡ without (ds ++ x ∷ []) rows
without_more ds x [] = refl
without_more ds x (row ∷ rows) = by (is_among ds row.digest) (same row.digest x) (is_among (ds ++ x ∷ []) row.digest) refl (among_push ds x row.digest) (without_more ds x rows)
  where
    by : (a b c : Bool) → same row.digest x ≡ b → c ≡ (a || b) → others x (without ds rows) ≡ without (ds ++ x ∷ []) rows
        → others x (cond (not a) (row ∷ without ds rows) (without ds rows)) ≡ cond (not c) (row ∷ without (ds ++ x ∷ []) rows) (without (ds ++ x ∷ []) rows)
    by true b c s f h = h ∙ ap (λ (v : Bool). cond (not v) (row ∷ without (ds ++ x ∷ []) rows) (without (ds ++ x ∷ []) rows)) (sym f)
    by false b c s f h =
        (λ i. cond (not (s i)) (row ∷ h i) (h i))
        ∙ ap (λ (v : Bool). cond (not v) (row ∷ without (ds ++ x ∷ []) rows) (without (ds ++ x ∷ []) rows)) (sym f)

take_more : (xs : List HashAndSize) (i : ℕ) (x : HashAndSize) → i < length xs → take (suc i) xs ≡ take i xs ++ get_or xs i x ∷ []
take_more [] i x lt = absurd (omega arith)
take_more (y ∷ xs) zero x lt = refl
take_more (y ∷ xs) (suc i) x lt = ap (λ (ys : List HashAndSize). y ∷ ys) (take_more xs i x (omega arith))

-- one step along the digests that go
pub without_next : (gone : List HashAndSize) (i : ℕ) (x : HashAndSize) (rows : List Linked) → i < length gone → x ≡ get_or gone i x → others x (without (take i gone) rows) ≡ without (take (i + 1) gone) rows
without_next gone i x rows lt is =
    without_more (take i gone) x rows
    ∙ ap (λ (y : HashAndSize). without (take i gone ++ y ∷ []) rows) is
    ∙ ap (λ (ds : List HashAndSize). without ds rows) (sym (take_more gone i x lt) ∙ ap (λ (n : ℕ). take n gone) one_more)
  where
    one_more : suc i ≡ i + 1
    one_more = omega arith

-- all of them
pub without_all : (gone : List HashAndSize) (i : ℕ) (rows : List Linked) → length gone ≤ i → without (take i gone) rows ≡ without gone rows
without_all gone i rows le = ap (λ (ds : List HashAndSize). without ds rows) (take_all gone i le)
  where
    take_all : (xs : List HashAndSize) (i : ℕ) → length xs ≤ i → take i xs ≡ xs
    take_all [] zero le = refl
    take_all [] (suc i) le = refl
    take_all (x ∷ xs) zero le = absurd (omega arith)
    take_all (x ∷ xs) (suc i) le = ap (λ (ys : List HashAndSize). x ∷ ys) (take_all xs i (omega arith))

-- where none go
pub without_none : (rows : List Linked) → without [] rows ≡ rows
without_none [] = refl
without_none (row ∷ rows) = ap (λ (rest : List Linked). row ∷ rest) (without_none rows)
