-- What a lease reaches, kept as pairs: how they are found, and how they change with the rows.
use Rattle.std.proofs.Common.{◌≡◌, ℕ, zero, suc, ◌+◌, ◌<◌, ◌≤◌, Bool, true, false, cond, not, ◌&&◌, ◌||◌, List, [], ◌∷◌, ◌++◌, length, get_or, take, Some, None, Contains, refl, sym, ap, ◌∙◌, inl, inr, arith}
use Rattle.std.specs.Prelude.{nat_eq, filter, slice_get, All}
use Rattle.std.proofs.lemmas.List.Elements.{All-contains, All-cons, All-nil, All-weaker}
use Rattle.std.specs.List.{list_any}
use Rattle.std.proofs.lemmas.Bool.{or_cases, or_left, or_right, and_parts, and_from, false_from_ne_true}
use Rattle.std.proofs.lemmas.Bool.{cases_lt}
use Rattle.std.proofs.lemmas.Option.{none-some, same_Some, slice_get-get_or, slice_get_past}
use Rattle.indexmap.specs.IndexSet.{insert_key}
use Rattle.digest_types.specs.Name.{HashAndSize}
use Rattle.directory_canon.specs.declared.node.Edge.{Edge}
use Rattle.directory_canon.specs.declared.node.Kind.{Kind}
use Rattle.directory_canon.specs.declared.node.Kind.TheVariants as kinds
use Rattle.store_core.specs.State.{same, is_among}
use Rattle.store_core.specs.Reach.{Linked, kind_number, is_pair, links_to, as_dir, within, reaches}
use Rattle.store_core.proofs.Same.{equal_from_same}
use Rattle.store_core.proofs.Elements.{has_first, has_later}
use Rattle.store_core.proofs.ReachLaws.{removal, same_tests, some_passes, any_passes, pair_itself, pair_equal, within_cases, within_from_reaches, reaches_root, reaches_next, carried}
use Rattle.store_core.proofs.Guarding.{same_swap}
use Rattle.lease_table.specs.Table.{is_blob, without}
use Rattle.lease_table.specs.Pairs.{has, leads, IsReach, IsWalked}

-- ---- lists of pairs

-- those of two lists
pub has_both : (xs ys : List Edge) (pair : Edge) → has (xs ++ ys) pair ≡ (has xs pair || has ys pair)
has_both [] ys pair = refl
has_both (x ∷ xs) ys pair = ap (λ (b : Bool). is_pair pair x || b) (has_both xs ys pair) ∙ assoc (is_pair pair x) (has xs pair) (has ys pair)
  where
    assoc : (a b c : Bool) → (a || (b || c)) ≡ ((a || b) || c)
    assoc true b c = refl
    assoc false b c = refl

-- the first of them are among them
pub has_taken : (n : ℕ) (pairs : List Edge) (pair : Edge) → has (take n pairs) pair ≡ true → has pairs pair ≡ true
has_taken zero pairs pair e = absurd cc
has_taken (suc n) [] pair e = absurd cc
has_taken (suc n) (x ∷ xs) pair e = elim (or_cases (is_pair pair x) (has (take n xs) pair) e) [
  | inl here ↦ or_left (is_pair pair x) (has xs pair) here
  | inr later ↦ or_right (is_pair pair x) (has xs pair) (has_taken n xs pair later)
]

-- ---- all that is reached

-- a link among the rows
pub record IsLink (rows : List Linked) (from pair : Edge) : Type 0 where
  pub row : Linked
  pub is_there : Contains rows row
  pub is_from : from ≡ as_dir row.digest
  pub has_link : links_to row.edges pair ≡ true

pub link_from : (rows : List Linked) (from pair : Edge) → leads rows from pair ≡ true → IsLink rows from pair
link_from rows from pair e =
    let p = some_passes (λ (row : Linked). is_pair from (as_dir row.digest) && links_to row.edges pair) rows e in
    let h = and_parts (is_pair from (as_dir p.element.digest)) (links_to p.element.edges pair) p.passes in
    record { row = p.element; is_there = p.is_there; is_from = pair_equal from (as_dir p.element.digest) h.0; has_link = h.1 }

pub leads_from : (rows : List Linked) (row : Linked) (pair : Edge) → Contains rows row → links_to row.edges pair ≡ true → leads rows (as_dir row.digest) pair ≡ true
leads_from rows row pair there link =
    any_passes (λ (other : Linked). is_pair (as_dir row.digest) (as_dir other.digest) && links_to other.edges pair) rows row there (and_from _ _ (pair_itself (as_dir row.digest)) link)

-- what a reached pair links to is reached
pub reaches_link : (rows : List Linked) (root from pair : Edge) → reaches rows (root ∷ []) from ≡ true → leads rows from pair ≡ true → reaches rows (root ∷ []) pair ≡ true
reaches_link rows root from pair h e =
    let link = link_from rows from pair e in
    reaches_next rows (root ∷ []) link.row pair link.is_there (ap (reaches rows (root ∷ [])) (sym link.is_from) ∙ h) link.has_link

is_root : (root pair : Edge) → list_any (is_pair pair) (root ∷ []) ≡ true → root ≡ pair
is_root root pair e = elim (or_cases (is_pair pair root) false e) [
  | inl h ↦ sym (pair_equal pair root h)
  | inr h ↦ absurd cc
]

-- within so many steps, all is among the pairs
walked_within : (rows : List Linked) (root : Edge) (pairs : List Edge) → has pairs root ≡ true → ((from pair : Edge) → has pairs from ≡ true → leads rows from pair ≡ true → has pairs pair ≡ true)
    → (steps : ℕ) (pair : Edge) → within rows (root ∷ []) steps pair ≡ true → has pairs pair ≡ true
unfolding within
walked_within rows root pairs has_root followed zero pair e = ap (has pairs) (sym (is_root root pair e)) ∙ has_root
walked_within rows root pairs has_root followed (suc steps) pair e = elim (within_cases rows (root ∷ []) steps pair e) [
  | inl h ↦ ap (has pairs) (sym (is_root root pair h)) ∙ has_root
  | inr h ↦ followed (as_dir h.blob.digest) pair (walked_within rows root pairs has_root followed steps (as_dir h.blob.digest) h.passes) (leads_from rows h.blob pair h.is_there h.has_link)
]

pub take_all : {X : Type 0} (xs : List X) (i : ℕ) → length xs ≤ i → take i xs ≡ xs
take_all [] zero le = refl
take_all [] (suc i) le = refl
take_all (x ∷ xs) zero le = absurd (omega arith)
take_all (x ∷ xs) (suc i) le = ap (λ (ys : List _). x ∷ ys) (take_all xs i (omega arith))

-- where all pairs were followed, they are just what is reached
pub walked_all : (rows : List Linked) (root : Edge) (pairs : List Edge) (n : ℕ) → length pairs ≤ n → IsWalked rows root pairs n → IsReach rows root pairs
walked_all rows root pairs n le h pair = same_tests _ _
    (h.sound pair)
    (λ e. walked_within rows root pairs h.has_root
    (λ from other f l. h.followed from other (ap (λ (xs : List Edge). has xs from) (take_all pairs n le) ∙ f) l)
    (length rows) pair (within_from_reaches rows (root ∷ []) pair e))

-- ---- the walk

-- the root alone
pub walked_start : (rows : List Linked) (root : Edge) → IsWalked rows root (root ∷ []) 0
walked_start rows root = record {
  has_root = or_left _ _ (pair_itself root);
  sound = λ pair e. reaches_root rows (root ∷ []) pair e;
  followed = λ from pair e l. absurd cc;
}

-- the pairs after these, with what one of them links to
pub record IsFollowed (before after edges : List Edge) : Type 0 where
  pub begins : take (length before) after ≡ before
  pub adds : (pair : Edge) → has after pair ≡ (has before pair || has edges pair)

take_less : (xs ys : List Edge) (n : ℕ) → take (length xs) ys ≡ xs → n ≤ length xs → take n ys ≡ take n xs
take_less xs ys zero e le = refl
take_less [] ys (suc n) e le = absurd (omega arith)
take_less (x ∷ xs) [] (suc n) e le = absurd cc
take_less (x ∷ xs) (y ∷ ys) (suc n) e le = (λ i. first_of (e i) ∷ take_less xs ys n (ap rest_of e) (omega arith) i)
  where
    first_of : List Edge → Edge
    first_of [] = y
    first_of (z ∷ zs) = z

    rest_of : List Edge → List Edge
    rest_of [] = []
    rest_of (z ∷ zs) = zs

pub take_next : (xs : List Edge) (i : ℕ) (x : Edge) → i < length xs → take (suc i) xs ≡ take i xs ++ get_or xs i x ∷ []
take_next [] i x lt = absurd (omega arith)
take_next (y ∷ xs) zero x lt = refl
take_next (y ∷ xs) (suc i) x lt = ap (λ (ys : List Edge). y ∷ ys) (take_next xs i x (omega arith))

pub one_more : (i : ℕ) → suc i ≡ i + 1
one_more i = omega arith

has_at : (xs : List Edge) (i : ℕ) (x : Edge) → i < length xs → has xs (get_or xs i x) ≡ true
has_at [] i x lt = absurd (omega arith)
has_at (y ∷ xs) zero x lt = or_left _ _ (pair_itself y)
has_at (y ∷ xs) (suc i) x lt = or_right _ _ (has_at xs i x (omega arith))

-- one pair more is followed
pub walked_more : (rows : List Linked) (root : Edge) (before after edges : List Edge) (n : ℕ) (x : Edge) → n < length before → IsFollowed before after edges
    → ((pair : Edge) → has edges pair ≡ leads rows (get_or before n x) pair) → IsWalked rows root before n → IsWalked rows root after (n + 1)
walked_more rows root before after edges n x lt h links walked =
    let here = get_or before n x in
    let firsts : take (n + 1) after ≡ take n before ++ here ∷ [] =
    take_less before after (n + 1) h.begins (omega (arith, lt)) ∙ ap (λ (k : ℕ). take k before) (sym (one_more n)) ∙ take_next before n x lt in
    record {
      has_root = h.adds root ∙ or_left _ _ walked.has_root;
      sound = λ pair e. elim (or_cases (has before pair) (has edges pair) (sym (h.adds pair) ∙ e)) [
        | inl old ↦ walked.sound pair old
        | inr new ↦ reaches_link rows root here pair (walked.sound here (has_at before n x lt)) (sym (links pair) ∙ new)
      ];
      followed = λ from pair e l. elim (or_cases (has (take n before) from) (is_pair from here || false) (sym (has_both (take n before) (here ∷ []) from) ∙ ap (λ (xs : List Edge). has xs from) (sym firsts) ∙ e)) [
        | inl old ↦ h.adds pair ∙ or_left _ _ (walked.followed from pair old l)
        | inr new ↦ h.adds pair ∙ or_right _ _ (links pair ∙ ap (λ (q : Edge). leads rows q pair) (sym (pair_equal from here (alone (is_pair from here) new))) ∙ l)
      ];
    }
  where
    alone : (b : Bool) → (b || false) ≡ true → b ≡ true
    alone true e = refl
    alone false e = e

-- and a pair that links to nothing
pub walked_skip : (rows : List Linked) (root : Edge) (pairs : List Edge) (n : ℕ) (x : Edge) → n < length pairs → ((pair : Edge) → leads rows (get_or pairs n x) pair ≡ false) → IsWalked rows root pairs n → IsWalked rows root pairs (n + 1)
walked_skip rows root pairs n x lt none walked =
    walked_more rows root pairs pairs [] n x lt (record { begins = take_all pairs (length pairs) (omega arith); adds = λ pair. sym (or_false (has pairs pair)) }) (λ pair. sym (none pair)) walked
  where
    or_false : (b : Bool) → (b || false) ≡ b
    or_false true = refl
    or_false false = refl

-- ---- a row more

leads_both : (rows : List Linked) (new : Linked) (from pair : Edge) → leads (rows ++ new ∷ []) from pair ≡ (leads rows from pair || (is_pair from (as_dir new.digest) && links_to new.edges pair))
leads_both [] new from pair = last (is_pair from (as_dir new.digest) && links_to new.edges pair)
  where
    last : (b : Bool) → (b || false) ≡ b
    last true = refl
    last false = refl
leads_both (row ∷ rows) new from pair =
    ap (λ (b : Bool). (is_pair from (as_dir row.digest) && links_to row.edges pair) || b) (leads_both rows new from pair)
    ∙ assoc (is_pair from (as_dir row.digest) && links_to row.edges pair) (leads rows from pair) (is_pair from (as_dir new.digest) && links_to new.edges pair)
  where
    assoc : (a b c : Bool) → (a || (b || c)) ≡ ((a || b) || c)
    assoc true b c = refl
    assoc false b c = refl

still_there : (rows : List Linked) (new row : Linked) → Contains rows row → Contains (rows ++ new ∷ []) row
still_there rows new row h = All-contains (λ x. Contains (rows ++ new ∷ []) x) rows row (each rows) h
  where
    each : (xs : List Linked) → All (λ x. Contains (xs ++ new ∷ []) x) xs
    each [] = All-nil _
    each (x ∷ xs) = All-cons (λ y. Contains (x ∷ xs ++ new ∷ []) y) x xs (has_first x (xs ++ new ∷ [])) (All-weaker (λ y. Contains (xs ++ new ∷ []) y) (λ y. Contains (x ∷ xs ++ new ∷ []) y) (λ y g. has_later x y (xs ++ new ∷ []) g) xs (each xs))

there_last : (rows : List Linked) (new : Linked) → Contains (rows ++ new ∷ []) new
there_last [] new = has_first new []
there_last (row ∷ rows) new = has_later row new (rows ++ new ∷ []) (there_last rows new)

-- With a row more, its edges are what is added to the pairs that have it as a Directory; then what these lead to is
-- still to be followed. Pairs that don't have it stay as they are.
pub walked_again : (rows : List Linked) (new : Linked) (root : Edge) (before after : List Edge) → IsReach rows root before → take (length before) after ≡ before
    → ((pair : Edge) → has after pair ≡ (has before pair || (has before (as_dir new.digest) && links_to new.edges pair))) → IsWalked (rows ++ new ∷ []) root after (length before)
walked_again rows new root before after exact begins adds =
    let carry = λ (pair : Edge) (e : reaches rows (root ∷ []) pair ≡ true). carried rows (rows ++ new ∷ []) (root ∷ []) (λ row h _. still_there rows new row h) pair e in
    record {
      has_root = adds root ∙ or_left _ _ (exact root ∙ reaches_root rows (root ∷ []) root (or_left _ _ (pair_itself root)));
      sound = λ pair e. elim (or_cases (has before pair) (has before (as_dir new.digest) && links_to new.edges pair) (sym (adds pair) ∙ e)) [
        | inl old ↦ carry pair (sym (exact pair) ∙ old)
        | inr more ↦
            let h = and_parts (has before (as_dir new.digest)) (links_to new.edges pair) more in
            reaches_next (rows ++ new ∷ []) (root ∷ []) new pair (there_last rows new) (carry (as_dir new.digest) (sym (exact (as_dir new.digest)) ∙ h.0)) h.1
      ];
      followed = λ from pair e l.
          let old = ap (λ (xs : List Edge). has xs from) (sym begins) ∙ e in
          elim (or_cases (leads rows from pair) (is_pair from (as_dir new.digest) && links_to new.edges pair) (sym (leads_both rows new from pair) ∙ l)) [
            | inl link ↦ adds pair ∙ or_left _ _ (exact pair ∙ reaches_link rows root from pair (sym (exact from) ∙ old) link)
            | inr link ↦
                let h = and_parts (is_pair from (as_dir new.digest)) (links_to new.edges pair) link in
                adds pair ∙ or_right _ _ (and_from _ _ (ap (has before) (sym (pair_equal from (as_dir new.digest) h.0)) ∙ old) h.1)
          ];
    }

-- so what doesn't have the row stays what is reached
pub reach_more : (rows : List Linked) (new : Linked) (root : Edge) (pairs : List Edge) → has pairs (as_dir new.digest) ≡ false → IsReach rows root pairs → IsReach (rows ++ new ∷ []) root pairs
reach_more rows new root pairs none exact =
    walked_all (rows ++ new ∷ []) root pairs (length pairs) (omega arith)
    (walked_again rows new root pairs pairs exact (take_all pairs (length pairs) (omega arith)) (λ pair. sym (by (has pairs pair) (has pairs (as_dir new.digest)) (links_to new.edges pair) none)))
  where
    by : (a b c : Bool) → b ≡ false → (a || (b && c)) ≡ a
    by true b c e = refl
    by false true c e = absurd cc
    by false false c e = refl

-- without rows that aren't reached, the same is
pub reach_without : (rows : List Linked) (keep : Linked → Bool) (root : Edge) (pairs : List Edge) → ((row : Linked) → Contains rows row → keep row ≡ false → has pairs (as_dir row.digest) ≡ false) → IsReach rows root pairs
    → IsReach (filter keep rows) root pairs
reach_without rows keep root pairs unreached exact pair =
    exact pair ∙ sym (removal rows (root ∷ []) keep (λ row h f. sym (exact (as_dir row.digest)) ∙ unreached row h f) pair)

-- ---- the edges of the row of a pair

-- the links of a digest, as a Directory's, are those of its row
pub leads_blob : (rows : List Linked) (d : HashAndSize) (pair : Edge) → leads rows (as_dir d) pair ≡ list_any (λ row. is_blob d row && links_to row.edges pair) rows
leads_blob [] d pair = refl
leads_blob (row ∷ rows) d pair = (λ i. (same_swap d row.digest i && links_to row.edges pair) || leads_blob rows d pair i)

leads_file : (rows : List Linked) (from pair : Edge) → from.kind ≡ kinds.File → leads rows from pair ≡ false
leads_file [] from pair e = refl
leads_file (row ∷ rows) from pair e = (λ i. (by from.kind e i && links_to row.edges pair) || leads_file rows from pair e i)
  where
    by : (kind : Kind) → kind ≡ kinds.File → (nat_eq (kind_number kind) 1 && same from.digest row.digest) ≡ false
    by kinds.File q = refl
    by kinds.Dir q = absurd cc

-- a file
pub links_file : (rows : List Linked) (from : Edge) → from.kind ≡ kinds.File → (pair : Edge) → false ≡ leads rows from pair
links_file rows from e pair = sym (leads_file rows from pair e)

-- ---- pairs added one after the other

head_by : Edge → List Edge → Edge
head_by x [] = x
head_by x (y ∷ ys) = y

tail_of : List Edge → List Edge
tail_of [] = []
tail_of (y ∷ ys) = ys

-- what begins a list begins a longer one
pub take_kept : (old xs ys : List Edge) → take (length old) xs ≡ old → take (length old) (xs ++ ys) ≡ old
unfolding tail_of head_by
take_kept [] xs ys e = refl
take_kept (x ∷ old) [] ys e = absurd cc
take_kept (x ∷ old) (y ∷ xs) ys e = (λ i. head_by x (e i) ∷ take_kept old xs ys (ap tail_of e) i)

inserted_begins_by : (b : Bool) (old xs : List Edge) (x : Edge) → take (length old) xs ≡ old → take (length old) (cond b xs (xs ++ x ∷ [])) ≡ old
inserted_begins_by true old xs x e = e
inserted_begins_by false old xs x e = take_kept old xs (x ∷ []) e

pub inserted_begins : (old xs : List Edge) (x : Edge) → take (length old) xs ≡ old → take (length old) (insert_key is_pair xs x) ≡ old
inserted_begins old xs x e = inserted_begins_by (list_any (is_pair x) xs) old xs x e

or_none : (b : Bool) → (b || false) ≡ b
or_none true = refl
or_none false = refl

inserted_by : (b : Bool) (xs : List Edge) (x pair : Edge) → list_any (is_pair x) xs ≡ b → has (cond b xs (xs ++ x ∷ [])) pair ≡ (has xs pair || is_pair pair x)
inserted_by true xs x pair e = by (has xs pair) (is_pair pair x) (λ t. ap (has xs) (pair_equal pair x t) ∙ e)
  where
    by : (a b : Bool) → (b ≡ true → a ≡ true) → a ≡ (a || b)
    by true b h = refl
    by false true h = h refl
    by false false h = refl
inserted_by false xs x pair e = has_both xs (x ∷ []) pair ∙ ap (λ (b : Bool). has xs pair || b) (or_none (is_pair pair x))

-- a pair is added
pub inserted_has : (xs : List Edge) (x pair : Edge) → has (insert_key is_pair xs x) pair ≡ (has xs pair || is_pair pair x)
inserted_has xs x pair = inserted_by (list_any (is_pair x) xs) xs x pair refl

-- one edge more
pub added_more : (old xs : List Edge) (edges : List Edge) (i : ℕ) (x pair : Edge) → i < length edges → x ≡ get_or edges i x → has xs pair ≡ (has old pair || has (take i edges) pair)
    → has (insert_key is_pair xs x) pair ≡ (has old pair || has (take (i + 1) edges) pair)
added_more old xs edges i x pair lt is h =
    inserted_has xs x pair
    ∙ ap (λ (b : Bool). b || is_pair pair x) h
    ∙ assoc (has old pair) (has (take i edges) pair) (is_pair pair x)
    ∙ ap (λ (b : Bool). has old pair || b) (
    ap (λ (b : Bool). has (take i edges) pair || b) (sym (or_none (is_pair pair x)))
    ∙ sym (has_both (take i edges) (x ∷ []) pair)
    ∙ ap (λ (y : Edge). has (take i edges ++ y ∷ []) pair) is
    ∙ ap (λ (ys : List Edge). has ys pair) (sym (take_next edges i x lt) ∙ ap (λ (k : ℕ). take k edges) (one_more i)))
  where
    assoc : (a b c : Bool) → ((a || b) || c) ≡ (a || (b || c))
    assoc true b c = refl
    assoc false b c = refl

-- all of them
pub added_all : (old xs : List Edge) (edges : List Edge) (i : ℕ) (pair : Edge) → length edges ≤ i → has xs pair ≡ (has old pair || has (take i edges) pair) → has xs pair ≡ (has old pair || has edges pair)
added_all old xs edges i pair le h = h ∙ ap (λ (ys : List Edge). has old pair || has ys pair) (take_all edges i le)

pub added_none : (xs : List Edge) (pair : Edge) → has xs pair ≡ (has xs pair || false)
added_none xs pair = sym (or_none (has xs pair))

-- ---- the pair at a place

pub pair_at : (xs : List Edge) (i : ℕ) (x : Edge) → slice_get xs i ≡ Some x → (i < length xs) × (get_or xs i x ≡ x)
pair_at xs i x e = elim (cases_lt i (length xs)) [
  | inl lt ↦ (lt, same_Some (get_or xs i x) x (sym (slice_get-get_or xs i x lt) ∙ e))
  | inr le ↦ absurd (let h = slice_get_past xs i le in none-some x (sym h ∙ e))
]

pub no_pair_at : (xs : List Edge) (i : ℕ) → slice_get xs i ≡ None → length xs ≤ i
no_pair_at xs i e = elim (cases_lt i (length xs)) [
  | inl lt ↦ absurd (none-some (get_or xs i (as_dir (record { hash = []; size = 0 }))) (sym e ∙ slice_get-get_or xs i _ lt))
  | inr le ↦ le
]

tails : (x y : Edge) (xs ys : List Edge) → y ∷ ys ≡ x ∷ xs → ys ≡ xs
unfolding tail_of
tails x y xs ys e = ap tail_of e

shorter : (old mid : List Edge) → take (length old) mid ≡ old → length old ≤ length mid
shorter [] mid e = omega arith
shorter (x ∷ old) [] e = absurd cc
shorter (x ∷ old) (y ∷ mid) e = let h = shorter old mid (tails x y old (take (length old) mid) e) in omega (arith, h)

-- what begins a list begins one that it begins
pub begins_through : (old mid xs : List Edge) → take (length old) mid ≡ old → take (length mid) xs ≡ mid → take (length old) xs ≡ old
begins_through old mid xs e f = take_less mid xs (length old) f (shorter old mid e) ∙ e

pub take_itself : (xs : List Edge) → take (length xs) xs ≡ xs
take_itself xs = take_all xs (length xs) (omega arith)

-- ---- rows that go

-- what a pair links to among the rows but those that go
leads_kept : (gone : List HashAndSize) (d : HashAndSize) (row : Linked) (rest : List Linked) (pair : Edge) (b : Bool) → is_among gone d ≡ false → is_among gone row.digest ≡ b → leads (without gone rest) (as_dir d) pair ≡ leads rest (as_dir d) pair
    → leads (cond (not b) (row ∷ without gone rest) (without gone rest)) (as_dir d) pair ≡ leads (row ∷ rest) (as_dir d) pair
leads_kept gone d row rest pair false e f h = ap (λ (b : Bool). (is_pair (as_dir d) (as_dir row.digest) && links_to row.edges pair) || b) h
leads_kept gone d row rest pair true e f h =
    h ∙ ap (λ (b : Bool). (b && links_to row.edges pair) || leads rest (as_dir d) pair) (sym (false_from_ne_true (same d row.digest) (λ t. let k = ap (is_among gone) (equal_from_same d row.digest t) in cc)))

pub leads_without : (gone : List HashAndSize) (rows : List Linked) (d : HashAndSize) (pair : Edge) → is_among gone d ≡ false → leads (without gone rows) (as_dir d) pair ≡ leads rows (as_dir d) pair
leads_without gone [] d pair e = refl
leads_without gone (row ∷ rows) d pair e = leads_kept gone d row rows pair (is_among gone row.digest) e refl (leads_without gone rows d pair e)

leads_gone_by : (gone : List HashAndSize) (d : HashAndSize) (row : Linked) (rest : List Linked) (pair : Edge) (b : Bool) → is_among gone d ≡ true → is_among gone row.digest ≡ b → leads rest (as_dir d) pair ≡ false
    → leads (cond (not b) (row ∷ rest) rest) (as_dir d) pair ≡ false
leads_gone_by gone d row rest pair true e f h = h
leads_gone_by gone d row rest pair false e f h =
    ap (λ (b : Bool). (b && links_to row.edges pair) || leads rest (as_dir d) pair) (false_from_ne_true (same d row.digest) (λ t. let k = ap (is_among gone) (equal_from_same d row.digest t) in cc)) ∙ h

pub leads_gone : (gone : List HashAndSize) (rows : List Linked) (d : HashAndSize) (pair : Edge) → is_among gone d ≡ true → leads (without gone rows) (as_dir d) pair ≡ false
leads_gone gone [] d pair e = refl
leads_gone gone (row ∷ rows) d pair e = leads_gone_by gone d row (without gone rows) pair (is_among gone row.digest) e refl (leads_gone gone rows d pair e)

-- a pair as a Directory's
pub as_its_kind : (from : Edge) → from.kind ≡ kinds.Dir → from ≡ as_dir from.digest
as_its_kind from e = (λ i. record { kind = e i; digest = from.digest })
