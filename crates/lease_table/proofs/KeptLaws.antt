-- What the table keeps, after each change.
use Rattle.std.proofs.Common.{◌≡◌, ◌^◌, ℕ, ◌+◌, ◌≤◌, Bool, true, false, cond, not, ◌&&◌, ◌||◌, List, [], ◌∷◌, ◌++◌, length, take, map, filter, Contains, refl, sym, ap, subst, ◌∙◌, arith}
use Rattle.std.specs.Prelude.{nat_lt}
use Rattle.std.specs.List.{AllByRecursion, list_any}
use Rattle.std.proofs.lemmas.Bool.{or_parts, or_right, false_from_ne_true}
use Rattle.std.proofs.lemmas.List.Sums.{sum_by_push}
use Rattle.digest_types.specs.Name.{HashAndSize}
use Rattle.directory_canon.specs.declared.node.Edge.{Edge}
use Rattle.store_core.specs.State.{Holds, same, is_among, is_held}
use Rattle.store_core.specs.Reach.{Linked, as_dir, is_reached}
use Rattle.store_core.proofs.Same.{equal_from_same, same_itself}
use Rattle.store_core.proofs.Elements.{every_has, every_filter, every_push, every_contains}
use Rattle.store_core.proofs.ReachLaws.{any_passes}
use Rattle.lease_table.specs.declared.table_lease.TableLease.{TableLease}
use Rattle.lease_table.specs.declared.lease_reach.LeaseReach.{LeaseReach}
use Rattle.lease_table.specs.Holds.{holders}
use Rattle.lease_table.specs.Table.{Table, is_blob, has_row, has_id, roots, is_wanted, is_guarded, guarded, sizes, without, others, Distinct}
use Rattle.lease_table.specs.Pairs.{has, IsReach}
use Rattle.lease_table.specs.Tallies.{touches, other_kind, bytes_of, count_in, IsTallied}
use Rattle.lease_table.specs.LeaseReaches.{Share, share, shares, whole, wholes, leases_of, total_in, guards_in, AreReached, AreFull, IsKept}
use Rattle.lease_table.proofs.RowLaws.{distinct_filter, distinct_push, absent}
use Rattle.lease_table.proofs.TableLaws.{smaller}
use Rattle.lease_table.proofs.PairSetLaws.{reach_without, take_all}
use Rattle.lease_table.proofs.TallyLaws.{bytes_kept}
use Rattle.lease_table.proofs.HoldLaws.{some_either, holders_held}
use Rattle.lease_table.proofs.LeaseReachLaws.{kinds_of}
use Rattle.lease_table.proofs.LeaseReachesLaws.{total_reached, share_roots, any_touches, shares_push}

-- the table that this keeps
abbrev pub table_of : List Linked → List LeaseReach → List Holds → Table
table_of rows kept holds = record { blobs = rows; leases = leases_of kept; holds = holds }

-- ---- what is guarded

pub reached_told : (rows : List Linked) (kept : List LeaseReach) (d : HashAndSize) → AreReached rows (shares kept) → nat_lt 0 (total_in (shares kept) d) ≡ is_reached rows (roots (leases_of kept)) d
reached_told rows kept d h = total_reached rows (shares kept) d h ∙ ap (λ (rs : List Edge). is_reached rows rs d) (share_roots kept)

pub wanted_told : (rows : List Linked) (kept : List LeaseReach) (holds : List Holds) (d : HashAndSize) → AreReached rows (shares kept) → nat_lt 0 (guards_in (shares kept) holds d) ≡ is_wanted (table_of rows kept holds) d
wanted_told rows kept holds d h = some_either (total_in (shares kept) d) (holders holds d) ∙ (λ i. reached_told rows kept d h i || holders_held holds d i)

-- the bytes are those of the guarded rows
pub bytes_told : (rows : List Linked) (kept : List LeaseReach) (holds : List Holds) (counts : List (HashAndSize × ℕ)) (bytes : ℕ) → IsKept rows kept holds counts bytes → bytes ≡ guarded (table_of rows kept holds)
bytes_told rows kept holds counts bytes h =
    h.tallied.summed ∙ bytes_kept (guards_in (shares kept) holds) rows
    ∙ ap (λ (p : HashAndSize → Bool). sizes (filter (λ row. p row.digest) rows)) (λ i d. wanted_told rows kept holds d h.reached i)

-- ---- rows that aren't guarded

not_reached_by : (b c : Bool) → b ≡ true → (b && c) ≡ false → c ≡ false
not_reached_by true c e h = h
not_reached_by false c e h = absurd cc

has_row_told : (rows : List Linked) (row : Linked) → Contains rows row → list_any (is_blob row.digest) rows ≡ true
has_row_told rows row h = any_passes (is_blob row.digest) rows row h (same_itself row.digest)

-- nothing wants a row that isn't guarded
unwanted : (t : Table) (row : Linked) → Contains t.blobs row → is_guarded t row.digest ≡ false → is_wanted t row.digest ≡ false
unwanted t row there none = not_reached_by (has_row t row.digest) (is_wanted t row.digest) (has_row_told t.blobs row there) none

-- so it counts nothing
pub counts_nothing : (rows : List Linked) (kept : List LeaseReach) (holds : List Holds) (row : Linked) → AreReached rows (shares kept) → Contains rows row → is_guarded (table_of rows kept holds) row.digest ≡ false → nat_lt 0 (guards_in (shares kept) holds row.digest) ≡ false
counts_nothing rows kept holds row reached there none =
    wanted_told rows kept holds row.digest reached ∙ unwanted (table_of rows kept holds) row there none

bytes_by : (f : HashAndSize → ℕ) (row : Linked) (rows kept : List Linked) (b : Bool) → (b ≡ false → nat_lt 0 (f row.digest) ≡ false) → bytes_of f kept ≡ bytes_of f rows → bytes_of f (cond b (row ∷ kept) kept) ≡ bytes_of f (row ∷ rows)
bytes_by f row rows kept true none h = ap (λ (n : ℕ). cond (nat_lt 0 (f row.digest)) row.digest.size 0 + n) h
bytes_by f row rows kept false none h = h ∙ zero_plus (bytes_of f rows) ∙ ap (λ (b : Bool). cond b row.digest.size 0 + bytes_of f rows) (sym (none refl))
  where
    zero_plus : (n : ℕ) → n ≡ 0 + n
    zero_plus n = omega arith

bytes_without : (f : HashAndSize → ℕ) (keep : Linked → Bool) (rows : List Linked) → AllByRecursion (λ row. keep row ≡ false → nat_lt 0 (f row.digest) ≡ false) rows → bytes_of f (filter keep rows) ≡ bytes_of f rows
bytes_without f keep [] h = refl
bytes_without f keep (row ∷ rows) h = bytes_by f row rows (filter keep rows) (keep row) h.0 (bytes_without f keep rows h.1)

-- without rows that count nothing, each lease reaches the same
reached_without : (rows : List Linked) (keep : Linked → Bool) (ms : List Share) → AreReached rows ms → ((row : Linked) → Contains rows row → keep row ≡ false → nat_lt 0 (total_in ms row.digest) ≡ false) → AreReached (filter keep rows) ms
reached_without rows keep ms reached none =
    every_has (λ (m : Share). IsReach (filter keep rows) m.lease.root m.pairs) ms
    (λ m here. reach_without rows keep m.lease.root m.pairs
    (λ row there gone.
    let nothing = sym (any_touches ms row.digest) ∙ none row there gone in
    let out = false_from_ne_true (touches m.pairs row.digest) (λ t. let some = any_passes (λ (x : Share). touches x.pairs row.digest) ms m here t in cc) in
    (or_parts (has m.pairs (as_dir row.digest)) (has m.pairs (other_kind (as_dir row.digest))) (kinds_of m.pairs (as_dir row.digest) ∙ out)).0)
    (every_contains (λ (x : Share). IsReach rows x.lease.root x.pairs) ms m reached here))

any_left_by : (p : Linked → Bool) (row : Linked) (rows kept : List Linked) (b : Bool) → (b ≡ false → p row ≡ false) → list_any p kept ≡ list_any p rows → list_any p (cond b (row ∷ kept) kept) ≡ (p row || list_any p rows)
any_left_by p row rows kept true f e = ap (λ (c : Bool). p row || c) e
any_left_by p row rows kept false f e = e ∙ ap (λ (c : Bool). c || list_any p rows) (sym (f refl))

-- a test that no row passes that goes
any_left : (p keep : Linked → Bool) (rows : List Linked) → AllByRecursion (λ row. keep row ≡ false → p row ≡ false) rows → list_any p (filter keep rows) ≡ list_any p rows
any_left p keep [] h = refl
any_left p keep (row ∷ rows) h = any_left_by p row rows (filter keep rows) (keep row) h.0 (any_left p keep rows h.1)

-- the row of a digest that something wants stays
row_left : (t : Table) (keep : Linked → Bool) (d : HashAndSize) → ((row : Linked) → Contains t.blobs row → keep row ≡ false → is_guarded t row.digest ≡ false) → is_wanted t d ≡ true
    → list_any (is_blob d) (filter keep t.blobs) ≡ list_any (is_blob d) t.blobs
row_left t keep d loose wanted =
    any_left (is_blob d) keep t.blobs
    (every_has (λ row. keep row ≡ false → is_blob d row ≡ false) t.blobs
    (λ row there gone. false_from_ne_true (is_blob d row)
    (λ e. let no = unwanted t row there (loose row there gone) in let yes = ap (is_wanted t) (equal_from_same row.digest d e) ∙ wanted in cc)))

-- without rows that aren't guarded
pub kept_without : (rows : List Linked) (keep : Linked → Bool) (kept : List LeaseReach) (holds : List Holds) (counts : List (HashAndSize × ℕ)) (bytes : ℕ) → ((row : Linked) → Contains rows row → keep row ≡ false → is_guarded (table_of rows kept holds) row.digest ≡ false)
    → IsKept rows kept holds counts bytes → IsKept (filter keep rows) kept holds counts bytes
kept_without rows keep kept holds counts bytes loose h =
    let none = λ (row : Linked) (there : Contains rows row) (gone : keep row ≡ false). counts_nothing rows kept holds row h.reached there (loose row there gone) in
    record {
      distinct = distinct_filter keep rows h.distinct;
      small = let s = smaller keep rows in let m = h.small in omega (arith, s, m);
      full = h.full;
      reached = reached_without rows keep (shares kept) h.reached
          (λ row there gone. (or_parts (nat_lt 0 (total_in (shares kept) row.digest)) (nat_lt 0 (holders holds row.digest)) (sym (some_either (total_in (shares kept) row.digest) (holders holds row.digest)) ∙ none row there gone)).0);
      held = λ d e. row_left (table_of rows kept holds) keep d loose (or_right (is_reached rows (roots (leases_of kept)) d) (is_held holds d) e) ∙ h.held d e;
      tallied = record {
        counted = h.tallied.counted;
        summed = h.tallied.summed ∙ sym (bytes_without (guards_in (shares kept) holds) keep rows (every_has (λ row. keep row ≡ false → nat_lt 0 (guards_in (shares kept) holds row.digest) ≡ false) rows none));
      };
    }

-- what is guarded is what it was
pub guards_left : (rows : List Linked) (keep : Linked → Bool) (kept : List LeaseReach) (holds : List Holds) (counts : List (HashAndSize × ℕ)) (bytes : ℕ) → ((row : Linked) → Contains rows row → keep row ≡ false → is_guarded (table_of rows kept holds) row.digest ≡ false)
    → IsKept rows kept holds counts bytes → (d : HashAndSize) → is_guarded (table_of (filter keep rows) kept holds) d ≡ is_guarded (table_of rows kept holds) d
guards_left rows keep kept holds counts bytes loose h d =
    let after = kept_without rows keep kept holds counts bytes loose h in
    let wanted = sym (wanted_told (filter keep rows) kept holds d after.reached) ∙ wanted_told rows kept holds d h.reached in
    by (list_any (is_blob d) (filter keep rows)) (list_any (is_blob d) rows) (is_wanted (table_of (filter keep rows) kept holds) d) (is_wanted (table_of rows kept holds) d) wanted (row_left (table_of rows kept holds) keep d loose)
  where
    by : (a b c e : Bool) → c ≡ e → (e ≡ true → a ≡ b) → (a && c) ≡ (b && e)
    by a b true true p f = ap (λ (x : Bool). x && true) (f refl)
    by a b false true p f = absurd cc
    by a b true false p f = absurd cc
    by true true false false p f = refl
    by true false false false p f = refl
    by false true false false p f = refl
    by false false false false p f = refl

-- ---- a new row

pub without_push : (gone : List HashAndSize) (rows : List Linked) (new : Linked) → is_among gone new.digest ≡ false → without gone (rows ++ new ∷ []) ≡ without gone rows ++ new ∷ []
without_push gone [] new e = by (is_among gone new.digest) e
  where
    by : (b : Bool) → b ≡ false → cond (not b) (new ∷ []) [] ≡ new ∷ []
    by true e = absurd cc
    by false e = refl
without_push gone (row ∷ rows) new e = by (is_among gone row.digest) (without_push gone rows new e)
  where
    by : (b : Bool) → without gone (rows ++ new ∷ []) ≡ without gone rows ++ new ∷ [] → cond (not b) (row ∷ without gone (rows ++ new ∷ [])) (without gone (rows ++ new ∷ [])) ≡ cond (not b) (row ∷ without gone rows) (without gone rows) ++ new ∷ []
    by true h = h
    by false h = ap (λ (rest : List Linked). row ∷ rest) h

-- the rows of others are those before it
pub others_push : (rows : List Linked) (new : Linked) → list_any (is_blob new.digest) rows ≡ false → others new.digest (rows ++ new ∷ []) ≡ rows
others_push [] new e = by (same new.digest new.digest) (same_itself new.digest)
  where
    by : (b : Bool) → b ≡ true → cond (not b) (new ∷ []) [] ≡ []
    by true e = refl
    by false e = absurd cc
others_push (row ∷ rows) new e =
    let h = or_parts (is_blob new.digest row) (list_any (is_blob new.digest) rows) e in
    by (is_blob new.digest row) h.0 (others_push rows new h.1)
  where
    by : (b : Bool) → b ≡ false → others new.digest (rows ++ new ∷ []) ≡ rows → cond (not b) (row ∷ others new.digest (rows ++ new ∷ [])) (others new.digest (rows ++ new ∷ [])) ≡ row ∷ rows
    by true e h = absurd cc
    by false e h = ap (λ (rest : List Linked). row ∷ rest) h

any_kept : (test keep : Linked → Bool) (rows : List Linked) → list_any test rows ≡ false → list_any test (filter keep rows) ≡ false
any_kept test keep [] e = refl
any_kept test keep (row ∷ rows) e =
    let h = or_parts (test row) (list_any test rows) e in
    by (keep row) h.0 (any_kept test keep rows h.1)
  where
    by : (b : Bool) → test row ≡ false → list_any test (filter keep rows) ≡ false → list_any test (cond b (row ∷ filter keep rows) (filter keep rows)) ≡ false
    by true e h = (λ i. e i || list_any test (filter keep rows)) ∙ h
    by false e h = h

-- the new row is the last of those that are left
pub last_left : (gone : List HashAndSize) (rows : List Linked) (new : Linked) → is_among gone new.digest ≡ false → list_any (is_blob new.digest) rows ≡ false
    → others new.digest (without gone (rows ++ new ∷ [])) ≡ without gone rows
last_left gone rows new e f = ap (others new.digest) (without_push gone rows new e) ∙ others_push (without gone rows) new (any_kept (is_blob new.digest) (λ row. not (is_among gone row.digest)) rows f)

bytes_push : (f : HashAndSize → ℕ) (rows : List Linked) (new : Linked) → bytes_of f (rows ++ new ∷ []) ≡ bytes_of f rows + cond (nat_lt 0 (f new.digest)) new.digest.size 0
bytes_push f [] new = swap (cond (nat_lt 0 (f new.digest)) new.digest.size 0)
  where
    swap : (n : ℕ) → n + 0 ≡ 0 + n
    swap n = omega arith
bytes_push f (row ∷ rows) new = ap (λ (n : ℕ). cond (nat_lt 0 (f row.digest)) row.digest.size 0 + n) (bytes_push f rows new) ∙ assoc (cond (nat_lt 0 (f row.digest)) row.digest.size 0) (bytes_of f rows) (cond (nat_lt 0 (f new.digest)) new.digest.size 0)
  where
    assoc : (a b c : ℕ) → a + (b + c) ≡ (a + b) + c
    assoc a b c = omega arith

-- the numbers with the bytes of a new row
pub tallied_row : (rows : List Linked) (new : Linked) (f : HashAndSize → ℕ) (counts : List (HashAndSize × ℕ)) (bytes after : ℕ) → after ≡ bytes + cond (nat_lt 0 (count_in counts new.digest)) new.digest.size 0 → IsTallied rows f counts bytes → IsTallied (rows ++ new ∷ []) f counts after
tallied_row rows new f counts bytes after is h = record {
  counted = h.counted;
  summed = is ∙ (λ i. h.summed i + cond (nat_lt 0 (h.counted new.digest i)) new.digest.size 0) ∙ sym (bytes_push f rows new);
}

pub sizes_push : (rows : List Linked) (new : Linked) → sizes (rows ++ new ∷ []) ≡ sizes rows + new.digest.size
sizes_push rows new = sum_by_push (λ (row : Linked). row.digest.size) rows new

-- ---- leases

pub leases_same : (kept : List LeaseReach) (more : List LeaseReach) → shares kept ≡ shares more → leases_of kept ≡ leases_of more
leases_same kept more e = sym (of_shares kept) ∙ ap (map (λ (m : Share). m.lease)) e ∙ of_shares more
  where
    of_shares : (kept : List LeaseReach) → map (λ m. m.lease) (shares kept) ≡ leases_of kept
    of_shares [] = refl
    of_shares (reach ∷ kept) = ap (λ (hs : List TableLease). reach.lease ∷ hs) (of_shares kept)

pub leases_whole : (kept : List LeaseReach) (more : List LeaseReach) → shares kept ≡ wholes more → leases_of kept ≡ leases_of more
leases_whole kept more e = sym (of_shares kept) ∙ ap (map (λ (m : Share). m.lease)) e ∙ of_wholes more
  where
    of_shares : (kept : List LeaseReach) → map (λ m. m.lease) (shares kept) ≡ leases_of kept
    of_shares [] = refl
    of_shares (reach ∷ kept) = ap (λ (hs : List TableLease). reach.lease ∷ hs) (of_shares kept)

    of_wholes : (kept : List LeaseReach) → map (λ m. m.lease) (wholes kept) ≡ leases_of kept
    of_wholes [] = refl
    of_wholes (reach ∷ kept) = ap (λ (hs : List TableLease). reach.lease ∷ hs) (of_wholes kept)

pub leases_push : (kept : List LeaseReach) (reach : LeaseReach) → leases_of (kept ++ reach ∷ []) ≡ leases_of kept ++ reach.lease ∷ []
leases_push [] reach = refl
leases_push (x ∷ kept) reach = ap (λ (hs : List TableLease). x.lease ∷ hs) (leases_push kept reach)

pub leases_left : (id : ℕ) (kept : List LeaseReach) → leases_of (filter (λ reach. not (has_id id reach.lease)) kept) ≡ filter (λ lease. not (has_id id lease)) (leases_of kept)
leases_left id [] = refl
leases_left id (reach ∷ kept) = by (has_id id reach.lease) (leases_left id kept)
  where
    by : (b : Bool) → leases_of (filter (λ x. not (has_id id x.lease)) kept) ≡ filter (λ lease. not (has_id id lease)) (leases_of kept)
        → leases_of (cond (not b) (reach ∷ filter (λ x. not (has_id id x.lease)) kept) (filter (λ x. not (has_id id x.lease)) kept)) ≡ cond (not b) (reach.lease ∷ filter (λ lease. not (has_id id lease)) (leases_of kept)) (filter (λ lease. not (has_id id lease)) (leases_of kept))
    by true h = h
    by false h = ap (λ (hs : List TableLease). reach.lease ∷ hs) h

-- what is left is full and reached still
pub full_left : (p : LeaseReach → Bool) (kept : List LeaseReach) → AreFull kept → AreFull (filter p kept)
full_left p kept h = every_filter (λ (reach : LeaseReach). reach.len ≡ length reach.pairs) p kept h

pub reached_left : (rows : List Linked) (p : LeaseReach → Bool) (kept : List LeaseReach) → AreReached rows (shares kept) → AreReached rows (shares (filter p kept))
reached_left rows p [] h = tt
reached_left rows p (reach ∷ kept) h = by (p reach) (reached_left rows p kept h.1)
  where
    by : (b : Bool) → AreReached rows (shares (filter p kept)) → AreReached rows (shares (cond b (reach ∷ filter p kept) (filter p kept)))
    by true r = (h.0, r)
    by false r = r

pub not_by : (b : Bool) → not b ≡ false → b ≡ true
not_by true e = refl
not_by false e = absurd cc

pub table_is : (rows : List Linked) (leases more : List TableLease) (holds : List Holds) → leases ≡ more → ◌≡◌ {A = Table} (record { blobs = rows; leases = leases; holds = holds }) (record { blobs = rows; leases = more; holds = holds })
table_is rows leases more holds e = (λ i. record { blobs = rows; leases = e i; holds = holds })

whole_keys : (y : LeaseReach) → y.len ≡ length y.pairs → share y ≡ whole y
whole_keys y len = (λ i. record { lease = y.lease; pairs = (ap (λ (n : ℕ). take n y.pairs) len ∙ take_all y.pairs (length y.pairs) (omega arith)) i })

-- with a lease more
pub kept_leased : (rows : List Linked) (kept : List LeaseReach) (now : List LeaseReach) (holds : List Holds) (counts : List (HashAndSize × ℕ)) (bytes : ℕ) (y : LeaseReach) → Distinct rows → sizes rows ≤ 2 ^ 62 → AreFull kept → AreReached rows (shares kept)
    → IsReach rows y.lease.root y.pairs → y.len ≡ length y.pairs → now ≡ kept ++ y ∷ [] → ((d : HashAndSize) → is_held holds d ≡ true → list_any (is_blob d) rows ≡ true) → IsTallied rows (guards_in (shares now) holds) counts bytes → IsKept rows now holds counts bytes
kept_leased rows kept now holds counts bytes y distinct small full reached exact all is held tallied = record {
  distinct = distinct;
  small = small;
  full = subst AreFull (sym is) (every_push (λ (h : LeaseReach). h.len ≡ length h.pairs) kept y full all);
  reached = subst (λ (hs : List LeaseReach). AreReached rows (shares hs)) (sym is)
      (subst (AreReached rows) (sym (shares_push kept y))
      (every_push (λ (m : Share). IsReach rows m.lease.root m.pairs) (shares kept) (share y) reached
      (subst (λ (m : Share). IsReach rows m.lease.root m.pairs) (sym (whole_keys y all)) exact)));
  held = held;
  tallied = tallied;
}

-- a row that goes isn't guarded
pub gone_loose : (gone : List HashAndSize) (t : Table) → ((d : HashAndSize) → is_among gone d ≡ true → is_guarded t d ≡ false) → (row : Linked) → not (is_among gone row.digest) ≡ false → is_guarded t row.digest ≡ false
gone_loose gone t h row e = h row.digest (not_by (is_among gone row.digest) e)

-- with a row more, once all is counted
pub kept_put : (rows : List Linked) (now : List LeaseReach) (holds : List Holds) (counts : List (HashAndSize × ℕ)) (bytes : ℕ) (more : List LeaseReach) → Distinct rows → sizes rows ≤ 2 ^ 62 → AreFull now → AreReached rows (wholes more) → shares now ≡ wholes more → ((d : HashAndSize) → is_held holds d ≡ true → list_any (is_blob d) rows ≡ true) → IsTallied rows (guards_in (shares now) holds) counts bytes → IsKept rows now holds counts bytes
kept_put rows now holds counts bytes more distinct small full reached is held tallied = record {
  distinct = distinct;
  small = small;
  full = full;
  reached = subst (AreReached rows) (sym is) reached;
  held = held;
  tallied = tallied;
}

pub moved : (rows : List Linked) (f g : HashAndSize → ℕ) (counts now : List (HashAndSize × ℕ)) (bytes after : ℕ) → f ≡ g → counts ≡ now → bytes ≡ after → IsTallied rows f counts bytes → IsTallied rows g now after
moved rows f g counts now bytes after p q r h = subst (λ (n : ℕ). IsTallied rows g now n) r (subst (λ (cs : List (HashAndSize × ℕ)). IsTallied rows g cs bytes) q (subst (λ (k : HashAndSize → ℕ). IsTallied rows k counts bytes) p h))

pub all_same : (rows more : List Linked) (leases others : List TableLease) (holds kept : List Holds) → rows ≡ more → leases ≡ others → holds ≡ kept → ◌≡◌ {A = Table} (record { blobs = rows; leases = leases; holds = holds }) (record { blobs = more; leases = others; holds = kept })
all_same rows more leases others holds kept p q r = (λ i. record { blobs = p i; leases = q i; holds = r i })

pub distinct_new : (rows : List Linked) (new : Linked) → Distinct rows → list_any (is_blob new.digest) rows ≡ false → Distinct (rows ++ new ∷ [])
distinct_new rows new h none = distinct_push rows new h (absent new.digest rows none)

pub none_left_out : (gone : List HashAndSize) (rows : List Linked) (d : HashAndSize) → list_any (is_blob d) rows ≡ false → list_any (is_blob d) (without gone rows) ≡ false
none_left_out gone rows d e = any_kept (is_blob d) (λ row. not (is_among gone row.digest)) rows e
