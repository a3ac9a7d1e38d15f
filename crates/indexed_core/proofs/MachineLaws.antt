-- A state by its rows and what guards them, and rows that go one after the other.
use Rattle.std.proofs.Common.{◌≡◌, ℕ, zero, suc, ◌+◌, ◌-◌, ◌<◌, ◌≤◌, Bool, true, false, cond, not, List, [], ◌∷◌, ◌++◌, length, take, drop, add-one, Option, Some, inl, inr, refl, sym, ap, subst, ◌∙◌, arith}
use Rattle.std.specs.Prelude.{filter, slice_get, ◌||◌, ◌&&◌}
use Rattle.std.specs.List.{AllByRecursion}
use Rattle.std.proofs.Math.Seq.{take-suc, drop-cons}
use Rattle.std.proofs.lemmas.Option.{slice_get_within, slice_get-get_or, get_or_from_slice_get}
use Rattle.std.proofs.lemmas.Bool.{cases_Bool, cond-true, cond-false, not_from_true, not_from_false, not-false, or_parts}
use Rattle.std.proofs.lemmas.List.{map-append, length-take-le}
use Rattle.std.proofs.lemmas.List.Folds.{list_any-append}
use Rattle.digest_types.specs.Name.{HashAndSize}
use Rattle.digest_types.specs.Digest.{digest_of}
use Rattle.directory_canon.specs.declared.node.Edge.{Edge}
use Rattle.store_core.specs.declared.event.Reply.{Reply}
use Rattle.store_core.specs.declared.event.Reply.TheVariants as replies
use Rattle.store_core.specs.declared.state.Row.{Row}
use Rattle.store_core.specs.declared.state.Lease.{Lease}
use Rattle.store_core.specs.State.{State, Holds, Distinct, is_held, same, is_among, is_of, others, digests, sizes, used, has_id as is_lease, roots as lease_roots}
use Rattle.store_core.specs.Reach.{Linked, blobs, as_file, as_dir, reaches, is_reached}
use Rattle.store_core.specs.Pass.{is_guarded, guarded, unguarded, frees, victims, without, pass}
use Rattle.store_core.specs.Step.{passed, usage}
use Rattle.store_core.proofs.Elements.{every_has, filter_all, filter_of_map, filter_same_on}
use Rattle.store_core.proofs.Least.{least_bound}
use Rattle.store_core.proofs.Passes.{without_more, firsts_of, blobs_without, victims_fail, other_digests}
use Rattle.store_core.proofs.ReachLaws.{removal}
use Rattle.store_core.proofs.RowLaws.{Differs}
use Rattle.store_core.proofs.Same.{same_from_equal}
use Rattle.store_core.proofs.FirstMentions.{filter_both}
use Rattle.lease_table.specs.declared.table_lease.TableLease.{TableLease}
use Rattle.lease_table.specs.Table.{has_id, roots, from_on}
use Rattle.indexed_core.specs.Parts.{Parts, Guards, is_wanted, guarded_bytes, free, table_lease, table_leases, guards_of, HasPassed}
use Rattle.indexed_core.specs.Removal.{removed, IsPassed}

-- ---- filters

filter_same : {X : Type 0} (p q : X → Bool) (xs : List X) → ((x : X) → p x ≡ q x) → filter p xs ≡ filter q xs
filter_same p q xs h = filter_same_on p q xs (every_has (λ x. p x ≡ q x) xs (λ x has. h x))

-- ---- the guards of an index are those of the state

pub roots_are : (leases : List Lease) → roots (table_leases leases) ≡ lease_roots leases
roots_are [] = refl
roots_are (lease ∷ leases) = ap (λ (es : List Edge). lease.root ∷ es) (roots_are leases)

-- the parts of a state
abbrev parts_of : State → Parts
parts_of s = record { rows = s.rows; guards = guards_of s }

pub guards_are : (s : State) (guards : Guards) → guards.leases ≡ table_leases s.leases → guards.holds ≡ s.holds → guards ≡ guards_of s
guards_are s guards leases holds =
    ap (λ (ls : List TableLease). record { leases = ls; holds = guards.holds }) leases ∙ ap (λ (hs : List Holds). record { leases = table_leases s.leases; holds = hs }) holds

parts_are : (s : State) (p : Parts) → p.rows ≡ s.rows → p.guards ≡ guards_of s → p ≡ parts_of s
parts_are s p rows guards =
    ap (λ (rs : List Row). record { rows = rs; guards = p.guards }) rows ∙ ap (λ (g : Guards). record { rows = s.rows; guards = g }) guards

wanted_of : (s : State) (d : HashAndSize) → is_wanted (parts_of s) d ≡ is_guarded s d
wanted_of s d = ap (λ (starts : List Edge). is_reached (blobs s.rows) starts d || is_held s.holds d) (roots_are s.leases)

pub bytes_guarded : (s : State) (p : Parts) → p.rows ≡ s.rows → p.guards ≡ guards_of s → guarded_bytes p ≡ guarded s
bytes_guarded s p rows guards =
    ap guarded_bytes (parts_are s p rows guards) ∙ ap (λ (test : HashAndSize → Bool). sizes (filter (λ row. test row.digest) s.rows)) (λ i d. wanted_of s d i)

-- a digest is wanted where it is guarded
pub wanted_is : (s : State) (p : Parts) (d : HashAndSize) → p.rows ≡ s.rows → p.guards ≡ guards_of s → is_wanted p d ≡ is_guarded s d
wanted_is s p d rows guards = ap (λ (q : Parts). is_wanted q d) (parts_are s p rows guards) ∙ wanted_of s d

pub free_are : (s : State) (p : Parts) → p.rows ≡ s.rows → p.guards ≡ guards_of s → free p ≡ unguarded s
free_are s p rows guards =
    ap free (parts_are s p rows guards) ∙ ap (λ (test : HashAndSize → Bool). filter (λ d. not (test d)) (digests s.rows)) (λ i d. wanted_of s d i)

-- a pass goes on at the same place in a state and in its index
abbrev PassedBy : List HashAndSize → Option HashAndSize → (HashAndSize → Bool) → Type 0
PassedBy ds from test = filter (λ d. not (test d)) (from_on from ds) ≡ filter (λ d. not (test d)) ds

pub passed_state : (s : State) (p : Parts) (from : Option HashAndSize) → p.rows ≡ s.rows → p.guards ≡ guards_of s → HasPassed p from → IsPassed s from
passed_state s p from rows guards passed =
    subst (PassedBy (digests s.rows) from) (λ i d. wanted_of s d i) (subst (λ (q : Parts). HasPassed q from) (parts_are s p rows guards) passed)

pub passed_index : (s : State) (p : Parts) (from : Option HashAndSize) → p.rows ≡ s.rows → p.guards ≡ guards_of s → IsPassed s from → HasPassed p from
passed_index s p from rows guards passed =
    subst (λ (q : Parts). HasPassed q from) (sym (parts_are s p rows guards)) (subst (PassedBy (digests s.rows) from) (λ i d. sym (wanted_of s d) i) passed)

pub leases_more : (leases : List Lease) (held : List TableLease) (lease : Lease) → held ≡ table_leases leases → held ++ table_lease lease ∷ [] ≡ table_leases (leases ++ lease ∷ [])
leases_more leases held lease e = ap (λ (ls : List TableLease). ls ++ table_lease lease ∷ []) e ∙ sym (map-append table_lease leases (lease ∷ []))

pub leases_less : (id : ℕ) (leases : List Lease) (held : List TableLease) → held ≡ table_leases leases → filter (λ lease. not (has_id id lease)) held ≡ table_leases (filter (λ other. not (is_lease id other)) leases)
leases_less id leases held e = ap (filter (λ lease. not (has_id id lease))) e ∙ filter_of_map table_lease (λ lease. not (has_id id lease)) leases

-- ---- the first k of some digests

-- a first row whose digest isn't among them stays, and one whose digest is goes
first_stays : (ds : List HashAndSize) (row : Row) (rows : List Row) → is_among ds row.digest ≡ false → without ds (row ∷ rows) ≡ row ∷ without ds rows
first_stays ds row rows e = cond-true (not (is_among ds row.digest)) (row ∷ without ds rows) (without ds rows) (not_from_false (is_among ds row.digest) e)

first_goes : (ds : List HashAndSize) (row : Row) (rows : List Row) → AllByRecursion (Differs row) rows → without (row.digest ∷ ds) (row ∷ rows) ≡ without ds rows
first_goes ds row rows h =
    let here : is_among (row.digest ∷ ds) row.digest ≡ true = ap (λ b. b || is_among ds row.digest) (same_from_equal row.digest row.digest refl) in
    cond-false (not (is_among (row.digest ∷ ds) row.digest)) (row ∷ without (row.digest ∷ ds) rows) (without (row.digest ∷ ds) rows) (not_from_true (is_among (row.digest ∷ ds) row.digest) here)
    ∙ without_more row.digest ds rows h

pub without_none : (rows : List Row) → without [] rows ≡ rows
without_none rows = filter_all (λ row. not (is_among [] row.digest)) rows (every_has (λ row. not (is_among [] row.digest) ≡ true) rows (λ row has. refl))

-- the rows that stay, and the digests, are as many as the rows
abbrev Counts : List HashAndSize → List Row → Type 0
Counts ds rows = length (without ds rows) + length ds ≡ length rows

counts_by : (p : HashAndSize → Bool) (k : ℕ) (row : Row) (rows : List Row) (b : Bool) → AllByRecursion (Differs row) rows → ((j : ℕ) → Counts (firsts_of p j rows) rows)
    → Counts (take k (cond b (row.digest ∷ filter p (digests rows)) (filter p (digests rows)))) (row ∷ rows)
counts_by p k row rows false h each =
    let stays = ap length (first_stays (firsts_of p k rows) row rows (other_digests p k row rows h)) in
    omega (arith, stays, each k)
counts_by p zero row rows true h each = omega (arith, ap length (without_none (row ∷ rows)))
counts_by p (suc k) row rows true h each =
    let goes = ap length (first_goes (firsts_of p k rows) row rows h) in
    omega (arith, goes, each k)

pub counts : (p : HashAndSize → Bool) (k : ℕ) (rows : List Row) → Distinct rows → length (without (firsts_of p k rows) rows) + length (firsts_of p k rows) ≡ length rows
counts p zero [] v = refl
counts p (suc k) [] v = refl
counts p k (row ∷ rows) v = counts_by p k row rows (p row.digest) v.0 (λ j. counts p j rows v.1)

-- those that pass a test without the first k are the rest of them
abbrev Leaves : (HashAndSize → Bool) → ℕ → List HashAndSize → List Row → List HashAndSize → Type 0
Leaves p k ds rows all = filter p (digests (without ds rows)) ≡ drop k all

leaves_by : (p : HashAndSize → Bool) (k : ℕ) (row : Row) (rows : List Row) (b : Bool) → p row.digest ≡ b → AllByRecursion (Differs row) rows → ((j : ℕ) → Leaves p j (firsts_of p j rows) rows (filter p (digests rows)))
    → Leaves p k (take k (cond b (row.digest ∷ filter p (digests rows)) (filter p (digests rows)))) (row ∷ rows) (cond b (row.digest ∷ filter p (digests rows)) (filter p (digests rows)))
leaves_by p k row rows false e h each =
    ap (λ (rs : List Row). filter p (digests rs)) (first_stays (firsts_of p k rows) row rows (other_digests p k row rows h))
    ∙ cond-false (p row.digest) (row.digest ∷ filter p (digests (without (firsts_of p k rows) rows))) (filter p (digests (without (firsts_of p k rows) rows))) e
    ∙ each k
leaves_by p zero row rows true e h each =
    ap (λ (rs : List Row). filter p (digests rs)) (without_none (row ∷ rows))
    ∙ cond-true (p row.digest) (row.digest ∷ filter p (digests rows)) (filter p (digests rows)) e
leaves_by p (suc k) row rows true e h each =
    ap (λ (rs : List Row). filter p (digests rs)) (first_goes (firsts_of p k rows) row rows h) ∙ each k

pub leaves : (p : HashAndSize → Bool) (k : ℕ) (rows : List Row) → Distinct rows → filter p (digests (without (firsts_of p k rows) rows)) ≡ drop k (filter p (digests rows))
leaves p zero [] v = refl
leaves p (suc k) [] v = refl
leaves p k (row ∷ rows) v = leaves_by p k row rows (p row.digest) refl v.0 (λ j. leaves p j rows v.1)

-- ---- rows that go one after the other

-- what goes isn't guarded
pub among_free : (s : State) (count : ℕ) (d : HashAndSize) → not (is_among (take count (unguarded s)) d) ≡ false → is_guarded s d ≡ false
among_free s count d e =
    elim (cases_Bool (is_guarded s d)) [
      | inl is ↦
          let stays : is_among (take count (unguarded s)) d ≡ false = victims_fail (is_guarded s) count s.rows d is in
          let goes : is_among (take count (unguarded s)) d ≡ true = not-false (is_among (take count (unguarded s)) d) e in
          absurd cc
      | inr free ↦ free
    ]

removed_reaches : (s : State) (count : ℕ) (pair : Edge) → reaches (blobs (removed s count).rows) (lease_roots s.leases) pair ≡ reaches (blobs s.rows) (lease_roots s.leases) pair
removed_reaches s count pair =
    let there = blobs s.rows in
    let starts = lease_roots s.leases in
    let ds = take count (unguarded s) in
    ap (λ (left : List Linked). reaches left starts pair) (sym (blobs_without ds s.rows))
    ∙ removal there starts (λ blob. not (is_among ds blob.digest))
    (λ blob has e.
    let free = (or_parts (is_reached there starts blob.digest) (is_held s.holds blob.digest) (among_free s count blob.digest e)).0 in
    (or_parts (reaches there starts (as_file blob.digest)) (reaches there starts (as_dir blob.digest)) free).1)
    pair

-- they change nothing of what is guarded
pub removed_guards : (s : State) (count : ℕ) (d : HashAndSize) → is_guarded (removed s count) d ≡ is_guarded s d
removed_guards s count d =
    let left = blobs (removed s count).rows in
    let starts = lease_roots s.leases in
    ap (λ b. (b || reaches left starts (as_dir d)) || is_held s.holds d) (removed_reaches s count (as_file d))
    ∙ ap (λ b. (reaches (blobs s.rows) starts (as_file d) || b) || is_held s.holds d) (removed_reaches s count (as_dir d))

-- the unguarded digests that stay are the rest of them
pub unguarded_rest : (s : State) (count : ℕ) → Distinct s.rows → unguarded (removed s count) ≡ drop count (unguarded s)
unguarded_rest s count v =
    filter_same (λ d. not (is_guarded (removed s count) d)) (λ d. not (is_guarded s d)) (digests (removed s count).rows) (λ d. ap not (removed_guards s count d))
    ∙ leaves (λ d. not (is_guarded s d)) count s.rows v

-- the first of the rest is the next one
first_rest : {X : Type 0} (xs : List X) (k : ℕ) (x : X) → k < length xs → slice_get (drop k xs) 0 ≡ slice_get xs k
first_rest xs k x lt = ap (λ ys. slice_get ys 0) (drop-cons xs k x lt) ∙ sym (slice_get-get_or xs k x lt)

-- the next one, of a state from which the first ones went
pub next_first : (s t : State) (count : ℕ) → Distinct s.rows → t ≡ removed s count → count < length (unguarded s) → slice_get (unguarded t) 0 ≡ slice_get (unguarded s) count
next_first s t count v e lt =
    ap (λ (u : State). slice_get (unguarded u) 0) e
    ∙ ap (λ (ds : List HashAndSize). slice_get ds 0) (unguarded_rest s count v)
    ∙ first_rest (unguarded s) count (digest_of []) lt

one_more : (a b : Bool) → (not b && not a) ≡ not (a || (b || false))
one_more true true = refl
one_more true false = refl
one_more false true = refl
one_more false false = refl

-- what is left when one more goes
others_without : (ds : List HashAndSize) (d : HashAndSize) (rows : List Row) → others d (without ds rows) ≡ without (ds ++ d ∷ []) rows
others_without ds d rows =
    filter_both (λ row. not (is_of d row)) (λ row. not (is_among ds row.digest)) rows
    ∙ filter_same (λ row. not (is_of d row) && not (is_among ds row.digest)) (λ row. not (is_among (ds ++ d ∷ []) row.digest)) rows
    (λ row. one_more (is_among ds row.digest) (same row.digest d) ∙ ap not (sym (list_any-append (same row.digest) ds (d ∷ []))))

taken_next : {X : Type 0} (xs : List X) (k : ℕ) (x : X) → slice_get xs k ≡ Some x → take k xs ++ x ∷ [] ≡ take (k + 1) xs
taken_next xs k x is =
    let lt = slice_get_within xs k x is in
    ap (λ y. take k xs ++ y ∷ []) (sym (get_or_from_slice_get xs k x x is)) ∙ sym (take-suc xs k x lt) ∙ ap (λ n. take n xs) (sym (add-one k))

-- the state after the next one went
pub next_removed : (s t : State) (count : ℕ) (d : HashAndSize) → t ≡ removed s count → slice_get (unguarded s) count ≡ Some d → record t { rows = others d t.rows } ≡ removed s (count + 1)
next_removed s t count d e is =
    ap (λ (u : State). record u { rows = others d u.rows }) e
    ∙ ap (λ (rows : List Row). record s { rows = rows })
    (others_without (take count (unguarded s)) d s.rows ∙ ap (λ (ds : List HashAndSize). without ds s.rows) (taken_next (unguarded s) count d is))

-- ---- how many rows a pass removes

pub victims_within : (s : State) (target : ℕ) → victims (unguarded s) (used s) target ≤ length (unguarded s)
unfolding victims
victims_within s target = least_bound (frees (unguarded s) (used s) target) (length (unguarded s))

gone_many : (s : State) (count : ℕ) → Distinct s.rows → count ≤ length (unguarded s) → length s.rows - length (removed s count).rows ≡ count
gone_many s count v le =
    let all = counts (λ d. not (is_guarded s d)) count s.rows v in
    let many = length-take-le count (unguarded s) le in
    omega (arith, all, many)

abbrev the_pass : ℕ → ℕ → State → Reply × State
the_pass count bytes t = (replies.Passed count bytes, t)

pub passed_is : (s : State) (count : ℕ) → Distinct s.rows → count ≡ victims (unguarded s) (used s) s.low
    → passed s ≡ (replies.Passed count (used (removed s count)), removed s count)
passed_is s count v e =
    let n = victims (unguarded s) (used s) s.low in
    let many : length s.rows - length (pass s s.low).rows ≡ n = gone_many s n v (victims_within s s.low) in
    ap (λ (k : ℕ). the_pass k (used (removed s n)) (removed s n)) many
    ∙ ap (λ (k : ℕ). the_pass k (used (removed s k)) (removed s k)) (sym e)

pub usage_is : (s now : State) (p : Parts) (bytes guarded_size count low high : ℕ) → s ≡ now → p.rows ≡ s.rows → p.guards ≡ guards_of s → bytes ≡ sizes p.rows → guarded_size ≡ guarded_bytes p → count ≡ length p.rows → low ≡ s.low → high ≡ s.high
    → usage now ≡ (replies.Used (record { used = bytes; guarded = guarded_size; rows = count; low = low; high = high }), now)
usage_is s now p bytes guarded_size count low high e rows guards is_bytes is_size is_count is_low is_high =
    let a : used s ≡ bytes = sym (is_bytes ∙ ap sizes rows) in
    let b : guarded s ≡ guarded_size = sym (is_size ∙ bytes_guarded s p rows guards) in
    let c : length s.rows ≡ count = sym (is_count ∙ ap length rows) in
    let at : usage s ≡ (replies.Used (record { used = bytes; guarded = guarded_size; rows = count; low = low; high = high }), s) = cc in
    subst (λ (t : State). usage t ≡ (replies.Used (record { used = bytes; guarded = guarded_size; rows = count; low = low; high = high }), t)) e at
