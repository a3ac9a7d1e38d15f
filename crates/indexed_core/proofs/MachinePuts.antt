-- A put, and the rows that it takes and adds.
use Rattle.std.proofs.Common.{◌≡◌, ◌≢◌, ℕ, zero, suc, ◌+◌, ◌-◌, ◌≤◌, Bool, true, false, cond, not, min, List, [], ◌∷◌, ◌++◌, length, length-append, take, Option, Some, None, inl, inr, refl, sym, ap, subst, ◌∙◌, arith}
use Rattle.std.specs.Prelude.{nat_lt, ◌||◌, ◌&&◌}
use Rattle.std.specs.List.{AllByRecursion}
use Rattle.std.proofs.lemmas.Bool.{cases_Bool, cond_both, cond-true, ltb-false}
use Rattle.std.proofs.lemmas.Map.Views.{any-filter_same}
use Rattle.std.proofs.lemmas.List.Elements.{All-from_recursion}
use Rattle.std.proofs.lemmas.List.Folds.{list_any-append, list_any_none}
use Rattle.digest_types.specs.Name.{HashAndSize}
use Rattle.directory_canon.specs.declared.node.Edge.{Edge}
use Rattle.store_core.specs.declared.event.Reply.{Reply}
use Rattle.store_core.specs.declared.event.Reply.TheVariants as replies
use Rattle.store_core.specs.declared.state.Row.{Row}
use Rattle.store_core.specs.State.{State, IsKept, Distinct, is_empty, same, is_among, is_of, row_of, has_row, others, digests, sizes, used}
use Rattle.store_core.specs.Pass.{is_guarded, guarded, unguarded, victims, gone, without}
use Rattle.store_core.specs.Step.{is_open, put_over, put, holding, served, step}
use Rattle.store_core.specs.declared.event.Event.TheVariants as events
use Rattle.store_core.proofs.Changes.{Adds, added_keeps, added_is, new_row, room_of, put_new_is, without_last}
use Rattle.store_core.proofs.Elements.{every_filter, every_has, every_map, every_take, none_pass, find_none, find_missed, has_from_map}
use Rattle.store_core.proofs.Passes.{not_among, pass_down}
use Rattle.store_core.proofs.ReachLaws.{any_passes}
use Rattle.store_core.proofs.RowLaws.{Differs, absent, found_row}
use Rattle.store_core.proofs.Same.{equal_from_same, same_from_equal, not_same_from_other, other_from_not_same}
use Rattle.store_core.proofs.Uses.{holding_rows}
use Rattle.lease_table.specs.Table.{DistinctDigests}
use Rattle.lease_table.proofs.OrderLaws.{distinct_kept}
use Rattle.indexed_core.specs.Removal.{AreRows, PutsRow}
use Rattle.indexed_core.proofs.AddedRows.{without_none}
use Rattle.indexed_core.proofs.MachineLaws.{counts}

-- ---- whether a digest has a row

pub no_row : (d : HashAndSize) (rows : List Row) → has_row rows d ≡ false → row_of d rows ≡ None
no_row d rows e = find_none (is_of d) rows (none_pass (is_of d) rows e)

pub has_none : (d : HashAndSize) (rows : List Row) → row_of d rows ≡ None → has_row rows d ≡ false
has_none d rows e = list_any_none (is_of d) rows (All-from_recursion (λ row. is_of d row ≡ false) rows (find_missed (is_of d) rows e))

-- ---- the digests that go

take_distinct : (k : ℕ) (ds : List HashAndSize) → DistinctDigests ds → DistinctDigests (take k ds)
take_distinct zero ds v = tt
take_distinct (suc k) [] v = tt
take_distinct (suc k) (d ∷ ds) v = (every_take (λ other. other ≢ d) k ds v.0, take_distinct k ds v.1)

digests_distinct : (rows : List Row) → Distinct rows → DistinctDigests (digests rows)
digests_distinct [] v = tt
digests_distinct (row ∷ rows) v = (every_map (Differs row) (λ d. d ≢ row.digest) (λ (r : Row). r.digest) (λ r n. n) rows v.0, digests_distinct rows v.1)

pub have_rows : (rows : List Row) → AllByRecursion (λ d. has_row rows d ≡ true) (digests rows)
have_rows rows =
    every_has (λ d. has_row rows d ≡ true) (digests rows)
    (λ d has. let r = has_from_map (λ (row : Row). row.digest) rows d has in any_passes (is_of d) rows r.0 r.1 (same_from_equal r.0.digest d r.2))

-- the first k unguarded digests are distinct digests of rows
firsts_are_rows : (s : State) (k : ℕ) → Distinct s.rows → AreRows s.rows (take k (unguarded s))
firsts_are_rows s k v = record {
  distinct = take_distinct k (unguarded s) (distinct_kept (λ d. not (is_guarded s d)) (digests s.rows) (digests_distinct s.rows v));
  there = every_take (λ d. has_row s.rows d ≡ true) k (unguarded s) (every_filter (λ d. has_row s.rows d ≡ true) (λ d. not (is_guarded s d)) (digests s.rows) (have_rows s.rows));
}

firsts_other : (s : State) (k : ℕ) (d : HashAndSize) → row_of d s.rows ≡ None → is_among (take k (unguarded s)) d ≡ false
firsts_other s k d none =
    not_among (take k (unguarded s)) d
    (every_take (λ x. x ≢ d) k (unguarded s)
    (every_filter (λ x. x ≢ d) (λ x. not (is_guarded s x)) (digests s.rows)
    (every_map (λ (row : Row). row.digest ≢ d) (λ x. x ≢ d) (λ (row : Row). row.digest) (λ row n. n) s.rows (absent d s.rows none))))

-- what goes for so many bytes are the first ones
pub record AreFirst (s : State) (ds : List HashAndSize) : Type 0 where
  pub count : ℕ
  pub are : ds ≡ take count (unguarded s)

first_by : (s : State) (target : ℕ) (b : Bool) → AreFirst s (cond b (gone s target) [])
first_by s target true = record { count = victims (unguarded s) (used s) target; are = refl }
first_by s target false = record { count = 0; are = refl }

room_is_first : (s : State) (size : ℕ) → AreFirst s (room_of s size)
room_is_first s size = first_by s (min s.low (s.high - size)) (nat_lt s.high (used s + size))

pub room_first : (s : State) (size : ℕ) (ds : List HashAndSize) → ds ≡ room_of s size → AreFirst s ds
room_first s size ds e = let f = room_is_first s size in record { count = f.count; are = e ∙ f.are }

pub first_other : (s : State) (ds : List HashAndSize) (d : HashAndSize) → AreFirst s ds → row_of d s.rows ≡ None → is_among ds d ≡ false
first_other s ds d f none = ap (λ (es : List HashAndSize). is_among es d) f.are ∙ firsts_other s f.count d none

first_rows : (s : State) (ds : List HashAndSize) → AreFirst s ds → Distinct s.rows → AreRows s.rows ds
first_rows s ds f v = subst (λ (es : List HashAndSize). AreRows s.rows es) (sym f.are) (firsts_are_rows s f.count v)

first_counts : (s : State) (ds : List HashAndSize) → AreFirst s ds → Distinct s.rows → length (without ds s.rows) + length ds ≡ length s.rows
first_counts s ds f v =
    subst (λ (es : List HashAndSize). length (without es s.rows) + length es ≡ length s.rows) (sym f.are) (counts (λ d. not (is_guarded s d)) f.count s.rows v)

-- ---- a blob with no row

-- a blob with no row whose bytes fit beside the guarded ones, and the digests that go for it
pub record Fits (s : State) (d : HashAndSize) (ds : List HashAndSize) : Type 0 where
  pub kept : IsKept s
  pub none : row_of d s.rows ≡ None
  pub filled : is_empty d ≡ false
  pub small : guarded s + d.size ≤ s.high
  pub goes : ds ≡ room_of s d.size

module _ (s : State) (d : HashAndSize) (edges : Option (List Edge)) (ds : List HashAndSize) (f : Fits s d ds) where
  abbrev pushed : List Row
  pushed = s.rows ++ new_row d edges ∷ []

  abbrev left : List Row
  left = without ds s.rows ++ new_row d edges ∷ []

  first : AreFirst s ds
  first = room_first s d.size ds f.goes

  pub fits_other : is_among ds d ≡ false
  fits_other = first_other s ds d first f.none

  adds : Adds s d edges ds pushed left
  adds = record {
    none = f.none;
    filled = f.filled;
    small = f.small;
    goes = f.goes;
    last = refl;
    left = sym (without_last ds s.rows (new_row d edges) fits_other);
  }

  pub fits_keeps : IsKept (record s { rows = left })
  fits_keeps = added_keeps s d edges ds pushed left adds f.kept

  pub fits_small : sizes (without ds s.rows) + d.size ≤ s.high
  fits_small =
      let target = min s.low (s.high - d.size) in
      let room : sizes (without (gone s target) s.rows) + d.size ≤ s.high = let small = f.small in elim (pass_down s target f.kept.valid.distinct) [ inl down ↦ omega (arith, small, down) | inr just ↦ omega (arith, small, just) ] in
      subst (λ (es : List HashAndSize). sizes (without es s.rows) + d.size ≤ s.high) (sym f.goes)
      (cond_both (nat_lt s.high (used s + d.size)) (gone s target) [] (λ es. sizes (without es s.rows) + d.size ≤ s.high)
      (λ _. room)
      (λ fits. let all = ap sizes (without_none s.rows) in omega (arith, all, ltb-false _ _ fits)))

  pub fits_is : (now : State) (removed bytes : ℕ) → s ≡ now → removed ≡ length ds → bytes ≡ sizes left → (replies.Stored removed bytes, record s { rows = left }) ≡ put_over now d edges None
  fits_is now removed bytes e count sum =
      let all = first_counts s ds first f.kept.valid.distinct in
      let counted : removed ≡ length pushed - length left =
      omega (arith, all, count, length-append s.rows (new_row d edges ∷ []), length-append (without ds s.rows) (new_row d edges ∷ [])) in
      added_is s d edges ds pushed left adds now removed bytes e counted sum

  here_by : (n h m : Bool) → ((n && h) || (m || false)) ≡ (m || (h && n))
  here_by true true true = refl
  here_by true true false = refl
  here_by true false true = refl
  here_by true false false = refl
  here_by false true true = refl
  here_by false true false = refl
  here_by false false true = refl
  here_by false false false = refl

  here : (e : HashAndSize) → has_row left e ≡ (same d e || (has_row s.rows e && not (is_among ds e)))
  here e =
      list_any-append (is_of e) (without ds s.rows) (new_row d edges ∷ [])
      ∙ ap (λ b. b || (same d e || false))
      (any-filter_same (is_of e) (λ row. not (is_among ds row.digest)) (not (is_among ds e)) (λ row is. ap (λ (x : HashAndSize). not (is_among ds x)) (equal_from_same row.digest e is)) s.rows)
      ∙ here_by (not (is_among ds e)) (has_row s.rows e) (same d e)

  pub fits_puts : (removed bytes : ℕ) → removed ≡ length ds → PutsRow d (replies.Stored removed bytes) ds s.rows left
  fits_puts removed bytes count = record {
    rows = first_rows s ds first f.kept.valid.distinct;
    count = sym count;
    there = here;
  }

-- ---- a put that adds no row

stays : (b : Bool) → b ≡ (b && true)
stays true = refl
stays false = refl

either_by : (a b : Bool) → b ≡ true → (a || (b || false)) ≡ true
either_by true b e = refl
either_by false true e = refl
either_by false false e = absurd cc

neither_by : (a h b : Bool) → a ≡ false → b ≡ false → ((not a && h) || (b || false)) ≡ h
neither_by a h true e f = absurd cc
neither_by true h false e f = absurd cc
neither_by false true false e f = refl
neither_by false false false e f = refl

-- the row of a digest is put again
again_here : (d e : HashAndSize) (rows : List Row) (row : Row) → row_of d rows ≡ Some row → has_row (others d rows ++ record row { sound = true } ∷ []) e ≡ has_row rows e
again_here d e rows row is =
    let f = found_row d rows row is in
    let sound : Row = record row { sound = true } in
    let split : has_row (others d rows ++ sound ∷ []) e ≡ ((not (same e d) && has_row rows e) || (same row.digest e || false)) =
    list_any-append (is_of e) (others d rows) (sound ∷ [])
    ∙ ap (λ b. b || (same row.digest e || false))
    (any-filter_same (is_of e) (λ (r : Row). not (is_of d r)) (not (same e d)) (λ (r : Row) at. ap (λ (x : HashAndSize). not (same x d)) (equal_from_same r.digest e at)) rows) in
    elim (cases_Bool (same e d)) [
      | inl equal ↦
          let named : row.digest ≡ e = f.digest ∙ sym (equal_from_same e d equal) in
          let there : has_row rows e ≡ true = any_passes (is_of e) rows row f.has (same_from_equal row.digest e named) in
          split ∙ either_by (not (same e d) && has_row rows e) (same row.digest e) (same_from_equal row.digest e named) ∙ sym there
      | inr other ↦
          let differs : same row.digest e ≡ false = not_same_from_other row.digest e (λ q. other_from_not_same e d other (sym q ∙ f.digest)) in
          split ∙ neither_by (same e d) (has_row rows e) (same row.digest e) other differs
    ]

puts_row : (s : State) (d : HashAndSize) (row : Row) (b : Bool) → row_of d s.rows ≡ Some row → PutsRow d (cond b replies.Present replies.Repaired) [] s.rows (others d s.rows ++ record row { sound = true } ∷ [])
puts_row s d row true is = record {
  rows = record { distinct = tt; there = tt };
  count = refl;
  there = λ e. again_here d e s.rows row is ∙ stays (has_row s.rows e);
}
puts_row s d row false is = record {
  rows = record { distinct = tt; there = tt };
  count = refl;
  there = λ e. again_here d e s.rows row is ∙ stays (has_row s.rows e);
}

again_by : (s : State) (owner : ℕ) (d : HashAndSize) (edges : Option (List Edge)) (reply : Reply) (t : State) (o : Option Row) → row_of d s.rows ≡ o → has_row s.rows d ≡ true → (reply, t) ≡ holding owner d (put_over s d edges o)
    → PutsRow d reply [] s.rows t.rows
again_by s owner d edges reply t None at there is = absurd (let f = has_none d s.rows at in cc)
again_by s owner d edges reply t (Some row) at there is =
    let P : Reply × State → Type 0 = λ (x : Reply × State). PutsRow d x.0 [] s.rows x.1.rows in
    let put_back = put_over s d edges (Some row) in
    subst P (sym is) (subst (λ (rows : List Row). PutsRow d put_back.0 [] s.rows rows) (sym (holding_rows owner d put_back)) (puts_row s d row row.sound at))

pub puts_again : (s : State) (owner : ℕ) (d : HashAndSize) (edges : Option (List Edge)) (reply : Reply) (t : State) → has_row s.rows d ≡ true → (reply, t) ≡ holding owner d (put_over s d edges (row_of d s.rows))
    → PutsRow d reply [] s.rows t.rows
puts_again s owner d edges reply t there is = again_by s owner d edges reply t (row_of d s.rows) refl there is

-- a put of an open owner of a blob with no row
pub put_step : (s : State) (owner : ℕ) (d : HashAndSize) (edges : Option (List Edge)) → is_open s owner ≡ true → is_empty d ≡ false → row_of d s.rows ≡ None
    → holding owner d (put_over s d edges None) ≡ step s owner (events.Put d edges)
unfolding step served
put_step s owner d edges opened filled none =
    ap (holding owner d) (put_new_is s d edges filled none) ∙ sym (cond-true (is_open s owner) (holding owner d (put s d edges)) (replies.Refused, s) opened)
