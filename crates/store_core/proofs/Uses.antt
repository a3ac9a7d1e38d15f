-- A Put and a Read: they change the rows alone, and where the reply says that the blob is there it has a row.
use Rattle.std.proofs.Common.{◌≡◌, ℕ, ◌+◌, ◌-◌, true, false, min, List, [], ◌∷◌, ◌++◌, length, Option, Some, None, inl, inr, refl, ap, ◌∙◌}
use Rattle.std.specs.Prelude.{nat_lt}
use Rattle.std.proofs.lemmas.Bool.{cond_both, or_cases}
use Rattle.digest_types.specs.Name.{HashAndSize}
use Rattle.directory_canon.specs.declared.node.Edge.{Edge}
use Rattle.store_core.specs.declared.state.Row.{Row}
use Rattle.store_core.specs.declared.event.Reply.{Reply}
use Rattle.store_core.specs.declared.event.Reply.TheVariants as replies
use Rattle.store_core.specs.State.{State, Holds, is_empty, is_sound, row_of, others, used, has_row}
use Rattle.store_core.specs.Pass.{guarded, pass}
use Rattle.store_core.specs.Step.{with_room, with_row, put_over, put, read, touched, is_here, tells_there, holds_after, holding}
use Rattle.store_core.proofs.HeldRows.{has_as_before, has_last, has_sound}
use Rattle.store_core.proofs.RowLaws.{found_row, turned_touched}

-- ---- what they change

-- all but the rows is as before
abbrev pub RowsAlone : State → State → Type 0
RowsAlone s t = t ≡ record s { rows = t.rows }

room_alone : (s : State) (size : ℕ) → RowsAlone s (with_room s size)
room_alone s size = cond_both (nat_lt s.high (used s + size)) (pass s (min s.low (s.high - size))) s (RowsAlone s) (λ _. refl) (λ _. refl)

put_over_alone : (s : State) (d : HashAndSize) (edges : Option (List Edge)) (o : Option Row) → RowsAlone s (put_over s d edges o).1
put_over_alone s d edges (Some row) = refl
put_over_alone s d edges None =
    let row : Row = record { digest = d; edges = edges; sound = true } in
    let t = with_room s d.size in
    let refused : Reply × State = (replies.NoSpace (guarded s) d.size s.high, s) in
    let stored : Reply × State = (replies.Stored (length s.rows - length t.rows) (used t + d.size), with_row t row) in
    cond_both (nat_lt s.high (guarded s + d.size)) refused stored (λ (r : Reply × State). RowsAlone s r.1) (λ _. refl)
    (λ _. ap (λ (u : State). record u { rows = t.rows ++ row ∷ [] }) (room_alone s d.size))

pub put_alone : (s : State) (d : HashAndSize) (edges : Option (List Edge)) → RowsAlone s (put s d edges).1
unfolding put
put_alone s d edges =
    let present : Reply × State = (replies.Present, s) in
    cond_both (is_empty d) present (put_over s d edges (row_of d s.rows)) (λ (r : Reply × State). RowsAlone s r.1) (λ _. refl) (λ _. put_over_alone s d edges (row_of d s.rows))

pub read_alone : (s : State) (d : HashAndSize) → RowsAlone s (read s d).1
read_alone s d =
    let found : Reply × State = (replies.Found, record s { rows = touched d s.rows }) in
    let absent : Reply × State = (replies.Absent, s) in
    cond_both (is_here s.rows d) found absent (λ (r : Reply × State). RowsAlone s r.1) (λ _. refl) (λ _. refl)

-- all but the rows and the holds is as before
pub record UsesAlone (s t : State) : Type 0 where
  pub leases : t.leases ≡ s.leases
  pub low : t.low ≡ s.low
  pub high : t.high ≡ s.high
  pub guard : t.guard ≡ s.guard
  pub next_owner : t.next_owner ≡ s.next_owner
  pub next_lease : t.next_lease ≡ s.next_lease
  pub owners : t.owners ≡ s.owners

uses_more : (s t : State) (holds : List Holds) → RowsAlone s t → UsesAlone s (record t { holds = holds })
uses_more s t holds e = record {
  leases = ap (λ (u : State). u.leases) e;
  low = ap (λ (u : State). u.low) e;
  high = ap (λ (u : State). u.high) e;
  guard = ap (λ (u : State). u.guard) e;
  next_owner = ap (λ (u : State). u.next_owner) e;
  next_lease = ap (λ (u : State). u.next_lease) e;
  owners = ap (λ (u : State). u.owners) e;
}

uses_alone : (s : State) (owner : ℕ) (d : HashAndSize) (r : Reply × State) → RowsAlone s r.1 → UsesAlone s (holding owner d r).1
uses_alone s owner d r e =
    let holds = holds_after r.1.guard owner d r.1.holds in
    cond_both (tells_there r.0) (record r.1 { holds = holds }) r.1 (UsesAlone s) (λ _. uses_more s r.1 holds e) (λ _. uses_more s r.1 r.1.holds e)

pub put_uses : (s : State) (owner : ℕ) (d : HashAndSize) (edges : Option (List Edge)) → UsesAlone s (holding owner d (put s d edges)).1
put_uses s owner d edges = uses_alone s owner d (put s d edges) (put_alone s d edges)

pub read_uses : (s : State) (owner : ℕ) (d : HashAndSize) → UsesAlone s (holding owner d (read s d)).1
read_uses s owner d = uses_alone s owner d (read s d) (read_alone s d)

-- a hold changes no row
pub holding_rows : (owner : ℕ) (d : HashAndSize) (r : Reply × State) → (holding owner d r).1.rows ≡ r.1.rows
holding_rows owner d r = cond_both (tells_there r.0) (record r.1 { holds = holds_after r.1.guard owner d r.1.holds }) r.1 (λ (t : State). t.rows ≡ r.1.rows) (λ _. refl) (λ _. refl)

-- ---- the row of what is used

-- where the reply says that it is there
abbrev pub HasItsRow : HashAndSize → Reply × State → Type 0
HasItsRow d r = tells_there r.0 ≡ true → has_row r.1.rows d ≡ true

put_over_row : (s : State) (d : HashAndSize) (edges : Option (List Edge)) (o : Option Row) → row_of d s.rows ≡ o → HasItsRow d (put_over s d edges o)
put_over_row s d edges (Some row) e = λ there. has_last d (others d s.rows) (record row { sound = true }) (found_row d s.rows row e).digest
put_over_row s d edges None e =
    let row : Row = record { digest = d; edges = edges; sound = true } in
    let t = with_room s d.size in
    let refused : Reply × State = (replies.NoSpace (guarded s) d.size s.high, s) in
    let stored : Reply × State = (replies.Stored (length s.rows - length t.rows) (used t + d.size), with_row t row) in
    cond_both (nat_lt s.high (guarded s + d.size)) refused stored (HasItsRow d) (λ _ there. absurd cc) (λ _ there. has_last d t.rows row refl)

pub put_row : (s : State) (d : HashAndSize) (edges : Option (List Edge)) → is_empty d ≡ false → HasItsRow d (put s d edges)
unfolding put
put_row s d edges filled =
    let present : Reply × State = (replies.Present, s) in
    cond_both (is_empty d) present (put_over s d edges (row_of d s.rows)) (HasItsRow d) (λ empty. absurd cc) (λ _. put_over_row s d edges (row_of d s.rows) refl)

-- a blob that is there and isn't the empty one has a row
pub here_has : (rows : List Row) (d : HashAndSize) → is_here rows d ≡ true → is_empty d ≡ false → has_row rows d ≡ true
here_has rows d here filled = elim (or_cases (is_empty d) (is_sound rows d) here) [ inl empty ↦ absurd cc | inr sound ↦ has_sound d rows sound ]

here_row : (s : State) (d : HashAndSize) → is_empty d ≡ false → is_here s.rows d ≡ true → has_row (touched d s.rows) d ≡ true
here_row s d filled here = has_as_before d s.rows (touched d s.rows) ((turned_touched d s.rows).row d) ∙ here_has s.rows d here filled

pub read_row : (s : State) (d : HashAndSize) → is_empty d ≡ false → HasItsRow d (read s d)
read_row s d filled =
    let found : Reply × State = (replies.Found, record s { rows = touched d s.rows }) in
    let absent : Reply × State = (replies.Absent, s) in
    cond_both (is_here s.rows d) found absent (HasItsRow d) (λ here _. here_row s d filled here) (λ _ there. absurd cc)
