-- What each step keeps: a valid state stays valid, and one within its high mark, or within more than that, within it.
use Rattle.std.proofs.Common.{◌≡◌, ◌≢◌, ℕ, ◌+◌, ◌-◌, ◌<◌, ◌≤◌, Bool, true, false, cond, not, min, List, [], ◌∷◌, ◌++◌, length, Option, Some, None, inl, inr, refl, sym, ap, subst, ◌∙◌, arith}
use Rattle.std.specs.Prelude.{filter, nat_lt, nat_eq, Contains, ◌||◌, ◌&&◌}
use Rattle.std.specs.List.{AllByRecursion, list_any}
use Rattle.std.proofs.lemmas.Bool.{cond_both, ltb-false, not-true, and_parts, or_cases, or_right}
use Rattle.std.proofs.lemmas.List.Elements.{Contains-append_left}
use Rattle.std.proofs.lemmas.List.Sums.{sum_by_push}
use Rattle.digest_types.specs.Name.{HashAndSize}
use Rattle.digest_types.specs.Digest.{digest_of}
use Rattle.directory_canon.specs.declared.node.Edge.{Edge}
use Rattle.store_core.specs.declared.state.Row.{Row}
use Rattle.store_core.specs.declared.state.Lease.{Lease}
use Rattle.store_core.specs.declared.event.Event.{Event}
use Rattle.store_core.specs.declared.event.Event.TheVariants as events
use Rattle.store_core.specs.declared.event.Reply.{Reply}
use Rattle.store_core.specs.declared.event.Reply.TheVariants as replies
use Rattle.store_core.specs.State.{State, Holds, Valid, Distinct, same, is_empty, is_among, row_of, has_row, others, sizes, used, roots, has_id, is_of_owner, is_session, is_holder, is_held, with_hold, other_holds}
use Rattle.store_core.specs.Reach.{blobs, is_reached}
use Rattle.store_core.specs.Pass.{guarded, gone, pass}
use Rattle.store_core.specs.Step.{is_open, is_opening, with_room, with_row, put_over, put, read, leased, own_lease, confirmed, released, damaged, opened, closed, touched, touched_all, is_here, tells_there, holds_after, holding, served, step}
use Rattle.store_core.proofs.Elements.{every_filter, every_push, every_weaker, every_contains}
use Rattle.store_core.proofs.HeldRows.{HaveRows, has_as_before, held_turned, held_damaged, held_push, held_again}
use Rattle.store_core.proofs.HoldLaws.{any_filter, held_with, every_with, distinct_with, distinct_holds_filter, holders_stay}
use Rattle.store_core.proofs.OwnerLaws.{HasOtherId, distinct_ids_filter, distinct_ids_push, open_has, owners_stay}
use Rattle.store_core.proofs.Passes.{pass_down, pass_row}
use Rattle.store_core.proofs.RowLaws.{Filled, IsTurned, distinct_filter, distinct_push, sizes_filter, absent, found_row, again_distinct, again_filled, turned_every, turned_touched, turned_touched_all, damaged_distinct, damaged_filled, damaged_sizes}
use Rattle.store_core.proofs.Same.{equal_from_same, other_from_not_same}
use Rattle.store_core.proofs.Uses.{HasItsRow, put_alone, read_alone, put_row, read_row}

-- what a state keeps of the one before it
pub record Follows (s t : State) : Type 0 where
  pub valid : Valid s → Valid t
  pub within : (most : ℕ) → Valid s → s.high ≤ most → used s ≤ most → used t ≤ most
  pub low : t.low ≡ s.low
  pub high : t.high ≡ s.high
  pub guard : t.guard ≡ s.guard
  pub owners : t.next_owner ≤ s.next_owner + 1
  pub leases : t.next_lease ≤ s.next_lease + 1

pub follows_itself : (s : State) → Follows s s
follows_itself s = record { valid = λ v. v; within = λ most v high h. h; low = refl; high = refl; guard = refl; owners = omega arith; leases = omega arith }

-- what holds of the states of both outcomes holds of that of the one that is chosen
pub chosen : (P : State → Type 0) (b : Bool) (x y : Reply × State) → (b ≡ true → P x.1) → (b ≡ false → P y.1) → P (cond b x y).1
chosen P true x y p q = p refl
chosen P false x y p q = q refl

-- ---- rows

-- rows that a valid state may have beside its holds
pub record Good (s : State) (rows : List Row) : Type 0 where
  pub distinct : Distinct rows
  pub filled : Filled rows
  pub held : HaveRows s.holds rows

good_now : (s : State) → Valid s → Good s s.rows
good_now s v = record { distinct = v.distinct; filled = v.filled; held = v.hold_rows }

pub valid_rows : (s : State) (rows : List Row) → Valid s → Good s rows → Valid (record s { rows = rows })
valid_rows s rows v good = record {
  distinct = good.distinct;
  filled = good.filled;
  lease_ids = v.lease_ids;
  lease_numbers = v.lease_numbers;
  lease_owners = v.lease_owners;
  holds = v.holds;
  hold_owners = v.hold_owners;
  hold_rows = good.held;
  unheld = v.unheld;
  owners = v.owners;
}

-- a change of the rows alone
pub follows_rows : (s : State) (rows : List Row) → (Valid s → Good s rows) → ((most : ℕ) → Valid s → s.high ≤ most → used s ≤ most → sizes rows ≤ most) → Follows s (record s { rows = rows })
follows_rows s rows good fits = record {
  valid = λ v. valid_rows s rows v (good v);
  within = fits;
  low = refl;
  high = refl;
  guard = refl;
  owners = omega arith;
  leases = omega arith;
}

good_turned : (s : State) (rows : List Row) → IsTurned s.rows rows → Valid s → Good s rows
good_turned s rows t v = record {
  distinct = t.distinct v.distinct;
  filled = turned_every (λ row. row.digest ≢ digest_of []) s.rows rows t v.filled;
  held = held_turned s.holds s.rows rows t v.hold_rows;
}

pub follows_turned : (s : State) (rows : List Row) → IsTurned s.rows rows → Follows s (record s { rows = rows })
follows_turned s rows t = follows_rows s rows (good_turned s rows t) (λ most v high h. omega (arith, t.bytes))

-- some rows stay, and those that are held among them
good_filter : (s : State) (p : Row → Bool) → HaveRows s.holds (filter p s.rows) → Valid s → Good s (filter p s.rows)
good_filter s p held v = record {
  distinct = distinct_filter p s.rows v.distinct;
  filled = every_filter (λ row. row.digest ≢ digest_of []) p s.rows v.filled;
  held = held;
}

pub follows_filter : (s : State) (p : Row → Bool) → (Valid s → HaveRows s.holds (filter p s.rows)) → Follows s (record s { rows = filter p s.rows })
follows_filter s p held = follows_rows s (filter p s.rows) (λ v. good_filter s p (held v) v) (λ most v high h. omega (arith, sizes_filter p s.rows))

-- a pass takes nothing that is held
held_passed : (s : State) (target : ℕ) → Valid s → HaveRows s.holds (pass s target).rows
held_passed s target v d e =
    has_as_before d s.rows (pass s target).rows (pass_row s target d (or_right (is_reached (blobs s.rows) (roots s.leases) d) (is_held s.holds d) e)) ∙ v.hold_rows d e

pub follows_pass : (s : State) (target : ℕ) → Follows s (pass s target)
follows_pass s target = follows_filter s (λ row. not (is_among (gone s target) row.digest)) (held_passed s target)

pub follows_damaged : (s : State) (d : HashAndSize) → Follows s (record s { rows = damaged d s.rows })
follows_damaged s d =
    follows_rows s (damaged d s.rows)
    (λ v. record { distinct = damaged_distinct d s.rows v.distinct; filled = damaged_filled d s.rows v.filled; held = held_damaged s.holds d s.rows v.hold_rows })
    (λ most v high h. omega (arith, damaged_sizes d s.rows))

-- a row is put again
pub follows_again : (s : State) (d : HashAndSize) (row : Row) → row_of d s.rows ≡ Some row → Follows s (with_row (record s { rows = others d s.rows }) (record row { sound = true }))
follows_again s d row e =
    let f = found_row d s.rows row e in
    let sound : Row = record row { sound = true } in
    follows_rows s (others d s.rows ++ sound ∷ [])
    (λ v. record {
      distinct = again_distinct d s.rows sound f.digest v.distinct;
      filled = again_filled d s.rows sound (every_contains (λ r. r.digest ≢ digest_of []) s.rows row v.filled f.has) v.filled;
      held = held_again s.holds d s.rows sound f.digest v.hold_rows;
    })
    (λ most v high h. let size : row.digest.size ≡ d.size = ap (λ (x : HashAndSize). x.size) f.digest in omega (arith, f.bytes, sum_by_push (λ (r : Row). r.digest.size) (others d s.rows) sound))

-- a row is added to rows of other digests
follows_new : (s : State) (rows : List Row) (row : Row) → (Valid s → Good s rows) → AllByRecursion (λ other. other.digest ≢ row.digest) rows → row.digest ≢ digest_of []
    → (Valid s → sizes rows + row.digest.size ≤ s.high) → Follows s (record s { rows = rows ++ row ∷ [] })
follows_new s rows row good differ filled fits =
    follows_rows s (rows ++ row ∷ [])
    (λ v.
    let g = good v in
    record {
      distinct = distinct_push rows row g.distinct differ;
      filled = every_push (λ r. r.digest ≢ digest_of []) rows row g.filled filled;
      held = held_push s.holds rows row g.held;
    })
    (λ most v high h. omega (arith, fits v, sum_by_push (λ (r : Row). r.digest.size) rows row))

-- there is room after a pass for what the high mark leaves beside the guarded bytes
room_after : (s : State) (size : ℕ) → Valid s → guarded s + size ≤ s.high → used (pass s (min s.low (s.high - size))) + size ≤ s.high
room_after s size v small = elim (pass_down s (min s.low (s.high - size)) v.distinct) [ inl down ↦ omega arith | inr just ↦ omega arith ]

-- a row is added where it and the guarded rows fit below the high mark
pub follows_added : (s : State) (row : Row) → row_of row.digest s.rows ≡ None → row.digest ≢ digest_of [] → guarded s + row.digest.size ≤ s.high → Follows s (with_row (with_room s row.digest.size) row)
follows_added s row none filled small =
    let size = row.digest.size in
    let target = min s.low (s.high - size) in
    let differ = absent row.digest s.rows none in
    let stays : Row → Bool = λ r. not (is_among (gone s target) r.digest) in
    cond_both (nat_lt s.high (used s + size)) (pass s target) s (λ t. Follows s (with_row t row))
    (λ _. follows_new s (filter stays s.rows) row
    (λ v. good_filter s stays (held_passed s target v) v)
    (every_filter (λ r. r.digest ≢ row.digest) stays s.rows differ)
    filled
    (λ v. room_after s size v small))
    (λ fits. follows_new s s.rows row (good_now s) differ filled (λ v. ltb-false _ _ fits))

follows_put_over : (s : State) (d : HashAndSize) (edges : Option (List Edge)) (o : Option Row) → row_of d s.rows ≡ o → d ≢ digest_of [] → Follows s (put_over s d edges o).1
follows_put_over s d edges (Some row) e filled = follows_again s d row e
follows_put_over s d edges None e filled =
    let row : Row = record { digest = d; edges = edges; sound = true } in
    chosen (Follows s) (nat_lt s.high (guarded s + d.size)) (replies.NoSpace (guarded s) d.size s.high, s)
    (replies.Stored (length s.rows - length (with_room s d.size).rows) (used (with_room s d.size) + d.size), with_row (with_room s d.size) row)
    (λ _. follows_itself s)
    (λ small. follows_added s row e filled (ltb-false _ _ small))

pub follows_put : (s : State) (d : HashAndSize) (edges : Option (List Edge)) → Follows s (put s d edges).1
unfolding put
follows_put s d edges =
    chosen (Follows s) (is_empty d) (replies.Present, s) (put_over s d edges (row_of d s.rows))
    (λ _. follows_itself s)
    (λ other. follows_put_over s d edges (row_of d s.rows) refl (other_from_not_same d (digest_of []) other))

pub follows_read : (s : State) (d : HashAndSize) → Follows s (read s d).1
follows_read s d =
    chosen (Follows s) (is_here s.rows d) (replies.Found, record s { rows = touched d s.rows }) (replies.Absent, s)
    (λ _. follows_turned s (touched d s.rows) (turned_touched d s.rows))
    (λ _. follows_itself s)

-- ---- holds

-- an owner that is open holds one more digest that has a row
pub valid_with : (s : State) (owner : ℕ) (d : HashAndSize) → Contains s.owners owner → has_row s.rows d ≡ true → is_session s.guard ≡ true → Valid s → Valid (record s { holds = with_hold owner d s.holds })
valid_with s owner d there row session v = record {
  distinct = v.distinct;
  filled = v.filled;
  lease_ids = v.lease_ids;
  lease_numbers = v.lease_numbers;
  lease_owners = v.lease_owners;
  holds = distinct_with owner d s.holds v.holds;
  hold_owners = every_with (λ o. Contains s.owners o) owner d s.holds there v.hold_owners;
  hold_rows = λ q e. elim (or_cases (is_held s.holds q) (same q d) (sym (held_with owner d q s.holds) ∙ e)) [
    | inl before ↦ v.hold_rows q before
    | inr is ↦ ap (has_row s.rows) (equal_from_same q d is) ∙ row
  ];
  unheld = λ e. absurd cc;
  owners = v.owners;
}

pub valid_after_use : (s : State) (owner : ℕ) (d : HashAndSize) → Contains s.owners owner → (is_empty d ≡ false → has_row s.rows d ≡ true) → Valid s → Valid (record s { holds = holds_after s.guard owner d s.holds })
valid_after_use s owner d there row v =
    cond_both (is_session s.guard && not (is_empty d)) (with_hold owner d s.holds) s.holds (λ holds. Valid (record s { holds = holds }))
    (λ held. let parts = and_parts (is_session s.guard) (not (is_empty d)) held in valid_with s owner d there (row (not-true (is_empty d) parts.1)) parts.0 v)
    (λ _. v)

-- a blob is used
pub follows_use : (s : State) (owner : ℕ) (d : HashAndSize) (r : Reply × State) → Follows s r.1 → Contains r.1.owners owner → (is_empty d ≡ false → HasItsRow d r) → Follows s (holding owner d r).1
follows_use s owner d r f there row =
    cond_both (tells_there r.0) (record r.1 { holds = holds_after r.1.guard owner d r.1.holds }) r.1 (Follows s)
    (λ told. record {
      valid = λ v. valid_after_use r.1 owner d there (λ filled. row filled told) (f.valid v);
      within = f.within;
      low = f.low;
      high = f.high;
      guard = f.guard;
      owners = f.owners;
      leases = f.leases;
    })
    (λ _. f)

-- ---- leases

-- an open owner takes a lease with the next number
pub valid_leased : (s : State) (lease : Lease) → lease.id ≡ s.next_lease → Contains s.owners lease.owner → Valid s → Valid (record s { leases = s.leases ++ lease ∷ []; next_lease = s.next_lease + 1 })
valid_leased s lease is is_there v = record {
  distinct = v.distinct;
  filled = v.filled;
  lease_ids = distinct_ids_push s.leases lease v.lease_ids (every_weaker (λ l. l.id < s.next_lease) (HasOtherId lease) (λ l lt e. omega arith) s.leases v.lease_numbers);
  lease_numbers = every_push (λ l. l.id < s.next_lease + 1) s.leases lease (every_weaker (λ l. l.id < s.next_lease) (λ l. l.id < s.next_lease + 1) (λ l lt. omega arith) s.leases v.lease_numbers) (omega arith);
  lease_owners = every_push (λ l. Contains s.owners l.owner) s.leases lease v.lease_owners is_there;
  holds = v.holds;
  hold_owners = v.hold_owners;
  hold_rows = v.hold_rows;
  unheld = v.unheld;
  owners = v.owners;
}

pub valid_released : (s : State) (p : Lease → Bool) → Valid s → Valid (record s { leases = filter p s.leases })
valid_released s p v = record {
  distinct = v.distinct;
  filled = v.filled;
  lease_ids = distinct_ids_filter p s.leases v.lease_ids;
  lease_numbers = every_filter (λ l. l.id < s.next_lease) p s.leases v.lease_numbers;
  lease_owners = every_filter (λ l. Contains s.owners l.owner) p s.leases v.lease_owners;
  holds = v.holds;
  hold_owners = v.hold_owners;
  hold_rows = v.hold_rows;
  unheld = v.unheld;
  owners = v.owners;
}

pub follows_leased : (s : State) (owner : ℕ) (root : Edge) → Contains s.owners owner → Follows s (leased s owner root).1
follows_leased s owner root is_there = record {
  valid = valid_leased s (record { id = s.next_lease; owner = owner; root = root }) refl is_there;
  within = λ most v high h. h;
  low = refl;
  high = refl;
  guard = refl;
  owners = omega arith;
  leases = omega arith;
}

follows_confirmed : (s : State) (files : Bool) (o : Option Lease) → Follows s (confirmed s files o).1
follows_confirmed s files None = follows_itself s
follows_confirmed s files (Some lease) = follows_itself s

follows_released : (s : State) (id : ℕ) (o : Option Lease) → Follows s (released s id o).1
follows_released s id None = follows_itself s
follows_released s id (Some lease) = record {
  valid = valid_released s (λ l. not (has_id id l));
  within = λ most v high h. h;
  low = refl;
  high = refl;
  guard = refl;
  owners = omega arith;
  leases = omega arith;
}

-- ---- owners

pub valid_opened : (s : State) → Valid s → Valid (opened s).1
valid_opened s v = record {
  distinct = v.distinct;
  filled = v.filled;
  lease_ids = v.lease_ids;
  lease_numbers = v.lease_numbers;
  lease_owners = every_weaker (λ l. Contains s.owners l.owner) (λ l. Contains (s.owners ++ s.next_owner ∷ []) l.owner) (λ l has. Contains-append_left s.owners (s.next_owner ∷ []) l.owner has) s.leases v.lease_owners;
  holds = v.holds;
  hold_owners = every_weaker (λ h. Contains s.owners h.owner) (λ h. Contains (s.owners ++ s.next_owner ∷ []) h.owner) (λ h has. Contains-append_left s.owners (s.next_owner ∷ []) h.owner has) s.holds v.hold_owners;
  hold_rows = v.hold_rows;
  unheld = v.unheld;
  owners = every_push (λ o. o < s.next_owner + 1) s.owners s.next_owner (every_weaker (λ o. o < s.next_owner) (λ o. o < s.next_owner + 1) (λ o lt. omega arith) s.owners v.owners) (omega arith);
}

-- an owner without leases goes, and its holds
pub valid_gone : (s : State) (owner : ℕ) → list_any (is_of_owner owner) s.leases ≡ false → Valid s
    → Valid (record s { owners = filter (λ o. not (nat_eq o owner)) s.owners; holds = other_holds owner s.holds })
valid_gone s owner none v = record {
  distinct = v.distinct;
  filled = v.filled;
  lease_ids = v.lease_ids;
  lease_numbers = v.lease_numbers;
  lease_owners = owners_stay owner s.owners s.leases none v.lease_owners;
  holds = distinct_holds_filter (λ held. not (is_holder owner held)) s.holds v.holds;
  hold_owners = holders_stay owner s.owners s.holds v.hold_owners;
  hold_rows = λ d e. v.hold_rows d (any_filter (λ (held : Holds). is_among held.digests d) (λ (held : Holds). not (is_holder owner held)) s.holds e);
  unheld = λ e. ap (other_holds owner) (v.unheld e);
  owners = every_filter (λ o. o < s.next_owner) (λ o. not (nat_eq o owner)) s.owners v.owners;
}

pub follows_opened : (s : State) → Follows s (opened s).1
follows_opened s = record { valid = valid_opened s; within = λ most v high h. h; low = refl; high = refl; guard = refl; owners = omega arith; leases = omega arith }

pub follows_closed : (s : State) (owner : ℕ) → Follows s (closed s owner).1
follows_closed s owner =
    chosen (Follows s) (list_any (is_of_owner owner) s.leases) (replies.Refused, s) (replies.Closed, record s { owners = filter (λ o. not (nat_eq o owner)) s.owners; holds = other_holds owner s.holds })
    (λ _. follows_itself s)
    (λ none. record { valid = valid_gone s owner none; within = λ most v high h. h; low = refl; high = refl; guard = refl; owners = omega arith; leases = omega arith })

-- ---- a step

follows_served : (s : State) (owner : ℕ) (event : Event) → (is_opening event || is_open s owner) ≡ true → Follows s (served s owner event).1
unfolding served
follows_served s owner events.Open is_served = follows_opened s
follows_served s owner (events.Put d edges) is_served =
    follows_use s owner d (put s d edges) (follows_put s d edges)
    (subst (λ (t : State). Contains t.owners owner) (sym (put_alone s d edges)) (open_has s owner is_served))
    (put_row s d edges)
follows_served s owner (events.Find ds) is_served = follows_turned s (touched_all ds s.rows) (turned_touched_all ds s.rows)
follows_served s owner (events.Read d) is_served =
    follows_use s owner d (read s d) (follows_read s d)
    (subst (λ (t : State). Contains t.owners owner) (sym (read_alone s d)) (open_has s owner is_served))
    (read_row s d)
follows_served s owner (events.Lease root kind) is_served = follows_leased s owner (record { kind = kind; digest = root }) (open_has s owner is_served)
follows_served s owner (events.Confirm id files) is_served = follows_confirmed s files (own_lease s owner id)
follows_served s owner (events.Release id) is_served = follows_released s id (own_lease s owner id)
follows_served s owner (events.Damage d) is_served = follows_damaged s d
follows_served s owner events.Pass is_served = follows_pass s s.low
follows_served s owner events.Usage is_served = follows_itself s
follows_served s owner events.Close is_served = follows_closed s owner

pub follows_step : (s : State) (owner : ℕ) (event : Event) → Follows s (step s owner event).1
unfolding step
follows_step s owner event =
    chosen (Follows s) (is_opening event || is_open s owner) (served s owner event) (replies.Refused, s) (follows_served s owner event) (λ _. follows_itself s)
