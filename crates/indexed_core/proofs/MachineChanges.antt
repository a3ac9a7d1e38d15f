-- The changes that the code makes, as those of a state.
use Rattle.std.proofs.Common.{◌≡◌, ◌≢◌, ℕ, ◌+◌, ◌-◌, ◌<◌, ◌≤◌, Bool, true, false, cond, not, min, List, [], ◌∷◌, ◌++◌, length, take, Option, Some, None, refl, sym, ap, subst, ◌∙◌, arith}
use Rattle.std.specs.Prelude.{filter, find, nat_eq, nat_lt, slice_get, is_some, IfSome, IfNone, ◌&&◌}
use Rattle.std.specs.List.{AllByRecursion}
use Rattle.std.proofs.lemmas.Bool.{and_from, cond-true, lt-ltb, not_from_false, or_right}
use Rattle.std.proofs.lemmas.Option.{slice_get-get_or}
use Rattle.digest_types.specs.Name.{HashAndSize}
use Rattle.digest_types.specs.Digest.{digest_of}
use Rattle.directory_canon.specs.declared.node.Edge.{Edge}
use Rattle.store_core.specs.declared.event.Reply.{Reply}
use Rattle.store_core.specs.declared.event.Reply.TheVariants as replies
use Rattle.store_core.specs.declared.event.Standing.{Standing}
use Rattle.store_core.specs.declared.state.Row.{Row}
use Rattle.store_core.specs.declared.state.Guard.{Guard}
use Rattle.store_core.specs.declared.state.Guard.TheVariants as guards
use Rattle.store_core.specs.declared.state.Lease.{Lease}
use Rattle.store_core.specs.State.{State, Holds, Valid, IsKept, DistinctIds, has_row, is_held, is_session, with_hold, other_holds, roots as lease_roots, is_among, is_empty, is_of, is_of_owner, row_of, others, digests, sizes, used, has_id as is_lease}
use Rattle.store_core.specs.Reach.{blobs, is_reached}
use Rattle.store_core.specs.Pass.{is_guarded, guarded, unguarded, victims, gone}
use Rattle.store_core.specs.Standing.{standing}
use Rattle.store_core.specs.Step.{put_over, leased, confirmed, own_lease, holds_after}
use Rattle.store_core.proofs.Changes.{again_is, again_keeps, kept_follows, new_row, room_of}
use Rattle.store_core.proofs.Elements.{every_filter}
use Rattle.store_core.proofs.HeldRows.{HaveRows, has_as_before}
use Rattle.store_core.proofs.Kept.{follows_filter}
use Rattle.store_core.proofs.RowLaws.{others_row}
use Rattle.lease_table.specs.Holds.{with_holder}
use Rattle.lease_table.specs.Table.{has_id, roots}
use Rattle.indexed_core.specs.Parts.{Parts, Guards, free, is_wanted, table_lease, table_leases, guards_of, HasPassed}
use Rattle.indexed_core.specs.Removal.{removed, IsPassed}
use Rattle.indexed_core.proofs.MachineLaws.{free_are, guards_are, passed_state, leases_more, leases_less, next_removed, among_free, wanted_is}
use Rattle.indexed_core.proofs.MachinePuts.{Fits, no_row, has_none, have_rows}
use Rattle.indexed_core.proofs.ReachedRows.{first_fails}
use Rattle.indexed_core.proofs.StandingOf.{root_of_own}

-- In each, p is the index after the change, s the state before it by the fields, and `now` the same as contracts see it.

-- ---- what is kept

pub rows_change : (s : State) (p : Parts) (guards : Guards) (rows : List Row) → guards ≡ guards_of s → p ≡ record { rows = rows; guards = guards } → IsKept (record s { rows = rows })
    → (p.guards.leases ≡ table_leases s.leases) × IsKept (record s { rows = p.rows; holds = p.guards.holds })
rows_change s p guards rows same is kept =
    let now : p ≡ record { rows = rows; guards = guards_of s } = is ∙ ap (λ (g : Guards). record { rows = rows; guards = g }) same in (
      ap (λ (q : Parts). q.guards.leases) now,
      subst (λ (q : Parts). IsKept (record s { rows = q.rows; holds = q.guards.holds })) (sym now) kept,
    )

-- what the owners hold is all that changes
pub holds_change : (s : State) (p : Parts) (guards : Guards) (holds : List Holds) → guards ≡ guards_of s → p ≡ record { rows = s.rows; guards = record guards { holds = holds } } → IsKept (record s { holds = holds })
    → (p.guards.leases ≡ table_leases s.leases) × IsKept (record s { rows = p.rows; holds = p.guards.holds })
holds_change s p guards holds same is kept =
    let now : p ≡ record { rows = s.rows; guards = record { leases = table_leases s.leases; holds = holds } } =
    is ∙ ap (λ (g : Guards). record { rows = s.rows; guards = record g { holds = holds } }) same in (
      ap (λ (q : Parts). q.guards.leases) now,
      subst (λ (q : Parts). IsKept (record s { rows = q.rows; holds = q.guards.holds })) (sym now) kept,
    )

pub lease_change : (s : State) (p : Parts) (guards : Guards) (leases : List Lease) (owner : ℕ) (root : Edge) → guards ≡ guards_of s
    → p ≡ record { rows = s.rows; guards = record guards { leases = guards.leases ++ record { id = s.next_lease; root = root } ∷ [] } } → leases ≡ s.leases ++ record { id = s.next_lease; owner = owner; root = root } ∷ []
    → IsKept (leased s owner root).1 → (p.guards.leases ≡ table_leases leases) × IsKept (record s { rows = p.rows; leases = leases; holds = p.guards.holds; next_lease = s.next_lease + 1 })
lease_change s p guards leases owner root same is taken kept =
    let lease : Lease = record { id = s.next_lease; owner = owner; root = root } in
    let now : p ≡ record { rows = s.rows; guards = record { leases = table_leases s.leases ++ table_lease lease ∷ []; holds = s.holds } } =
    is ∙ ap (λ (g : Guards). record { rows = s.rows; guards = record g { leases = g.leases ++ table_lease lease ∷ [] } }) same in (
      ap (λ (q : Parts). q.guards.leases) now ∙ leases_more s.leases (table_leases s.leases) lease refl ∙ ap table_leases (sym taken),
      subst (λ (q : Parts). IsKept (record s { rows = q.rows; leases = leases; holds = q.guards.holds; next_lease = s.next_lease + 1 })) (sym now)
          (subst (λ (ls : List Lease). IsKept (record s { leases = ls; next_lease = s.next_lease + 1 })) (sym taken) kept),
    )

pub release_change : (s : State) (p : Parts) (guards : Guards) (leases : List Lease) (id : ℕ) → guards ≡ guards_of s
    → p ≡ record { rows = s.rows; guards = record guards { leases = filter (λ lease. not (has_id id lease)) guards.leases } } → leases ≡ filter (λ other. not (is_lease id other)) s.leases
    → IsKept (record s { leases = filter (λ other. not (is_lease id other)) s.leases }) → (p.guards.leases ≡ table_leases leases) × IsKept (record s { rows = p.rows; leases = leases; holds = p.guards.holds })
release_change s p guards leases id same is left kept =
    let now : p ≡ record { rows = s.rows; guards = record { leases = filter (λ lease. not (has_id id lease)) (table_leases s.leases); holds = s.holds } } =
    is ∙ ap (λ (g : Guards). record { rows = s.rows; guards = record g { leases = filter (λ lease. not (has_id id lease)) g.leases } }) same in (
      ap (λ (q : Parts). q.guards.leases) now ∙ leases_less id s.leases (table_leases s.leases) refl ∙ ap table_leases (sym left),
      subst (λ (q : Parts). IsKept (record s { rows = q.rows; leases = leases; holds = q.guards.holds })) (sym now)
          (subst (λ (ls : List Lease). IsKept (record s { leases = ls })) (sym left) kept),
    )

pub close_change : (s : State) (p : Parts) (guards : Guards) (owner : ℕ) (owners : List ℕ) → guards ≡ guards_of s
    → p ≡ record { rows = s.rows; guards = record guards { holds = other_holds owner guards.holds } } → owners ≡ filter (λ o. not (nat_eq o owner)) s.owners
    → IsKept (record s { owners = filter (λ o. not (nat_eq o owner)) s.owners; holds = other_holds owner s.holds })
    → (p.guards.leases ≡ table_leases s.leases) × IsKept (record s { rows = p.rows; holds = p.guards.holds; owners = owners })
close_change s p guards owner owners same is left kept =
    let now : p ≡ record { rows = s.rows; guards = record { leases = table_leases s.leases; holds = other_holds owner s.holds } } =
    is ∙ ap (λ (g : Guards). record { rows = s.rows; guards = record g { holds = other_holds owner g.holds } }) same in (
      ap (λ (q : Parts). q.guards.leases) now,
      subst (λ (q : Parts). IsKept (record s { rows = q.rows; holds = q.guards.holds; owners = owners })) (sym now)
          (subst (λ (os : List ℕ). IsKept (record s { holds = other_holds owner s.holds; owners = os })) (sym left) kept),
    )

-- rows and holds change at once
pub both_change : (s : State) (p : Parts) (guards : Guards) (rows : List Row) (holds : List Holds) → guards ≡ guards_of s → p ≡ record { rows = rows; guards = record guards { holds = holds } }
    → IsKept (record s { rows = rows; holds = holds }) → (p.guards.leases ≡ table_leases s.leases) × IsKept (record s { rows = p.rows; holds = p.guards.holds })
both_change s p guards rows holds same is kept =
    let now : p ≡ record { rows = rows; guards = record { leases = table_leases s.leases; holds = holds } } =
    is ∙ ap (λ (g : Guards). record { rows = rows; guards = record g { holds = holds } }) same in (
      ap (λ (q : Parts). q.guards.leases) now,
      subst (λ (q : Parts). IsKept (record s { rows = q.rows; holds = q.guards.holds })) (sym now) kept,
    )

-- a row with these edges is added, and a hold
pub row_and_hold : (p : Parts) (guards : Guards) (rows : List Row) (d : HashAndSize) (copied edges : Option (List Edge)) (holds : List Holds)
    → p ≡ record { rows = rows ++ new_row d copied ∷ []; guards = record guards { holds = holds } } → copied ≡ edges
    → p ≡ record { rows = rows ++ new_row d edges ∷ []; guards = record guards { holds = holds } }
row_and_hold p guards rows d copied edges holds is e = is ∙ ap (λ (o : Option (List Edge)). record { rows = rows ++ new_row d o ∷ []; guards = record guards { holds = holds } }) e

-- ---- holds

-- the hold of a session
pub session_after : (guard : Guard) (owner : ℕ) (d : HashAndSize) (holds : List Holds) → is_session guard ≡ true → is_empty d ≡ false → with_hold owner d holds ≡ holds_after guard owner d holds
session_after guard owner d holds session filled =
    sym (cond-true (is_session guard && not (is_empty d)) (with_hold owner d holds) holds (and_from (is_session guard) (not (is_empty d)) session (not_from_false (is_empty d) filled)))

-- the same by who is named
pub holder_after : (guard : Guard) (owner : ℕ) (d : HashAndSize) (holds : List Holds) (holder : Option ℕ) → holder ≡ cond (is_session guard) (Some owner) None → is_empty d ≡ false
    → with_holder holder d holds ≡ holds_after guard owner d holds
holder_after guards.Leases owner d holds holder is filled = ap (λ (o : Option ℕ). with_holder o d holds) is
holder_after guards.Session owner d holds holder is filled = ap (λ (o : Option ℕ). with_holder o d holds) is ∙ session_after guards.Session owner d holds refl filled

-- ---- how a lease stands

-- o is the lease that was found
pub confirm_is : (s now : State) (guards : Guards) (owner id : ℕ) (files : Bool) (o : Option Lease) (stands : Standing) → s ≡ now → guards ≡ guards_of s → DistinctIds s.leases
    → o ≡ find (λ lease. is_lease id lease && is_of_owner owner lease) s.leases → is_some o ≡ true
    → ((root : Edge) → roots (filter (has_id id) guards.leases) ≡ root ∷ [] → stands ≡ standing s.rows root files)
    → (replies.Stands stands, now) ≡ confirmed now files (own_lease now owner id)
confirm_is s now guards owner id files None stands e same distinct is some told = absurd cc
confirm_is s now guards owner id files (Some lease) stands e same distinct is some told =
    let at : stands ≡ standing s.rows lease.root files = told lease.root (root_of_own owner id s.leases guards.leases lease distinct (ap (λ (g : Guards). g.leases) same) (sym is)) in
    let here : (replies.Stands stands, s) ≡ confirmed s files (Some lease) = ap (λ (st : Standing). (replies.Stands st, s)) at in
    subst (λ (t : State). (replies.Stands stands, t) ≡ confirmed t files (own_lease t owner id)) e (here ∙ ap (confirmed s files) is)

-- ---- a blob with a row

again_by : (s : State) (p : Parts) (guards : Guards) (d : HashAndSize) (o : Option Row) → row_of d s.rows ≡ o → guards ≡ guards_of s → has_row s.rows d ≡ true
    → IfSome o (λ row. p ≡ record { rows = others d s.rows ++ record row { sound = true } ∷ []; guards = guards }) → IsKept s → (p.guards.leases ≡ table_leases s.leases) × IsKept (record s { rows = p.rows; holds = p.guards.holds })
again_by s p guards d None e same there renewed kept = absurd (let f = has_none d s.rows e in cc)
again_by s p guards d (Some row) e same there renewed kept =
    rows_change s p guards (others d s.rows ++ record row { sound = true } ∷ []) same renewed (again_keeps s d row (others d s.rows ++ record row { sound = true } ∷ []) e refl kept)

pub again_change : (s : State) (p : Parts) (guards : Guards) (d : HashAndSize) → guards ≡ guards_of s → has_row s.rows d ≡ true
    → IfSome (row_of d s.rows) (λ row. p ≡ record { rows = others d s.rows ++ record row { sound = true } ∷ []; guards = guards }) → IsKept s → (p.guards.leases ≡ table_leases s.leases) × IsKept (record s { rows = p.rows; holds = p.guards.holds })
again_change s p guards d = again_by s p guards d (row_of d s.rows) refl

reply_by : (s now : State) (p : Parts) (guards : Guards) (d : HashAndSize) (edges : Option (List Edge)) (reply : Reply) (sound : Bool) (o : Option Row) → row_of d s.rows ≡ o → s ≡ now → has_row s.rows d ≡ true
    → reply ≡ cond sound replies.Present replies.Repaired → IfSome o (λ row. sound ≡ row.sound)
    → IfSome o (λ row. p ≡ record { rows = others d s.rows ++ record row { sound = true } ∷ []; guards = guards }) → guards ≡ guards_of s → (reply, record s { rows = p.rows; holds = p.guards.holds }) ≡ put_over now d edges (row_of d now.rows)
reply_by s now p guards d edges reply sound None at e there said is renewed same = absurd (let f = has_none d s.rows at in cc)
reply_by s now p guards d edges reply sound (Some row) at e there said is renewed same =
    ap (λ (holds : List Holds). (reply, record s { rows = p.rows; holds = holds })) (ap (λ (q : Parts). q.guards.holds) renewed ∙ ap (λ (g : Guards). g.holds) same)
    ∙ again_is s now d edges row reply p.rows e at (said ∙ ap (λ b. cond b replies.Present replies.Repaired) is) (ap (λ (q : Parts). q.rows) renewed)

pub again_reply : (s now : State) (p : Parts) (guards : Guards) (d : HashAndSize) (edges : Option (List Edge)) (reply : Reply) (sound : Bool) → s ≡ now → has_row s.rows d ≡ true
    → reply ≡ cond sound replies.Present replies.Repaired → IfSome (row_of d s.rows) (λ row. sound ≡ row.sound)
    → IfSome (row_of d s.rows) (λ row. p ≡ record { rows = others d s.rows ++ record row { sound = true } ∷ []; guards = guards }) → guards ≡ guards_of s → (reply, record s { rows = p.rows; holds = p.guards.holds }) ≡ put_over now d edges (row_of d now.rows)
again_reply s now p guards d edges reply sound = reply_by s now p guards d edges reply sound (row_of d s.rows) refl

-- ---- a blob with no row

pub no_space_is : (s now : State) (d : HashAndSize) (edges : Option (List Edge)) (held size high : ℕ) → s ≡ now → IsKept s → held ≡ guarded s → size ≡ d.size → high ≡ s.high → high < held + size
    → (replies.NoSpace held size high, now) ≡ put_over now d edges None
no_space_is s now d edges held size high e kept is_held is_size is_high lt =
    let over : nat_lt s.high (guarded s + d.size) ≡ true = lt-ltb _ _ (omega arith) in
    let here : ◌≡◌ {A = Reply × State} (replies.NoSpace held size high, s) (replies.NoSpace (guarded s) d.size s.high, s) = cc in
    subst (λ (t : State). (replies.NoSpace held size high, t) ≡ put_over t d edges None) e (here ∙ sym (cond-true (nat_lt s.high (guarded s + d.size)) (replies.NoSpace (guarded s) d.size s.high, s) _ over))

pub room_is : (s now : State) (p : Parts) (size bytes target count : ℕ) → s ≡ now → p.rows ≡ s.rows → p.guards ≡ guards_of s → s.high - size < bytes → bytes ≡ sizes p.rows → target ≡ min s.low (s.high - size)
    → count ≡ victims (free p) (sizes p.rows) target → take count (free p) ≡ room_of now size
room_is s now p size bytes target count e rows guards over is_bytes is_target is_count =
    let lt : nat_lt s.high (used s + size) ≡ true = lt-ltb _ _ (omega (arith, ap sizes rows)) in
    let counted : count ≡ victims (unguarded s) (used s) (min s.low (s.high - size)) =
    is_count ∙ ap (λ (ds : List HashAndSize). victims ds (sizes p.rows) target) (free_are s p rows guards) ∙ ap (λ (n : ℕ). victims (unguarded s) n target) (ap sizes rows) ∙ ap (victims (unguarded s) (used s)) is_target in
    let here : take count (free p) ≡ gone s (min s.low (s.high - size)) =
    ap (take count) (free_are s p rows guards) ∙ ap (λ (n : ℕ). take n (unguarded s)) counted in
    subst (λ (t : State). take count (free p) ≡ room_of t size) e (here ∙ sym (cond-true (nat_lt s.high (used s + size)) (gone s (min s.low (s.high - size))) [] lt))

pub fits_of : (s now : State) (d : HashAndSize) (ds : List HashAndSize) (held size : ℕ) → s ≡ now → IsKept s → has_row now.rows d ≡ false → is_empty d ≡ false → held ≡ guarded s → size ≡ d.size → held + size ≤ s.high
    → ds ≡ room_of now size → Fits s d ds
fits_of s now d ds held size e kept absent filled is_held is_size fits goes = record {
  kept = kept;
  none = no_row d s.rows (ap (λ (t : State). has_row t.rows d) e ∙ absent);
  filled = filled;
  small = omega arith;
  goes = goes ∙ ap (room_of now) is_size ∙ ap (λ (t : State). room_of t d.size) (sym e);
}

-- ---- the first unguarded row

-- it isn't guarded
first_unguarded : (s : State) (d : HashAndSize) → slice_get (unguarded s) 0 ≡ Some d → is_guarded s d ≡ false
first_unguarded s d is = first_fails (is_guarded s) (digests s.rows) d is

-- and so no row goes that is held
held_others : (s : State) (d : HashAndSize) → is_guarded s d ≡ false → Valid s → HaveRows s.holds (others d s.rows)
held_others s d free v q e =
    let other : d ≢ q = λ same_digest. (let held : is_guarded s d ≡ true = ap (is_guarded s) same_digest ∙ or_right (is_reached (blobs s.rows) (lease_roots s.leases) q) (is_held s.holds q) e in absurd cc) in
    has_as_before q s.rows (others d s.rows) (others_row d q s.rows other) ∙ v.hold_rows q e

-- o is its digest
pub first_change : (s : State) (p : Parts) (guards : Guards) (o : Option HashAndSize) → guards ≡ guards_of s → o ≡ slice_get (unguarded s) 0 → IfSome o (λ d. p ≡ record { rows = others d s.rows; guards = guards })
    → IfNone o (p ≡ record { rows = s.rows; guards = guards }) → IsKept s → (p.guards.leases ≡ table_leases s.leases) × IsKept (record s { rows = p.rows; holds = p.guards.holds })
first_change s p guards (Some d) same is some none kept = rows_change s p guards (others d s.rows) same some (kept_follows s _ (follows_filter s (λ row. not (is_of d row)) (held_others s d (first_unguarded s d (sym is)))) kept)
first_change s p guards None same is some none kept = rows_change s p guards s.rows same none kept

-- and a pass goes on at the same place
pub first_passed : (s : State) (p : Parts) (guards : Guards) (o from : Option HashAndSize) → guards ≡ guards_of s → o ≡ slice_get (unguarded s) 0 → IfSome o (λ d. p ≡ record { rows = others d s.rows; guards = guards })
    → IfNone o (p ≡ record { rows = s.rows; guards = guards }) → IsKept s → HasPassed p from → IsPassed (record s { rows = p.rows; holds = p.guards.holds }) from
first_passed s p guards o from same is some none kept passed =
    let now : State = record s { rows = p.rows; holds = p.guards.holds } in
    passed_state now p from refl (guards_are now p.guards (first_change s p guards o same is some none kept).0 refl) passed

first_holds : {X : Type 0} (P : X → Type 0) (xs : List X) (o : Option X) → o ≡ slice_get xs 0 → AllByRecursion P xs → IfSome o P
first_holds P [] (Some x) e h = absurd cc
first_holds P (first ∷ xs) (Some x) e h = subst P (let same : first ≡ x = cc in same) h.0
first_holds P xs None e h = tt

pub first_has_row : (s : State) (o : Option HashAndSize) → o ≡ slice_get (unguarded s) 0 → IfSome o (λ d. has_row s.rows d ≡ true)
first_has_row s o e =
    first_holds (λ d. has_row s.rows d ≡ true) (unguarded s) o e (every_filter (λ d. has_row s.rows d ≡ true) (λ d. not (is_guarded s d)) (digests s.rows) (have_rows s.rows))

-- s is the state from which `count` rows went
pub next_change : (old now s : State) (p : Parts) (guards : Guards) (count : ℕ) (o : Option HashAndSize) → old ≡ now → now ≡ removed s count → count < length (unguarded s) → o ≡ slice_get (unguarded s) count
    → IfSome o (λ d. p ≡ record { rows = others d old.rows; guards = guards }) → guards ≡ guards_of old → record old { rows = p.rows; holds = p.guards.holds } ≡ removed s (count + 1)
next_change old now s p guards count None e is lt at some same = absurd (let there = slice_get-get_or (unguarded s) count (digest_of []) lt in cc)
next_change old now s p guards count (Some d) e is lt at some same =
    ap (λ (q : Parts). record old { rows = q.rows; holds = q.guards.holds }) some
    ∙ ap (λ (g : Guards). record old { rows = others d old.rows; holds = g.holds }) same
    ∙ next_removed s old count d (e ∙ is) (sym at)

gone_by : (s : State) (b : Bool) (target : ℕ) (d : HashAndSize) → is_among (cond b (gone s target) []) d ≡ true → is_guarded s d ≡ false
gone_by s true target d e = among_free s (victims (unguarded s) (used s) target) d (ap not e)
gone_by s false target d e = absurd cc

-- what goes for a put isn't guarded
pub gone_free : (s now : State) (p : Parts) (size : ℕ) (ds : List HashAndSize) (d : HashAndSize) → s ≡ now → p.rows ≡ s.rows → p.guards ≡ guards_of s → ds ≡ room_of now size → is_among ds d ≡ true → is_wanted p d ≡ false
gone_free s now p size ds d e rows guards goes among =
    wanted_is s p d rows guards
    ∙ gone_by s (nat_lt s.high (used s + size)) (min s.low (s.high - size)) d (ap (λ (xs : List HashAndSize). is_among xs d) (ap (λ (t : State). room_of t size) e ∙ sym goes) ∙ among)
