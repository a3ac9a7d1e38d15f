-- What a lease keeps over a history.
use Rattle.std.proofs.Common.{◌≡◌, ◌≢◌, ℕ, true, false, not, List, [], ◌∷◌, ◌++◌, Option, Some, None, inl, inr, refl, sym, ap, subst, ◌∙◌}
use Rattle.std.specs.Prelude.{nat_eq, Contains, ◌&&◌}
use Rattle.std.specs.List.{list_any}
use Rattle.std.proofs.lemmas.Bool.{and_from, eq-eqb, eqb-true, false_from_ne_true, not_from_false, or_cases, or_left, or_right, or_parts}
use Rattle.std.proofs.lemmas.List.Elements.{Contains-append_left}
use Rattle.digest_types.specs.Name.{HashAndSize}
use Rattle.store_core.specs.declared.state.Lease.{Lease}
use Rattle.store_core.specs.declared.event.Event.{Event}
use Rattle.store_core.specs.declared.event.Event.TheVariants as events
use Rattle.store_core.specs.declared.event.Reply.{Reply}
use Rattle.store_core.specs.declared.event.Reply.TheVariants as replies
use Rattle.store_core.specs.State.{State, Valid, DistinctIds, has_id}
use Rattle.store_core.specs.Reach.{blobs, as_file, as_dir, reaches, is_reached}
use Rattle.store_core.specs.Step.{own_lease, released, served, step}
use Rattle.store_core.specs.History.{Entry, state, IsLegalAt, Legal}
use Rattle.store_core.specs.Guard.{releases, is_release, sound_by, sound_after, IsKeptBy}
use Rattle.store_core.proofs.Elements.{has_filter}
use Rattle.store_core.proofs.Entries.{step_served, confirmed_leases, closed_leases, released_is_own}
use Rattle.store_core.proofs.Guarding.{RowsKept, reach_kept, served_kept}
use Rattle.store_core.proofs.Kept.{follows_step}
use Rattle.store_core.proofs.Uses.{put_uses, read_uses}

-- ---- a history in two parts

pub state_after : (s : State) (before entries : List Entry) → state s (before ++ entries) ≡ state (state s before) entries
unfolding state
state_after s [] entries = refl
state_after s (entry ∷ before) entries = state_after (step s entry.owner entry.event).1 before entries

pub legal_after : (s : State) (before entries : List Entry) → Legal s (before ++ entries) → Legal (state s before) entries
unfolding state
legal_after s [] entries legal = legal
legal_after s (entry ∷ before) entries legal = legal_after (step s entry.owner entry.event).1 before entries legal.1

pub valid_after : (s : State) (entries : List Entry) → Valid s → Valid (state s entries)
unfolding state
valid_after s [] v = v
valid_after s (entry ∷ entries) v = valid_after (step s entry.owner entry.event).1 entries ((follows_step s entry.owner entry.event).valid v)

-- ---- the lease stands

-- what an owner releases is none but its own
unreleased : (s : State) (owner id : ℕ) (lease : Lease) (o : Option Lease) → own_lease s owner id ≡ o → DistinctIds s.leases → Contains s.leases lease → (nat_eq owner lease.owner && nat_eq id lease.id) ≡ false
    → Contains (released s id o).1.leases lease
unreleased s owner id lease None e distinct has kept = has
unreleased s owner id lease (Some found) e distinct has kept =
    has_filter (λ other. not (has_id id other)) s.leases lease has
    (not_from_false (has_id id lease) (false_from_ne_true (has_id id lease) (λ named.
    let own = released_is_own s owner id found lease distinct e has named in
    let it_is : (nat_eq owner lease.owner && nat_eq id lease.id) ≡ true = and_from (nat_eq owner lease.owner) (nat_eq id lease.id) (eq-eqb owner lease.owner (sym own)) (eq-eqb id lease.id (sym (eqb-true lease.id id named))) in
    cc)))

-- a lease stands after each event that isn't its Release by its owner
served_held : (s : State) (owner : ℕ) (event : Event) (lease : Lease) → DistinctIds s.leases → Contains s.leases lease → (nat_eq owner lease.owner && releases lease.id event) ≡ false
    → Contains (served s owner event).1.leases lease
unfolding served
served_held s owner events.Open lease distinct has kept = has
served_held s owner (events.Put d edges) lease distinct has kept = subst (λ (leases : List Lease). Contains leases lease) (sym (put_uses s owner d edges).leases) has
served_held s owner (events.Find ds) lease distinct has kept = has
served_held s owner (events.Read d) lease distinct has kept = subst (λ (leases : List Lease). Contains leases lease) (sym (read_uses s owner d).leases) has
served_held s owner (events.Lease root kind) lease distinct has kept = Contains-append_left s.leases _ lease has
served_held s owner (events.Confirm id files) lease distinct has kept = subst (λ (leases : List Lease). Contains leases lease) (sym (confirmed_leases s files (own_lease s owner id))) has
served_held s owner (events.Release id) lease distinct has kept = unreleased s owner id lease (own_lease s owner id) refl distinct has kept
served_held s owner (events.Damage d) lease distinct has kept = has
served_held s owner events.Pass lease distinct has kept = has
served_held s owner events.Usage lease distinct has kept = has
served_held s owner events.Close lease distinct has kept = subst (λ (leases : List Lease). Contains leases lease) (sym (closed_leases s owner)) has

-- ---- one entry

-- the rows, by the reply of the entry
by_reply : (s : State) (entry : Entry) (lease : Lease) → Contains s.leases lease → entry.reply ≡ (served s entry.owner entry.event).0
    → RowsKept lease.root s.rows (served s entry.owner entry.event).1.rows (λ d sound. sound_after d (entry ∷ []) sound)
unfolding sound_after
by_reply s entry lease has is d row reached e =
    served_kept s entry.owner entry.event lease has d row reached e
    ∙ ap (λ (reply : Reply). Some (record row { sound = sound_by d entry.event reply row.sound })) (sym is)

pub step_kept : (s : State) (entry : Entry) (lease : Lease) → Valid s → IsLegalAt s entry → Contains s.leases lease → is_release lease entry ≡ false → IsKeptBy lease (entry ∷ []) s (step s entry.owner entry.event).1
step_kept s entry lease v legal has kept =
    let is : step s entry.owner entry.event ≡ served s entry.owner entry.event = step_served s entry legal in
    let rows = by_reply s entry lease has (legal.reply ∙ ap (λ (r : Reply × State). r.0) is) in
    subst (λ (r : Reply × State). IsKeptBy lease (entry ∷ []) s r.1) (sym is) (record {
      held = served_held s entry.owner entry.event lease v.lease_ids has kept;
      reach = reach_kept lease.root s.rows (served s entry.owner entry.event).1.rows (λ d sound. sound_after d (entry ∷ []) sound) v.distinct rows;
      rows = rows;
    })

-- ---- one entry after the other

kept_none : (s : State) (lease : Lease) → Contains s.leases lease → IsKeptBy lease [] s s
unfolding sound_after
kept_none s lease has = record { held = has; reach = λ pair e. e; rows = λ d row reached e. e }

-- a digest that is reached is reached still
reached_still : (lease : Lease) (entries : List Entry) (s t : State) (d : HashAndSize) → IsKeptBy lease entries s t → is_reached (blobs s.rows) (lease.root ∷ []) d ≡ true → is_reached (blobs t.rows) (lease.root ∷ []) d ≡ true
reached_still lease entries s t d kept e =
    let starts = lease.root ∷ [] in
    elim (or_cases (reaches (blobs s.rows) starts (as_file d)) (reaches (blobs s.rows) starts (as_dir d)) e) [
      | inl file ↦ or_left (reaches (blobs t.rows) starts (as_file d)) (reaches (blobs t.rows) starts (as_dir d)) (kept.reach (as_file d) file)
      | inr dir ↦ or_right (reaches (blobs t.rows) starts (as_file d)) (reaches (blobs t.rows) starts (as_dir d)) (kept.reach (as_dir d) dir)
    ]

rows_more : (lease : Lease) (entry : Entry) (entries : List Entry) (s t u : State) → IsKeptBy lease (entry ∷ []) s t → IsKeptBy lease entries t u
    → RowsKept lease.root s.rows u.rows (λ d sound. sound_after d (entry ∷ entries) sound)
unfolding sound_after
rows_more lease entry entries s t u first rest d row reached e =
    rest.rows d (record row { sound = sound_by d entry.event entry.reply row.sound }) (reached_still lease (entry ∷ []) s t d first reached) (first.rows d row reached e)

kept_more : (lease : Lease) (entry : Entry) (entries : List Entry) (s t u : State) → IsKeptBy lease (entry ∷ []) s t → IsKeptBy lease entries t u → IsKeptBy lease (entry ∷ entries) s u
kept_more lease entry entries s t u first rest = record {
  held = rest.held;
  reach = λ pair e. rest.reach pair (first.reach pair e);
  rows = rows_more lease entry entries s t u first rest;
}

pub kept_over : (s : State) (entries : List Entry) (lease : Lease) → Valid s → Legal s entries → Contains s.leases lease → list_any (is_release lease) entries ≡ false → IsKeptBy lease entries s (state s entries)
unfolding state
kept_over s [] lease v legal has kept = kept_none s lease has
kept_over s (entry ∷ entries) lease v legal has kept =
    let t = (step s entry.owner entry.event).1 in
    let parts = or_parts (is_release lease entry) (list_any (is_release lease) entries) kept in
    let first = step_kept s entry lease v legal.0 has parts.0 in
    kept_more lease entry entries s t (state t entries) first (kept_over t entries lease ((follows_step s entry.owner entry.event).valid v) legal.1 first.held parts.1)

-- from any place of a history
pub kept_from : (s : State) (before entries : List Entry) (lease : Lease) → Valid s → Legal s (before ++ entries) → Contains (state s before).leases lease → list_any (is_release lease) entries ≡ false
    → IsKeptBy lease entries (state s before) (state s (before ++ entries))
kept_from s before entries lease v legal has kept =
    subst (λ (t : State). IsKeptBy lease entries (state s before) t) (sym (state_after s before entries))
    (kept_over (state s before) entries lease (valid_after s before v) (legal_after s before entries legal) has kept)

-- ---- who releases

-- in each, the reply isn't Refused
releaser_by : (s : State) (owner id : ℕ) (lease : Lease) (o : Option Lease) → own_lease s owner id ≡ o → (released s id o).0 ≢ replies.Refused → DistinctIds s.leases → Contains s.leases lease → nat_eq id lease.id ≡ true → owner ≡ lease.owner
releaser_by s owner id lease None e served distinct has named = absurd (served refl)
releaser_by s owner id lease (Some found) e served distinct has named = sym (released_is_own s owner id found lease distinct e has (eq-eqb lease.id id (sym (eqb-true id lease.id named))))

releaser : (s : State) (owner : ℕ) (event : Event) (lease : Lease) → (served s owner event).0 ≢ replies.Refused → DistinctIds s.leases → Contains s.leases lease → releases lease.id event ≡ true → owner ≡ lease.owner
unfolding served
releaser s owner events.Open lease h distinct has e = absurd cc
releaser s owner (events.Put d edges) lease h distinct has e = absurd cc
releaser s owner (events.Find ds) lease h distinct has e = absurd cc
releaser s owner (events.Read d) lease h distinct has e = absurd cc
releaser s owner (events.Lease root kind) lease h distinct has e = absurd cc
releaser s owner (events.Confirm id files) lease h distinct has e = absurd cc
releaser s owner (events.Release id) lease h distinct has e = releaser_by s owner id lease (own_lease s owner id) refl h distinct has e
releaser s owner (events.Damage d) lease h distinct has e = absurd cc
releaser s owner events.Pass lease h distinct has e = absurd cc
releaser s owner events.Usage lease h distinct has e = absurd cc
releaser s owner events.Close lease h distinct has e = absurd cc

pub released_by_owner : (s : State) (before : List Entry) (entry : Entry) (lease : Lease) → Valid s → Legal s (before ++ entry ∷ []) → Contains (state s before).leases lease → releases lease.id entry.event ≡ true → entry.owner ≡ lease.owner
released_by_owner s before entry lease v legal has e =
    let t = state s before in
    let at = (legal_after s before (entry ∷ []) legal).0 in
    let reply : entry.reply ≡ (served t entry.owner entry.event).0 = at.reply ∙ ap (λ (r : Reply × State). r.0) (step_served t entry at) in
    releaser t entry.owner entry.event lease (λ refused. at.served (reply ∙ refused)) (valid_after s before v).lease_ids has e
