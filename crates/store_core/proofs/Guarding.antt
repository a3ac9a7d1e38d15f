-- What a lease keeps over each step, and so over a history.
use Rattle.std.proofs.Common.{◌≡◌, ℕ, ◌+◌, ◌-◌, Bool, true, false, cond, not, min, List, [], ◌∷◌, ◌++◌, length, Option, Some, None, inl, inr, refl, sym, ap, subst, ◌∙◌}
use Rattle.std.specs.Prelude.{filter, nat_lt, nat_eq, Contains, ◌&&◌, if◌then◌else◌}
use Rattle.std.specs.List.{list_any}
use Rattle.std.specs.Option.{option_map}
use Rattle.std.proofs.lemmas.Bool.{cond_both, cases_Bool, or_cases, or_left, or_right}
use Rattle.std.proofs.lemmas.Option.{same_Some}
use Rattle.digest_types.specs.Name.{HashAndSize}
use Rattle.directory_canon.specs.declared.node.Edge.{Edge}
use Rattle.store_core.specs.declared.state.Row.{Row}
use Rattle.store_core.specs.declared.state.Lease.{Lease}
use Rattle.store_core.specs.declared.event.Event.{Event}
use Rattle.store_core.specs.declared.event.Event.TheVariants as events
use Rattle.store_core.specs.declared.event.Reply.{Reply}
use Rattle.store_core.specs.declared.event.Reply.TheVariants as replies
use Rattle.store_core.specs.State.{State, Distinct, same, is_empty, is_of, row_of, others, used, roots, is_of_owner, is_held, other_holds}
use Rattle.store_core.specs.Reach.{Linked, blobs, as_file, as_dir, reaches, is_reached}
use Rattle.store_core.specs.Pass.{is_guarded, guarded, pass}
use Rattle.store_core.specs.Step.{with_room, with_row, put_over, put, read, own_lease, confirmed, released, damaged, closed, touched, is_here, holding, served}
use Rattle.store_core.specs.Guard.{is_repaired, sound_by}
use Rattle.store_core.proofs.Elements.{find_has, has_map, has_from_map}
use Rattle.store_core.proofs.Kept.{chosen}
use Rattle.store_core.proofs.Passes.{pass_row}
use Rattle.store_core.proofs.ReachLaws.{carried, more_starts, same_tests}
use Rattle.store_core.proofs.RowLaws.{found_row, row_of_has, push_row, again_row, others_row, damaged_row, turned_touched, turned_touched_all, unsound_if}
use Rattle.store_core.proofs.Same.{equal_from_same, same_from_equal, other_from_not_same}
use Rattle.store_core.proofs.Uses.{holding_rows}

-- ---- from rows to what is reached

-- each digest that the root reached and that had a row has it, whose soundness changed so
abbrev pub RowsKept : Edge → List Row → List Row → (HashAndSize → Bool → Bool) → Type 0
RowsKept root rows after sound = (d : HashAndSize) (row : Row) → is_reached (blobs rows) (root ∷ []) d ≡ true → row_of d rows ≡ Some row
    → row_of d after ≡ Some (record row { sound = sound d row.sound })

abbrev blob_of : Row → Linked
blob_of row = record { digest = row.digest; edges = row.edges }

-- a row whose digest is reached as a Directory leaves its blob there
row_kept : (root : Edge) (rows after : List Row) (sound : HashAndSize → Bool → Bool) → Distinct rows → RowsKept root rows after sound
    → (row : Row) → Contains rows row → reaches (blobs rows) (root ∷ []) (as_dir row.digest) ≡ true → Contains (blobs after) (blob_of row)
row_kept root rows after sound v kept row has e =
    let now : Row = record row { sound = sound row.digest row.sound } in
    let reached : is_reached (blobs rows) (root ∷ []) row.digest ≡ true = or_right (reaches (blobs rows) (root ∷ []) (as_file row.digest)) (reaches (blobs rows) (root ∷ []) (as_dir row.digest)) e in
    let is_found : row_of row.digest after ≡ Some now = kept row.digest row reached (row_of_has rows row v has) in
    has_map blob_of after now (find_has (is_of row.digest) after now is_found).0

-- then the blobs that it reaches are there
blob_kept : (root : Edge) (rows after : List Row) (sound : HashAndSize → Bool → Bool) → Distinct rows → RowsKept root rows after sound
    → (blob : Linked) → Contains (blobs rows) blob → reaches (blobs rows) (root ∷ []) (as_dir blob.digest) ≡ true → Contains (blobs after) blob
blob_kept root rows after sound v kept blob has e =
    let h = has_from_map blob_of rows blob has in
    let reached : reaches (blobs rows) (root ∷ []) (as_dir h.0.digest) ≡ true = ap (λ (b : Linked). reaches (blobs rows) (root ∷ []) (as_dir b.digest)) h.2 ∙ e in
    subst (λ (b : Linked). Contains (blobs after) b) h.2 (row_kept root rows after sound v kept h.0 h.1 reached)

-- and so is all that it reaches
pub reach_kept : (root : Edge) (rows after : List Row) (sound : HashAndSize → Bool → Bool) → Distinct rows → RowsKept root rows after sound
    → (pair : Edge) → reaches (blobs rows) (root ∷ []) pair ≡ true → reaches (blobs after) (root ∷ []) pair ≡ true
reach_kept root rows after sound v kept pair e = carried (blobs rows) (blobs after) (root ∷ []) (blob_kept root rows after sound v kept) pair e

-- a lease guards what it reaches
pub lease_guards : (s : State) (lease : Lease) (d : HashAndSize) → Contains s.leases lease → is_reached (blobs s.rows) (lease.root ∷ []) d ≡ true → is_guarded s d ≡ true
lease_guards s lease d has e =
    let there = blobs s.rows in
    let starts = roots s.leases in
    let root : Contains starts lease.root = has_map (λ (l : Lease). l.root) s.leases lease has in
    or_left (is_reached there starts d) (is_held s.holds d)
    (elim (or_cases (reaches there (lease.root ∷ []) (as_file d)) (reaches there (lease.root ∷ []) (as_dir d)) e) [
      | inl file ↦ or_left (reaches there starts (as_file d)) (reaches there starts (as_dir d)) (more_starts there starts lease.root (as_file d) root file)
      | inr dir ↦ or_right (reaches there starts (as_file d)) (reaches there starts (as_dir d)) (more_starts there starts lease.root (as_dir d) root dir)
    ])

-- ---- the rows after an event

-- whether a row is sound after a Put: b says whether it is of its digest
no_repair : (b : Bool) (sound : Bool) → cond (b && false) true sound ≡ sound
no_repair true sound = refl
no_repair false sound = refl

of_another : (b c sound : Bool) → b ≡ false → cond (b && c) true sound ≡ sound
of_another true c sound e = absurd cc
of_another false c sound e = refl

repaired_by : (b c sound : Bool) → b ≡ true → c ≡ sound → cond (b && is_repaired (cond c replies.Present replies.Repaired)) true sound ≡ true
repaired_by true true true e f = refl
repaired_by true true false e f = absurd cc
repaired_by true false sound e f = refl
repaired_by false c sound e f = absurd cc

-- what a Put that gives this leaves
abbrev PutKept : State → Edge → HashAndSize → Reply × State → Type 0
PutKept s root p r = RowsKept root s.rows r.1.rows (λ d sound. if same p d && is_repaired r.0 then true else sound)

-- a blob with a row is put
again_kept : (s : State) (root : Edge) (p : HashAndSize) (old : Row) → row_of p s.rows ≡ Some old
    → PutKept s root p (cond old.sound replies.Present replies.Repaired, with_row (record s { rows = others p s.rows }) (record old { sound = true }))
again_kept s root p old there d row reached e =
    let after = others p s.rows ++ record old { sound = true } ∷ [] in
    elim (cases_Bool (same p d)) [
      | inl is ↦
          let equal : p ≡ d = equal_from_same p d is in
          let one : old ≡ row = same_Some old row (sym there ∙ ap (λ (x : HashAndSize). row_of x s.rows) equal ∙ e) in
          ap (λ (x : HashAndSize). row_of x after) (sym equal)
          ∙ again_row p s.rows (record old { sound = true }) (found_row p s.rows old there).digest
          ∙ ap (λ (r : Row). Some (record r { sound = true })) one
          ∙ ap (λ (b : Bool). Some (record row { sound = b })) (sym (repaired_by (same p d) old.sound row.sound is (ap (λ (r : Row). r.sound) one)))
      | inr not ↦
          push_row d (others p s.rows) row (record old { sound = true }) (others_row p d s.rows (other_from_not_same p d not) ∙ e)
          ∙ ap (λ (b : Bool). Some (record row { sound = b })) (sym (of_another (same p d) (is_repaired (cond old.sound replies.Present replies.Repaired)) row.sound not))
    ]

-- a put that doesn't answer Repaired, and after which the rows are found as before
unrepaired : (s : State) (root : Edge) (p : HashAndSize) (r : Reply × State) → is_repaired r.0 ≡ false
    → ((d : HashAndSize) (row : Row) → is_reached (blobs s.rows) (root ∷ []) d ≡ true → row_of d s.rows ≡ Some row → row_of d r.1.rows ≡ Some row) → PutKept s root p r
unrepaired s root p r e kept d row reached there =
    kept d row reached there
    ∙ ap (λ (b : Bool). Some (record row { sound = b })) (sym (ap (λ b. cond (same p d && b) true row.sound) e ∙ no_repair (same p d) row.sound))

-- room is made of unguarded rows alone
room_row : (s : State) (size : ℕ) (d : HashAndSize) → is_guarded s d ≡ true → row_of d (with_room s size).rows ≡ row_of d s.rows
room_row s size d is =
    let target = min s.low (s.high - size) in
    cond_both (nat_lt s.high (used s + size)) (pass s target) s (λ t. row_of d t.rows ≡ row_of d s.rows) (λ _. pass_row s target d is) (λ _. refl)

put_over_kept : (s : State) (lease : Lease) (p : HashAndSize) (edges : Option (List Edge)) (o : Option Row) → row_of p s.rows ≡ o → Contains s.leases lease → PutKept s lease.root p (put_over s p edges o)
put_over_kept s lease p edges (Some old) there has = again_kept s lease.root p old there
put_over_kept s lease p edges None there has =
    let new : Row = record { digest = p; edges = edges; sound = true } in
    let refused : Reply × State = (replies.NoSpace (guarded s) p.size s.high, s) in
    let stored : Reply × State = (replies.Stored (length s.rows - length (with_room s p.size).rows) (used (with_room s p.size) + p.size), with_row (with_room s p.size) new) in
    cond_both (nat_lt s.high (guarded s + p.size)) refused stored (PutKept s lease.root p)
    (λ _. unrepaired s lease.root p refused refl (λ d row reached e. e))
    (λ _. unrepaired s lease.root p stored refl (λ d row reached e. push_row d (with_room s p.size).rows row new (room_row s p.size d (lease_guards s lease d has reached) ∙ e)))

put_kept : (s : State) (lease : Lease) (p : HashAndSize) (edges : Option (List Edge)) → Contains s.leases lease → PutKept s lease.root p (put s p edges)
unfolding put
put_kept s lease p edges has =
    let present : Reply × State = (replies.Present, s) in
    cond_both (is_empty p) present (put_over s p edges (row_of p s.rows)) (PutKept s lease.root p)
    (λ _. unrepaired s lease.root p present refl (λ d row reached e. e))
    (λ _. put_over_kept s lease p edges (row_of p s.rows) refl has)

-- a hold changes no row
used_kept : (s : State) (root : Edge) (owner : ℕ) (p : HashAndSize) (r : Reply × State) → PutKept s root p r → PutKept s root p (holding owner p r)
used_kept s root owner p r kept d row reached e = ap (row_of d) (holding_rows owner p r) ∙ kept d row reached e

-- ---- damage, and what changes no row

unsound_is : (b : Bool) (row : Row) → cond b (record row { sound = false }) row ≡ record row { sound = cond b false row.sound }
unsound_is true row = refl
unsound_is false row = refl

pub same_swap : (a b : HashAndSize) → same a b ≡ same b a
same_swap a b = same_tests (same a b) (same b a) (λ e. same_from_equal b a (sym (equal_from_same a b e))) (λ e. same_from_equal a b (sym (equal_from_same b a e)))

damage_kept : (s : State) (root : Edge) (p : HashAndSize) → RowsKept root s.rows (damaged p s.rows) (λ d sound. if same p d then false else sound)
damage_kept s root p d row reached e =
    let is : is_of p row ≡ same p d = ap (λ (x : HashAndSize). same x p) (found_row d s.rows row e).digest ∙ same_swap d p in
    damaged_row p d s.rows
    ∙ ap (option_map (unsound_if p)) e
    ∙ ap (λ (r : Row). Some r) (unsound_is (is_of p row) row)
    ∙ ap (λ (b : Bool). Some (record row { sound = cond b false row.sound })) is

-- changes that leave the rows, or their order alone
pub unchanged : (root : Edge) (rows after : List Row) → ((d : HashAndSize) → row_of d after ≡ row_of d rows) → RowsKept root rows after (λ d sound. sound)
unchanged root rows after same_rows d row reached e = same_rows d ∙ e

read_kept : (s : State) (root : Edge) (p : HashAndSize) → RowsKept root s.rows (read s p).1.rows (λ d sound. sound)
read_kept s root p =
    chosen (λ t. RowsKept root s.rows t.rows (λ d sound. sound)) (is_here s.rows p) (replies.Found, record s { rows = touched p s.rows }) (replies.Absent, s)
    (λ _. unchanged root s.rows (touched p s.rows) (turned_touched p s.rows).row)
    (λ _ d row reached e. e)

confirmed_kept : (s : State) (root : Edge) (files : Bool) (o : Option Lease) → RowsKept root s.rows (confirmed s files o).1.rows (λ d sound. sound)
confirmed_kept s root files None d row reached e = e
confirmed_kept s root files (Some lease) d row reached e = e

released_kept : (s : State) (root : Edge) (id : ℕ) (o : Option Lease) → RowsKept root s.rows (released s id o).1.rows (λ d sound. sound)
released_kept s root id None d row reached e = e
released_kept s root id (Some lease) d row reached e = e

closed_kept : (s : State) (root : Edge) (owner : ℕ) → RowsKept root s.rows (closed s owner).1.rows (λ d sound. sound)
closed_kept s root owner =
    chosen (λ t. RowsKept root s.rows t.rows (λ d sound. sound)) (list_any (is_of_owner owner) s.leases) (replies.Refused, s) (replies.Closed, record s { owners = filter (λ o. not (nat_eq o owner)) s.owners; holds = other_holds owner s.holds })
    (λ _ d row reached e. e)
    (λ _ d row reached e. e)

-- each event keeps the rows of what a lease reaches
pub served_kept : (s : State) (owner : ℕ) (event : Event) (lease : Lease) → Contains s.leases lease
    → RowsKept lease.root s.rows (served s owner event).1.rows (λ d sound. sound_by d event (served s owner event).0 sound)
unfolding served
served_kept s owner events.Open lease has d row reached e = e
served_kept s owner (events.Put p edges) lease has d row reached e = used_kept s lease.root owner p (put s p edges) (put_kept s lease p edges has) d row reached e
served_kept s owner (events.Find ds) lease has d row reached e = (turned_touched_all ds s.rows).row d ∙ e
served_kept s owner (events.Read p) lease has d row reached e = ap (row_of d) (holding_rows owner p (read s p)) ∙ read_kept s lease.root p d row reached e
served_kept s owner (events.Lease root kind) lease has d row reached e = e
served_kept s owner (events.Confirm id files) lease has d row reached e = confirmed_kept s lease.root files (own_lease s owner id) d row reached e
served_kept s owner (events.Release id) lease has d row reached e = released_kept s lease.root id (own_lease s owner id) d row reached e
served_kept s owner (events.Damage p) lease has d row reached e = damage_kept s lease.root p d row reached e
served_kept s owner events.Pass lease has d row reached e = pass_row s s.low d (lease_guards s lease d has reached) ∙ e
served_kept s owner events.Usage lease has d row reached e = e
served_kept s owner events.Close lease has d row reached e = closed_kept s lease.root owner d row reached e
