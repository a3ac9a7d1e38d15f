-- Digests of rows, and of the bodies that are kept for them.
use Rattle.std.proofs.Common.{◌≡◌, ℕ, zero, suc, ◌+◌, ◌<◌, Bool, true, false, cond, not, nat_lt, length, ◌||◌, ◌&&◌, List, [], ◌∷◌, Option, Some, None, is_some, Result, Ok, Err, IfOk, OnErr, refl, sym, ap, subst, ◌∙◌, arith}
use Rattle.std.specs.Prelude.{find, slice_get, if◌then◌else◌}
use Rattle.std.specs.List.{list_any}
use Rattle.std.specs.Option.{option_map}
use Rattle.std.proofs.lemmas.Bool.{or_parts, cond-true}
use Rattle.std.proofs.lemmas.Map.Views.{any-filter_same}
use Rattle.digest_types.specs.Name.{HashAndSize}
use Rattle.digest_types.specs.Digest.{digest_of}
use Rattle.directory_canon.specs.declared.node.Edge.{Edge}
use Rattle.store_core.specs.declared.event.Event.{Event}
use Rattle.store_core.specs.declared.event.Event.TheVariants as events
use Rattle.store_core.specs.declared.event.Reply.{Reply}
use Rattle.store_core.specs.declared.event.Reply.TheVariants as replies
use Rattle.store_core.specs.declared.state.Row.{Row}
use Rattle.store_core.specs.declared.state.Lease.{Lease}
use Rattle.store_core.specs.State.{State, same, is_among, is_empty, is_of, is_sound, row_of, others, used, is_of_owner}
use Rattle.store_core.specs.Pass.{guarded}
use Rattle.store_core.specs.Step.{step, served, is_opening, is_open, is_here, touched, touched_all, damaged, own_lease, confirmed, released, put, put_over, read, passed}
use Rattle.store_core.proofs.RowLaws.{IsTurned, turned_touched, turned_touched_all, damaged_row, unsound_if}
use Rattle.store_core.proofs.Same.{equal_from_same}
use Rattle.store_core.proofs.Uses.{holding_rows}
use Rattle.store_core.proofs.Guarding.{same_swap}
use Rattle.indexed_core.specs.Events.{moves_bodies}
use Rattle.store_core.specs.State.{has_row}
use Rattle.indexed_core.specs.Removal.{PutsRow, removed, adds_row, told_gone}
use Rattle.indexed_core.proofs.MachineLaws.{without_none}
use Rattle.blob_store.specs.Applied.{gives_up_beside, replied_gives_up}
use Rattle.blob_store.specs.Bodies.{Sealed}
use Rattle.blob_store.specs.Kept.{Told, Stocked, told_in, AreBodiesOf, KeepsBodies, keeps_body}
use Rattle.blob_store.specs.Shelves.{Shelved, discarding}

-- ---- events that move no body

any_by : {X : Type 0} (b rest : Bool) (x : X) (o : Option X) → rest ≡ is_some o → (b || rest) ≡ is_some (cond b (Some x) o)
any_by true rest x o h = refl
any_by false rest x o h = h

any_found : {X : Type 0} (p : X → Bool) (xs : List X) → list_any p xs ≡ is_some (find p xs)
any_found p [] = refl
any_found p (x ∷ xs) = any_by (p x) (list_any p xs) x (find p xs) (any_found p xs)

-- the rows of the same digests
abbrev pub SameDigests : List Row → List Row → Type 0
SameDigests old new = (d : HashAndSize) → has_row new d ≡ has_row old d

by_turned : (old new : List Row) → IsTurned old new → SameDigests old new
by_turned old new t d = any_found (is_of d) new ∙ ap is_some (t.row d) ∙ sym (any_found (is_of d) old)

map_some : (f : Row → Row) (o : Option Row) → is_some (option_map f o) ≡ is_some o
map_some f (Some row) = refl
map_some f None = refl

by_damaged : (d : HashAndSize) (rows : List Row) → SameDigests rows (damaged d rows)
by_damaged d rows e = any_found (is_of e) (damaged d rows) ∙ ap is_some (damaged_row d e rows) ∙ map_some (unsound_if d) (row_of e rows) ∙ sym (any_found (is_of e) rows)

chosen : (rows : List Row) (b : Bool) (x y : Reply × State) → SameDigests rows x.1.rows → SameDigests rows y.1.rows → SameDigests rows (cond b x y).1.rows
chosen rows true x y hx hy = hx
chosen rows false x y hx hy = hy

by_confirmed : (s : State) (files : Bool) (o : Option Lease) → SameDigests s.rows (confirmed s files o).1.rows
by_confirmed s files None d = refl
by_confirmed s files (Some lease) d = refl

by_released : (s : State) (id : ℕ) (o : Option Lease) → SameDigests s.rows (released s id o).1.rows
by_released s id None d = refl
by_released s id (Some lease) d = refl

served_quiet : (s : State) (owner : ℕ) (event : Event) → moves_bodies event ≡ false → SameDigests s.rows (served s owner event).1.rows
unfolding served
served_quiet s owner events.Open quiet = λ d. refl
served_quiet s owner (events.Put d edges) quiet = absurd cc
served_quiet s owner (events.Find ds) quiet = by_turned s.rows (touched_all ds s.rows) (turned_touched_all ds s.rows)
served_quiet s owner (events.Read d) quiet =
    subst (SameDigests s.rows) (sym (holding_rows owner d (read s d))) (chosen s.rows (is_here s.rows d) _ _ (by_turned s.rows (touched d s.rows) (turned_touched d s.rows)) (λ e. refl))
served_quiet s owner (events.Lease root kind) quiet = λ d. refl
served_quiet s owner (events.Confirm id files) quiet = by_confirmed s files (own_lease s owner id)
served_quiet s owner (events.Release id) quiet = by_released s id (own_lease s owner id)
served_quiet s owner (events.Damage d) quiet = by_damaged d s.rows
served_quiet s owner events.Pass quiet = absurd cc
served_quiet s owner events.Usage quiet = λ d. refl
served_quiet s owner events.Close quiet = chosen s.rows (list_any (is_of_owner owner) s.leases) _ _ (λ d. refl) (λ d. refl)

-- the rows keep their digests
pub step_quiet : (s t : State) (owner : ℕ) (event : Event) (reply : Reply) → moves_bodies event ≡ false → (reply, t) ≡ step s owner event → SameDigests s.rows t.rows
unfolding step
step_quiet s t owner event reply quiet e =
    subst (λ (x : Reply × State). SameDigests s.rows x.1.rows) (sym e)
    (chosen s.rows (is_opening event || is_open s owner) (served s owner event) _ (served_quiet s owner event quiet) (λ d. refl))

-- ---- puts

-- what the reply of a put tells of the row of its digest
abbrev Tells : Bool → Reply → Type 0
Tells has reply = (adds_row reply ≡ true → has ≡ false) × (reply ≡ replies.Repaired → has ≡ true)

tells_either : (has b : Bool) (x y : Reply × State) → (b ≡ true → Tells has x.0) → (b ≡ false → Tells has y.0) → Tells has (cond b x y).0
tells_either has true x y hx hy = hx refl
tells_either has false x y hx hy = hy refl

again_tells : (has : Bool) (sound : Bool) → has ≡ true → Tells has (cond sound replies.Present replies.Repaired)
again_tells has true e = (λ t. absurd cc, λ r. absurd cc)
again_tells has false e = (λ t. absurd cc, λ r. e)

over_tells : (s : State) (d : HashAndSize) (edges : Option (List Edge)) (o : Option Row) → row_of d s.rows ≡ o → Tells (has_row s.rows d) (put_over s d edges o).0
over_tells s d edges (Some row) e = again_tells (has_row s.rows d) row.sound (any_found (is_of d) s.rows ∙ ap is_some e)
over_tells s d edges None e =
    let none : has_row s.rows d ≡ false = any_found (is_of d) s.rows ∙ ap is_some e in
    tells_either (has_row s.rows d) (nat_lt s.high (guarded s + d.size)) _ _ (λ _. (λ t. none, λ r. absurd cc)) (λ _. (λ t. none, λ r. absurd cc))

put_tells : (s : State) (d : HashAndSize) (edges : Option (List Edge)) → Tells (has_row s.rows d) (put s d edges).0
unfolding put
put_tells s d edges = tells_either (has_row s.rows d) (is_empty d) _ _ (λ _. (λ t. absurd cc, λ r. absurd cc)) (λ _. over_tells s d edges (row_of d s.rows) refl)

step_tells : (s : State) (owner : ℕ) (d : HashAndSize) (edges : Option (List Edge)) → Tells (has_row s.rows d) (step s owner (events.Put d edges)).0
unfolding step served
step_tells s owner d edges = tells_either (has_row s.rows d) (is_open s owner) _ _ (λ _. put_tells s d edges) (λ _. (λ t. absurd cc, λ r. absurd cc))

-- a put that adds a row is one of a digest that had none, and one that repairs a row is one of a digest that had one
pub put_told : (s t : State) (owner : ℕ) (d : HashAndSize) (edges : Option (List Edge)) (reply : Reply) → (reply, t) ≡ step s owner (events.Put d edges) → (adds_row reply ≡ true → has_row s.rows d ≡ false) × (reply ≡ replies.Repaired → has_row s.rows d ≡ true)
put_told s t owner d edges reply e = subst (Tells (has_row s.rows d)) (sym (ap (λ (x : Reply × State). x.0) e)) (step_tells s owner d edges)

repaired_none : (reply : Reply) (gone : List HashAndSize) → length gone ≡ told_gone reply → reply ≡ replies.Repaired → gone ≡ []
repaired_none reply [] count e = refl
repaired_none reply (d ∷ gone) count e = let none : told_gone reply ≡ 0 = ap told_gone e in absurd (omega arith)

-- ---- the bodies of the rows

kept_by : {X : Type 0} (b : Bool) (o : Option X) → is_some o ≡ b → o ≡ (if b then o else None)
kept_by true o e = refl
kept_by false None e = refl
kept_by false (Some x) e = absurd cc

-- where just the rows have bodies and none of them changes, each row keeps its own
pub all_keep : (old new : Stocked) → AreBodiesOf new.state.rows new.bodies → new.bodies ≡ old.bodies → KeepsBodies old new
all_keep old new are is d =
    kept_by (has_row new.state.rows d) (told_in new.bodies d) (are d) ∙ ap (λ (bodies : Told). if has_row new.state.rows d then told_in bodies d else None) is

joined_by : {X : Type 0} (b c : Bool) (o : Option X) → (c ≡ true → b ≡ true) → (if c then (if b then o else None) else None) ≡ (if c then o else None)
joined_by b true o h = ap (λ (x : Bool). if x then o else None) (h refl)
joined_by b false o h = refl

-- rows that keep their bodies twice
pub keep_on : (a b c : Stocked) → ((d : HashAndSize) → has_row c.state.rows d ≡ true → has_row b.state.rows d ≡ true) → KeepsBodies a b → KeepsBodies b c → KeepsBodies a c
keep_on a b c fewer first next d =
    next d ∙ ap (λ (o : Option (Option (List ℕ))). if has_row c.state.rows d then o else None) (first d)
    ∙ joined_by (has_row b.state.rows d) (has_row c.state.rows d) (told_in a.bodies d) (fewer d)

-- ---- the bodies after a put

none_by : {X : Type 0} (b : Bool) (o : Option X) → is_some o ≡ false → (if b then None else o) ≡ None
none_by true o e = refl
none_by false None e = refl
none_by false (Some x) e = absurd cc

left_by : {X : Type 0} (g h : Bool) (o : Option X) → is_some o ≡ h → (if g then None else o) ≡ (if h && not g then o else None)
left_by true true o e = refl
left_by true false o e = refl
left_by false true o e = refl
left_by false false None e = refl
left_by false false (Some x) e = absurd cc

-- a put whose body isn't kept adds no row
none_added : (reply : Reply) (b : Bool) → (keeps_body reply && b) ≡ false → (adds_row reply && b) ≡ false
none_added (replies.Stored removed used) b e = e
none_added reply b e = refl

-- the digest of a body that is kept has a row
kept_row : (reply : Reply) (s h g : Bool) → (reply ≡ replies.Repaired → s ≡ true → (h && not g) ≡ true) → (keeps_body reply && s) ≡ true → ((adds_row reply && s) || (h && not g)) ≡ true
kept_row (replies.Stored removed used) s h g repaired e = ap (λ (b : Bool). b || (h && not g)) e
kept_row replies.Repaired s h g repaired e = repaired refl e
kept_row replies.Present s h g repaired e = absurd cc
kept_row (replies.Opened owner) s h g repaired e = absurd cc
kept_row (replies.NoSpace guarded size high) s h g repaired e = absurd cc
kept_row (replies.Missing ds) s h g repaired e = absurd cc
kept_row replies.Found s h g repaired e = absurd cc
kept_row replies.Absent s h g repaired e = absurd cc
kept_row (replies.Leased lease) s h g repaired e = absurd cc
kept_row (replies.Stands standing) s h g repaired e = absurd cc
kept_row replies.Released s h g repaired e = absurd cc
kept_row replies.Marked s h g repaired e = absurd cc
kept_row (replies.Passed removed used) s h g repaired e = absurd cc
kept_row (replies.Used usage) s h g repaired e = absurd cc
kept_row replies.Closed s h g repaired e = absurd cc
kept_row replies.Refused s h g repaired e = absurd cc

put_by : {X : Type 0} (b r : Bool) (t : X) (left o : Option X) → (b ≡ false → left ≡ (if r then o else None)) → (if b then Some t else left) ≡ (if b then Some t else (if r then o else None))
put_by true r t left o e = refl
put_by false r t left o e = e refl

some_by : {X : Type 0} (b r : Bool) (t : X) (left : Option X) → (b ≡ true → r ≡ true) → (b ≡ false → is_some left ≡ r) → is_some (if b then Some t else left) ≡ r
some_by true r t left kept other = sym (kept refl)
some_by false r t left kept other = other refl

and_by : {X : Type 0} (g h : Bool) (o : Option X) → is_some o ≡ h → is_some (if g then None else o) ≡ (h && not g)
and_by true true o e = refl
and_by true false o e = refl
and_by false true o e = e
and_by false false o e = e

module _ (old : List Row) (bodies left : Told) (gone : List HashAndSize) (are : AreBodiesOf old bodies)
    (is : (d : HashAndSize) → told_in left d ≡ (if is_among gone d then None else told_in bodies d)) where
  -- when the rows of `gone` went, a digest without a row has no body
  pub left_new : (d : HashAndSize) → has_row old d ≡ false → told_in left d ≡ None
  left_new d e = is d ∙ none_by (is_among gone d) (told_in bodies d) (are d ∙ e)

  -- and one that is repaired has its body
  pub left_there : (reply : Reply) (d : HashAndSize) → length gone ≡ told_gone reply → (reply ≡ replies.Repaired → has_row old d ≡ true) → reply ≡ replies.Repaired → is_some (told_in left d) ≡ true
  left_there reply d count there e =
      ap is_some (is d ∙ ap (λ (ds : List HashAndSize). if is_among ds d then None else told_in bodies d) (repaired_none reply gone count e)) ∙ are d ∙ there e

  module _ (blob : Sealed) (reply : Reply) (new : List Row) (now : Told) (puts : PutsRow blob.digest reply gone old new) (there : reply ≡ replies.Repaired → has_row old blob.digest ≡ true)
      (set : (d : HashAndSize) → told_in now d ≡ (if keeps_body reply && same blob.digest d then Some blob.told else told_in left d)) where
    repaired_row : (d : HashAndSize) → reply ≡ replies.Repaired → same blob.digest d ≡ true → (has_row old d && not (is_among gone d)) ≡ true
    repaired_row d e s =
        ap (λ (ds : List HashAndSize). has_row old d && not (is_among ds d)) (repaired_none reply gone puts.count e)
        ∙ ap (λ (x : HashAndSize). has_row old x && true) (sym (equal_from_same blob.digest d s)) ∙ ap (λ (b : Bool). b && true) (there e)

    other_row : (d : HashAndSize) → (keeps_body reply && same blob.digest d) ≡ false → has_row new d ≡ (has_row old d && not (is_among gone d))
    other_row d e = puts.there d ∙ ap (λ (b : Bool). b || (has_row old d && not (is_among gone d))) (none_added reply (same blob.digest d) e)

    -- with the body of the put just the rows have bodies
    pub put_bodies : AreBodiesOf new now
    put_bodies d =
        ap is_some (set d)
        ∙ some_by (keeps_body reply && same blob.digest d) (has_row new d) blob.told (told_in left d)
        (λ e. puts.there d ∙ kept_row reply (same blob.digest d) (has_row old d) (is_among gone d) (repaired_row d) e)
        (λ e. ap is_some (is d) ∙ and_by (is_among gone d) (has_row old d) (told_in bodies d) (are d) ∙ sym (other_row d e))

    -- and each other row has the one that it had
    pub put_keeps : (d : HashAndSize) → told_in now d ≡ (if keeps_body reply && same blob.digest d then Some blob.told else (if has_row new d then told_in bodies d else None))
    put_keeps d =
        set d
        ∙ put_by (keeps_body reply && same blob.digest d) (has_row new d) blob.told (told_in left d) (told_in bodies d)
        (λ e. is d ∙ left_by (is_among gone d) (has_row old d) (told_in bodies d) (are d) ∙ ap (λ (b : Bool). if b then told_in bodies d else None) (sym (other_row d e)))

-- ---- one row less

less_by : {X : Type 0} (s h : Bool) (o : Option X) → is_some o ≡ h → (if s then None else o) ≡ (if not s && h then o else None)
less_by true h o e = refl
less_by false true o e = refl
less_by false false None e = refl
less_by false false (Some x) e = absurd cc

less_some : {X : Type 0} (s h : Bool) (o : Option X) → is_some o ≡ h → is_some (if s then None else o) ≡ (not s && h)
less_some true h o e = refl
less_some false h o e = e

less_row : (rows : List Row) (x d : HashAndSize) → has_row (others x rows) d ≡ (not (same x d) && has_row rows d)
less_row rows x d =
    any-filter_same (is_of d) (λ (row : Row). not (is_of x row)) (not (same d x)) (λ row t. ap (λ (y : HashAndSize). not (same y x)) (equal_from_same row.digest d t)) rows
    ∙ ap (λ (b : Bool). not b && has_row rows d) (same_swap d x)

second : (a b : Bool) → (a && b) ≡ true → b ≡ true
second true b e = e
second false b e = absurd cc

-- the rows that are left were there
pub less_fewer : (rows : List Row) (x d : HashAndSize) → has_row (others x rows) d ≡ true → has_row rows d ≡ true
less_fewer rows x d e = second (not (same x d)) (has_row rows d) (sym (less_row rows x d) ∙ e)

module _ (rows : List Row) (bodies now : Told) (x : HashAndSize) (are : AreBodiesOf rows bodies) (is : (d : HashAndSize) → told_in now d ≡ (if same x d then None else told_in bodies d)) where
  -- where the row of a digest goes with its body, just the rows have bodies
  pub less_bodies : AreBodiesOf (others x rows) now
  less_bodies d = ap is_some (is d) ∙ less_some (same x d) (has_row rows d) (told_in bodies d) (are d) ∙ sym (less_row rows x d)

  -- and each other row keeps its own
  pub less_keeps : (d : HashAndSize) → told_in now d ≡ (if has_row (others x rows) d then told_in bodies d else None)
  less_keeps d = is d ∙ less_by (same x d) (has_row rows d) (told_in bodies d) (are d) ∙ ap (λ (b : Bool). if b then told_in bodies d else None) (sym (less_row rows x d))

-- ---- how many bodies a put gives up

pub put_counted : (reply : Reply) (n : ℕ) (a m b : Shelved) → n ≡ told_gone reply → m ≡ discarding n a → b ≡ discarding (gives_up_beside reply) m → b ≡ discarding (replied_gives_up reply) a
unfolding gives_up_beside replied_gives_up
put_counted (replies.Stored removed used) n a m b count gone own = own ∙ gone ∙ ap (λ (k : ℕ). discarding k a) count
put_counted reply n a m b count gone own = own ∙ ap (discarding 1) (gone ∙ ap (λ (k : ℕ). discarding k a) count)

-- ---- what is there without a row

no_sound_by : (a b rest : Bool) → a ≡ false → rest ≡ false → ((a && b) || rest) ≡ false
no_sound_by true b rest e f = absurd cc
no_sound_by false b rest e f = f

no_sound : (rows : List Row) (d : HashAndSize) → has_row rows d ≡ false → is_sound rows d ≡ false
no_sound [] d none = refl
no_sound (row ∷ rows) d none = let h = or_parts (is_of d row) (has_row rows d) none in no_sound_by (is_of d row) row.sound (is_sound rows d) h.0 (no_sound rows d h.1)

pub empty_from_here : (rows : List Row) (d : HashAndSize) → is_here rows d ≡ true → has_row rows d ≡ false → d ≡ digest_of []
empty_from_here rows d here none = equal_from_same d (digest_of []) (by (is_empty d) (is_sound rows d) here (no_sound rows d none))
  where
    by : (a b : Bool) → (a || b) ≡ true → b ≡ false → a ≡ true
    by true b e f = refl
    by false true e f = absurd cc
    by false false e f = absurd cc

-- ---- an event that moves no body

-- just the rows have bodies after it too
pub step_bodies : {E : Type 0} (old new : State) (bodies : Told) (owner : ℕ) (event : Event) (r : Result Reply E) → moves_bodies event ≡ false → AreBodiesOf old.rows bodies
    → IfOk r (λ reply. (reply, new) ≡ step old owner event) → OnErr r (new ≡ old) → AreBodiesOf new.rows bodies
step_bodies old new bodies owner event (Ok reply) quiet are ok err = λ d. are d ∙ sym (step_quiet old new owner event reply quiet ok d)
step_bodies old new bodies owner event (Err e) quiet are ok err = λ d. are d ∙ ap (λ (s : State). has_row s.rows d) (sym err)

-- ---- a pass

pub some_at : {X : Type 0} (xs : List X) (i : ℕ) → i < length xs → slice_get xs i ≡ None → ⊥
some_at [] i lt e = absurd (omega arith)
some_at (x ∷ xs) zero lt e = cc
some_at (x ∷ xs) (suc i) lt e = some_at xs i (omega arith) e

-- before the first row goes
pub removed_none : (s : State) → s ≡ removed s 0
removed_none s = sym (ap (λ (rows : List Row). record s { rows = rows }) (without_none s.rows))

-- after the last one
pub pass_step : (s t : State) (owner removes bytes : ℕ) → is_open s owner ≡ true → passed s ≡ (replies.Passed removes (used (removed s removes)), removed s removes) → t ≡ removed s removes → bytes ≡ used t
    → (replies.Passed removes bytes, t) ≡ step s owner events.Pass
unfolding step served
pass_step s t owner removes bytes opened is end count =
    (λ i. (replies.Passed removes (by_count i), end i)) ∙ sym is ∙ sym (cond-true (is_open s owner) (passed s) (replies.Refused, s) opened)
  where
    by_count : bytes ≡ used (removed s removes)
    by_count = count ∙ ap used end

-- ---- what becomes of the body of a put

-- one that is neither stored nor repairs is given up
pub other_reply : (reply : Reply) → ((removes bytes : ℕ) → reply ≡ replies.Stored removes bytes → ⊥) → (reply ≡ replies.Repaired → ⊥) → (keeps_body reply ≡ false) × (gives_up_beside reply ≡ 1)
unfolding gives_up_beside
other_reply (replies.Stored removes bytes) stored repaired = absurd (stored removes bytes refl)
other_reply replies.Repaired stored repaired = absurd (repaired refl)
other_reply reply stored repaired = (refl, refl)
