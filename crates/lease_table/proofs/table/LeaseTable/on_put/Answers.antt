use Rattle.std.proofs.Common.{◌≡◌, ◌+◌, ◌-◌, ◌<◌, ◌≤◌, ◌^◌, ◌∙◌, ◌∷◌, ◌++◌, ◌||◌, [], ℕ, Bool, List, Option, true, false, not, cond, refl, sym, ap, subst, arith}
use Rattle.std.specs.Prelude.{nat_lt}
use Rattle.std.specs.List.{list_any}
use Rattle.std.specs.Option.{option_copied}
use Rattle.digest_types.specs.Name.{HashAndSize}
use Rattle.directory_canon.specs.declared.node.Edge.{Edge}
use Rattle.std.proofs.lemmas.Bool.{or_left, or_right}
use Rattle.store_core.specs.State.{Holds, is_among, is_held}
use Rattle.store_core.proofs.Same.{same_itself}
use Rattle.store_core.specs.Reach.{Linked}
use Rattle.lease_table.specs.declared.lease_reach.LeaseReach.{LeaseReach}
use Rattle.lease_table.specs.Table.{Table, is_blob, has_row, is_guarded, sizes, without, others, Distinct}
use Rattle.lease_table.specs.Tallies.{one_at, count_in, IsTallied}
use Rattle.lease_table.specs.Holds.{holders, with_holder}
use Rattle.lease_table.specs.LeaseReaches.{Share, shares, wholes, leases_of, total_in, guards_in, AreReached, AreFull, IsKept}
use Rattle.lease_table.proofs.KeptLaws.{table_of, kept_without, without_push, others_push, last_left, tallied_row, sizes_push, leases_same, leases_whole, gone_loose, kept_put, moved, all_same, distinct_new, none_left_out}
use Rattle.lease_table.proofs.TallyLaws.{bytes_within}
use Rattle.lease_table.proofs.LeaseReachLaws.{tallied_same, plus_assoc}
use Rattle.lease_table.proofs.LeaseReachesLaws.{total_fits}
use Rattle.lease_table.proofs.HoldLaws.{none_counted, rows_held, holders_fit}
use Rattle.lease_table.proofs.table.LeaseTable.on_put.Goals as goal

-- the new row
abbrev New : HashAndSize → Option (List Edge) → Linked
New d edges = record { digest = d; edges = edges }

-- the rows that are left are those before, without those that go, and the new one
left : (gone : List HashAndSize) (rows pushed : List Linked) (d : HashAndSize) (copy edges : Option (List Edge)) → pushed ≡ rows ++ New d copy ∷ [] → copy ≡ edges → is_among gone d ≡ false → without gone pushed ≡ without gone rows ++ New d edges ∷ []
left gone rows pushed d copy edges is same out =
    ap (without gone) (is ∙ ap (λ (e : Option (List Edge)). rows ++ New d e ∷ []) same) ∙ without_push gone rows (New d edges) out

-- and of others, those before
before : (gone : List HashAndSize) (rows pushed : List Linked) (d : HashAndSize) (copy edges : Option (List Edge)) → pushed ≡ rows ++ New d copy ∷ [] → copy ≡ edges → is_among gone d ≡ false → list_any (is_blob d) rows ≡ false
    → others d (without gone pushed) ≡ without gone rows
before gone rows pushed d copy edges is same out none =
    ap (λ (xs : List Linked). others d (without gone xs)) (is ∙ ap (λ (e : Option (List Edge)). rows ++ New d e ∷ []) same) ∙ last_left gone rows (New d edges) out none

-- what is kept without the rows that go
fewer : (rows : List Linked) (kept : List LeaseReach) (holds : List Holds) (counts : List (HashAndSize × ℕ)) (bytes : ℕ) (gone told : List HashAndSize) (t : Table) → table_of rows kept holds ≡ t → told ≡ gone → ((d : HashAndSize) → is_among gone d ≡ true → is_guarded t d ≡ false)
    → IsKept rows kept holds counts bytes → IsKept (without told rows) kept holds counts bytes
fewer rows kept holds counts bytes gone told t view is loose h =
    kept_without rows (λ row. not (is_among told row.digest)) kept holds counts bytes
    (λ row there out. gone_loose told (table_of rows kept holds) (λ d e. ap (λ (x : Table). is_guarded x d) view ∙ loose d (ap (λ (ds : List HashAndSize). is_among ds d) (sym is) ∙ e)) row out)
    h

pub prepare-requires-clause-last : goal.prepare-requires-clause-last
prepare-requires-clause-last c =
    let d = c.args.digest.now in
    let gone = c.as_slice.result.now in
    let rows = c.self.inside.rows in
    let out = ap (λ (ds : List HashAndSize). is_among ds d) c.as_slice.ensures ∙ c.requires.others in
    let none = ap (λ (t : Table). has_row t d) c.self.view_is ∙ c.requires.new in
    left gone rows c.push.new.self d c.in_ok-copy.copy (option_copied c.args.edges) c.in_ok-push.ensures.ok c.in_ok-copy.ensures out
    ∙ ap (λ (xs : List Linked). xs ++ New d (option_copied c.args.edges) ∷ []) (sym (before gone rows c.push.new.self d c.in_ok-copy.copy (option_copied c.args.edges) c.in_ok-push.ensures.ok c.in_ok-copy.ensures out none))

pub prepare-requires-clause-reached : goal.prepare-requires-clause-reached
prepare-requires-clause-reached c =
    let d = c.args.digest.now in
    let gone = c.as_slice.result.now in
    let inside = c.self.inside in
    let out = ap (λ (ds : List HashAndSize). is_among ds d) c.as_slice.ensures ∙ c.requires.others in
    let none = ap (λ (t : Table). has_row t d) c.self.view_is ∙ c.requires.new in
    subst (λ (xs : List Linked). AreReached xs (shares inside.kept.items)) (sym (before gone inside.rows c.push.new.self d c.in_ok-copy.copy (option_copied c.args.edges) c.in_ok-push.ensures.ok c.in_ok-copy.ensures out none))
    (fewer inside.rows inside.kept.items inside.holds.items inside.tally.counts.entries inside.tally.bytes c.args.gone.now gone c.args.self.now c.self.view_is c.as_slice.ensures c.requires.unguarded c.self.invariant).reached

-- the rows after a refused call
again : (rows pushed now : List Linked) (d : HashAndSize) (copy : Option (List Edge)) → pushed ≡ rows ++ New d copy ∷ [] → now ≡ others d pushed → list_any (is_blob d) rows ≡ false → now ≡ rows
again rows pushed now d copy is e none = e ∙ ap (others d) is ∙ others_push rows (New d copy) none

pub prepare-requires-clause-counted : goal.prepare-requires-clause-counted
prepare-requires-clause-counted c =
    let inside = c.self.inside in
    let h = c.self.invariant in
    let d = c.args.digest.now in
    let nothing = none_counted inside.rows inside.holds.items d h.held (ap (λ (t : Table). has_row t d) c.self.view_is ∙ c.requires.new) in
    h.tallied.counted d ∙ omega (arith, nothing)

-- what is kept after a refused call
kept_again : (rows now : List Linked) (kept after : List LeaseReach) (holds held : List Holds) (counts more : List (HashAndSize × ℕ)) (bytes sum : ℕ) → now ≡ rows → shares after ≡ shares kept → AreFull after → held ≡ holds → more ≡ counts → sum ≡ bytes
    → IsKept rows kept holds counts bytes → IsKept now after held more sum
kept_again rows now kept after holds held counts more bytes sum e same full f p q h =
    subst (λ (xs : List Linked). IsKept xs after held more sum) (sym e)
    (subst (λ (hs : List Holds). IsKept rows after hs more sum) (sym f)
    (record {
      distinct = h.distinct;
      small = h.small;
      full = full;
      reached = subst (AreReached rows) (sym same) h.reached;
      held = h.held;
      tallied = moved rows (guards_in (shares kept) holds) (guards_in (shares after) holds) counts more bytes sum (ap (λ (ms : List Share). guards_in ms holds) (sym same)) (sym p) (sym q) h.tallied;
    }))

pub invariant_of-self-in-Err : goal.invariant_of-self-in-Err
invariant_of-self-in-Err c =
    let inside = c.self.inside in
    let d = c.args.digest.now in
    let none = ap (λ (t : Table). has_row t d) c.self.view_is ∙ c.requires.new in
    kept_again inside.rows c.remove_one-in-Err.new.self inside.kept.items c.prepare.new.kept.items inside.holds.items inside.holds.items inside.tally.counts.entries c.prepare.new.tally.counts.entries inside.tally.bytes c.prepare.new.tally.bytes
    (again inside.rows c.push.new.self c.remove_one-in-Err.new.self d c.in_ok-copy.copy c.in_ok-push.ensures.ok c.remove_one-in-Err.ensures none)
    c.prepare.ensures.same c.in-Err.ensures.full refl c.prepare.ensures.counts c.prepare.ensures.bytes c.self.invariant

pub returns-in-Err-clause-err : goal.returns-in-Err-clause-err
returns-in-Err-clause-err c =
    let inside = c.self.inside in
    let d = c.args.digest.now in
    let none = ap (λ (t : Table). has_row t d) c.self.view_is ∙ c.requires.new in
    let rows : c.remove_one-in-Err.new.self ≡ inside.rows = again inside.rows c.push.new.self c.remove_one-in-Err.new.self d c.in_ok-copy.copy c.in_ok-push.ensures.ok c.remove_one-in-Err.ensures none in
    let leases : leases_of c.prepare.new.kept.items ≡ leases_of inside.kept.items = leases_same c.prepare.new.kept.items inside.kept.items c.prepare.ensures.same in
    all_same c.remove_one-in-Err.new.self inside.rows (leases_of c.prepare.new.kept.items) (leases_of inside.kept.items) inside.holds.items inside.holds.items rows leases refl ∙ c.self.view_is

pub invariant_of-self-in-Err-hold_if : goal.invariant_of-self-in-Err-hold_if
invariant_of-self-in-Err-hold_if c =
    let inside = c.self.inside in
    let d = c.args.digest.now in
    let none = ap (λ (t : Table). has_row t d) c.self.view_is ∙ c.requires.new in
    kept_again inside.rows c.remove_one.new.self inside.kept.items c.cut.new.kept.items inside.holds.items c.hold_if.new.holds.items inside.tally.counts.entries c.prepare.new.tally.counts.entries inside.tally.bytes c.prepare.new.tally.bytes
    (again inside.rows c.push.new.self c.remove_one.new.self d c.in_ok-copy.copy c.in_ok-push.ensures.ok c.remove_one.ensures none)
    (c.cut.ensures.same ∙ c.prepare.ensures.same) c.cut.ensures.full c.in-Err-hold_if.ensures.err c.prepare.ensures.counts c.prepare.ensures.bytes c.self.invariant

pub returns-in-Err-hold_if-clause-err : goal.returns-in-Err-hold_if-clause-err
returns-in-Err-hold_if-clause-err c =
    let inside = c.self.inside in
    let d = c.args.digest.now in
    let none = ap (λ (t : Table). has_row t d) c.self.view_is ∙ c.requires.new in
    let rows : c.remove_one.new.self ≡ inside.rows = again inside.rows c.push.new.self c.remove_one.new.self d c.in_ok-copy.copy c.in_ok-push.ensures.ok c.remove_one.ensures none in
    let leases : leases_of c.cut.new.kept.items ≡ leases_of inside.kept.items = leases_same c.cut.new.kept.items inside.kept.items (c.cut.ensures.same ∙ c.prepare.ensures.same) in
    all_same c.remove_one.new.self inside.rows (leases_of c.cut.new.kept.items) (leases_of inside.kept.items) c.hold_if.new.holds.items inside.holds.items rows leases c.in-Err-hold_if.ensures.err ∙ c.self.view_is

any_push : (p : Linked → Bool) (rows : List Linked) (new : Linked) → list_any p (rows ++ new ∷ []) ≡ (list_any p rows || p new)
any_push p [] new = by (p new)
  where
    by : (b : Bool) → (b || false) ≡ b
    by true = refl
    by false = refl
any_push p (row ∷ rows) new = ap (λ (b : Bool). p row || b) (any_push p rows new) ∙ by (p row) (list_any p rows) (p new)
  where
    by : (a b c : Bool) → (a || (b || c)) ≡ ((a || b) || c)
    by true b c = refl
    by false b c = refl

-- what is kept once all is counted
kept_now : (left : List Linked) (new : Linked) (rows : List Linked) (kept ready after : List LeaseReach) (old holds : List Holds) (more : Bool) (counts told put grown now : List (HashAndSize × ℕ)) (bytes sum with_row last final : ℕ)
    → rows ≡ left ++ new ∷ [] → sizes left + new.digest.size ≤ 2 ^ 62 → list_any (is_blob new.digest) left ≡ false → IsKept left kept old counts bytes
    → shares ready ≡ shares kept → told ≡ counts → sum ≡ bytes → put ≡ told → with_row ≡ sum + cond (nat_lt 0 (count_in told new.digest)) new.digest.size 0
    → AreReached rows (wholes ready) → shares after ≡ wholes ready → AreFull after
    → (((d : HashAndSize) → holders old d < 2 ^ 63) → IsTallied rows (λ d. total_in (shares ready) d + holders old d) put with_row → IsTallied rows (λ d. total_in (shares after) d + holders old d) grown last)
    → ((q : HashAndSize) → holders holds q ≡ holders old q + cond more (one_at new.digest q) 0)
    → (total_in (shares after) new.digest + holders old new.digest < 2 ^ 64 - 1 → sizes rows ≤ 2 ^ 62 → IsTallied rows (λ d. total_in (shares after) d + holders old d) grown last → IsTallied rows (λ d. (total_in (shares after) d + holders old d) + cond more (one_at new.digest d) 0) now final)
    → ((d : HashAndSize) → holders old d < 2 ^ 63) → total_in (shares after) new.digest < 2 ^ 63
    → IsKept rows after holds now final
kept_now left new rows kept ready after old holds more counts told put grown now bytes sum with_row last final is small none h same p q r size reached wholes_are full count more_is count_hold fits few =
    let fits_all : sizes rows ≤ 2 ^ 62 = let s = ap sizes is ∙ sizes_push left new in omega (arith, s, small) in
    let has_new : list_any (is_blob new.digest) rows ≡ true = ap (list_any (is_blob new.digest)) is ∙ any_push (is_blob new.digest) left new ∙ or_right (list_any (is_blob new.digest) left) (is_blob new.digest new) (same_itself new.digest) in
    let held_old : (d : HashAndSize) → is_held old d ≡ true → list_any (is_blob d) rows ≡ true =
    λ d e. ap (list_any (is_blob d)) is ∙ any_push (is_blob d) left new ∙ or_left (list_any (is_blob d) left) (is_blob d new) (h.held d e) in
    let before : IsTallied rows (λ d. total_in (shares ready) d + holders old d) put with_row =
    subst (λ (xs : List Linked). IsTallied xs (λ d. total_in (shares ready) d + holders old d) put with_row) (sym is)
    (tallied_row left new (λ d. total_in (shares ready) d + holders old d) put sum with_row
    (size ∙ ap (λ cs. sum + cond (nat_lt 0 (count_in cs new.digest)) new.digest.size 0) (sym r))
    (moved left (guards_in (shares kept) old) (λ d. total_in (shares ready) d + holders old d) counts put bytes sum (ap (λ (ms : List Share). guards_in ms old) (sym same)) (sym (r ∙ p)) (sym q) h.tallied)) in
    kept_put rows after holds now final ready
    (subst Distinct (sym is) (distinct_new left new h.distinct none))
    fits_all full reached wholes_are
    (rows_held rows old holds new.digest more more_is has_new held_old)
    (tallied_same rows (λ d. (total_in (shares after) d + holders old d) + cond more (one_at new.digest d) 0) (guards_in (shares after) holds) now final
    (λ d. plus_assoc (total_in (shares after) d) (holders old d) (cond more (one_at new.digest d) 0) ∙ ap (λ (n : ℕ). total_in (shares after) d + n) (sym (more_is d)))
    (count_hold (let less = fits new.digest in omega (arith, few, less)) fits_all (count fits before)))

pub invariant_of-self-in-Ok-hold_if : goal.invariant_of-self-in-Ok-hold_if
invariant_of-self-in-Ok-hold_if c =
    let inside = c.self.inside in
    let d = c.args.digest.now in
    let gone = c.as_slice-in-Ok-hold_if.result.now in
    let new = New d (option_copied c.args.edges) in
    let out = ap (λ (ds : List HashAndSize). is_among ds d) c.as_slice-in-Ok-hold_if.ensures ∙ c.requires.others in
    let none = ap (λ (t : Table). has_row t d) c.self.view_is ∙ c.requires.new in
    let is : c.remove.new.self ≡ without gone inside.rows ++ new ∷ [] = c.remove.ensures ∙ left gone inside.rows c.push.new.self d c.in_ok-copy.copy (option_copied c.args.edges) c.in_ok-push.ensures.ok c.in_ok-copy.ensures out in
    let kept = fewer inside.rows inside.kept.items inside.holds.items inside.tally.counts.entries inside.tally.bytes c.args.gone.now gone c.args.self.now c.self.view_is c.as_slice-in-Ok-hold_if.ensures c.requires.unguarded c.self.invariant in
    let less = ap sizes (ap (λ (ds : List HashAndSize). without ds inside.rows) c.as_slice-in-Ok-hold_if.ensures ∙ ap (λ (t : Table). without c.args.gone.now t.blobs) c.self.view_is) in
    let small = c.requires.small in
    let bytes = c.prepare.ensures.bytes in
    let within = bytes_within (guards_in (shares inside.kept.items) inside.holds.items) (without gone inside.rows) in
    let sum = kept.tallied.summed in
    let fits = kept.small in
    kept_now (without gone inside.rows) new c.remove.new.self inside.kept.items c.prepare.new.kept.items c.count_grown.new.kept.items inside.holds.items c.hold_if.new.holds.items c.in-Ok-hold_if.new
    inside.tally.counts.entries c.prepare.new.tally.counts.entries c.add_row.new.self.counts.entries c.count_grown.new.tally.counts.entries c.count_hold.new.tally.counts.entries
    inside.tally.bytes c.prepare.new.tally.bytes c.add_row.new.self.bytes c.count_grown.new.tally.bytes c.count_hold.new.tally.bytes
    is (omega (arith, less, small)) (none_left_out gone inside.rows d none) kept
    c.prepare.ensures.same c.prepare.ensures.counts bytes (ap (λ m. m.entries) c.add_row.ensures.counts)
    (c.add_row.ensures.bytes (omega (arith, bytes, within, sum, fits)))
    (subst (λ (rows : List Linked). AreReached rows (wholes c.prepare.new.kept.items)) (ap (λ (ds : List HashAndSize). without ds c.push.new.self) (c.as_slice.ensures ∙ sym c.as_slice-in-Ok-hold_if.ensures) ∙ sym c.remove.ensures) c.in-Ok.ensures.reached)
    c.count_grown.ensures.wholes c.count_grown.ensures.full
    (c.count_grown.ensures.tallied (holders inside.holds.items))
    c.in-Ok-hold_if.ensures.new
    (c.count_hold.ensures.tallied (λ q. total_in (shares c.count_grown.new.kept.items) q + holders inside.holds.items q))
    (λ q. let few = holders_fit inside.holds.items q in omega (arith, few))
    (let few = total_fits c.count_grown.new.kept.items d in omega (arith, few))

pub returns-in-Ok-hold_if-clause-ok : goal.returns-in-Ok-hold_if-clause-ok
returns-in-Ok-hold_if-clause-ok c =
    let inside = c.self.inside in
    let d = c.args.digest.now in
    let gone = c.as_slice-in-Ok-hold_if.result.now in
    let new = New d (option_copied c.args.edges) in
    let out = ap (λ (ds : List HashAndSize). is_among ds d) c.as_slice-in-Ok-hold_if.ensures ∙ c.requires.others in
    let rows : c.remove.new.self ≡ without c.args.gone.now inside.rows ++ new ∷ [] =
    c.remove.ensures ∙ left gone inside.rows c.push.new.self d c.in_ok-copy.copy (option_copied c.args.edges) c.in_ok-push.ensures.ok c.in_ok-copy.ensures out
    ∙ ap (λ (ds : List HashAndSize). without ds inside.rows ++ new ∷ []) c.as_slice-in-Ok-hold_if.ensures in
    let leases : leases_of c.count_grown.new.kept.items ≡ leases_of inside.kept.items =
    leases_whole c.count_grown.new.kept.items c.prepare.new.kept.items c.count_grown.ensures.wholes ∙ leases_same c.prepare.new.kept.items inside.kept.items c.prepare.ensures.same in
    all_same c.remove.new.self (without c.args.gone.now inside.rows ++ new ∷ []) (leases_of c.count_grown.new.kept.items) (leases_of inside.kept.items) c.hold_if.new.holds.items (with_holder c.args.holder d inside.holds.items) rows leases c.in-Ok-hold_if.ensures.ok
    ∙ ap (λ (t : Table). record t { blobs = without c.args.gone.now t.blobs ++ new ∷ []; holds = with_holder c.args.holder d t.holds }) c.self.view_is
