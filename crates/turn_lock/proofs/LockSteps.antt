-- Each kind of step keeps the rule of a turn lock.
use Rattle.std.proofs.Common.{◌≡◌, ◌≢◌, ◌⊎◌, ℕ, zero, suc, ◌+◌, ◌-◌, ◌%◌, ◌^◌, ◌<◌, ◌≤◌, Bool, true, false, List, [], ◌∷◌, ◌++◌, length, set, get_or, cond, eqb, eq-eqb, ne_eqb, Option, Some, None, IfSome, refl, sym, ap, ◌∙◌, subst, ⊎_elim, inl, inr, arith, length-append}
use mathlib.Core.Logic.{dite}
use mathlib.Core.Option.{none, some, some-injective, some-ne-none}
use mathlib.Core.Option as maybe
use native.Mathlib.Decide.{ℕ_discrete}
use lib.ListN.{get_elem?}
use lib.Seq.{set-get_or}
use Rattle.atomic_table.specs.Table.{Me, Act, Valid, keeps, takes, gives, Allows, Splits, Joins, Seen, opening, stepped, carried_after}
use Rattle.atomic_table.specs.Table as table
use Rattle.atomic_table.proofs.Lists.{set_here, set_else, set_again, at_longer}
use Rattle.store_core.specs.State.{State}
use Rattle.store_core.specs.History.{Entry, state, IsLegalAt, Legal, own}
use Rattle.store_core.specs.Step.{is_opening}
use Rattle.turn_lock.specs.declared.phase.Phase.{Phase}
use Rattle.turn_lock.specs.declared.phase.Phase.TheVariants.{Idle, Waits, HasTurn, Gone}
use Rattle.turn_lock.specs.Views.{View, Extends, state_of, first_view, stays, fresh, both, spent, with_entry}
use Rattle.turn_lock.specs.LockRule.{total, tickets, Point, next, Stage, IsPresent, Each, Whole, IsHome, IsOut, Kept}
use Rattle.turn_lock.specs.Kinds.{Drew, IsDue, Looked, Entered, PassedOn, Learnt}
use Rattle.turn_lock.proofs.ViewLists.{here, at_end, same_at, each_set, total_set, total_within, two_within, total_more, total_less, total_one, extends_itself, extends_none, extends_more, extends_shorter, either_longer, longer_whole}
use Rattle.turn_lock.proofs.Owners.{step_next, opens_next, state_none, state_more, legal_more, legal_before, own_other, own_more, own_between}

-- ---- where a seat stands

abbrev pub ticket_of : Phase → ℕ
ticket_of Idle = 0
ticket_of (Waits t) = t + 1
ticket_of (HasTurn t) = t + 1
ticket_of Gone = 0

abbrev pub kind_of : Phase → ℕ
kind_of Idle = 0
kind_of (Waits t) = 1
kind_of (HasTurn t) = 2
kind_of Gone = 3

here_if : (p : Phase) (k : ℕ) → kind_of p ≡ k → k < 3 → p ≢ Gone
here_if p k is small gone = let z : kind_of p ≡ 3 = ap kind_of gone in absurd (omega arith)

gone_or : (p : Phase) → (p ≡ Gone) ⊎ (p ≢ Gone)
gone_or Idle = inr (here_if Idle 0 refl (omega arith))
gone_or (Waits t) = inr (here_if (Waits t) 1 refl (omega arith))
gone_or (HasTurn t) = inr (here_if (HasTurn t) 2 refl (omega arith))
gone_or Gone = inl refl

both_some : {A : Type 0} (o : Option A) (P Q R : A → Type 0) → ((x : A) → P x → Q x → R x) → IfSome o P → IfSome o Q → IfSome o R
both_some (Some x) P Q R f p q = f x p q
both_some None P Q R f p q = tt

-- ---- sums

-- a view is replaced: what becomes of the sums
pub record Sums (vs ws : List View) (v w : View) : Type 0 where
  pub left : total (λ u. u.left) ws + v.left ≡ total (λ u. u.left) vs + w.left
  pub made : total (λ u. u.made) ws + v.made ≡ total (λ u. u.made) vs + w.made
  pub grant : total (λ u. u.grant) ws + v.grant ≡ total (λ u. u.grant) vs + w.grant
  pub tickets : total (λ u. tickets u.phase) ws + tickets v.phase ≡ total (λ u. tickets u.phase) vs + tickets w.phase

sums : (vs : List View) (id : ℕ) (v w : View) → get_elem? vs id ≡ some v → Sums vs (set vs id w) v w
sums vs id v w at = record {
  left = total_set (λ u. u.left) vs id v w at;
  made = total_set (λ u. u.made) vs id v w at;
  grant = total_set (λ u. u.grant) vs id v w at;
  tickets = total_set (λ u. tickets u.phase) vs id v w at;
}

-- ---- one view among others

whole_set : (log : List Entry) (vs : List View) (id : ℕ) (v w : View) → get_elem? vs id ≡ some v → w.phase ≢ Gone → (v.seen ≡ log → w.seen ≡ log) → Whole log vs → Whole log (set vs id w)
whole_set log vs id v w at stays seen x = dite (ℕ_discrete x.0 id)
    (λ e. let mine : x.1 ≡ v = same_at vs id x.1 v (subst (λ (k : ℕ). get_elem? vs k ≡ some x.1) e x.2) at in
    (id, w, here vs id v w at, stays, seen (ap (λ (u : View). u.seen) (sym mine) ∙ x.4)))
    (λ other. (x.0, x.1, set_else vs id x.0 w other ∙ x.2, x.3, x.4))

-- what holds of another seat after a step that changes the same for all
pub Moves : Point → Point → ℕ → Type 0
Moves p q id = (j : ℕ) (u : View) → j ≢ id → IsPresent p j u → IsPresent q j u

-- each view after one is replaced
pub each_moved : (p q : Point) (vs : List View) (id : ℕ) (w : View) → Each q id w → ((j : ℕ) (u : View) → j ≢ id → IsPresent p j u → IsPresent q j u)
    → ((j : ℕ) (u : View) → get_elem? vs j ≡ some u → Each p j u) → (j : ℕ) (u : View) → get_elem? (set vs id w) j ≡ some u → Each q j u
each_moved p q vs id w mine moves all = each_set (Each q) vs id w mine (λ j u other is. let x = all j u is in ((λ h. moves j u other (x.0 h)), x.1))

module _ {T : Type 0} (stands : T → State) where
  abbrev M : Type 0
  M = Me (Option T) View

  abbrev St : Type 0
  St = table.State (Option T) View

  abbrev Rule : St → Type 0
  Rule = Kept stands

  kept : (s : St) (p : Point) → s.words ≡ p.drawn ∷ p.ended ∷ [] → Legal p.start p.log → p.drawn ≡ p.ended + total (λ v. tickets v.phase) s.views → p.drawn + total (λ v. v.left) s.views ≤ 2 ^ 63
      → total (λ v. v.made) s.views ≡ length p.log → total (λ v. v.grant) s.views ≡ 2 ^ 63 → ((id : ℕ) (v : View) → get_elem? s.views id ≡ some v → Each p id v)
      → ((o : ℕ) → next p ≤ o → own o p.log ≡ []) → Whole p.log s.views → IsHome stands p s.homes ⊎ IsOut stands p.ended s.views → Rule s
  kept s p words legal tickets room made grants each unknown whole value = record {
    point = p;
    words = words;
    legal = legal;
    tickets = tickets;
    room = room;
    made = made;
    grants = grants;
    each = each;
    unknown = unknown;
    whole = whole;
    value = value;
  }

  live : (s : St) (r : Rule s) (id : ℕ) (v : View) (k : ℕ) → get_elem? s.views id ≡ some v → kind_of v.phase ≡ k → k < 3 → IsPresent r.point id v
  live s r id v k at is small = (r.each id v at).0 (here_if v.phase k is small)

  stays_out : (ended id : ℕ) (vs : List View) (v w : View) → get_elem? vs id ≡ some v → (v.phase ≡ HasTurn ended → w.phase ≡ HasTurn ended) → IsOut stands ended vs → IsOut stands ended (set vs id w)
  stays_out ended id vs v w at keep out = dite (ℕ_discrete out.0 id)
      (λ e. let mine : out.1 ≡ v = same_at vs id out.1 v (subst (λ (k : ℕ). get_elem? vs k ≡ some out.1) e out.2) at in
      (id, w, here vs id v w at, keep (ap (λ (u : View). u.phase) (sym mine) ∙ out.3)))
      (λ other. (out.0, out.1, set_else vs id out.0 w other ∙ out.2, out.3))

  keeps_value : (p : Point) (id : ℕ) (homes : List (maybe.Option (Option T))) (vs : List View) (v w : View) → get_elem? vs id ≡ some v
      → (v.phase ≡ HasTurn p.ended → w.phase ≡ HasTurn p.ended) → IsHome stands p homes ⊎ IsOut stands p.ended vs → IsHome stands p homes ⊎ IsOut stands p.ended (set vs id w)
  keeps_value p id homes vs v w at keep = ⊎_elim inl (λ o. inr (stays_out p.ended id vs v w at keep o))

  not_turn : (p : Phase) (t k : ℕ) {X : Type 0} → kind_of p ≡ k → k < 2 → p ≡ HasTurn t → X
  not_turn p t k is small turn = absurd (let z : kind_of p ≡ 2 = ap kind_of turn in omega arith)

  -- ---- draw

  drawn_stage : (p : Point) (id j : ℕ) (seen : List Entry) (ph : Phase) → Stage p j seen ph → Stage (record p { drawn = p.drawn + 1; holder = λ k. cond (eqb k p.drawn) id (p.holder k) }) j seen ph
  drawn_stage p id j seen Idle s = s
  drawn_stage p id j seen Gone s = s
  drawn_stage p id j seen (Waits t) s = let l = s.1 in (s.0, omega arith, ap (λ b. cond b id (p.holder t)) (ne_eqb t p.drawn (λ is. omega arith)) ∙ s.2)
  drawn_stage p id j seen (HasTurn t) s = let l = s.0.1 in ((s.0.0, omega arith, ap (λ b. cond b id (p.holder t)) (ne_eqb t p.drawn (λ is. omega arith)) ∙ s.0.2), s.1, s.2)

  drawn_live : (p : Point) (id j : ℕ) (u : View) → IsPresent p j u → IsPresent (record p { drawn = p.drawn + 1; holder = λ k. cond (eqb k p.drawn) id (p.holder k) }) j u
  drawn_live p id j u l = record {
    start = l.start;
    seen = l.seen;
    told = l.told;
    owner = l.owner;
    budget = l.budget;
    granted = l.granted;
    stage = drawn_stage p id j u.seen u.phase l.stage;
  }

  pub draws : (slots id : ℕ) (me : M) → me.0.phase ≡ Idle → 0 < me.0.left → Allows Rule slots id me 0 (λ n. (n + 1) % 2 ^ 64) (Drew stands me)
  draws slots id me idle some_left s r wide at small =
      let v : View = me.0 in
      let p : Point = r.point in
      let found : get_or s.words 0 0 ≡ p.drawn = ap (λ (l : List ℕ). get_or l 0 0) r.words in
      let w : View = record v { phase = Waits (get_or s.words 0 0); left = v.left - 1; owed = 1 } in
      let q : Point = record p { drawn = p.drawn + 1; holder = λ k. cond (eqb k p.drawn) id (p.holder k) } in
      let mine = live s r id v 0 at (ap kind_of idle) (omega arith) in
      let su = sums s.views id v w at in
      let part = total_within (λ u. u.left) s.views id v at in
      let idle_tickets : tickets v.phase ≡ 0 = ap tickets idle in (
        w,
        keeps,
        tt,
        kept _ q
            (ap (λ (l : List ℕ). set l 0 ((get_or l 0 0 + 1) % 2 ^ 64)) r.words ∙ ap (λ (n : ℕ). n ∷ p.ended ∷ []) (omega (arith, r.room)))
            r.legal
            (omega (arith, r.tickets, su.tickets, idle_tickets))
            (omega (arith, r.room, su.left, part, some_left))
            (omega (arith, r.made, su.made))
            (omega (arith, r.grants, su.grant))
            (each_moved p q s.views id w (
              (λ _. record {
                start = mine.start;
                seen = mine.seen;
                told = mine.told;
                owner = mine.owner;
                budget = omega (arith, mine.budget, some_left);
                granted = mine.granted;
                stage = subst (λ (n : ℕ). Stage q id v.seen (Waits n)) (sym found) (omega (arith, r.tickets), omega arith, ap (λ b. cond b id (p.holder p.drawn)) (eq-eqb p.drawn p.drawn refl));
              }),
              (λ gone. absurd (here_if w.phase 1 refl (omega arith) gone)),
            )
            (λ j u other l. drawn_live p id j u l)
            r.each)
            r.unknown
            (whole_set p.log s.views id v w at (here_if w.phase 1 refl (omega arith)) (λ e. e) r.whole)
            (keeps_value q id s.homes s.views v w at (not_turn v.phase p.ended 0 (ap kind_of idle) (omega arith)) r.value),
        refl,
      )

  -- ---- look

  -- a seat's entries and one more are at most what it was given, so the history has room
  at_most : (p : Point) (j : ℕ) (u : View) → Each p j u → u.made ≤ u.grant
  at_most p j u each = ⊎_elim (λ gone. let none = each.1 gone in omega arith) (λ h. let l = each.0 h in omega (arith, l.budget)) (gone_or u.phase)

  few : (s : St) (r : Rule s) (id : ℕ) (v : View) → get_elem? s.views id ≡ some v → IsPresent r.point id v → v.owed ≡ 1 → length r.point.log < 2 ^ 63
  few s r id v at l owes =
      let less : v.made < v.grant = omega (arith, l.budget, owes) in
      let sum = total_less (λ u. u.made) (λ u. u.grant) s.views id v at less (λ j u is. at_most r.point j u (r.each j u is)) in
      omega (arith, sum, r.made, r.grants)

  -- what a seat has seen is legal
  pub legal_seen : (s : St) (r : Rule s) (id : ℕ) (v : View) → IsPresent r.point id v → Legal v.start v.seen
  legal_seen s r id v l = subst (λ (z : State). Legal z v.seen) (sym l.start) (legal_before r.point.start v.seen l.seen.0 (subst (Legal r.point.start) l.seen.1 r.legal))

  -- where a seat has seen the whole history, its own entries are those of its owner
  own_seen : (p : Point) (id : ℕ) (v : View) (seen : List Entry) → IsPresent p id v → seen ≡ p.log → IfSome v.owner (λ o. own o seen ≡ v.mine)
  own_seen p id v seen l whole = both_some v.owner (λ o. (o < next p) × (p.keeper o ≡ id) × (own o p.log ≡ v.mine)) (λ o. Unit {0}) (λ o. own o seen ≡ v.mine) (λ o x _. ap (own o) whole ∙ x.2) l.owner (each_unit v.owner)
    where
      each_unit : (o : Option ℕ) → IfSome o (λ _. Unit {0})
      each_unit (Some x) = tt
      each_unit None = tt

  -- a ticket that is due is one seat's, so no other has the turn
  at_home : (id t : ℕ) (v : View) (s : St) (r : Rule s) → get_elem? s.views id ≡ some v → v.phase ≡ Waits t → t ≡ r.point.ended → IsHome stands r.point s.homes
  at_home id t v s r at waits due = ⊎_elim (λ h. h)
      (λ out.
      let p = r.point in
      let mine = subst (Stage p id v.seen) waits (live s r id v 1 at (ap kind_of waits) (omega arith)).stage in
      let its = subst (Stage p out.0 out.1.seen) out.3 (live s r out.0 out.1 2 out.2 (ap kind_of out.3) (omega arith)).stage in
      let one : out.0 ≡ id = sym its.0.2 ∙ ap p.holder (sym due) ∙ mine.2 in
      let same : out.1 ≡ v = same_at s.views id out.1 v (subst (λ (k : ℕ). get_elem? s.views k ≡ some out.1) one out.2) at in
      let z : 2 ≡ 1 = ap kind_of (sym out.3 ∙ ap (λ (u : View). u.phase) same ∙ waits) in absurd (omega arith))
      r.value

  comes : (slots id t : ℕ) (me : M) (s : St) (r : Rule s) → get_elem? s.views id ≡ some me.0 → me.0.phase ≡ Waits t → me.0.owed ≡ 1 → me.1 ≡ [] → t ≡ r.point.ended → IsHome stands r.point s.homes
      → (w : View) × (a : Act (Option T)) × Valid s.homes me.1 a × Rule (stepped s 1 (get_or s.words 1 0) id me.1 w a) × IsDue stands me t (w, carried_after me.1 a)
  comes slots id t me s r at waits owes empty due home =
      let v : View = me.0 in
      let p : Point = r.point in
      let w : View = record v { phase = HasTurn t; seen = p.log } in
      let mine = live s r id v 1 at (ap kind_of waits) (omega arith) in
      let stage = subst (Stage p id v.seen) waits mine.stage in
      let su = sums s.views id v w at in
      let one : tickets v.phase ≡ 1 = ap tickets waits in
      let same : Legal v.start p.log = subst (λ (z : State). Legal z p.log) (sym mine.start) r.legal in (
        w,
        takes 0 (Some home.0),
        home.1,
        kept _ p
            (ap (λ (l : List ℕ). set l 1 (get_or l 1 0)) r.words)
            r.legal
            (omega (arith, r.tickets, su.tickets, one))
            (omega (arith, r.room, su.left))
            (omega (arith, r.made, su.made))
            (omega (arith, r.grants, su.grant))
            (each_moved p p s.views id w (
              (λ _. record {
                start = mine.start;
                seen = extends_itself p.log;
                told = mine.told;
                owner = mine.owner;
                budget = mine.budget;
                granted = mine.granted;
                stage = (stage, due, refl);
              }),
              (λ gone. absurd (here_if w.phase 2 refl (omega arith) gone)),
            )
            (λ j u other l. l)
            r.each)
            r.unknown
            (id, w, here s.views id v w at, here_if w.phase 2 refl (omega arith), refl)
            (inr (id, w, here s.views id v w at, ap HasTurn due)),
        record {
          seen = mine.seen;
          view = refl;
          legal = same;
          few = few s r id v at mine owes;
          is_own = own_seen p id v p.log mine refl;
          value = home.0;
          slot = ap (λ l. (0, Some home.0) ∷ l) empty;
          is_value = home.2 ∙ ap (λ (z : State). state z p.log) (sym mine.start);
        },
      )

  pub looks : (slots id t : ℕ) (me : M) → me.0.phase ≡ Waits t → me.0.owed ≡ 1 → me.1 ≡ [] → Allows Rule slots id me 1 (λ n. n) (Looked stands me)
  looks slots id t me waits owes empty s r wide at small =
      let e : ℕ = get_or s.words 1 0 in
      let found : e ≡ r.point.ended = ap (λ (l : List ℕ). get_or l 1 0) r.words in
      dite (ℕ_discrete t e)
      (λ due. let c = comes slots id t me s r at waits owes empty (due ∙ found) (at_home id t me.0 s r at waits (due ∙ found)) in
      (c.0, c.1, c.2, c.3, ((λ _. subst (λ (n : ℕ). IsDue stands me n (c.0, carried_after me.1 c.1)) due c.4), (λ not. absurd (not (waits ∙ ap Waits due))))))
      (λ early. (
        me.0,
        keeps,
        tt,
        subst (λ (ws : List ℕ). Rule record { words = ws; homes = s.homes; views = set s.views id me.0 }) (sym (set-get_or s.words 1 0))
            (subst (λ (vs : List View). Rule record { words = s.words; homes = s.homes; views = vs }) (sym (set_again s.views id me.0 at)) r),
        ((λ is. absurd (early (let z : t + 1 ≡ e + 1 = ap ticket_of (sym waits ∙ is) in omega arith))), (λ _. refl)),
      ))

  -- ---- enter

  -- the point after an entry of the seat that has the turn
  abbrev pub after : Point → ℕ → Entry → Point
  after p id e = record p { log = p.log ++ e ∷ []; keeper = λ k. cond (eqb k e.owner) id (p.keeper k) }

  -- whose entry it is: at Open the next owner's, who has made none yet, else the seat's owner's
  record MayEnter (p : Point) (id : ℕ) (v : View) (e : Entry) : Type 0 where
    owner : (cond (is_opening e.event) (Some e.owner) v.owner) ≡ Some e.owner
    base : own e.owner p.log ≡ cond (is_opening e.event) [] v.mine
    below : e.owner < next (after p id e)
    apart : (j : ℕ) (u : View) → j ≢ id → IsPresent p j u → IfSome u.owner (λ o. e.owner ≢ o)

  grows : (p : Point) (id : ℕ) (e : Entry) → next p ≤ next (after p id e)
  grows p id e = let is = ap (λ (z : State). z.next_owner) (state_more p.start p.log e) in let up = step_next (state p.start p.log) e.owner e.event in omega (arith, is, up)

  may_enter : (p : Point) (id : ℕ) (v : View) (e : Entry) (b : Bool) → is_opening e.event ≡ b → ((o : ℕ) → next p ≤ o → own o p.log ≡ []) → IsPresent p id v → IsLegalAt (state p.start p.log) e
      → (is_opening e.event ≡ false → v.owner ≡ Some e.owner) → MayEnter p id v e
  may_enter p id v e true is unknown l at whose =
      let opens = opens_next (state p.start p.log) e at is in
      let more = ap (λ (z : State). z.next_owner) (state_more p.start p.log e) in record {
        owner = ap (λ (b : Bool). cond b (Some e.owner) v.owner) is;
        base = unknown e.owner (omega (arith, opens.0)) ∙ ap (λ (b : Bool). cond b [] v.mine) (sym is);
        below = omega (arith, opens.0, opens.1, more);
        apart = λ j u other x. both_some u.owner (λ o. (o < next p) × (p.keeper o ≡ j) × (own o p.log ≡ u.mine)) (λ o. (o < next p) × (p.keeper o ≡ j) × (own o p.log ≡ u.mine)) (λ o. e.owner ≢ o)
            (λ o h _ same. let below = h.0 in absurd (omega (arith, opens.0, same, below))) x.owner x.owner;
      }
  may_enter p id v e false is unknown l at whose =
      let mine : (e.owner < next p) × (p.keeper e.owner ≡ id) × (own e.owner p.log ≡ v.mine) = subst (λ (o : Option ℕ). IfSome o (λ o. (o < next p) × (p.keeper o ≡ id) × (own o p.log ≡ v.mine))) (whose is) l.owner in record {
        owner = ap (λ (b : Bool). cond b (Some e.owner) v.owner) is ∙ whose is;
        base = mine.2 ∙ ap (λ (b : Bool). cond b [] v.mine) (sym is);
        below = let up = grows p id e in let low = mine.0 in omega (arith, up, low);
        apart = λ j u other x. both_some u.owner (λ o. (o < next p) × (p.keeper o ≡ j) × (own o p.log ≡ u.mine)) (λ o. (o < next p) × (p.keeper o ≡ j) × (own o p.log ≡ u.mine)) (λ o. e.owner ≢ o)
            (λ o h _ same. other (sym h.1 ∙ ap p.keeper (sym same) ∙ mine.1)) x.owner x.owner;
      }

  -- another seat's view
  longer_stage : (p : Point) (id j : ℕ) (e : Entry) (seen : List Entry) (ph : Phase) → j ≢ id → p.holder p.ended ≡ id → Stage p j seen ph → Stage (after p id e) j seen ph
  longer_stage p id j e seen Idle other turn s = s
  longer_stage p id j e seen Gone other turn s = s
  longer_stage p id j e seen (Waits t) other turn s = s
  longer_stage p id j e seen (HasTurn t) other turn s = absurd (other (sym s.0.2 ∙ ap p.holder s.1 ∙ turn))

  longer_live : (p : Point) (id j : ℕ) (v u : View) (e : Entry) → j ≢ id → p.holder p.ended ≡ id → MayEnter p id v e → IsPresent p j u → IsPresent (after p id e) j u
  longer_live p id j v u e other turn may l = record {
    start = l.start;
    seen = extends_more u.seen p.log (e ∷ []) l.seen;
    told = extends_more u.told p.log (e ∷ []) l.told;
    owner = both_some u.owner (λ o. (o < next p) × (p.keeper o ≡ j) × (own o p.log ≡ u.mine)) (λ o. e.owner ≢ o)
        (λ o. (o < next (after p id e)) × (cond (eqb o e.owner) id (p.keeper o) ≡ j) × (own o (p.log ++ e ∷ []) ≡ u.mine))
        (λ o h not. (
          (let up = grows p id e in let low = h.0 in omega (arith, up, low)),
          ap (λ b. cond b id (p.keeper o)) (ne_eqb o e.owner (λ is. not (sym is))) ∙ h.1,
          own_other o p.log e not ∙ h.2,
        ))
        l.owner
        (may.apart j u other l);
    budget = l.budget;
    granted = l.granted;
    stage = longer_stage p id j e u.seen u.phase other turn l.stage;
  }

  pub enters : (slots id t : ℕ) (e : Entry) (me : M) → me.0.phase ≡ HasTurn t → me.0.owed ≡ 1 → IsLegalAt (state_of me.0) e → (is_opening e.event ≡ false → me.0.owner ≡ Some e.owner)
      → Allows Rule slots id me 1 (λ n. n) (Entered stands e me)
  enters slots id t e me turn owes legal whose s r wide at small =
      let v : View = me.0 in
      let p : Point = r.point in
      let q : Point = after p id e in
      let w : View = with_entry e v in
      let mine = live s r id v 2 at (ap kind_of turn) (omega arith) in
      let stage = subst (Stage p id v.seen) turn mine.stage in
      let here_turn : p.holder p.ended ≡ id = ap p.holder (sym stage.1) ∙ stage.0.2 in
      let whole : v.seen ++ e ∷ [] ≡ q.log = ap (λ (l : List Entry). l ++ e ∷ []) stage.2 in
      let there : IsLegalAt (state p.start p.log) e = subst (λ (z : State). IsLegalAt z e) (λ i. state (mine.start i) (stage.2 i)) legal in
      let may = may_enter p id v e (is_opening e.event) refl r.unknown mine there whose in
      let own_now : own e.owner q.log ≡ w.mine = own_more e.owner p.log e refl ∙ ap (λ (l : List Entry). l ++ e ∷ []) may.base in
      let good : Legal p.start q.log = legal_more p.start p.log e r.legal there in
      let su = sums s.views id v w at in
      let not_gone = here_if v.phase 2 (ap kind_of turn) (omega arith) in (
        w,
        keeps,
        tt,
        kept _ q
            (ap (λ (l : List ℕ). set l 1 (get_or l 1 0)) r.words)
            good
            (omega (arith, r.tickets, su.tickets))
            (omega (arith, r.room, su.left))
            (omega (arith, r.made, su.made, length-append p.log (e ∷ [])))
            (omega (arith, r.grants, su.grant))
            (each_moved p q s.views id w (
              (λ _. record {
                start = mine.start;
                seen = subst (λ (l : List Entry). Extends l q.log) (sym whole) (extends_itself q.log);
                told = extends_more v.told p.log (e ∷ []) mine.told;
                owner = subst (λ (o : Option ℕ). IfSome o (λ o. (o < next q) × (q.keeper o ≡ id) × (own o q.log ≡ w.mine))) (sym may.owner)
                    (may.below, ap (λ b. cond b id (p.keeper e.owner)) (eq-eqb e.owner e.owner refl), own_now);
                budget = omega (arith, mine.budget, owes);
                granted = mine.granted;
                stage = subst (Stage q id w.seen) (sym turn) (stage.0, stage.1, whole);
              }),
              (λ gone. absurd (not_gone gone)),
            )
            (λ j u other l. longer_live p id j v u e other here_turn may l)
            r.each)
            (λ o far. let up = grows p id e in own_other o p.log e (λ same. let low = may.below in absurd (omega (arith, same, low, far))) ∙ r.unknown o (omega (arith, up, far)))
            (id, w, here s.views id v w at, not_gone, whole)
            (inr (id, w, here s.views id v w at, turn ∙ ap HasTurn stage.1)),
        (
          refl,
          subst (λ (x : State × List Entry). Legal x.0 x.1) (λ i. (sym mine.start i, sym whole i)) good,
          subst (λ (o : Option ℕ). IfSome o (λ o. own o w.seen ≡ w.mine)) (sym may.owner) (ap (own e.owner) whole ∙ own_now),
        ),
      )

  -- ---- pass on

  passed_stage : (p : Point) (id j : ℕ) (seen : List Entry) (ph : Phase) → j ≢ id → p.holder p.ended ≡ id → Stage p j seen ph → Stage (record p { ended = p.ended + 1 }) j seen ph
  passed_stage p id j seen Idle other turn s = s
  passed_stage p id j seen Gone other turn s = s
  passed_stage p id j seen (Waits t) other turn s = let l = s.0 in let not : t ≢ p.ended = λ is. other (sym s.2 ∙ ap p.holder is ∙ turn) in (omega arith, s.1, s.2)
  passed_stage p id j seen (HasTurn t) other turn s = absurd (other (sym s.0.2 ∙ ap p.holder s.1 ∙ turn))

  passed_live : (p : Point) (id j : ℕ) (u : View) → j ≢ id → p.holder p.ended ≡ id → IsPresent p j u → IsPresent (record p { ended = p.ended + 1 }) j u
  passed_live p id j u other turn l = record {
    start = l.start;
    seen = l.seen;
    told = l.told;
    owner = l.owner;
    budget = l.budget;
    granted = l.granted;
    stage = passed_stage p id j u.seen u.phase other turn l.stage;
  }

  pub passes : (id t : ℕ) (v : View) (x : T) → v.phase ≡ HasTurn t → stands x ≡ state_of v
      → Allows Rule 1 id (v, (0, Some x) ∷ []) 1 (λ n. (n + 1) % 2 ^ 64) (PassedOn stands (v, (0, Some x) ∷ []))
  passes id t v x turn is_value s r wide at small =
      let p : Point = r.point in
      let q : Point = record p { ended = p.ended + 1 } in
      let w : View = record v { phase = Idle; owed = 0 } in
      let mine = live s r id v 2 at (ap kind_of turn) (omega arith) in
      let stage = subst (Stage p id v.seen) turn mine.stage in
      let here_turn : p.holder p.ended ≡ id = ap p.holder (sym stage.1) ∙ stage.0.2 in
      let below : t < p.drawn = stage.0.1 in
      let due : t ≡ p.ended = stage.1 in
      let one : tickets v.phase ≡ 1 = ap tickets turn in
      let su = sums s.views id v w at in (
        w,
        gives,
        tt,
        kept _ q
            (ap (λ (l : List ℕ). set l 1 ((get_or l 1 0 + 1) % 2 ^ 64)) r.words ∙ ap (λ (n : ℕ). p.drawn ∷ n ∷ []) (omega (arith, r.room, below, due)))
            r.legal
            (omega (arith, r.tickets, su.tickets, one))
            (omega (arith, r.room, su.left))
            (omega (arith, r.made, su.made))
            (omega (arith, r.grants, su.grant))
            (each_moved p q s.views id w (
              (λ _. record {
                start = mine.start;
                seen = mine.seen;
                told = mine.told;
                owner = mine.owner;
                budget = omega (arith, mine.budget);
                granted = mine.granted;
                stage = tt;
              }),
              (λ gone. absurd (here_if w.phase 0 refl (omega arith) gone)),
            )
            (λ j u other l. passed_live p id j u other here_turn l)
            r.each)
            r.unknown
            (whole_set p.log s.views id v w at (here_if w.phase 0 refl (omega arith)) (λ e. e) r.whole)
            (inl (x, set_here s.homes 0 (some (Some x)) (omega arith), is_value ∙ (λ i. state (mine.start i) (stage.2 i)))),
        refl,
      )

  -- ---- split

  pub splits : (id turns : ℕ) (v : View) → v.phase ≡ Idle → 0 < turns → turns < v.left → Splits Rule id v (stays turns v) (fresh turns v)
  splits id turns v idle some_turns fit s r at =
      let p : Point = r.point in
      let w : View = stays turns v in
      let u : View = fresh turns v in
      let vs : List View = set s.views id w in
      let mine = live s r id v 0 at (ap kind_of idle) (omega arith) in
      let su = sums s.views id v w at in
      let part = total_within (λ u. u.left) s.views id v at in
      let part_granted = total_within (λ u. u.grant) s.views id v at in
      let not_gone = here_if v.phase 0 (ap kind_of idle) (omega arith) in
      let whole = whole_set p.log s.views id v w at not_gone (λ e. e) r.whole in
      let old = each_moved p p s.views id w (
        (λ _. record {
          start = mine.start;
          seen = mine.seen;
          told = mine.told;
          owner = mine.owner;
          budget = omega (arith, mine.budget, fit);
          granted = omega (arith, mine.budget, fit);
          stage = subst (Stage p id v.seen) (sym idle) tt;
        }),
        (λ gone. absurd (not_gone gone)),
      )
      (λ j u other l. l)
      r.each in
      kept _ p r.words r.legal
      (omega (arith, r.tickets, su.tickets, total_more (λ u. tickets u.phase) vs u))
      (omega (arith, r.room, su.left, part, fit, total_more (λ u. u.left) vs u))
      (omega (arith, r.made, su.made, total_more (λ u. u.made) vs u))
      (omega (arith, r.grants, su.grant, part_granted, mine.budget, fit, total_more (λ u. u.grant) vs u))
      (λ j x is. ⊎_elim (old j x)
      (λ (n : (j ≡ length vs) × (u ≡ x)). subst (Each p j) n.1 (
        (λ _. record {
          start = mine.start;
          seen = mine.seen;
          told = extends_none p.log;
          owner = tt;
          budget = omega arith;
          granted = some_turns;
          stage = tt;
        }),
        (λ gone. absurd (here_if u.phase 0 refl (omega arith) gone)),
      ))
      (at_end vs u x j is))
      r.unknown
      (whole.0, whole.1, at_longer vs (u ∷ []) whole.0 whole.1 whole.2, whole.3, whole.4)
      (⊎_elim inl (λ (o : IsOut stands p.ended vs). inr (o.0, o.1, at_longer vs (u ∷ []) o.0 o.1 o.2, o.3)) (keeps_value p id s.homes s.views v w at (λ e. e) r.value))

  -- ---- join

  pub joins : (id : ℕ) (v : View) (other : ℕ) (o : View) → v.phase ≡ Idle → o.phase ≡ Idle → Joins Rule id v other o (both v o) spent
  joins id v other o idle resting s r at apart there =
      let p : Point = r.point in
      let w : View = both v o in
      let vs : List View = set s.views id w in
      let its : get_elem? s.views other ≡ some o = sym (set_else s.views id other w apart) ∙ there in
      let mine = live s r id v 0 at (ap kind_of idle) (omega arith) in
      let theirs = live s r other o 0 its (ap kind_of resting) (omega arith) in
      let su = sums s.views id v w at in
      let su_too = sums vs other o spent there in
      let none_held : tickets v.phase ≡ 0 = ap tickets idle in
      let none_held_too : tickets o.phase ≡ 0 = ap tickets resting in
      let not_gone = here_if v.phase 0 (ap kind_of idle) (omega arith) in
      let begins = either_longer (λ l. Extends l p.log) v.seen o.seen mine.seen theirs.seen in
      let first = each_moved p p s.views id w (
        (λ _. record {
          start = mine.start;
          seen = begins.0;
          told = begins.1;
          owner = mine.owner;
          budget = omega (arith, mine.budget, theirs.budget);
          granted = omega (arith, mine.granted);
          stage = subst (Stage p id w.seen) (sym idle) tt;
        }),
        (λ gone. absurd (not_gone gone)),
      )
      (λ j u _ l. l)
      r.each in
      let stays_here : get_elem? (set vs other spent) id ≡ some w = set_else vs other id spent (λ e. apart (sym e)) ∙ here s.views id v w at in
      let moved : Whole p.log s.views → Whole p.log (set vs other spent) = λ x. dite (ℕ_discrete x.0 id)
      (λ e. let same : x.1 ≡ v = same_at s.views id x.1 v (subst (λ (k : ℕ). get_elem? s.views k ≡ some x.1) e x.2) at in
      (id, w, stays_here, not_gone, longer_whole p.log v.seen o.seen mine.seen theirs.seen (inl (ap (λ (u : View). u.seen) (sym same) ∙ x.4))))
      (λ not_id. dite (ℕ_discrete x.0 other)
      (λ e. let same : x.1 ≡ o = same_at s.views other x.1 o (subst (λ (k : ℕ). get_elem? s.views k ≡ some x.1) e x.2) its in
      (id, w, stays_here, not_gone, longer_whole p.log v.seen o.seen mine.seen theirs.seen (inr (ap (λ (u : View). u.seen) (sym same) ∙ x.4))))
      (λ not_other. (x.0, x.1, set_else vs other x.0 spent not_other ∙ (set_else s.views id x.0 w not_id ∙ x.2), x.3, x.4))) in
      kept _ p r.words r.legal
      (omega (arith, r.tickets, su.tickets, su_too.tickets, none_held, none_held_too))
      (omega (arith, r.room, su.left, su_too.left))
      (omega (arith, r.made, su.made, su_too.made))
      (omega (arith, r.grants, su.grant, su_too.grant))
      (each_set (Each p) vs other spent ((λ h. absurd (h refl)), (λ _. refl)) (λ j x _ is. first j x is))
      r.unknown
      (moved r.whole)
      (keeps_value p other s.homes vs o spent there (not_turn o.phase p.ended 0 (ap kind_of resting) (omega arith))
      (keeps_value p id s.homes s.views v w at (λ e. e) r.value))

  -- a joined seat learns that it has seen all that either had
  pub learns : (slots id : ℕ) (me : M) → me.0.phase ≡ Idle → length me.0.told ≤ length me.0.seen → Allows Rule slots id me 1 (λ n. n) (Learnt stands me)
  learns slots id me idle no_longer s r wide at small =
      let v : View = me.0 in
      let p : Point = r.point in
      let w : View = record v { told = [] } in
      let part = total_within (λ u. u.grant) s.views id v at in
      let mine = live s r id v 0 at (ap kind_of idle) (omega arith) in
      let owned : (o : ℕ) → v.owner ≡ Some o → IfSome v.owner (λ o. (o < next p) × (p.keeper o ≡ id) × (own o p.log ≡ v.mine)) → (o < next p) × (p.keeper o ≡ id) × (own o p.log ≡ v.mine) =
      λ o is h. subst (λ (x : Option ℕ). IfSome x (λ o. (o < next p) × (p.keeper o ≡ id) × (own o p.log ≡ v.mine))) is h in
      let su = sums s.views id v w at in
      let not_gone = here_if v.phase 0 (ap kind_of idle) (omega arith) in (
        w,
        keeps,
        tt,
        kept _ p
            (ap (λ (l : List ℕ). set l 1 (get_or l 1 0)) r.words)
            r.legal
            (omega (arith, r.tickets, su.tickets))
            (omega (arith, r.room, su.left))
            (omega (arith, r.made, su.made))
            (omega (arith, r.grants, su.grant))
            (each_moved p p s.views id w (
              (λ _. record {
                start = mine.start;
                seen = mine.seen;
                told = extends_none p.log;
                owner = mine.owner;
                budget = mine.budget;
                granted = mine.granted;
                stage = mine.stage;
              }),
              (λ gone. absurd (not_gone gone)),
            )
            (λ j u other l. l)
            r.each)
            r.unknown
            (whole_set p.log s.views id v w at not_gone (λ e. e) r.whole)
            (keeps_value p id s.homes s.views v w at (λ e. e) r.value),
        record {
          me = refl;
          begins = extends_shorter p.log v.seen v.told mine.seen mine.told no_longer;
          own = λ o before is begun own_before. own_between o before v.seen p.log v.mine begun mine.seen own_before (owned o is mine.owner).2;
          legal = legal_seen s r id v mine;
          few = omega (arith, r.grants, part);
        },
      )

  -- ---- the ends

  pub opens : (x : T) → Rule (opening (0 ∷ 0 ∷ []) (Some x ∷ []) (first_view (stands x)))
  opens x = kept _ p refl tt (omega arith) (omega arith) (omega arith) (omega arith)
      (first (Each p) ((λ _. record { start = refl; seen = extends_none []; told = extends_none []; owner = tt; budget = omega arith; granted = omega arith; stage = tt }), (λ gone. refl)))
      (λ _ _. refl)
      (0, first_view (stands x), refl, here_if Idle 0 refl (omega arith), refl)
      (inl (x, refl, state_none (stands x)))
    where
      p : Point
      p = record { start = stands x; log = []; drawn = 0; ended = 0; holder = λ _. 0; keeper = λ _. 0 }

      first : (P : ℕ → View → Type 0) → P 0 (first_view (stands x)) → (id : ℕ) (v : View) → get_elem? (first_view (stands x) ∷ []) id ≡ some v → P id v
      first P h zero v e = subst (P 0) (some-injective _ _ e) h
      first P h (suc id) v e = absurd (some-ne-none v (sym e))

  -- a seat that has every grant is the only one, so it has seen all, and the value is at home
  pub alone : (s : St) (id : ℕ) (v : View) → Seen Rule id v s → v.phase ≡ Idle → v.grant ≡ 2 ^ 63
      → (x : T) × (get_elem? s.homes 0 ≡ some (some (Some x))) × (stands x ≡ state_of v) × (v.made ≡ length v.seen)
  alone s id v its idle all =
      let r = its.0 in
      let at = its.1 in
      let p = r.point in
      let only : (j : ℕ) (u : View) → j ≢ id → get_elem? s.views j ≡ some u → u.phase ≡ Gone = λ j u other is.
      ⊎_elim (λ gone. gone) (λ h. let two = two_within (λ x. x.grant) s.views j id u v other is at in let some_grant = ((r.each j u is).0 h).granted in absurd (omega (arith, two, some_grant, r.grants, all))) (gone_or u.phase) in
      let mine = live s r id v 0 at (ap kind_of idle) (omega arith) in
      let w = r.whole in
      let same : w.1 ≡ v = dite (ℕ_discrete w.0 id) (λ e. same_at s.views id w.1 v (subst (λ (k : ℕ). get_elem? s.views k ≡ some w.1) e w.2) at) (λ other. absurd (w.3 (only w.0 w.1 other w.2))) in
      let seen : v.seen ≡ p.log = ap (λ (u : View). u.seen) (sym same) ∙ w.4 in
      let home : IsHome stands p s.homes = ⊎_elim (λ h. h)
      (λ out. dite (ℕ_discrete out.0 id)
      (λ e. let one : out.1 ≡ v = same_at s.views id out.1 v (subst (λ (k : ℕ). get_elem? s.views k ≡ some out.1) e out.2) at in
      not_turn v.phase p.ended 0 (ap kind_of idle) (omega arith) (ap (λ (u : View). u.phase) (sym one) ∙ out.3))
      (λ other. let z : 3 ≡ 2 = ap kind_of (sym (only out.0 out.1 other out.2) ∙ out.3) in absurd (omega arith)))
      r.value in
      let sum = total_one (λ u. u.made) s.views id v at (λ j u other is. (r.each j u is).1 (only j u other is)) in
      (home.0, home.1, home.2 ∙ (λ i. state (sym mine.start i) (sym seen i)), omega (arith, sum, r.made, ap (λ (l : List Entry). length l) seen))
