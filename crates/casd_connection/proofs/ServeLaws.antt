-- A whole connection: its owner comes, the loop runs, and the owner goes.
use Rattle.std.proofs.Common.{inl, inr, ◌≡◌, ◌∙◌, ◌+◌, ◌-◌, ◌≤◌, ◌<◌, ◌^◌, ℕ, Bool, true, false, List, [], ◌∷◌, ◌++◌, length, Option, Some, None, refl, sym, ap, subst, arith}
use Rattle.std.specs.Prelude.{◌⊎◌, min, IfSome}
use Rattle.std.proofs.lemmas.List.{append-nil, length-append}
use Rattle.h2_frames.specs.Stream.{fresh}
use Rattle.h2_frames.proofs.Streams.{starts}
use Rattle.h2_session.specs.declared.role.Role.TheVariants as roles
use Rattle.h2_session.specs.Session.{first_output}
use Rattle.store_core.specs.State.{State as StoreState}
use Rattle.store_core.specs.declared.state.Lease.{Lease}
use Rattle.store_core.specs.History.{Entry, own_leases}
use Rattle.store_core.specs.declared.event.Event.{Event}
use Rattle.store_core.specs.declared.event.Event.TheVariants as events
use Rattle.store_core.specs.declared.event.Reply.{Reply}
use Rattle.store_core.specs.declared.event.Reply.TheVariants as replies
use Rattle.blob_store.specs.View.{View, IsSound, IsSeated, Turns, Enters, Leaves, StaysOut, by, own_now, leases_by}
use Rattle.blob_store.specs.Shelves.{Shelved}
use Rattle.blob_store.proofs.ViewLaws.{extends_more, own_leases_append}
use Rattle.cas_calls.specs.Script.{Step, made}
use Rattle.cas_calls.proofs.TakeLaws.{shelves_none}
use Rattle.casd_connection.specs.declared.end.ConnEnd.{ConnEnd}
use Rattle.casd_connection.specs.declared.end.ConnEnd.TheVariants as ends
use Rattle.casd_connection.specs.declared.report.ConnReport.{ConnReport}
use Rattle.casd_connection.specs.Linked.{Linked}
use Rattle.casd_connection.specs.Written.{Lived, Served, Cause}
use Rattle.casd_connection.specs.Steps.{Does}
use Rattle.casd_connection.specs.Stands.{State, IsReady, Stands, Ran, fresh_state}
use Rattle.casd_connection.proofs.CourseLaws.{course_none}
use Rattle.casd_connection.proofs.LinkLaws.{carries_none}
use Rattle.casd_connection.proofs.TurnLaws.{does_none}

-- ---- the owner

abbrev OwnLife : ℕ → List (Event × Reply) → List Entry
OwnLife owner entries =
    record { owner = owner; event = events.Open; reply = replies.Opened owner } ∷ (by owner entries ++ record { owner = owner; event = events.Close; reply = replies.Closed } ∷ [])

by-length : (owner : ℕ) (xs : List (Event × Reply)) → length (by owner xs) ≡ length xs
by-length owner [] = refl
by-length owner (x ∷ xs) = omega (arith, by-length owner xs)

-- whose owners are the same
one_owner : (a b : ℕ) (o : Option ℕ) → o ≡ Some a → o ≡ Some b → a ≡ b
one_owner a b o p q = cc

-- the entries of three parts
whole_mine : (n o l : ℕ) (mine mine' mine'' : List Entry) (xs : List (Event × Reply)) → o ≡ n → l ≡ n
    → mine ≡ record { owner = n; event = events.Open; reply = replies.Opened n } ∷ []
    → mine' ≡ mine ++ by o xs
    → mine'' ≡ mine' ++ record { owner = l; event = events.Close; reply = replies.Closed } ∷ []
    → mine'' ≡ OwnLife n xs
whole_mine n o l mine mine' mine'' xs same_o same_l first second third =
    third
    ∙ ap (λ (front : List Entry). front ++ record { owner = l; event = events.Close; reply = replies.Closed } ∷ []) (second ∙ ap (λ (front : List Entry). front ++ by o xs) first)
    ∙ ap (λ (k : ℕ). record { owner = n; event = events.Open; reply = replies.Opened n } ∷ (by k xs ++ record { owner = l; event = events.Close; reply = replies.Closed } ∷ [])) same_o
    ∙ ap (λ (k : ℕ). record { owner = n; event = events.Open; reply = replies.Opened n } ∷ (by n xs ++ record { owner = k; event = events.Close; reply = replies.Closed } ∷ [])) same_l

-- an owner that has come holds no lease
pub came_bare : (v w : View) → Enters v w → own_now w ≡ []
came_bare v w e = ap (λ (o : Option ℕ). leases_by o w.mine) e.owner ∙ ap (λ (mine : List Entry). own_leases e.number [] mine) e.mine

pub lived : (v a b w : View) (x y : Shelved) (turns : ℕ) (steps : List Step) → Enters v a → Does a b x y turns steps → Leaves b w → IsSound w → Lived v w steps
lived v a b w x y turns steps e d l sound =
    let t = d.entries in
    let n = e.number in
    let same_o : t.owner ≡ n = one_owner t.owner n a.owner t.is_owner e.owner in
    let same_l : l.owner ≡ n = one_owner l.owner n b.owner l.is_owner (t.same_owner ∙ e.owner) in
    let mine : w.mine ≡ OwnLife n (made steps) = whole_mine n t.owner l.owner a.mine b.mine w.mine (made steps) same_o same_l e.mine t.mine l.mine in
    let bare : own_now b ≡ [] = d.leases ∙ came_bare v a e in
    record {
      owner = n;
      is_owner = l.same_owner ∙ t.same_owner ∙ e.owner;
      is_out = l.is_out;
      mine = mine;
      leases = left_bare b w l bare;
      sound = sound;
      start = l.start ∙ t.start ∙ e.start;
      seen = extends_more v.seen b.seen w.seen (extends_more v.seen a.seen b.seen e.seen t.seen) l.seen;
      count = omega (arith, e.count, t.count, l.count, length-append (by n (made steps)) (record { owner = n; event = events.Close; reply = replies.Closed } ∷ []), by-length n (made steps));
      grant = l.grant ∙ t.grant ∙ e.grant;
      identity = l.identity ∙ t.identity ∙ e.identity;
    }
  where
    left_bare : (b w : View) → (l : Leaves b w) → own_now b ≡ [] → own_now w ≡ []
    left_bare b w l bare =
        let close : Entry = record { owner = l.owner; event = events.Close; reply = replies.Closed } in
        let before : own_leases l.owner [] b.mine ≡ [] = ap (λ (o : Option ℕ). leases_by o b.mine) (sym l.is_owner) ∙ bare in
        ap (λ (o : Option ℕ). leases_by o w.mine) (l.same_owner ∙ l.is_owner)
        ∙ ap (λ (mine : List Entry). own_leases l.owner [] mine) l.mine
        ∙ own_leases_append l.owner [] b.mine (close ∷ [])
        ∙ before

-- ---- the loop

pub stands_fresh : (v : View) (x : Shelved) (a : Linked) (s : State) → s ≡ fresh_state → v.entered ≡ true → IsSeated v → Stands v v x x a a s
stands_fresh v x a s is is_in seated =
    subst (λ (t : State). Stands v v x x a a t) (sym is)
    (record {
      ins = [];
      outs = [];
      frames = [];
      steps = [];
      sent = [];
      turns = 0;
      course = course_none _;
      does = does_none v x 0 is_in seated;
      bytes = λ i. omega arith;
      given = starts true;
      output = append-nil (first_output roles.Server);
      carries = carries_none a;
      unmet = λ h. unmet a.at_end h;
      read = refl;
      written = omega arith;
    })
  where
    unmet : (o : Option (Option ℕ)) → o ≡ Some None → IfSome o (λ noted. noted ≡ None)
    unmet None h = tt
    unmet (Some noted) h = cc

none_below : (k : ℕ) → k < 0 → ⊥
none_below k lt = omega (arith, lt)

pub ready_fresh : (v : View) (s : State) → s ≡ fresh_state → v.entered ≡ true → 2 ^ 29 ≤ v.left → IsReady s v
ready_fresh v s is is_in turns =
    subst (λ (t : State). IsReady t v) (sym is)
    (record { serving = record { sound = refl; role = refl; quiet = record { due = refl; streams = λ k d lt. absurd (none_below k lt) } }; pending = refl; is_in = is_in; turns = turns; fed = refl; few = omega arith })

-- no entry is unmade
pub made_more : (end : ConnEnd) (v a b w : View) (x y : Shelved) (p q : Linked) (read written : ℕ) → Enters v a → Ran end a b x y p q read written → Leaves b w → v.made ≤ w.made
made_more end v a b w x y p q read written e r l = omega (arith, e.count, r.does.entries.count, l.count)

-- a connection that ran is served
pub served : (end : ConnEnd) (v a b w : View) (x y : Shelved) (p q : Linked) (turns read written : ℕ) → Enters v a → Ran end a b x y p q read written → Leaves b w → IsSound w → turns ≡ w.made - v.made
    → Served (record { end = end; turns = turns; read = read; written = written }) v w x y p q
served end v a b w x y p q turns read written e r l sound count =
    let life = lived v a b w x y r.turns r.steps e r.does l sound in
    record {
      ins = r.ins;
      outs = r.outs;
      steps = r.steps;
      written = r.whole;
      lived = life;
      shelf = r.does.shelf;
      carries = r.carries;
      cause = fewer end r.whole.last.over p q (length r.ins) b.left w.left l.left r.cause;
      turns = omega (arith, count, life.count);
      read = r.read_is;
      count = r.written_is;
    }
  where
    fewer : (end : ConnEnd) (over : Bool) (p q : Linked) (n m k : ℕ) → k ≤ m → Cause end over p q n m → Cause end over p q n k
    fewer ends.Done over p q n m k le h = h
    fewer (ends.Truncated at) over p q n m k le h = h
    fewer (ends.Protocol code at) over p q n m k le h = h
    fewer ends.ReadFault over p q n m k le h = h
    fewer ends.WriteFault over p q n m k le h = h
    fewer ends.Spent over p q n m k le h = elim h [ inl many ↦ inl many | inr few ↦ inr (omega (arith, few, le)) ]
    fewer ends.OutOfMemory over p q n m k le h = h
