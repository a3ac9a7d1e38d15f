-- One connection, from what its door shows to what its seat is.
use Rattle.std.proofs.Common.{◌≡◌, ◌+◌, ◌-◌, ◌≤◌, inl, inr, ℕ, false, List, [], ◌∷◌, ◌++◌, length, Option, None, refl, sym, ap, subst, ◌∙◌, arith, append-nil}
use Rattle.std.specs.Prelude.{IfSome}
use Rattle.store_core.specs.declared.event.Event.TheVariants as events
use Rattle.store_core.specs.declared.event.Reply.TheVariants as replies
use Rattle.store_core.specs.History.{Entry}
use Rattle.turn_lock.specs.Seats.{AtLock, IsIdle}
use Rattle.turn_lock.specs.Views as lock
use Rattle.cas_calls.specs.Script.{Step, made}
use Rattle.blob_store.specs.View.{View, StaysOut, Identity, by}
use Rattle.blob_store.specs.Doors.{door_view}
use Rattle.blob_store.specs.Shelves.{Shelved}
use Rattle.casd_connection.specs.Linked.{Linked}
use Rattle.casd_connection.specs.Written.{Serves, Served, Unserved, life}
use Rattle.casd_connection.specs.declared.report.ConnReport.{ConnReport}
use Rattle.atomic_table.specs.Seated.{TableId}
use Rattle.casd_daemon.specs.declared.host.Conn.{Conn}
use Rattle.casd_daemon.specs.Hosting.{Tellers}
use Rattle.casd_daemon.specs.Running.{IsOver, IsGiven, IsServed}

-- what a caller knows of a door after its connection
pub record Went (report : ConnReport) (v w : View) : Type 0 where
  pub is_out : w.entered ≡ false
  pub start : w.start ≡ v.start
  pub grant : w.grant ≡ v.grant
  pub made : w.made ≡ v.made + report.turns
  pub gone : IfSome w.owner (λ o. IsOver o w.mine)
  pub seen : lock.Extends v.seen w.seen
  pub turns : report.turns ≡ length w.mine
  pub identity : w.identity ≡ v.identity

-- the life of an owner begins with its Open and ends with its Close
life_over : (owner : ℕ) (steps : List Step) (mine : List Entry) → mine ≡ life owner steps → IsOver owner mine
life_over owner steps mine is = record {
  opens = (by owner (made steps) ++ record { owner = owner; event = events.Close; reply = replies.Closed } ∷ [], is);
  closes = (record { owner = owner; event = events.Open; reply = replies.Opened owner } ∷ by owner (made steps), owner, is);
}

went_served : (report : ConnReport) (v w : View) (x y : Shelved) (a b : Linked) → Served report v w x y a b → Went report v w
went_served report v w x y a b is = record {
  is_out = is.lived.is_out;
  start = is.lived.start;
  grant = is.lived.grant;
  made = omega (arith, is.lived.count, is.turns);
  gone = subst (λ (o : Option ℕ). IfSome o (λ o. IsOver o w.mine)) (sym is.lived.is_owner) (life_over is.lived.owner is.steps w.mine is.lived.mine);
  seen = is.lived.seen;
  turns = is.turns ∙ ap length (sym is.lived.mine);
  identity = is.lived.identity;
}

went_out : (report : ConnReport) (v w : View) → v.owner ≡ None → v.mine ≡ [] → report.turns ≡ 0 → StaysOut v w → Went report v w
went_out report v w none nothing zero is = record {
  is_out = is.is_out;
  start = is.start;
  grant = is.grant;
  made = omega (arith, is.count, zero);
  gone = subst (λ (o : Option ℕ). IfSome o (λ o. IsOver o w.mine)) (sym (is.owner ∙ none)) tt;
  seen = is.seen;
  turns = zero ∙ sym (ap length (is.mine ∙ nothing));
  identity = is.identity;
}

went_same : (report : ConnReport) (v w : View) → v.entered ≡ false → v.owner ≡ None → v.mine ≡ [] → report.turns ≡ 0 → w ≡ v → Went report v w
went_same report v w out none nothing zero is = rw is record {
  is_out = out;
  start = refl;
  grant = refl;
  made = omega (arith, zero);
  gone = subst (λ (o : Option ℕ). IfSome o (λ o. IsOver o v.mine)) (sym none) tt;
  seen = ([], sym (append-nil v.seen));
  turns = zero ∙ sym (ap length nothing);
  identity = refl;
}

went_unserved : (report : ConnReport) (v w : View) (x y : Shelved) (a b : Linked) → v.entered ≡ false → v.owner ≡ None → v.mine ≡ [] → Unserved report v w x y a b → Went report v w
went_unserved report v w x y a b out none nothing is =
    let zero : report.turns ≡ 0 = ap (λ (r : ConnReport). r.turns) is.told in
    elim is.stays [ inl stays ↦ went_out report v w none nothing zero stays | inr same ↦ went_same report v w out none nothing zero same ]

pub went : (report : ConnReport) (v w : View) (x y : Shelved) (a b : Linked) → v.entered ≡ false → v.owner ≡ None → v.mine ≡ [] → Serves report v w x y a b → Went report v w
went report v w x y a b out none nothing is =
    elim is [ inl served ↦ went_served report v w x y a b served | inr unserved ↦ went_unserved report v w x y a b out none nothing unserved ]

-- the same of its seat, that was given and is given back
pub served_seat : {K L : Type 0} (tell : Tellers K L) (at : TableId) (seat seat' : AtLock) (conn conn' : Conn K L) (report : ConnReport) (v w : View)
    → IsGiven at seat.view.start seat → v ≡ door_view seat false → w ≡ door_view seat' w.entered → IsIdle seat' → seat'.view.made + seat'.view.left ≤ seat'.view.grant → lock.IsOwn seat'.view
    → Serves report v w (tell.shelved conn.shelf) (tell.shelved conn'.shelf) (tell.linked conn.link) (tell.linked conn'.link)
    → IsServed tell seat conn seat' conn' report
served_seat tell at seat seat' conn conn' report v w given v_is w_is idle budget own serves =
    let gone : Went report v w = went report v w (tell.shelved conn.shelf) (tell.shelved conn'.shelf) (tell.linked conn.link) (tell.linked conn'.link)
    (ap (λ (v : View). v.entered) v_is) (ap (λ (v : View). v.owner) v_is ∙ given.owner) (ap (λ (v : View). v.mine) v_is ∙ given.mine) serves in
    let w_out : w ≡ door_view seat' false = w_is ∙ ap (door_view seat') gone.is_out in
    let both : Went report (door_view seat false) (door_view seat' false) = subst (λ (v : View). Went report v (door_view seat' false)) v_is (subst (Went report v) w_out gone) in
    record {
      at_lock = cc (ap (λ (i : Identity). i.lock) both.identity);
      idle = idle;
      start = both.start;
      grant = both.grant;
      made = both.made;
      gone = both.gone;
      is_own = own;
      seen = both.seen;
      turns = both.turns;
      room = omega (arith, budget);
      serves = subst (λ (v : View). Serves report v (door_view seat' false) (tell.shelved conn.shelf) (tell.shelved conn'.shelf) (tell.linked conn.link) (tell.linked conn'.link)) v_is
          (subst (λ (w : View). Serves report v w (tell.shelved conn.shelf) (tell.shelved conn'.shelf) (tell.linked conn.link) (tell.linked conn'.link)) w_out serves);
    }
