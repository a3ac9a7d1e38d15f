-- The worker.
use Rattle.std.proofs.Common.{◌≡◌, ◌+◌, ℕ, Bool, true, List, [], ◌∷◌, ◌++◌, Option, Some, refl, sym, ap, subst, ◌∙◌, arith, append_assoc, append-nil, length-append}
use Rattle.std.specs.Prelude.{IfSome}
use Rattle.store_core.proofs.Elements.{every_push}
use Rattle.store_core.specs.declared.event.Event.TheVariants as events
use Rattle.store_core.specs.declared.event.Reply.TheVariants as replies
use Rattle.store_core.specs.History.{Entry, own}
use Rattle.turn_lock.specs.Seats.{AtLock, IsIdle}
use Rattle.turn_lock.specs.Views as lock
use Rattle.blob_store.specs.Doors.{door_view}
use Rattle.blob_store.specs.View.{View, Makes, Leaves, own_now}
use Rattle.blob_store.proofs.ViewLaws.{own_now_after, extends_more}
use Rattle.casd_daemon.specs.Working.{Works, IsWorked, IsPass}

pub works_none : (a : View) → a.entered ≡ true → own_now a ≡ [] → Works a a 0
works_none a is_in none = record {
  is_in = is_in;
  none = none;
  same_owner = refl;
  start = refl;
  seen = ([], sym (append-nil a.seen));
  more = [];
  mine = sym (append-nil a.mine);
  length_is = refl;
  passes = tt;
  made = omega arith;
  grant = refl;
  identity = refl;
  used = omega arith;
  left = omega arith;
}

pub works_more : (a b c : View) (n removed used : ℕ) → Works a b n → Makes b c events.Pass (replies.Passed removed used) → Works a c (n + 1)
works_more a b c n removed used works makes =
    let e : Entry = record { owner = makes.turns.owner; event = events.Pass; reply = replies.Passed removed used } in
    record {
      is_in = makes.turns.is_in;
      none = own_now_after b c 1 ((events.Pass, replies.Passed removed used) ∷ []) makes.turns ∙ works.none;
      same_owner = makes.turns.same_owner ∙ works.same_owner;
      start = makes.turns.start ∙ works.start;
      seen = extends_more a.seen b.seen c.seen works.seen makes.turns.seen;
      more = works.more ++ e ∷ [];
      mine = makes.turns.mine ∙ ap (λ (xs : List Entry). xs ++ e ∷ []) works.mine ∙ append_assoc a.mine works.more (e ∷ []);
      length_is = omega (arith, length-append works.more (e ∷ []), works.length_is);
      passes = every_push IsPass works.more e works.passes refl;
      made = omega (arith, works.made, makes.turns.count);
      grant = makes.turns.grant ∙ works.grant;
      identity = makes.turns.identity ∙ works.identity;
      used = omega (arith, works.used, makes.turns.used);
      left = omega (arith, works.left, makes.turns.left);
    }

pub worked : (a b c : View) (h : AtLock) (entered : Bool) (n : ℕ) → Works a b n → Leaves b c → c ≡ door_view h entered → IsIdle h → IsWorked a h n
worked a b c h entered n works leaves is idle =
    let close : List Entry = record { owner = leaves.owner; event = events.Close; reply = replies.Closed } ∷ [] in
    let owner : h.view.owner ≡ Some leaves.owner = sym (ap (λ (v : View). v.owner) is) ∙ leaves.same_owner ∙ leaves.is_owner in
    record {
      number = leaves.owner;
      at_lock = sym (ap (λ (v : View). v.identity.lock) (sym is) ∙ ap (λ x. x.lock) (leaves.identity ∙ works.identity));
      idle = idle;
      start = sym (ap (λ (v : View). v.start) is) ∙ leaves.start ∙ works.start;
      grant = sym (ap (λ (v : View). v.grant) is) ∙ leaves.grant ∙ works.grant;
      made = omega (arith, ap (λ (v : View). v.made) is, leaves.count, works.made);
      was_owner = sym works.same_owner ∙ leaves.is_owner;
      owner = owner;
      is_own = subst (λ (o : Option ℕ). IfSome o (λ k. own k h.view.seen ≡ h.view.mine)) (sym owner)
          (ap (own leaves.owner) (sym (ap (λ (v : View). v.seen) is)) ∙ leaves.is_own ∙ ap (λ (v : View). v.mine) is);
      more = works.more;
      length_is = works.length_is;
      all = works.passes;
      mine = sym (ap (λ (v : View). v.mine) is) ∙ leaves.mine ∙ ap (λ (xs : List Entry). xs ++ close) works.mine;
    }
