-- The end of a run.
use Rattle.std.proofs.Common.{◌≡◌, ◌+◌, ◌-◌, ◌^◌, ℕ, List, [], ◌∷◌, ◌++◌, map, length, Option, Some, sym, ap, subst, ◌∙◌, arith, append-nil, length-append}
use Rattle.std.specs.Prelude.{IfSome}
use Rattle.atomic_table.specs.Seated.{TableId}
use Rattle.store_core.proofs.Elements.{every_append, every_weaker}
use Rattle.store_core.proofs.Histories.{valid_after}
use Rattle.store_core.specs.State.{State, Valid}
use Rattle.store_core.specs.declared.event.Event.TheVariants as events
use Rattle.store_core.specs.declared.event.Reply.TheVariants as replies
use Rattle.store_core.specs.History.{Entry, Legal, own, state}
use Rattle.turn_lock.specs.Seats.{AtLock, Joined, HasLeft, EndsInClose}
use Rattle.turn_lock.specs.Views as lock
use Rattle.blob_store.specs.View.{View, Identity}
use Rattle.casd_daemon.specs.declared.host.Conn.{Conn}
use Rattle.casd_daemon.specs.Hosting.{Told, Hosted, Tellers, behind}
use Rattle.casd_daemon.specs.Running.{Case, IsTold, Runs, IsFirst}
use Rattle.casd_daemon.specs.Working.{IsWorked, IsPass}
use Rattle.casd_daemon.specs.Closing.{IsNew, Begins, Closed, worker_share}
use Rattle.casd_daemon.proofs.Histories.{stays_own}
use Rattle.casd_daemon.proofs.Runs.{told_on}

pub worked_gone : (v : View) (h : AtLock) (n : ℕ) → IsWorked v h n → HasLeft h.view
worked_gone v h n worked = subst (λ (o : Option ℕ). IfSome o (λ _. EndsInClose h.view.mine)) (sym worked.owner) (v.mine ++ worked.more, worked.number, worked.mine)

-- the seat that is left, once the worker has its own
pub still_first : (at : TableId) (seat : AtLock) → IsNew at seat → IsFirst at (record seat { view = lock.stays worker_share seat.view })
still_first at seat new = record {
  begin = new.begin;
  at_lock = new.at_lock;
  idle = ap (λ (v : lock.View). v.phase) new.view;
  owner = ap (λ (v : lock.View). v.owner) new.view;
  room = omega (arith, ap (λ (v : lock.View). v.left) new.view, ap (λ (v : lock.View). v.grant) new.view);
  enough = omega (arith, ap (λ (v : lock.View). v.left) new.view);
}

-- all turns are back at the last seat
pub all_back : {K L : Type 0} (tell : Tellers K L) (at : TableId) (new seat theirs joined : AtLock) (v : View) (old now : Hosted K L) (count passes first : ℕ)
    → IsNew at new → Begins new v first → Runs tell at (record new { view = lock.stays worker_share new.view }) seat [] old now count → IsWorked v theirs passes
    → Joined seat theirs joined → joined.view.grant ≡ 2 ^ 63
all_back tell at new seat theirs joined v old now count passes first is_new begun runs worked join =
    omega (arith, join.grant, runs.grant, worked.grant, begun.works.grant, begun.enters.grant, ap (λ (v : lock.View). v.grant) is_new.view)

-- the worker's seat is one of the lock
pub worker_at : (at : TableId) (new theirs : AtLock) (v : View) (first passes : ℕ) → IsNew at new → Begins new v first → IsWorked v theirs passes → theirs.lock ≡ at
worker_at at new theirs v first passes is_new begun worked =
    let is : Some theirs.lock ≡ Some new.lock = sym worked.at_lock ∙ ap (λ (i : Identity). i.lock) (begun.works.identity ∙ begun.enters.identity) in
    let same : theirs.lock ≡ new.lock = cc in
    same ∙ is_new.at_lock

open_is : (seat : AtLock) (v : View) (first : ℕ) (h : AtLock) (n : ℕ) → (begun : Begins seat v first) → (worked : IsWorked v h n)
    → h.view.mine ≡ record { owner = worked.number; event = events.Open; reply = replies.Opened worked.number } ∷ ((begun.works.more ++ worked.more) ++ record { owner = worked.number; event = events.Close; reply = replies.Closed } ∷ [])
open_is seat v first h n begun worked =
    let close : List Entry = record { owner = worked.number; event = events.Close; reply = replies.Closed } ∷ [] in
    let same : Some worked.number ≡ Some begun.enters.number = sym worked.was_owner ∙ begun.works.same_owner ∙ begun.enters.owner in
    let is : worked.number ≡ begun.enters.number = cc in
    let mine : v.mine ≡ record { owner = worked.number; event = events.Open; reply = replies.Opened worked.number } ∷ begun.works.more =
    begun.works.mine ∙ ap (λ (xs : List Entry). xs ++ begun.works.more) begun.enters.mine
    ∙ ap (λ (k : ℕ). record { owner = k; event = events.Open; reply = replies.Opened k } ∷ begun.works.more) (sym is) in
    worked.mine ∙ ap (λ (xs : List Entry). (xs ++ worked.more) ++ close) mine

pub closes_all : {K L : Type 0} (tell : Tellers K L) (at : TableId) (new seat theirs joined : AtLock) (v : View) (old now : Hosted K L) (closed : State) (count passes first entries : ℕ)
    → IsNew at new → Begins new v first → Runs tell at (record new { view = lock.stays worker_share new.view }) seat [] old now count → IsWorked v theirs passes
    → Joined seat theirs joined → joined.view.made ≡ length joined.view.seen → closed ≡ state joined.view.start joined.view.seen → entries ≡ joined.view.made
    → Closed tell new.view.start first old.told now.told closed count entries
closes_all {K = K} {L = L} tell at new seat theirs joined v old now closed count passes first entries is_new begun runs worked join made closed_is entries_are =
    let start : joined.view.start ≡ new.view.start = join.start ∙ runs.start in
    let legal : Legal new.view.start joined.view.seen = subst (λ (s : State). Legal s joined.view.seen) start join.legal in
    let mine = open_is new v first theirs passes begun worked in
    let own_is : own worked.number theirs.view.seen ≡ theirs.view.mine = subst (λ (o : Option ℕ). IfSome o (λ k. own k theirs.view.seen ≡ theirs.view.mine)) worked.owner worked.is_own in
    let made_first : new.view.made ≡ 0 = ap (λ (v : lock.View). v.made) is_new.view in
    let out : now.told.out ≡ old.told.out = omega (arith, runs.out) in
    record {
      history = joined.view.seen;
      cases = runs.cases;
      legal = legal;
      told = every_weaker (IsTold tell seat.view.seen) (IsTold tell joined.view.seen) (λ d told. told_on tell new.view.start seat.view.seen joined.view.seen d legal join.begins told) runs.cases runs.told;
      came = runs.came ∙ ap (λ (xs : List (Conn K L)). behind xs now.told.left) (append-nil (map (λ (c : Case K L). c.conn) runs.cases));
      went = runs.went;
      rest = runs.rest ∙ ap (λ k. record old.told { left = now.told.left; ended = now.told.ended; out = k }) out;
      counted = omega (arith, runs.counted);
      worker = worked.number;
      answer = passes;
      passes = begun.works.more ++ worked.more;
      worker_is = stays_own new.view.start worked.number theirs.view.seen joined.view.seen theirs.view.mine legal join.begins_too own_is (record {
        opens = ((begun.works.more ++ worked.more) ++ record { owner = worked.number; event = events.Close; reply = replies.Closed } ∷ [], mine);
        closes = (v.mine ++ worked.more, worked.number, worked.mine);
      }) ∙ mine;
      all = every_append IsPass begun.works.more worked.more begun.works.passes worked.all;
      passes_are = omega (arith, worked.length_is, begun.works.length_is, length-append begun.works.more worked.more);
      entries_are = omega (arith, entries_are, made);
      sum = omega (arith, made, join.made, runs.made, made_first, worked.made, begun.works.made, begun.enters.count);
      closed_is = closed_is ∙ ap (λ (s : State). state s joined.view.seen) start;
    }

-- the closed store's state is valid
pub closed_valid : {K L : Type 0} (tell : Tellers K L) (start : State) (first : ℕ) (old new : Told K L) (closed : State) (count entries : ℕ) → Valid start → Closed tell start first old new closed count entries → Valid closed
closed_valid tell start first old new closed count entries valid is = subst Valid (sym is.closed_is) (valid_after start is.history valid)
