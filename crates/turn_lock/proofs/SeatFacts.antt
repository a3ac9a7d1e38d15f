-- What the steps on the table's seats are for a seat of the lock.
use Rattle.std.proofs.Common.{◌≡◌, ℕ, ◌+◌, [], Option, sym, ap, ◌∙◌, subst, arith}
use Rattle.atomic_table.specs.Table.{Me}
use Rattle.atomic_table.specs.Seated.{TableId}
use Rattle.store_core.specs.State.{State}
use Rattle.turn_lock.specs.declared.phase.Phase.{Phase}
use Rattle.turn_lock.specs.declared.phase.Phase.TheVariants.{Idle}
use Rattle.turn_lock.specs.Views.{View, both}
use Rattle.turn_lock.specs.Kinds.{United}
use Rattle.turn_lock.specs.Seats.{Carries, IsSeat, Joined}

module _ {T : Type 0} (stands : T → State) (m o n : Me (Option T) View) (united : United stands m o n) (idle : m.0.phase ≡ Idle) where
  view : n.0 ≡ record (both m.0 o.0) { told = [] }
  view = ap (λ (x : Me (Option T) View). x.0) united.me

  pub joined_seat : (a b made taken : ℕ) (number other : Option ℕ) → m.1 ≡ [] → IsSeat m a made number → IsSeat o b taken other → IsSeat n (a + b) (made + taken) number
  joined_seat a b made taken number other bare into from = record {
    carried = subst (λ (p : Phase). Carries p n.1) (sym (ap (λ (v : View). v.phase) view ∙ idle)) (ap (λ (x : Me (Option T) View). x.1) united.me ∙ bare);
    left = omega (arith, ap (λ (v : View). v.left) view, into.left, from.left);
    made = omega (arith, ap (λ (v : View). v.made) view, into.made, from.made);
    owner = into.owner ∙ sym (ap (λ (v : View). v.owner) view);
    told = ap (λ (v : View). v.told) view;
    budget = omega (
      arith,
      ap (λ (v : View). v.made) view,
      ap (λ (v : View). v.left) view,
      ap (λ (v : View). v.owed) view,
      ap (λ (v : View). v.grant) view,
      into.budget,
      from.budget,
    );
    few = united.few;
    legal = united.legal;
    is_own = united.is_own;
  }

  pub joined_views : (here there now : TableId) → now ≡ here → Joined (record { lock = here; view = m.0 }) (record { lock = there; view = o.0 }) (record { lock = now; view = n.0 })
  joined_views here there now same = record {
    lock = same;
    idle = ap (λ (v : View). v.phase) view ∙ idle;
    start = ap (λ (v : View). v.start) view;
    owner = ap (λ (v : View). v.owner) view;
    mine = ap (λ (v : View). v.mine) view;
    seen = ap (λ (v : View). v.seen) view;
    begins = united.begins.0;
    begins_too = united.begins.1;
    made = ap (λ (v : View). v.made) view;
    left = ap (λ (v : View). v.left) view;
    grant = ap (λ (v : View). v.grant) view;
    legal = united.legal;
    is_own = united.is_own;
  }
