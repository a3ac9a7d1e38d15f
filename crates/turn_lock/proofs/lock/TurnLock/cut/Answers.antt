use Rattle.std.proofs.Common.{ℕ, arith, sym, subst, ◌∙◌}
use Rattle.atomic_table.specs.Table.{Splits}
use Rattle.turn_lock.specs.Views.{stays, fresh}
use Rattle.turn_lock.specs.LockRule.{Kept}
use Rattle.turn_lock.proofs.LockSteps.{splits}
use Rattle.turn_lock.proofs.lock.TurnLock.cut.Goals as goal

pub split_seat-requires : goal.split_seat-requires
split_seat-requires g c =
    let wide = c.self.invariant.0 in
    let v = c.args.from.now.me.0 in
    let t = c.requires.turns in (
      c.requires.seat ∙ sym c.self.view_is,
      omega arith,
      subst (λ (n : ℕ). Splits (Kept g.S.Stands.state) c.args.from.now.id v (stays n v) (fresh n v)) (sym t.0) (splits g.S.Stands.state c.args.from.now.id c.args.turns v c.requires.idle t.1 t.2),
    )
