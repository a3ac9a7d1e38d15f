use Rattle.std.proofs.Common.{arith, sym, subst, ◌∙◌}
use Rattle.atomic_table.specs.Table.{Allows}
use Rattle.store_core.specs.History.{Entry}
use Rattle.turn_lock.specs.Noted.{entry}
use Rattle.turn_lock.specs.LockRule.{Kept}
use Rattle.turn_lock.specs.Kinds.{Entered}
use Rattle.turn_lock.proofs.LockSteps.{enters}
use Rattle.turn_lock.proofs.lock.TurnLock.enter.Goals as goal

pub load-requires : goal.load-requires
load-requires g c =
    let wide = c.self.invariant.0 in
    let me = c.args.seat.now.me in
    let turn = c.requires.turn in (
      c.requires.seat ∙ sym c.self.view_is,
      omega arith,
      subst (λ (e : Entry). Allows (Kept g.S.Stands.state) c.self.inside.table.shared.table_id.slots c.args.seat.now.id me 1 (λ n. n) (Entered g.S.Stands.state e me)) (sym c.requires.made)
          (enters g.S.Stands.state _ _ turn.0.0 (entry c.args.owner c.args.event.now c.args.reply.now) me turn.0.1 turn.1 c.requires.legal c.requires.whose),
    )
