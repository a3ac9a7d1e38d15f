use Rattle.std.proofs.Common.{rules, ◌≡◌, ℕ, ◌+◌, ◌^◌, ◌%◌, ◌∷◌, [], Option, Some, arith, sym, ap, ◌∙◌, subst}
use Rattle.atomic_table.specs.Table.{Me, Allows}
use Rattle.turn_lock.specs.Views.{View, state_of}
use Rattle.turn_lock.specs.LockRule.{Kept}
use Rattle.turn_lock.specs.Kinds.{PassedOn}
use Rattle.turn_lock.proofs.LockSteps.{passes}
use Rattle.turn_lock.proofs.lock.TurnLock.put_back.Goals as goal

pub fetch_add-requires : goal.fetch_add-requires
fetch_add-requires g c =
    let sized = c.self.invariant in
    let wide = sized.0 in
    let me = c.exchange-out.new.seat.me in
    let view : me.0 ≡ c.args.seat.now.me.0 = search rules in
    let held : me ≡ (me.0, (0, Some c.args.turn.value) ∷ []) = search rules in (
      c.exchange-out.ensures.0 ∙ c.requires.seat ∙ sym c.self.view_is,
      omega arith,
      subst (λ (x : ℕ × Me (Option g.row.S.Denot) View). Allows (Kept g.S.Stands.state) x.0 c.exchange-out.new.seat.id x.1 1 (λ n. (n + 1) % 2 ^ 64) (PassedOn g.S.Stands.state x.1)) (λ i. (sym sized.1 i, sym held i))
          (passes g.S.Stands.state c.exchange-out.new.seat.id c.args.turn.ticket me.0 c.args.turn.value (ap (λ (v : View). v.phase) view ∙ c.requires.turn.0) (c.requires.value ∙ ap state_of (sym view))),
    )
