use Rattle.std.proofs.Common.{◌∷◌, ◌∙◌, ap, sym, Some}
use Rattle.atomic_table.specs.Table.{rest}
use Rattle.turn_lock.proofs.lock.TurnLock.take_out.Goals as goal

pub exchange-requires : goal.exchange-requires
exchange-requires g c = let due = c.await_turn.ensures.due in
    (c.await_turn.ensures.seat ∙ c.draw-ticket.ensures.seat ∙ c.requires.seat ∙ sym c.self.view_is, (Some due.value, due.slot ∙ ap (λ l. (0, Some due.value) ∷ rest l) (sym due.slot)))
