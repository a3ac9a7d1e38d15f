use Rattle.std.proofs.Common.{rules, ◌≡◌, sym, ap, ◌∙◌, Option}
use Rattle.atomic_table.specs.Table.{Me}
use Rattle.store_core.specs.Step.{step}
use Rattle.turn_lock.specs.Noted.{entry}
use Rattle.turn_lock.specs.Views.{View, state_of}
use Rattle.turn_lock.specs.Seats.{AtLock}
use Rattle.turn_lock.proofs.Owners.{state_more}
use Rattle.turn_lock.proofs.lock.TurnLock.give.Goals as goal

pub put_back-requires-clause-value : goal.put_back-requires-clause-value
put_back-requires-clause-value g c =
    let v = c.seat.inside.raw.me.0 in
    let view : v ≡ c.args.seat.now.view = ap (λ (h : AtLock). h.view) c.seat.view_is in
    let same : c.unwrap-owner.result ≡ c.requires.may.owner = search rules in
    c.requires.may.after
    ∙ (λ i. (step (state_of (sym view i)) (sym same i) c.args.event.now).1)
    ∙ sym (state_more v.start v.seen (entry c.unwrap-owner.result c.args.event.now c.args.reply.now))
    ∙ ap (λ (m : Me (Option g.row.S.Denot) View). state_of m.0) (sym c.enter.ensures.entered.0)
