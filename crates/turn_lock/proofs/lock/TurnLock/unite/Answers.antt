use Rattle.std.proofs.Common.{◌≤◌, length, arith, ap, sym, ◌∙◌, subst, Option}
use Rattle.atomic_table.specs.Table.{Me}
use Rattle.turn_lock.specs.Views.{View}
use Rattle.turn_lock.proofs.ViewLists.{shorter_length}
use Rattle.turn_lock.proofs.LockSteps.{joins, learns}
use Rattle.turn_lock.proofs.lock.TurnLock.unite.Goals as goal

pub join_seat-requires : goal.join_seat-requires
join_seat-requires g c =
    let wide = c.self.invariant.0 in
    let idle = c.requires.idle in
    (c.requires.seats.0 ∙ sym c.self.view_is, c.requires.seats.1 ∙ sym c.self.view_is, idle.2, omega arith, joins g.S.Stands.state _ _ _ _ idle.0 idle.1)

pub load-requires : goal.load-requires
load-requires g c =
    let wide = c.self.invariant.0 in
    let joined = c.join_seat.ensures in
    let view = ap (λ (m : Me (Option g.row.S.Denot) View). m.0) joined.2 in
    let fits : length c.join_seat.new.seat.me.0.told ≤ length c.join_seat.new.seat.me.0.seen = subst (λ (v : View). length v.told ≤ length v.seen) (sym view) (shorter_length c.args.into.now.me.0.seen c.args.from.me.0.seen) in
    (joined.0 ∙ c.requires.seats.0 ∙ sym c.self.view_is, omega arith, learns g.S.Stands.state _ _ _ (ap (λ (v : View). v.phase) view ∙ c.requires.idle.0) fits)
