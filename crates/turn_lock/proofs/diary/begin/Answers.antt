use Rattle.std.proofs.Common.{◌≡◌, ◌+◌, length, arith, ap}
use Rattle.store_core.specs.History.{Legal}
use Rattle.turn_lock.specs.Told.{Told}
use Rattle.turn_lock.proofs.Counting.{may_learn}
use Rattle.turn_lock.proofs.diary.begin.Goals as goal

pub fetch_add-requires : goal.fetch_add-requires
fetch_add-requires g c =
    let legal : Legal g.J.Tells.told.start g.J.Tells.told.seen = rw c.requires.told tt in
    let none : length g.J.Tells.told.seen ≡ 0 = ap (λ (t : Told). length t.seen) c.requires.told in
    let more : length g.J.Tells.told.seen ≡ length c.args.seat.now.me.0.seen + 0 = omega (arith, none, ap length c.requires.seat.0) in (
      c.requires.table.0,
      omega (arith, c.requires.table.1, ap (λ z. z.words) c.requires.table.0),
      may_learn c.args.table.now.shared.table_id.slots c.args.seat.now.id 0 c.args.seat.now.me g.J.Tells.told c.requires.seat.1 legal more (omega (arith, none)),
    )
