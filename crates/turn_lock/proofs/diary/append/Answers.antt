use Rattle.std.proofs.Common.{◌≡◌, ◌+◌, ◌∷◌, [], length, arith, length-append, ap, ◌∙◌}
use Rattle.store_core.specs.History.{Legal}
use Rattle.turn_lock.specs.Told.{Told}
use Rattle.turn_lock.specs.Noted.{entry}
use Rattle.turn_lock.proofs.Counting.{legal_more, may_learn}
use Rattle.turn_lock.proofs.diary.append.Goals as goal

pub fetch_add-requires : goal.fetch_add-requires
fetch_add-requires g c =
    let old = c.args.seat.now.me.0 in
    let one = entry c.args.owner c.args.event.now c.args.reply.now in
    let legal : Legal g.J.Tells.told.start g.J.Tells.told.seen = rw c.requires.told (legal_more old.start old.seen one c.requires.seat.1 c.requires.legal) in
    let more : length g.J.Tells.told.seen ≡ length old.seen + 1 = ap (λ (t : Told). length t.seen) c.requires.told ∙ length-append old.seen (one ∷ []) in (
      c.requires.table.0,
      omega (arith, c.requires.table.1, ap (λ z. z.words) c.requires.table.0),
      may_learn c.args.table.now.shared.table_id.slots c.args.seat.now.id 1 c.args.seat.now.me g.J.Tells.told c.requires.seat.0 legal more (omega (arith, more, c.requires.room)),
    )

pub returns-clause-legal : goal.returns-clause-legal
returns-clause-legal g c = rw (c.fetch_add.ensures.2, c.requires.told) (legal_more _ _ _ c.requires.seat.1 c.requires.legal)
