use Rattle.std.specs.List.{remove}
use Rattle.store_core.proofs.UseOrder.{last_is_sound}
use Rattle.store_core.proofs.rows.renew_at.Goals as goal

pub returns : goal.returns
returns c = λ row at.
    last_is_sound c.move_back.new.rows (remove c.args.rows.now c.args.place) row c.index-rows-last.result (c.move_back.ensures row at)
