use Rattle.std.proofs.Common.{arith}
use Rattle.store_core.proofs.UseOrder.{damaged_more}
use Rattle.store_core.proofs.finding.damage.Goals as goal

pub loop-row-preserved : goal.loop-row-preserved
loop-row-preserved c =
    damaged_more c.args.digest.now c.deref_mut-row-items.result.now c.loop-row.row-items c.loop-row.row-index c.row-item.result c.damage_row.new.row
    (omega arith) (omega arith) c.loop-row.invariant c.damage_row.ensures
