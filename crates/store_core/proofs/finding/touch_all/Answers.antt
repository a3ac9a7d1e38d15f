use Rattle.std.proofs.Common.{◌∙◌, sym, subst}
use Rattle.store_core.specs.State.{Distinct}
use Rattle.store_core.proofs.RowLaws.{turned_touched}
use Rattle.store_core.proofs.UseOrder.{touched_all_more, touched_all_end}
use Rattle.store_core.proofs.finding.touch_all.Goals as goal

pub loop-digest-preserved : goal.loop-digest-preserved
loop-digest-preserved c =
    let rows = c.loop-digest.rows.items in
    record {
      distinct = subst Distinct (sym c.touch.ensures) ((turned_touched c.digest-item.result rows).distinct c.loop-digest.invariant.distinct);
      rest = touched_all_more c.args.digests.now c.loop-digest.digest-index c.digest-item.result rows c.touch.new.rows.items c.loop-digest-test.true c.digest-item.is c.touch.ensures ∙ c.loop-digest.invariant.rest;
    }

pub returns : goal.returns
returns c =
    sym (touched_all_end c.args.digests.now c.loop-digest.digest-index c.loop-digest.rows.items c.loop-digest-test.false) ∙ c.loop-digest.invariant.rest
