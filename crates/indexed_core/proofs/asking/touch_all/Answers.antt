use Rattle.std.proofs.Common.{◌≡◌, ◌∙◌, List, sym, ap}
use Rattle.store_core.specs.declared.state.Row.{Row}
use Rattle.store_core.specs.Step.{touched_all}
use Rattle.store_core.proofs.UseOrder.{touched_all_more, touched_all_end}
use Rattle.indexed_core.specs.Parts.{Parts}
use Rattle.indexed_core.proofs.asking.touch_all.Goals as goal

pub loop-digest-preserved : goal.loop-digest-preserved
loop-digest-preserved c =
    let rows = c.loop-digest.index.rows in
    record {
      guards = ap (λ (p : Parts). p.guards) c.touch.ensures ∙ c.loop-digest.invariant.guards;
      rest = touched_all_more c.args.digests.now c.loop-digest.digest-index c.digest-item.result rows c.touch.new.self.rows c.loop-digest-test.true c.digest-item.is (ap (λ (p : Parts). p.rows) c.touch.ensures)
          ∙ c.loop-digest.invariant.rest;
    }

pub returns : goal.returns
returns c =
    let rows = sym (touched_all_end c.args.digests.now c.loop-digest.digest-index c.loop-digest.index.rows c.loop-digest-test.false) ∙ c.loop-digest.invariant.rest in
    let guards = c.loop-digest.invariant.guards in
    let both : c.loop-digest.index ≡ record { rows = touched_all c.args.digests.now c.args.index.now.rows; guards = c.args.index.now.guards } =
    ap (λ (rs : List Row). record c.loop-digest.index { rows = rs }) rows ∙ ap (λ gs. record { rows = touched_all c.args.digests.now c.args.index.now.rows; guards = gs }) guards in
    both
