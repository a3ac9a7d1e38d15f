use Rattle.std.proofs.Common.{◌≡◌, [], refl, ap, ◌∙◌, arith}
use Rattle.store_core.specs.Step.{touched_all}
use Rattle.indexed_core.specs.Parts.{Parts}
use Rattle.indexed_core.proofs.AddedRows.{kept_rows}
use Rattle.indexed_core.proofs.machine.IndexedCore.of_rows.Goals as goal

pub invariant_of-result : goal.invariant_of-result
invariant_of-result c =
    let index : c.touch_all.new.index ≡ record { rows = touched_all c.args.saved.now c.args.rows.now; guards = record { leases = []; holds = [] } } = c.touch_all.ensures ∙ ap (λ (p : Parts). record p { rows = touched_all c.args.saved.now p.rows }) (c.in_ok-add_all.ensures ∙ ap (λ (p : Parts). record p { rows = c.args.rows.now }) c.new-index.ensures) in
    rw (index, c.new.ensures.items, c.new-2.ensures.items)
    (refl, kept_rows c.args.rows.now c.args.saved.now c.args.marks.low c.args.marks.high c.args.marks.guard c.requires.distinct c.requires.filled c.requires.small)
