-- The roots and the edges of what is marked, in order.
use Rattle.std.proofs.Common.{◌∙◌, ap, List, ◌++◌}
use Rattle.directory_canon.specs.declared.node.Edge.{Edge}
use Rattle.store_core.specs.Ascending.{ascending}
use Rattle.store_core.specs.Reach.{pair_cmp}
use Rattle.store_core.specs.Walk.{marked_edges}
use Rattle.store_core.proofs.WalkLaws.{reached_from}
use Rattle.store_core.proofs.reach.reached.Goals as goal

pub returns : goal.returns
returns c =
    let marks = c.deref.ensures.value ∙ c.in_ok-marks.ensures in
    c.sort_pairs.ensures
    ∙ ap (ascending pair_cmp) (c.in_ok-add_marked.ensures ∙ ap (λ (pairs : List Edge). pairs ++ marked_edges c.args.rows.now c.deref.result.now) c.in_ok-pairs.ensures.items)
    ∙ reached_from _ _ c.deref.result.now marks
