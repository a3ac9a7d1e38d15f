-- At the end all rows were yielded, each beside its mark.
use Rattle.std.proofs.Common.{◌∙◌, ap, sym, cond, Bool, List, [], ◌++◌, Bor}
use Rattle.std.specs.Prelude.{flat_map, unwrap_or}
use Rattle.std.proofs.lemmas.Iterator.{YieldsList-from_slice, YieldsList-from_zip}
use Rattle.std.proofs.lemmas.Iterator.Consumers.{YieldsList-end}
use Rattle.std.proofs.lemmas.List.Folds.{flat_map-map}
use Rattle.directory_canon.specs.declared.node.Edge.{Edge}
use Rattle.store_core.specs.declared.state.Row.{Row}
use Rattle.store_core.proofs.reach.add_marked.Goals as goal

edges_at : Row × Bool → List Edge
edges_at p = cond p.1 (unwrap_or p.0.edges []) []

at : Bor Row × Bor Bool → Row × Bool
at p = (p.0.now, p.1.now)

pub returns : goal.returns
unfolding edges_at at
returns c =
    let all = YieldsList-end (YieldsList-from_zip (YieldsList-from_slice c.args.rows.now (cc)) (YieldsList-from_slice c.args.marks.now (cc))) c.loop-row.yielded c.loop-row.row-iterator c.loop-row.yielded_by c.next.result c.next.new.self c.in-None.is c.next.ensures.steps in
    c.loop-row.invariant
    ∙ ap (λ (more : List Edge). c.args.pairs.now.items ++ more) (sym (flat_map-map edges_at at c.loop-row.yielded) ∙ ap (flat_map edges_at) all.0)
