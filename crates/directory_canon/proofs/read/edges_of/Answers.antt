use Rattle.std.proofs.Common.{ap, ◌∙◌}
use Rattle.std.specs.Global.{Vec}
use Rattle.directory_canon.specs.declared.node.Edge.{Edge}
use Rattle.directory_canon.proofs.LinksLemmas.{edge_more, edge_same}
use Rattle.directory_canon.proofs.read.edges_of.Goals as goal
use Rattle.directory_canon.proofs.read.edges_of.Goals.{in-Some+in_ok-push, in_default}

pub entries-preserved : goal.entries-preserved
entries-preserved c =
    elim c.match-edge.branch [
      | in-Some+in_ok-push w ↦
          edge_more c.args.entries.now c.entries.entry-index c.entry-item.result w.in-Some.edge c.entries.edges.items c.match-edge.edges.items c.entries-test.true c.entry-item.is w.in-Some.ensures
          (ap (λ (v : Vec Edge). v.items) w.edges-is ∙ w.in_ok-push.ensures.items) c.entries.invariant
      | in_default w ↦
          edge_same c.args.entries.now c.entries.entry-index c.entry-item.result c.entries.edges.items c.match-edge.edges.items c.entries-test.true c.entry-item.is w.in_default.ensures
          (ap (λ (v : Vec Edge). v.items) w.edges-is) c.entries.invariant
    ]
