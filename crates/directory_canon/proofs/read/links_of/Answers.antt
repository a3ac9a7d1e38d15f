use Rattle.std.proofs.Common.{List, map, ap, ◌∙◌}
use Rattle.std.specs.List.{filter_map}
use Rattle.directory_canon.specs.Node.{edge_of}
use Rattle.directory_canon.specs.Views.{node_of}
use Rattle.directory_canon.specs.declared.borrowed.Placed.{Placed}
use Rattle.directory_canon.proofs.LinksLemmas.{some_links, no_links}
use Rattle.directory_canon.proofs.read.links_of.Goals as goal

pub returns-in_ok-edges_of-in-Ok : goal.returns-in_ok-edges_of-in-Ok
returns-in_ok-edges_of-in-Ok c =
    some_links c.args.bytes.now (map node_of c.in-Ok.entries.items) c.from_vec.result c.in-Ok.ensures
    (c.from_vec.ensures ∙ c.in_ok-edges_of-in-Ok.ensures ∙ ap (λ (ps : List Placed). filter_map edge_of (map node_of ps)) c.deref.ensures.value)

pub returns-in_default : goal.returns-in_default
returns-in_default c = no_links c.args.bytes.now c.in-Err.e c.in_default.not-OutOfMemory c.in-Err.ensures
