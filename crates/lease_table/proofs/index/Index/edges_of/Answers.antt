use Rattle.std.proofs.Common.{◌∙◌, ◌&&◌, List, sym, ap}
use Rattle.std.specs.List.{list_any}
use Rattle.directory_canon.specs.declared.node.Edge.{Edge}
use Rattle.store_core.specs.Reach.{Linked, is_pair, links_to}
use Rattle.lease_table.specs.Table.{is_blob}
use Rattle.lease_table.proofs.RowLaws.{told_there, told_nowhere, same_links}
use Rattle.lease_table.proofs.index.Index.edges_of.Goals as goal

pub returns-in-Some : goal.returns-in-Some
returns-in-Some c = λ pair.
    let i = c.self.inside in
    let d = c.args.digest.now in
    ap (λ (edges : List Edge). list_any (is_pair pair) edges) c.listed.ensures
    ∙ same_links c.in-Some.edges.now pair
    ∙ sym (told_there (λ row. links_to row.edges pair) i.order i.edges.entries d c.in-Some.edges.now c.self.invariant (sym c.in-Some.ensures.value))
    ∙ ap (λ (rows : List Linked). list_any (λ row. is_blob d row && links_to row.edges pair) rows) c.self.view_is

pub returns-in-None : goal.returns-in-None
returns-in-None c = λ pair.
    let i = c.self.inside in
    let d = c.args.digest.now in
    sym (told_nowhere (λ row. links_to row.edges pair) i.order i.edges.entries d c.self.invariant (sym c.in-None.ensures.value))
    ∙ ap (λ (rows : List Linked). list_any (λ row. is_blob d row && links_to row.edges pair) rows) c.self.view_is
