use Rattle.std.proofs.Common.{◌∙◌, ◌&&◌, List, is_some, sym, ap}
use Rattle.std.specs.List.{list_any}
use Rattle.store_core.specs.Reach.{Linked}
use Rattle.lease_table.specs.Table.{is_blob}
use Rattle.lease_table.proofs.RowLaws.{told_there, told_nowhere}
use Rattle.lease_table.proofs.index.Index.is_dir.Goals as goal

pub returns-in-Some : goal.returns-in-Some
returns-in-Some c =
    let i = c.self.inside in
    let d = c.args.digest.now in
    c.is_some.ensures
    ∙ sym (told_there (λ row. is_some row.edges) i.order i.edges.entries d c.in-Some.edges.now c.self.invariant (sym c.in-Some.ensures.value))
    ∙ ap (λ (rows : List Linked). list_any (λ row. is_blob d row && is_some row.edges) rows) c.self.view_is

pub returns-in-None : goal.returns-in-None
returns-in-None c =
    let i = c.self.inside in
    let d = c.args.digest.now in
    sym (told_nowhere (λ row. is_some row.edges) i.order i.edges.entries d c.self.invariant (sym c.in-None.ensures.value))
    ∙ ap (λ (rows : List Linked). list_any (λ row. is_blob d row && is_some row.edges) rows) c.self.view_is
