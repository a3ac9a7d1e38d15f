use Rattle.std.proofs.Common.{◌∙◌, List, sym, ap, subst}
use Rattle.digest_types.specs.Name.{HashAndSize}
use Rattle.lease_table.specs.Table.{others}
use Rattle.lease_table.specs.Rows.{rows_in, IsIndexed}
use Rattle.lease_table.proofs.RowLaws.{indexed_less, rows_less}
use Rattle.lease_table.proofs.index.Index.remove_one.Goals as goal

pub invariant_of-self : goal.invariant_of-self
invariant_of-self c =
    let i = c.self.inside in
    subst (λ (order : List HashAndSize). IsIndexed order c.swap_remove.new.self.entries) (sym c.remove.ensures)
    (indexed_less i.order i.edges.entries c.swap_remove.new.self.entries c.args.digest.now c.self.invariant c.swap_remove.ensures.updates.0)

pub returns : goal.returns
returns c =
    let i = c.self.inside in
    ap (λ (order : List HashAndSize). rows_in order c.swap_remove.new.self.entries) c.remove.ensures
    ∙ rows_less i.order i.edges.entries c.swap_remove.new.self.entries c.args.digest.now c.self.invariant c.swap_remove.ensures.updates.0
    ∙ ap (others c.args.digest.now) c.self.view_is
