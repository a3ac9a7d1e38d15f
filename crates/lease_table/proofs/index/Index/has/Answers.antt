use Rattle.std.proofs.Common.{◌∙◌, sym, ap, subst}
use Rattle.std.specs.List.{list_any}
use Rattle.lease_table.specs.Table.{is_blob, Distinct}
use Rattle.lease_table.proofs.RowLaws.{has_in, distinct_rows}
use Rattle.lease_table.proofs.index.Index.has.Goals as goal

pub returns-clause-has : goal.returns-clause-has
returns-clause-has c =
    let i = c.self.inside in
    let d = c.args.digest.now in
    c.contains_key.ensures ∙ c.self.invariant.has d ∙ sym (has_in i.order i.edges.entries d) ∙ ap (list_any (is_blob d)) c.self.view_is

pub returns-clause-distinct : goal.returns-clause-distinct
returns-clause-distinct c = subst Distinct c.self.view_is (distinct_rows c.self.inside.order c.self.inside.edges.entries c.self.invariant.distinct)
