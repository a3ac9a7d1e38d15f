use Rattle.std.proofs.Common.{◌≡◌, ap, ◌∙◌, arith}
use Rattle.hpack_tables.specs.Table.{HeaderTable, list_size, fitting}
use Rattle.hpack_tables.proofs.Fitting.{fitting_fits}
use Rattle.hpack_tables.proofs.dynamic_table.DynamicTable.resize.Goals as goal

pub invariant_of-self : goal.invariant_of-self
invariant_of-self c =
    let i = c.self.invariant in
    let entries : c.self.inside.entries.items ≡ fitting c.args.max c.args.self.now.entries = ap (λ (t : HeaderTable). t.entries) c.self.view_is ∙ ap (λ (t : HeaderTable). t.entries) c.evict.ensures in
    (i.0, omega (arith, i.0, ap list_size entries, fitting_fits c.args.max c.args.self.now.entries), c.requires)
