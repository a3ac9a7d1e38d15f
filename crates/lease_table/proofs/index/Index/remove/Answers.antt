use Rattle.std.proofs.Common.{◌∙◌, sym, ap, arith}
use Rattle.lease_table.specs.Table.{others}
use Rattle.lease_table.proofs.RowLaws.{without_none, without_next, without_all}
use Rattle.lease_table.proofs.index.Index.remove.Goals as goal

pub gone-init : goal.gone-init
gone-init c = sym (without_none c.args.self.now)

pub gone-preserved : goal.gone-preserved
gone-preserved c =
    c.remove_one.ensures ∙ ap (others c.digest-item.result) c.gone.invariant
    ∙ without_next c.args.gone.now c.gone.digest-index c.digest-item.result c.args.self.now c.gone-test.true c.digest-item.is

pub returns : goal.returns
returns c = c.gone.invariant ∙ without_all c.args.gone.now c.gone.digest-index c.args.self.now (omega arith)
