use Rattle.std.proofs.Common.{◌∙◌, ◌-◌, refl}
use Rattle.lease_table.proofs.DepthLaws.{deep_told, none_nearer, within_nearer}
use Rattle.lease_table.proofs.depth.is_deep.Goals as goal

pub returns-then-steps-eq0 : goal.returns-then-steps-eq0
returns-then-steps-eq0 c =
    c.is_further-deep.ensures
    ∙ deep_told c.args.rows.now c.args.starts.now c.args.reached.now c.new-none.result c.args.steps c.requires (λ pair. none_nearer c.args.rows.now c.args.starts.now c.new-none.result c.args.steps pair c.new-none.ensures c.if-steps-eq0.true)

pub returns : goal.returns
returns c =
    c.is_further-further.ensures
    ∙ deep_told c.args.rows.now c.args.starts.now c.args.reached.now c.in_ok-near.near c.args.steps c.requires (λ pair. within_nearer c.args.rows.now c.args.starts.now c.in_ok-near.near c.args.steps (c.args.steps - 1) pair c.if-steps-eq0.false refl (c.in_ok-near.ensures pair))
