use Rattle.std.proofs.Common.{◌-◌, arith}
use Rattle.hpack_tables.proofs.Integers.{pow_few, one_group}
use Rattle.hpack_tables.proofs.integer.+groups_in.Goals as goal

pub returns-then-b-lt128-clause-small : goal.returns-then-b-lt128-clause-small
returns-then-b-lt128-clause-small t c = one_group c.args.more c.from.result (omega arith)

pub overflow_mul-result : goal.overflow_mul-result
overflow_mul-result t c = omega (arith, pow_few (c.args.more - 1) (omega arith), c.in_ok-high-in-len1-up.ensures.small)

pub overflow_add-result : goal.overflow_add-result
overflow_add-result t c = omega (arith, pow_few (c.args.more - 1) (omega arith), c.in_ok-high-in-len1-up.ensures.small, c.type_inv.bytes 0)
