use Rattle.std.proofs.Common.{◌-◌, arith}
use Rattle.proto_wire.proofs.Bounds.{bound_step, bound_fits, bound_more}
use Rattle.proto_wire.proofs.Varints.{IsBytes-rest, varint_takes}
use Rattle.proto_wire.proofs.read.+varint_in.Goals as goal

pub overflow_mul-result : goal.overflow_mul-result
overflow_mul-result t c =
    let h = varint_takes c.args.at (c.args.more - 1) _ (c.in_ok-high-in-len1-up.high, c.in_ok-high-in-len1-up.rest.now) (IsBytes-rest c.args.bytes.now (λ i. omega (arith, c.type_inv.bytes i))) (omega arith) c.in_ok-high-in-len1-up.ensures in
    omega (arith, h.small, bound_step c.args.more (omega arith), bound_fits c.args.more (omega arith))

pub overflow_add-result : goal.overflow_add-result
overflow_add-result t c =
    let h = varint_takes c.args.at (c.args.more - 1) _ (c.in_ok-high-in-len1-up.high, c.in_ok-high-in-len1-up.rest.now) (IsBytes-rest c.args.bytes.now (λ i. omega (arith, c.type_inv.bytes i))) (omega arith) c.in_ok-high-in-len1-up.ensures in
    omega (arith, bound_more c.args.more c.from-in-len1-up.result c.in_ok-high-in-len1-up.high (omega arith) (omega (arith, c.type_inv.bytes 0)) h.small, bound_fits c.args.more (omega arith))
