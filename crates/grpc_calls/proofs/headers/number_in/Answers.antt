use Rattle.std.proofs.Common.{◌≡◌, arith}
use Rattle.grpc_calls.proofs.HeaderLaws.{digit_more}
use Rattle.grpc_calls.proofs.headers.number_in.Goals as goal

pub digits-preserved : goal.digits-preserved
digits-preserved c = record {
  small = omega arith;
  same = digit_more c.args.digits.now c.digits.digit-index c.digits.number c.from.result c.min-number.result _ c.digits-test.true (omega arith) c.min-number.ensures c.digits.invariant.same;
}
