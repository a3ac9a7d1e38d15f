use Rattle.std.proofs.Common.{arith}
use Rattle.casd_server.proofs.Streams.{Adds-more, AddsPart-front, OnErr-any}
use Rattle.casd_server.proofs.output.write_all.Goals as goal

pub pieces-preserved : goal.pieces-preserved
pieces-preserved g c = (
  omega (arith, c.in_ok-done.ensures.bound),
  Adds-more _ _ _ c.args.bytes.now c.pieces.done c.in_ok-done.field-0 c.pieces.invariant.1 c.in_ok-done.ensures.bytes,
  omega (arith, c.in_ok-done.ensures.cause.later, c.pieces.invariant.2),
)

pub returns-in_err-done-clause-err : goal.returns-in_err-done-clause-err
returns-in_err-done-clause-err g c = OnErr-any c.from_residual.result (AddsPart-front _ _ _ c.args.bytes.now c.pieces.done c.pieces.invariant.1 c.in_err-done.ensures.err)
