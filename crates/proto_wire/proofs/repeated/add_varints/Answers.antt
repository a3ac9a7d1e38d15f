use Rattle.std.proofs.Common.{length}
use Rattle.std.proofs.lemmas.Result.{err_from_is_err_and}
use Rattle.proto_wire.proofs.Loop.{goes, is_over}
use Rattle.proto_wire.proofs.PackedLoop.{read_varints, varint_goes_on, varint_ends, varints_done}
use Rattle.proto_wire.proofs.Shrinks.{varint_shrinks}
use Rattle.proto_wire.proofs.repeated.add_varints.Goals as goal

pub returns-in_err-n : goal.returns-in_err-n
returns-in_err-n c =
    let p = err_from_is_err_and c.from_residual.result c.from_residual.ensures.1 in
    rw (p.1, p.2) (varint_ends c.in_err-n.field-0.0 c.varints.found.items c.args.at c.varints.rest.now (read_varints c.args.found.now.items c.args.at c.args.content.now) (goes (length c.varints.rest.now) c.is_empty.result c.is_empty.ensures c.varints-test.true) c.in_err-n.ensures c.varints.invariant)

pub varints-smaller : goal.varints-smaller
varints-smaller c = varint_shrinks c.args.at 10 c.varints.rest.now (c.in_ok-n.n, c.in_ok-n.after.now) c.in_ok-n.ensures

pub varints-preserved : goal.varints-preserved
varints-preserved c = rw c.in_ok-push.ensures.items (varint_goes_on c.varints.found.items c.args.at c.varints.rest.now c.in_ok-n.after.now c.in_ok-n.n (read_varints c.args.found.now.items c.args.at c.args.content.now) (goes (length c.varints.rest.now) c.is_empty.result c.is_empty.ensures c.varints-test.true) c.in_ok-n.ensures c.varints.invariant)

pub returns : goal.returns
returns c = varints_done c.varints.found.items c.args.at c.varints.rest.now (read_varints c.args.found.now.items c.args.at c.args.content.now) (is_over (length c.varints.rest.now) c.is_empty.result c.is_empty.ensures c.varints-test.false) c.varints.invariant
