use Rattle.proto_wire.specs.Spelling.{bytes_field}
use Rattle.cas_messages.proofs.Writing.{list_part}
use Rattle.cas_messages.proofs.put.put_contents.Goals as goal

pub returns-in_err-bytes-clause-err : goal.returns-in_err-bytes-clause-err
returns-in_err-bytes-clause-err c = list_part c.from_residual.result (bytes_field c.args.number) c.args.values.now c.values.value-index c.args.out.now c.values.out c.bytes.new.self c.values.invariant.wrote c.in_err-bytes.ensures.err
