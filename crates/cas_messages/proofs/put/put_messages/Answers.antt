use Rattle.proto_wire.specs.Spelling.{bytes_field}
use Rattle.cas_messages.specs.Spelling.{spelled}
use Rattle.cas_messages.proofs.Writing.{mapped_part}
use Rattle.cas_messages.proofs.put.put_messages.Goals as goal

pub returns-in_err-put_message-clause-err : goal.returns-in_err-put_message-clause-err
returns-in_err-put_message-clause-err g c = mapped_part c.from_residual.result (λ m. bytes_field c.args.number (spelled g.T.Message.table m)) g.T.Message.value c.args.values.now c.values.value-index c.args.out.now c.values.out c.put_message.new.out c.values.invariant.wrote c.in_err-put_message.ensures.err
