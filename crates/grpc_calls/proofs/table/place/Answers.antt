use Rattle.grpc_calls.proofs.TableLaws.{found_call}
use Rattle.grpc_calls.proofs.table.place.Goals as goal

pub returns-clause-call : goal.returns-clause-call
returns-clause-call c = found_call c.args.stream c.args.calls.now c.find.result c.find.ensures.value
