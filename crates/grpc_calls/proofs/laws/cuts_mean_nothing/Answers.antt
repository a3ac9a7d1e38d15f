use Rattle.grpc_calls.proofs.MessageLaws.{taken_append}
use Rattle.grpc_calls.proofs.laws.cuts_mean_nothing.Goals as goal

pub returns : goal.returns
returns c = taken_append
