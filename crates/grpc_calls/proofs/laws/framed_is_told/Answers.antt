use Rattle.grpc_calls.proofs.FramedLaws.{framed_told}
use Rattle.grpc_calls.proofs.laws.framed_is_told.Goals as goal

pub returns : goal.returns
returns c = framed_told
