use Rattle.std.proofs.Common.{arith}
use Rattle.std.proofs.lemmas.Bool.Decides.{nat_tests}
use Rattle.grpc_calls.proofs.MessageLaws.{flag_takes}
use Rattle.grpc_calls.proofs.unfinished.take_prefix.Goals as goal

pub returns-in-Some-clause-takes : goal.returns-in-Some-clause-takes
returns-in-Some-clause-takes c = flag_takes c.args.prefix.now.items c.args.bytes.now c.in-Some.fault (grind (arith, nat_tests)) c.requires.some c.in-Some.ensures.some
