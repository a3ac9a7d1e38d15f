use Rattle.proto_wire.proofs.PackedLaws.{packed-read}
use Rattle.proto_wire.proofs.laws.packed_again.Goals as goal

pub returns : goal.returns
returns c = packed-read
