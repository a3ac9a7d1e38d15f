use Rattle.std.proofs.Common.{arith}
use Rattle.proto_wire.proofs.Bounds.{bound_ten}
use Rattle.proto_wire.proofs.write.push_varint.Goals as goal

pub push_groups-requires-clause-small : goal.push_groups-requires-clause-small
push_groups-requires-clause-small c = omega (arith, bound_ten)
