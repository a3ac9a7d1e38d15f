use Rattle.proto_wire.proofs.read.+varint_in.Given as goal

abbrev pub decreases-varint_in : goal.decreases-varint_in
decreases-varint_in l = l.more
