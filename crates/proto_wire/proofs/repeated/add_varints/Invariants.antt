use Rattle.std.proofs.Common.{◌≡◌, length}
use Rattle.proto_wire.proofs.PackedLoop.{read_varints}
use Rattle.proto_wire.proofs.repeated.add_varints.Given as goal

abbrev pub invariant-varints : goal.invariant-varints
invariant-varints l = read_varints l.found.items l.at l.rest ≡ read_varints l.initial.found.items l.at l.content

abbrev pub decreases-varints : goal.decreases-varints
decreases-varints l = length l.rest
