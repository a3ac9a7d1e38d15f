use Rattle.std.proofs.Common.{◌≡◌, take}
use Rattle.std.specs.List.{flat_map}
use Rattle.proto_wire.specs.Spelling.{varint}
use Rattle.proto_wire.proofs.repeated.pack.Given as goal

abbrev pub invariant-values : goal.invariant-values
invariant-values l = l.out.items ≡ flat_map varint (take l.n-index l.values)
