use Rattle.std.proofs.Common.{◌≡◌, map, drop}
use Rattle.proto_wire.specs.Field.{field_view}
use Rattle.proto_wire.specs.Packed.{packed_of}
use Rattle.proto_wire.proofs.PackedLoop.{read_packed}
use Rattle.proto_wire.proofs.repeated.packed.Given as goal

abbrev pub invariant-fields : goal.invariant-fields
invariant-fields l = read_packed l.number l.found.items (map field_view (drop l.field-index l.field-items)) ≡ packed_of l.number (map field_view l.field-items)
