use Rattle.std.proofs.Common.{◌≡◌, map, take}
use Rattle.proto_wire.specs.Field.{field_view, ints, last_of}
use Rattle.proto_wire.proofs.find.last_int.Given as goal

abbrev pub invariant-fields : goal.invariant-fields
invariant-fields l = l.last ≡ last_of (ints l.number (map field_view (take l.field-index l.field-items)))
