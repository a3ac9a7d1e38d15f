use Rattle.std.proofs.Common.{◌≡◌, map, take}
use Rattle.proto_wire.specs.Field.{field_view, contents_of}
use Rattle.proto_wire.proofs.find.contents.Given as goal

abbrev pub invariant-fields : goal.invariant-fields
invariant-fields l = map (λ b. b.now) l.found.items ≡ contents_of l.number (map field_view (take l.field-index l.field-items))
