use Rattle.std.proofs.Common.{◌≡◌, map, take}
use Rattle.std.specs.Option.{option_map}
use Rattle.proto_wire.specs.Field.{field_view, contents_of, last_of}
use Rattle.proto_wire.proofs.find.last_bytes.Given as goal

abbrev pub invariant-fields : goal.invariant-fields
invariant-fields l = option_map (λ b. b.now) l.last ≡ last_of (contents_of l.number (map field_view (take l.field-index l.field-items)))
