use Rattle.std.proofs.Common.{◌≡◌, map, None}
use Rattle.proto_wire.specs.Field.{field_view}
use Rattle.directory_canon.specs.Reading.{entries_in}
use Rattle.directory_canon.proofs.EntryLoop.{rest_of}
use Rattle.directory_canon.proofs.entries.entries_in.Given as goal

abbrev pub invariant-fields : goal.invariant-fields
invariant-fields l = rest_of l.whole l.found.items l.fields l.field-index ≡ entries_in l.whole None (map field_view l.fields)
