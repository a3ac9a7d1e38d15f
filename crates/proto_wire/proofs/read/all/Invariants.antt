use Rattle.std.proofs.Common.{◌≡◌, ◌≤◌, length, map}
use Rattle.proto_wire.specs.Field.{field_view}
use Rattle.proto_wire.specs.Reading.{fields_in}
use Rattle.proto_wire.proofs.Loop.{read_all}
use Rattle.proto_wire.proofs.read.all.Given as goal

abbrev pub invariant-fields : goal.invariant-fields
invariant-fields l = record {
  so_far : read_all (map field_view l.found.items) (length l.bytes) l.rest ≡ fields_in (length l.bytes) (length l.bytes) l.bytes;
  within : length l.rest ≤ length l.bytes;
}

abbrev pub decreases-fields : goal.decreases-fields
decreases-fields l = length l.rest
