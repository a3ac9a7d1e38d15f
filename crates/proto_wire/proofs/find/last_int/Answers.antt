use Rattle.std.proofs.Common.{ap, sym, ◌∙◌}
use Rattle.proto_wire.specs.Field.{field_view, int_of, last_of}
use Rattle.proto_wire.proofs.Finds.{last_more, no_more}
use Rattle.proto_wire.proofs.find.last_int.Goals as goal
use Rattle.proto_wire.proofs.find.last_int.Goals.{in-Some, in_default}

pub fields-preserved : goal.fields-preserved
fields-preserved c =
    elim c.match-int_in.branch [
      | in-Some w ↦ w.last-is ∙ sym (last_more (int_of c.args.number) field_view c.as_slice-field-items.result.now c.fields.field-index _ w.in-Some.n c.fields-test.true (sym w.in-Some.ensures))
      | in_default w ↦ w.last-is ∙ c.fields.invariant ∙ ap last_of (sym (no_more (int_of c.args.number) field_view c.as_slice-field-items.result.now c.fields.field-index _ c.fields-test.true (sym w.in_default.ensures)))
    ]
