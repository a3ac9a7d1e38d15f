use Rattle.std.proofs.Common.{List, ℕ, Bor, ap, sym, ◌∙◌}
use Rattle.std.specs.Option.{option_map}
use Rattle.proto_wire.specs.Field.{field_view, bytes_of, last_of}
use Rattle.proto_wire.proofs.Finds.{last_more, no_more}
use Rattle.proto_wire.proofs.find.last_bytes.Goals as goal
use Rattle.proto_wire.proofs.find.last_bytes.Goals.{in-Some, in_default}

pub fields-preserved : goal.fields-preserved
fields-preserved c =
    elim c.match-bytes_in.branch [
      | in-Some w ↦ ap (option_map (λ (b : Bor (List ℕ)). b.now)) w.last-is ∙ sym (last_more (bytes_of c.args.number) field_view c.as_slice-field-items.result.now c.fields.field-index _ w.in-Some.content.now c.fields-test.true (sym w.in-Some.ensures))
      | in_default w ↦
          ap (option_map (λ (b : Bor (List ℕ)). b.now)) w.last-is ∙ c.fields.invariant ∙ ap last_of (sym (no_more (bytes_of c.args.number) field_view c.as_slice-field-items.result.now c.fields.field-index _ c.fields-test.true (sym w.in_default.ensures)))
    ]
