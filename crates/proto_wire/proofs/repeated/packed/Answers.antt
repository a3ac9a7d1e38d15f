use Rattle.std.proofs.Common.{ap, map, sym, ◌∙◌}
use Rattle.std.proofs.lemmas.Result.{err_from_is_err_and}
use Rattle.proto_wire.specs.Field.{field_view}
use Rattle.proto_wire.specs.Packed.{packed_of}
use Rattle.proto_wire.proofs.PackedLoop.{item_goes_on, item_ends, items_done}
use Rattle.proto_wire.proofs.repeated.packed.Goals as goal

pub returns-in_err-add_numbers : goal.returns-in_err-add_numbers
returns-in_err-add_numbers c =
    let p = err_from_is_err_and c.from_residual.result c.from_residual.ensures.1 in
    let same = ap (packed_of c.args.number) c.as_slice-field-items.ensures in
    rw (p.1, p.2, ← same) (item_ends c.in_err-add_numbers.field-0.0 c.args.number c.fields.found.items field_view c.as_slice-field-items.result.now c.fields.field-index _ (packed_of c.args.number (map field_view c.as_slice-field-items.result.now)) c.fields-test.true c.in_err-add_numbers.ensures c.fields.invariant)

pub fields-preserved : goal.fields-preserved
fields-preserved c = item_goes_on c.args.number c.fields.found.items c.add_numbers.new.found.items field_view c.as_slice-field-items.result.now c.fields.field-index _ _ c.fields-test.true c.in_ok-add_numbers.ensures c.fields.invariant

pub returns : goal.returns
returns c = ap (packed_of c.args.number) (sym c.as_slice-field-items.ensures) ∙ items_done c.args.number c.fields.found.items field_view c.as_slice-field-items.result.now c.fields.field-index _ c.fields-test.false c.fields.invariant
