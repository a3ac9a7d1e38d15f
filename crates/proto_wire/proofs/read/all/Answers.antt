use Rattle.std.proofs.Common.{◌≡◌, ◌++◌, ◌∷◌, [], ◌-◌, List, Ok, length, map, ap, sym, ◌∙◌, arith}
use Rattle.std.proofs.lemmas.Result.{err_from_is_err_and}
use Rattle.std.proofs.lemmas.List.{map_push}
use Rattle.proto_wire.specs.Field.{WireField, field_view}
use Rattle.proto_wire.specs.Reading.{fields_of, fields_in}
use Rattle.proto_wire.proofs.Loop.{goes_on, ends, is_done, goes, is_over}
use Rattle.proto_wire.proofs.Shrinks.{field_shrinks}
use Rattle.proto_wire.proofs.read.all.Goals as goal

pub returns-in_err-next : goal.returns-in_err-next
unfolding fields_of
returns-in_err-next c =
    let p = err_from_is_err_and c.from_residual.result c.from_residual.ensures.1 in
    rw (p.1, p.2) (ends c.in_err-next.field-0.0 (map field_view c.fields.found.items) (length c.args.bytes.now) c.fields.rest.now (fields_in (length c.args.bytes.now) (length c.args.bytes.now) c.args.bytes.now) (goes (length c.fields.rest.now) c.is_empty.result c.is_empty.ensures c.fields-test.true) c.in_err-next.ensures c.fields.invariant.so_far)

pub fields-smaller : goal.fields-smaller
fields-smaller c = omega (arith, field_shrinks (length c.args.bytes.now - length c.fields.rest.now) c.fields.rest.now (field_view c.in_ok-next.next, c.in_ok-next.after.now) c.in_ok-next.ensures)

pub fields-preserved : goal.fields-preserved
fields-preserved c =
    let e : map field_view c.push.new.self.items ≡ map field_view c.fields.found.items ++ field_view c.in_ok-next.next ∷ [] = rw c.in_ok-push.ensures.items (map_push field_view c.fields.found.items c.in_ok-next.next) in
    record {
      so_far = rw e (goes_on (map field_view c.fields.found.items) (length c.args.bytes.now) c.fields.rest.now c.in_ok-next.after.now (field_view c.in_ok-next.next) (fields_in (length c.args.bytes.now) (length c.args.bytes.now) c.args.bytes.now) (goes (length c.fields.rest.now) c.is_empty.result c.is_empty.ensures c.fields-test.true) c.in_ok-next.ensures c.fields.invariant.so_far);
      within = omega (arith, c.fields.invariant.within, field_shrinks (length c.args.bytes.now - length c.fields.rest.now) c.fields.rest.now (field_view c.in_ok-next.next, c.in_ok-next.after.now) c.in_ok-next.ensures);
    }

pub returns : goal.returns
unfolding fields_of
returns c =
    is_done (map field_view c.fields.found.items) (length c.args.bytes.now) c.fields.rest.now (fields_in (length c.args.bytes.now) (length c.args.bytes.now) c.args.bytes.now) (is_over (length c.fields.rest.now) c.is_empty.result c.is_empty.ensures c.fields-test.false) c.fields.invariant.so_far
    ∙ ap (λ (fs : List WireField). Ok fs) (sym c.from_vec.ensures)
