use Rattle.std.proofs.Common.{map, None}
use Rattle.proto_wire.specs.Field.{field_view}
use Rattle.directory_canon.specs.Reading.{entries_in}
use Rattle.directory_canon.proofs.EntryLoop.{starts, goes_on, ends, is_done, before_is}
use Rattle.directory_canon.proofs.entries.entries_in.Goals as goal

pub fields-init : goal.fields-init
fields-init c = rw c.new-found.ensures.items (starts c.args.whole.now (map field_view c.args.fields.now))

pub fields-preserved : goal.fields-preserved
fields-preserved c =
    let before = before_is c.last.result c.fields.found.items (rw c.deref.ensures.value at c.last.ensures.value) in
    rw c.in_ok-extend_from_slice.ensures.items
    (goes_on c.args.whole.now c.fields.found.items c.args.fields.now c.fields.field-index _ c.in-Ok.next (entries_in c.args.whole.now None (map field_view c.args.fields.now)) c.fields-test.true (rw before at c.in-Ok.ensures) c.fields.invariant)

pub returns-in-Err : goal.returns-in-Err
returns-in-Err c =
    let before = before_is c.last.result c.fields.found.items (rw c.deref.ensures.value at c.last.ensures.value) in
    ends c.args.whole.now c.fields.found.items c.args.fields.now c.fields.field-index _ c.in-Err.e (entries_in c.args.whole.now None (map field_view c.args.fields.now)) c.fields-test.true (rw before at c.in-Err.ensures) c.fields.invariant

pub returns : goal.returns
returns c = is_done c.args.whole.now c.fields.found.items c.args.fields.now c.fields.field-index (entries_in c.args.whole.now None (map field_view c.args.fields.now)) c.fields-test.false c.fields.invariant
