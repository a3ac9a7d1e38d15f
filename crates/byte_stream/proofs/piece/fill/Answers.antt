use Rattle.std.proofs.Common.{◌≡◌, ◌<◌, ◌≤◌, ◌+◌, ◌-◌, ◌∙◌, length, arith}
use borrow.Rule.Slice.PartMut.{same_len_mid}
use Rattle.byte_stream.proofs.PieceLaws.{some_read, mid_length, fill_step}
use Rattle.byte_stream.proofs.piece.fill.Goals as goal

pub bytes-smaller : goal.bytes-smaller
bytes-smaller g c =
    let len = same_len_mid c.bytes.at (length c.bytes.buf - c.bytes.at) c.bytes.buf c.next.new.buf c.next.auto.buf in
    let part : length c.next.new.buf ≡ length c.bytes.buf - c.bytes.at = c.next.auto.buf ∙ mid_length c.bytes.at c.bytes.buf in
    let some = some_read c.bytes.reading c.next.new.self (length c.bytes.buf - c.bytes.at) c.in-Ok.count c.next.new.buf c.bytes.invariant.1 (omega arith) (omega (arith, part)) c.in-Ok.ensures.bytes c.in-Ok.ensures.want c.in-Ok.ensures.ended in
    omega (arith, len, some)

pub bytes-preserved : goal.bytes-preserved
bytes-preserved g c =
    fill_step c.args.reading.now c.bytes.reading c.next.new.self c.bytes.at c.in-Ok.count c.bytes.buf c.next.new.buf (g.K.Shelf.shelved c.args.shelf.now) (g.K.Shelf.shelved c.bytes.shelf) (g.K.Shelf.shelved c.next.new.shelf)
    c.bytes.invariant.0 c.bytes.invariant.1 c.bytes.invariant.2 c.bytes.invariant.3 c.next.auto.buf c.in-Ok.ensures.bound c.in-Ok.ensures.bytes (record { want = c.in-Ok.ensures.want; told = c.in-Ok.ensures.told }) c.in-Ok.ensures.ok c.in-Ok.ensures.stays
