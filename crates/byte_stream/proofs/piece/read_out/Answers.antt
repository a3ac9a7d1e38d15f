use Rattle.std.proofs.Common.{[], length, ◌<◌, arith}
use Rattle.cas_calls.proofs.ReadLaws.{leaves_none}
use Rattle.byte_stream.proofs.PieceLaws.{reads_none, out_step}
use Rattle.byte_stream.proofs.piece.read_out.Goals as goal

pub pieces-init : goal.pieces-init
pieces-init g c = (c.requires.begun, ([], reads_none c.args.reading.now c.args.place.now.read c.requires.begun), c.requires.want, c.requires.some, leaves_none (g.K.Shelf.shelved c.args.shelf.now))

pub pieces-preserved : goal.pieces-preserved
pieces-preserved g c =
    let some : 0 < length c.next.new.buf = omega (arith, c.next.auto.buf, c.pieces.invariant.3) in
    out_step c.args.reading.now c.pieces.reading c.next.new.self c.pieces.read c.in-Ok.count c.pieces.invariant.1.0 c.next.new.buf c.args.place.now.digest (g.K.Shelf.shelved c.args.shelf.now) (g.K.Shelf.shelved c.pieces.shelf) (g.K.Shelf.shelved c.next.new.shelf)
    c.pieces.invariant.0 c.pieces.invariant.1.1 c.pieces.invariant.2 c.pieces.invariant.4 c.in-Ok.ensures.bound c.in-Ok.ensures.bytes (record { want = c.in-Ok.ensures.want; told = c.in-Ok.ensures.told }) c.in-Ok.ensures.ok some c.in-Ok.ensures.stays
