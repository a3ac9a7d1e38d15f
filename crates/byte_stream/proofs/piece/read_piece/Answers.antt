use Rattle.std.proofs.Common.{◌≡◌, ◌≤◌, ◌-◌, ◌∙◌, length, arith}
use Rattle.std.specs.Prelude.{min}
use Rattle.byte_stream.proofs.PieceLaws.{piece_room, piece_given, whole_buf}
use Rattle.byte_stream.proofs.piece.read_piece.Goals as goal

pub fill-requires : goal.fill-requires
fill-requires g c =
    let fits : length c.as_mut_slice.result.now ≤ c.args.place.now.stop - c.args.place.now.next = omega (arith, c.as_mut_slice.ensures.len, c.in_ok-piece.ensures.len, c.min-size.ensures) in
    record { room = piece_room c.args.place.now c.args.reading.now c.skip.new.reading c.in_ok-skip.ensures.ok.0 (length c.as_mut_slice.result.now) c.requires.begun c.requires.ahead c.requires.range c.requires.want c.in_ok-skip.ensures.ok.2 c.in_ok-skip.ensures.ok.1 fits }

pub returns-clause-ok : goal.returns-clause-ok
returns-clause-ok g c =
    let size : length c.fill.new.buf ≡ c.min-size.result = omega (arith, c.fill.auto.buf, c.as_mut_slice.ensures.len, c.in_ok-piece.ensures.len) in
    let len : length c.fill.new.buf ≡ c.in_ok-piece.piece.len = omega (arith, size, c.in_ok-piece.ensures.len) in
    rw (c.from_vec.ensures, whole_buf c.in_ok-piece.piece.len c.fill.new.buf _ len)
    (piece_given c.args.place.now c.args.reading.now c.skip.new.reading c.fill.new.reading c.in_ok-skip.ensures.ok.0 c.fill.new.buf c.requires.ahead c.requires.range c.in_ok-skip.ensures.ok.2 c.in_ok-skip.ensures.ok.1 c.in_ok-fill.ensures.ok (size ∙ c.min-size.ensures))
