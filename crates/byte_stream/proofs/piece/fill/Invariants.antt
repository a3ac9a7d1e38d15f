use Rattle.std.proofs.Common.{◌≡◌, ◌≤◌, ◌-◌, length, take}
use Rattle.cas_calls.specs.Plays.{Leaves}
use Rattle.byte_stream.specs.Pieces.{HasRoom, ReadsMore}
use Rattle.byte_stream.proofs.piece.fill.Given as goal

abbrev pub invariant-bytes : goal.invariant-bytes
invariant-bytes g l =
    (l.at ≤ length l.buf)
    × HasRoom l.reading (length l.buf - l.at)
    × ReadsMore l.fn.reading l.reading (take l.at l.buf)
    × Leaves (g.K.Shelf.shelved l.fn.shelf) (g.K.Shelf.shelved l.shelf)

abbrev pub decreases-bytes : goal.decreases-bytes
decreases-bytes g l = length l.buf - l.at
