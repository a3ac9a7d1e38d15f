use Rattle.std.proofs.Common.{◌≡◌, ◌≤◌, ◌<◌, ◌+◌, ◌-◌, length, List, ℕ}
use Rattle.cas_calls.specs.Plays.{Leaves}
use Rattle.byte_stream.specs.Pieces.{HasCount, ReadsMore}
use Rattle.byte_stream.proofs.piece.read_out.Given as goal

abbrev pub invariant-pieces : goal.invariant-pieces
invariant-pieces g l =
    HasCount l.reading l.read
    × ((more : List ℕ) × ReadsMore l.fn.reading l.reading more)
    × (l.reading.want ≡ l.place.digest)
    × (0 < length l.scratch)
    × Leaves (g.K.Shelf.shelved l.fn.shelf) (g.K.Shelf.shelved l.shelf)

abbrev pub decreases-pieces : goal.decreases-pieces
decreases-pieces g l = l.place.digest.size + 1 - l.read
