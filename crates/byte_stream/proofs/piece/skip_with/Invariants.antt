use Rattle.std.proofs.Common.{◌≡◌, ◌≤◌, ◌<◌, ◌+◌, length, List, ℕ}
use Rattle.cas_calls.specs.Plays.{Leaves}
use Rattle.byte_stream.specs.Pieces.{HasRoom, ReadsMore}
use Rattle.byte_stream.proofs.piece.skip_with.Given as goal

abbrev pub invariant-bytes : goal.invariant-bytes
invariant-bytes g l =
    HasRoom l.reading l.left
    × ((more : List ℕ) × (length more + l.left ≡ l.fn.count) × ReadsMore l.fn.reading l.reading more)
    × Leaves (g.K.Shelf.shelved l.fn.shelf) (g.K.Shelf.shelved l.shelf)

abbrev pub decreases-bytes : goal.decreases-bytes
decreases-bytes g l = l.left
