use Rattle.std.proofs.Common.{◌≡◌, ◌≤◌, ◌<◌, ◌+◌, ◌-◌, length, None}
use Rattle.blob_store.specs.Bodies.{HasRead}
use Rattle.cas_calls.specs.Plays.{Leaves}
use Rattle.cas_calls.proofs.served.read_body.Given as goal

abbrev pub invariant-pieces : goal.invariant-pieces
invariant-pieces g l =
    HasRead l.reading l.bytes.items
    × (length l.bytes.items ≤ l.size)
    × (0 < length l.piece.items)
    × (l.reading.want ≡ l.fn.reading.want)
    × (l.reading.end ≡ None)
    × Leaves (g.K.Shelf.shelved l.fn.shelf) (g.K.Shelf.shelved l.shelf)

abbrev pub decreases-pieces : goal.decreases-pieces
decreases-pieces g l = l.size + 1 - length l.bytes.items
