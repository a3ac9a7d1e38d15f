use Rattle.std.proofs.Common.{◌≤◌, ◌+◌, ◌*◌, [], drop}
use Rattle.cas_calls.specs.Plays.{IsIn, Took}
use Rattle.cas_calls.specs.BatchRead.{blobs_script}
use Rattle.cas_calls.proofs.read.read_blobs.Given as goal

abbrev pub invariant-digests : goal.invariant-digests
invariant-digests g l =
    Took (blobs_script l.digests []) (g.D.Door.view l.fn.door) (g.D.Door.view l.door) (g.K.Shelf.shelved l.fn.shelf) (g.K.Shelf.shelved l.shelf) (2 * l.digest-index) (blobs_script (drop l.digest-index l.digests) l.answers.items)
    × IsIn (g.D.Door.view l.door)
