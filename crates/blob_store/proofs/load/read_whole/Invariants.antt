use Rattle.std.proofs.Common.{◌≡◌, ◌-◌, ◌<◌, ◌≤◌, length}
use Rattle.blob_store.specs.Loading.{IsScan}
use Rattle.blob_store.specs.Shelves.{Stays}
use Rattle.blob_store.proofs.load.read_whole.Given as goal

abbrev pub invariant-pieces : goal.invariant-pieces
invariant-pieces g l = record {
  scan : IsScan l.scan.hasher l.scan.copy l.scan.size (g.K.Shelf.lent l.fn.reader);
  reader : g.K.Shelf.lent l.reader ≡ g.K.Shelf.lent l.fn.reader;
  room : l.scan.size ≤ l.room;
  buf : 0 < length l.buf;
  stays : Stays (g.K.Shelf.shelved l.fn.shelf) (g.K.Shelf.shelved l.shelf);
}

abbrev pub decreases-pieces : goal.decreases-pieces
decreases-pieces g l = l.room - l.scan.size
