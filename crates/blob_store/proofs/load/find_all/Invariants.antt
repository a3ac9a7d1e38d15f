use Rattle.std.proofs.Common.{◌<◌, length}
use Rattle.blob_store.specs.Loading.{Sifted}
use Rattle.blob_store.proofs.load.find_all.Given as goal

abbrev pub invariant-bodies : goal.invariant-bodies
invariant-bodies g l = record {
  sifted : Sifted (g.K.Shelf.shelved l.fn.shelf) (g.K.Shelf.shelved l.shelf) l.found.rows;
  buf : 0 < length l.buf.items;
}

abbrev pub decreases-bodies : goal.decreases-bodies
decreases-bodies g l = (g.K.Shelf.shelved l.shelf).to_find
