use Rattle.std.proofs.Common.{◌≡◌}
use Rattle.indexed_core.specs.Removal.{removed, IsPassed}
use Rattle.blob_store.specs.Kept.{KeepsBodies}
use Rattle.blob_store.specs.Shelves.{discarding}
use Rattle.blob_store.proofs.store.Store.pass.Given as goal

abbrev pub invariant-rows : goal.invariant-rows
invariant-rows g l = record {
  core : l.self.state ≡ removed l.initial.self.state l.counter;
  bodies : KeepsBodies l.initial.self l.self;
  passed : IsPassed l.self.state l.from;
  shelf : g.K.Shelf.shelved l.shelf ≡ discarding l.counter (g.K.Shelf.shelved l.initial.shelf);
}
