use Rattle.std.proofs.Common.{◌≡◌, ◌<◌, take, None}
use Rattle.std.specs.Prelude.{if◌then◌else◌}
use Rattle.digest_types.specs.Name.{HashAndSize}
use Rattle.store_core.specs.State.{is_among}
use Rattle.blob_store.specs.Kept.{told_in}
use Rattle.blob_store.specs.Shelves.{discarding}
use Rattle.blob_store.proofs.bodies.Bodies.give_up_all.Given as goal

abbrev pub invariant-gone : goal.invariant-gone
invariant-gone g l = record {
  bodies : (d : HashAndSize) → told_in l.self.bodies d ≡ (if is_among (take l.digest-index l.gone) d then None else told_in l.initial.self.bodies d);
  room : 0 < l.initial.self.room → 0 < l.self.room;
  shelf : g.K.Shelf.shelved l.shelf ≡ discarding l.digest-index (g.K.Shelf.shelved l.initial.shelf);
}
