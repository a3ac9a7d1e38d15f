use Rattle.std.proofs.Common.{◌≡◌, List, refl, subst}
use Rattle.indexed_core.proofs.MachineLaws.{guards_are}
use Rattle.std.specs.Prelude.{IfOk}
use Rattle.digest_types.specs.Name.{HashAndSize}
use Rattle.indexed_core.specs.contracts.machine.IndexedCore.{the_view}
use Rattle.indexed_core.proofs.MachineChanges.{room_is}
use Rattle.indexed_core.proofs.machine.IndexedCore.room.Goals as goal

pub returns : goal.returns
returns c =
    subst (λ (xs : List HashAndSize). IfOk c.first_free.result (λ ds. ds ≡ xs))
    (room_is (the_view c.self.inside) c.args.self.now c.self.inside.index c.args.size c.used.result c.min.result c.victims-count.result
    c.self.view_is refl (guards_are (the_view c.self.inside) c.self.inside.index.guards c.self.invariant.0 refl) c.if-used-room.false c.used.ensures c.min.ensures c.victims-count.ensures)
    c.first_free.ensures
