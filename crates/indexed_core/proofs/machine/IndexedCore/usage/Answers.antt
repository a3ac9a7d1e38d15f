use Rattle.std.proofs.Common.{refl}
use Rattle.indexed_core.specs.contracts.machine.IndexedCore.{the_view}
use Rattle.indexed_core.proofs.MachineLaws.{usage_is, guards_are}
use Rattle.indexed_core.proofs.machine.IndexedCore.usage.Goals as goal

pub returns : goal.returns
returns c =
    usage_is (the_view c.self.inside) c.args.self.now c.self.inside.index c.used.result c.guarded_bytes.result c.len.result c.self.inside.marks.low c.self.inside.marks.high
    c.self.view_is refl (guards_are (the_view c.self.inside) c.self.inside.index.guards c.self.invariant.0 refl) c.used.ensures c.guarded_bytes.ensures c.len.ensures refl refl
