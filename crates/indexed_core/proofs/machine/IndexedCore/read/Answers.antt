use Rattle.std.proofs.Common.{◌∙◌, refl, sym}
use Rattle.store_core.specs.Step.{touched}
use Rattle.store_core.proofs.Changes.{kept_follows}
use Rattle.store_core.proofs.Kept.{follows_turned}
use Rattle.store_core.proofs.RowLaws.{turned_touched}
use Rattle.store_core.proofs.Uses.{here_has}
use Rattle.indexed_core.specs.contracts.machine.IndexedCore.{the_view}
use Rattle.indexed_core.proofs.MachineChanges.{rows_change}
use Rattle.indexed_core.proofs.MachineLaws.{guards_are}
use Rattle.indexed_core.proofs.machine.IndexedCore.read.Goals as goal

pub hold_used-requires-clause-there : goal.hold_used-requires-clause-there
hold_used-requires-clause-there c = here_has c.args.self.now.rows c.args.digest.now (sym c.is_here.ensures ∙ c.if-not-is_here.false)

pub invariant_of-self : goal.invariant_of-self
invariant_of-self c =
    let s = the_view c.self.inside in
    let d = c.args.digest.now in
    rows_change s c.touch.new.self c.self.inside.index.guards (touched d s.rows) (guards_are s c.self.inside.index.guards c.self.invariant.0 refl) c.touch.ensures
    (kept_follows s _ (follows_turned s _ (turned_touched d s.rows)) c.self.invariant.1)
