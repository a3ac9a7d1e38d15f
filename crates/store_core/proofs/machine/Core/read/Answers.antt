use Rattle.std.proofs.Common.{◌∙◌, List, sym, ap}
use Rattle.store_core.specs.declared.state.Row.{Row}
use Rattle.store_core.specs.State.{State}
use Rattle.store_core.specs.Step.{is_here}
use Rattle.store_core.specs.contracts.machine.Core.{the_view}
use Rattle.store_core.proofs.Changes.{kept_follows}
use Rattle.store_core.proofs.Kept.{follows_turned}
use Rattle.store_core.proofs.RowLaws.{turned_touched}
use Rattle.store_core.proofs.Uses.{here_has}
use Rattle.store_core.proofs.machine.Core.read.Goals as goal

pub hold_used-requires-clause-there : goal.hold_used-requires-clause-there
hold_used-requires-clause-there c =
    let d = c.args.digest.now in
    let here = ap (λ (t : State). is_here t.rows d) (sym c.self.view_is) ∙ ap (λ (rows : List Row). is_here rows d) (sym c.deref.ensures.value) ∙ sym c.is_here.ensures ∙ c.if-not-is_here.false in
    here_has c.args.self.now.rows d here

pub invariant_of-self : goal.invariant_of-self
invariant_of-self c =
    let s = the_view c.self-2.inside in
    rw c.touch.ensures (kept_follows s _ (follows_turned s _ (turned_touched c.args.digest.now s.rows)) c.self-2.invariant)
