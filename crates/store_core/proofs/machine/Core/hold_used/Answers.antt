use Rattle.std.proofs.Common.{◌≡◌, true, false, sym, subst}
use Rattle.store_core.specs.State.{State, is_empty, has_row}
use Rattle.store_core.specs.Step.{is_open}
use Rattle.store_core.specs.contracts.machine.Core.{the_view}
use Rattle.store_core.proofs.Changes.{held_keeps}
use Rattle.store_core.proofs.machine.Core.hold_used.Goals as goal

pub invariant_of-self : goal.invariant_of-self
invariant_of-self c =
    let s = the_view c.self.inside in
    let d = c.args.digest.now in
    let there = subst (λ (t : State). is_open t c.args.owner ≡ true) (sym c.self.view_is) c.requires.open in
    let row = subst (λ (t : State). is_empty d ≡ false → has_row t.rows d ≡ true) (sym c.self.view_is) c.requires.there in
    held_keeps s c.args.owner d c.hold_used.result c.hold_used.new.holds.items there row c.hold_used.ensures.ok c.hold_used.ensures.err c.self.invariant
