use Rattle.std.proofs.Common.{sym, ap, ◌∙◌, arith}
use Rattle.store_core.specs.State.{sizes}
use Rattle.store_core.specs.Marks.{guard_marks}
use Rattle.store_core.specs.contracts.machine.Core.{the_view}
use Rattle.store_core.proofs.Changes.{pass_keeps}
use Rattle.store_core.proofs.machine.Core.pass.Goals as goal

pub used_by-requires : goal.used_by-requires
used_by-requires c =
    let s = the_view c.self.inside in
    let goes = c.in_ok-victims.ensures s c.deref-2.ensures.value (c.deref-3.ensures.value ∙ c.in_ok-guards.ensures ∙ ap guard_marks (sym c.self.view_is)) in
    let kept = pass_keeps s s.low c.deref-4.result.now c.remove-removed.new.rows.items (c.deref-4.ensures.value ∙ goes) c.remove-removed.ensures.rows c.self.invariant in
    omega (arith, kept.within, c.self.inside.marks.small, ap sizes c.deref-5.ensures.value)

pub invariant_of-self : goal.invariant_of-self
invariant_of-self c =
    let s = the_view c.self.inside in
    let goes = c.in_ok-victims.ensures s c.deref-2.ensures.value (c.deref-3.ensures.value ∙ c.in_ok-guards.ensures ∙ ap guard_marks (sym c.self.view_is)) in
    pass_keeps s s.low c.deref-4.result.now c.remove-removed.new.rows.items (c.deref-4.ensures.value ∙ goes) c.remove-removed.ensures.rows c.self.invariant
