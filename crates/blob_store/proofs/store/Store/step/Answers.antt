use Rattle.std.proofs.Common.{sym, ap, subst}
use Rattle.store_core.specs.State.{State}
use Rattle.blob_store.specs.Kept.{Stocked, AreBodiesOf}
use Rattle.blob_store.proofs.KeptRows.{step_bodies, all_keep}
use Rattle.blob_store.proofs.store.Store.step.Goals as goal

pub invariant_of-self : goal.invariant_of-self
invariant_of-self g c =
    let are = subst (λ (s : State). AreBodiesOf s.rows c.self.inside.bodies.value.bodies) (sym c.deref_mut.ensures.value) c.self.invariant in
    step_bodies c.deref_mut.result.now c.step.new.self c.self.inside.bodies.value.bodies c.args.owner c.args.event.now c.step.result c.requires.quiet are c.step.ensures.ok c.step.ensures.err

pub returns-clause-bodies : goal.returns-clause-bodies
returns-clause-bodies g c =
    let are = subst (λ (s : State). AreBodiesOf s.rows c.self.inside.bodies.value.bodies) (sym c.deref_mut.ensures.value) c.self.invariant in
    all_keep c.args.self.now (record { state = c.step.new.self; bodies = c.self.inside.bodies.value.bodies })
    (step_bodies c.deref_mut.result.now c.step.new.self c.self.inside.bodies.value.bodies c.args.owner c.args.event.now c.step.result c.requires.quiet are c.step.ensures.ok c.step.ensures.err)
    (ap (λ (s : Stocked). s.bodies) c.self.view_is)
