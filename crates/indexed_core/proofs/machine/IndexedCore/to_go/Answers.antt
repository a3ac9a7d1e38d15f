use Rattle.std.proofs.Common.{◌≡◌, ◌∙◌, ◌≤◌, ℕ, List, length, refl, sym, ap, subst}
use Rattle.digest_types.specs.Name.{HashAndSize}
use Rattle.store_core.specs.declared.event.Reply.TheVariants as replies
use Rattle.store_core.specs.State.{State, Distinct, used}
use Rattle.store_core.specs.Pass.{unguarded, victims}
use Rattle.store_core.specs.Step.{passed}
use Rattle.indexed_core.specs.Removal.{removed}
use Rattle.indexed_core.specs.contracts.machine.IndexedCore.{the_view}
use Rattle.indexed_core.proofs.MachineLaws.{free_are, passed_is, victims_within, guards_are}
use Rattle.indexed_core.proofs.machine.IndexedCore.to_go.Goals as goal

pub returns-clause-pass : goal.returns-clause-pass
returns-clause-pass c =
    let s = the_view c.self.inside in
    let n = c.victims.result in
    let count = c.victims.ensures ∙ ap (λ (ds : List HashAndSize). victims ds (used s) s.low) (free_are s c.self.inside.index refl (guards_are (the_view c.self.inside) c.self.inside.index.guards c.self.invariant.0 refl)) in
    subst (λ (t : State). passed t ≡ (replies.Passed n (used (removed t n)), removed t n)) c.self.view_is (passed_is s n c.self.invariant.1.valid.distinct count)

pub returns-clause-within : goal.returns-clause-within
returns-clause-within c =
    let s = the_view c.self.inside in
    let count = c.victims.ensures ∙ ap (λ (ds : List HashAndSize). victims ds (used s) s.low) (free_are s c.self.inside.index refl (guards_are (the_view c.self.inside) c.self.inside.index.guards c.self.invariant.0 refl)) in
    subst (λ (t : State). c.victims.result ≤ length (unguarded t)) c.self.view_is (subst (λ (k : ℕ). k ≤ length (unguarded s)) (sym count) (victims_within s s.low))

pub returns-clause-distinct : goal.returns-clause-distinct
returns-clause-distinct c = subst (λ (t : State). Distinct t.rows) c.self.view_is c.self.invariant.1.valid.distinct
