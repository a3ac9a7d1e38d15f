use Rattle.std.proofs.Common.{◌≡◌, None, List, sym, ap, subst, ◌∙◌}
use Rattle.std.specs.Prelude.{if◌then◌else◌}
use Rattle.digest_types.specs.Name.{HashAndSize}
use Rattle.store_core.specs.declared.state.Row.{Row}
use Rattle.store_core.specs.State.{State, same}
use Rattle.store_core.specs.Pass.{unguarded}
use Rattle.store_core.specs.State.{has_row}
use Rattle.indexed_core.specs.Removal.{IsPassed}
use Rattle.blob_store.specs.Kept.{Kept, Stocked, told_in, AreBodiesOf, KeepsBodies}
use Rattle.blob_store.proofs.KeptRows.{less_bodies, less_keeps, less_fewer, some_at}
use Rattle.blob_store.proofs.store.Store.remove_next.Goals as goal

pub invariant_of-self : goal.invariant_of-self
invariant_of-self g c =
    let bodies = c.self.inside.bodies.value.bodies in
    let are = subst (λ (s : State). AreBodiesOf s.rows bodies) (sym c.deref_mut.ensures.value) c.self.invariant in
    let gone : (d : HashAndSize) → told_in c.give_up.new.self.bodies d ≡ (if same c.in-Some.digest d then None else told_in bodies d) = λ d.
    c.give_up.ensures.bodies d ∙ ap (λ (k : Kept). if same c.in-Some.digest d then None else told_in k.bodies d) c.deref_mut-in-Some.ensures.value in
    subst (λ (rows : List Row). AreBodiesOf rows c.give_up.new.self.bodies) (sym (ap (λ (s : State). s.rows) c.in-Some.ensures.some))
    (less_bodies c.deref_mut.result.now.rows bodies c.give_up.new.self.bodies c.in-Some.digest are gone)

pub unreachable-requires : goal.unreachable-requires
unreachable-requires g c =
    let next = c.remove_next.ensures.next c.requires.there.0 c.requires.there.1 c.requires.there.2 (c.deref_mut.ensures.value ∙ ap (λ (s : Stocked). s.state) c.self.view_is ∙ c.requires.there.3) c.requires.there.4 in
    some_at (unguarded c.requires.there.0) c.requires.there.1 c.requires.there.4 (sym next.0 ∙ c.in-None.is)

pub returns-clause-next : goal.returns-clause-next
returns-clause-next g c = λ s count distinct is lt. (c.remove_next.ensures.next s count distinct (c.deref_mut.ensures.value ∙ ap (λ (x : Stocked). x.state) c.self.view_is ∙ is) lt).1

pub returns-clause-fewer : goal.returns-clause-fewer
returns-clause-fewer g c = λ d there.
    let is : c.deref_mut.result.now ≡ c.args.self.now.state = c.deref_mut.ensures.value ∙ ap (λ (x : Stocked). x.state) c.self.view_is in
    ap (λ (s : State). has_row s.rows d) (sym is) ∙ less_fewer c.deref_mut.result.now.rows c.in-Some.digest d (ap (λ (s : State). has_row s.rows d) (sym c.in-Some.ensures.some) ∙ there)

pub returns-clause-bodies : goal.returns-clause-bodies
returns-clause-bodies g c =
    let bodies = c.self.inside.bodies.value.bodies in
    let are = subst (λ (s : State). AreBodiesOf s.rows bodies) (sym c.deref_mut.ensures.value) c.self.invariant in
    let gone : (d : HashAndSize) → told_in c.give_up.new.self.bodies d ≡ (if same c.in-Some.digest d then None else told_in bodies d) = λ d.
    c.give_up.ensures.bodies d ∙ ap (λ (k : Kept). if same c.in-Some.digest d then None else told_in k.bodies d) c.deref_mut-in-Some.ensures.value in
    let keeps : KeepsBodies (record { state = c.self.inside.core.value; bodies = bodies }) (record { state = c.remove_next.new.self; bodies = c.give_up.new.self.bodies }) =
    subst (λ (s : State). (d : HashAndSize) → told_in c.give_up.new.self.bodies d ≡ (if has_row s.rows d then told_in bodies d else None)) (sym c.in-Some.ensures.some)
    (less_keeps c.deref_mut.result.now.rows bodies c.give_up.new.self.bodies c.in-Some.digest are gone)
    in
    subst (λ (s : Stocked). KeepsBodies s (record { state = c.remove_next.new.self; bodies = c.give_up.new.self.bodies })) c.self.view_is keeps

pub remove_next-requires : goal.remove_next-requires
remove_next-requires g c = subst (λ (s : State). IsPassed s c.args.from.now) (sym (c.deref_mut.ensures.value ∙ ap (λ (s : Stocked). s.state) c.self.view_is)) c.requires.passed
