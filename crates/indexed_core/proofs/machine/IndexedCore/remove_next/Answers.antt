use Rattle.std.proofs.Common.{◌≡◌, ◌∙◌, true, List, refl, sym, ap, subst}
use Rattle.std.specs.Prelude.{slice_get, IfSome}
use Rattle.digest_types.specs.Name.{HashAndSize}
use Rattle.store_core.specs.State.{State, has_row}
use Rattle.store_core.specs.Pass.{unguarded}
use Rattle.indexed_core.specs.contracts.machine.IndexedCore.{the_view}
use Rattle.indexed_core.specs.Removal.{IsPassed}
use Rattle.indexed_core.proofs.MachineLaws.{free_are, next_first, guards_are, passed_index}
use Rattle.indexed_core.proofs.MachineChanges.{first_change, first_passed, first_has_row, next_change}
use Rattle.indexed_core.proofs.machine.IndexedCore.remove_next.Goals as goal

pub invariant_of-self : goal.invariant_of-self
invariant_of-self c =
    first_change (the_view c.self.inside) c.remove_next.new.self c.self.inside.index.guards c.remove_next.result (guards_are (the_view c.self.inside) c.self.inside.index.guards c.self.invariant.0 refl)
    (c.remove_next.ensures.first ∙ ap (λ (ds : List HashAndSize). slice_get ds 0) (free_are (the_view c.self.inside) c.self.inside.index refl (guards_are (the_view c.self.inside) c.self.inside.index.guards c.self.invariant.0 refl)))
    c.remove_next.ensures.some c.remove_next.ensures.none c.self.invariant.1

pub returns-clause-first : goal.returns-clause-first
returns-clause-first c =
    c.remove_next.ensures.first
    ∙ ap (λ (ds : List HashAndSize). slice_get ds 0) (free_are (the_view c.self.inside) c.self.inside.index refl (guards_are (the_view c.self.inside) c.self.inside.index.guards c.self.invariant.0 refl))
    ∙ ap (λ (t : State). slice_get (unguarded t) 0) c.self.view_is

pub returns-clause-row : goal.returns-clause-row
returns-clause-row c =
    let s = the_view c.self.inside in
    let first = c.remove_next.ensures.first ∙ ap (λ (ds : List HashAndSize). slice_get ds 0) (free_are s c.self.inside.index refl (guards_are (the_view c.self.inside) c.self.inside.index.guards c.self.invariant.0 refl)) in
    subst (λ (t : State). IfSome c.remove_next.result (λ d. has_row t.rows d ≡ true)) c.self.view_is (first_has_row s c.remove_next.result first)

pub returns-clause-next : goal.returns-clause-next
returns-clause-next c = λ s count distinct is lt.
    let old = the_view c.self.inside in
    let first = c.remove_next.ensures.first
    ∙ ap (λ (ds : List HashAndSize). slice_get ds 0) (free_are old c.self.inside.index refl (guards_are (the_view c.self.inside) c.self.inside.index.guards c.self.invariant.0 refl))
    ∙ ap (λ (t : State). slice_get (unguarded t) 0) c.self.view_is
    ∙ next_first s c.args.self.now count distinct is lt in
    (first, next_change old c.args.self.now s c.remove_next.new.self c.self.inside.index.guards count c.remove_next.result c.self.view_is is lt first c.remove_next.ensures.some (guards_are old c.self.inside.index.guards c.self.invariant.0 refl))

pub remove_next-requires : goal.remove_next-requires
remove_next-requires c =
    let s = the_view c.self.inside in
    passed_index s c.self.inside.index c.args.from.now refl (guards_are s c.self.inside.index.guards c.self.invariant.0 refl)
    (subst (λ (t : State). IsPassed t c.args.from.now) (sym c.self.view_is) c.requires)

pub returns-clause-passed : goal.returns-clause-passed
returns-clause-passed c =
    let s = the_view c.self.inside in
    let same = guards_are s c.self.inside.index.guards c.self.invariant.0 refl in
    let first = c.remove_next.ensures.first ∙ ap (λ (ds : List HashAndSize). slice_get ds 0) (free_are s c.self.inside.index refl same) in
    first_passed s c.remove_next.new.self c.self.inside.index.guards c.remove_next.result c.remove_next.new.from same first c.remove_next.ensures.some c.remove_next.ensures.none c.self.invariant.1 c.remove_next.ensures.passed
