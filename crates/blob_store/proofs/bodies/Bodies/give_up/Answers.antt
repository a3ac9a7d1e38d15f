use Rattle.std.proofs.Common.{◌≡◌, true, false, None, is_some, ap, subst, sym, ◌∙◌}
use Rattle.std.specs.Prelude.{if◌then◌else◌}
use Rattle.store_core.specs.State.{same}
use Rattle.blob_store.specs.Kept.{Kept, told_in}
use Rattle.blob_store.proofs.KeptBodies.{AreTold, telling, none_told, removed_told, set_told}
use Rattle.blob_store.proofs.bodies.Bodies.give_up.Goals as goal

pub unreachable-requires : goal.unreachable-requires
unreachable-requires g c =
    let d = c.args.digest.now in
    let there : is_some (told_in (telling g.K.Shelf.kept c.self.inside.bodies.entries) d) ≡ true = ap (λ (k : Kept). is_some (told_in k.bodies d)) c.self.view_is ∙ c.requires in
    let gone : is_some (told_in (telling g.K.Shelf.kept c.self.inside.bodies.entries) d) ≡ false = none_told g.K.Shelf.kept d c.self.inside.bodies.entries (sym c.shift_remove.ensures.value ∙ c.in-None.is) in
    cc

pub invariant_of-self : goal.invariant_of-self
invariant_of-self g c = (
  c.shift_remove.ensures.unique,
  subst (AreTold g.K.Shelf.kept) (sym c.shift_remove.ensures.entries) (removed_told g.K.Shelf.kept c.args.digest.now c.self.inside.bodies.entries c.self.invariant.1),
)

pub returns-clause-bodies : goal.returns-clause-bodies
returns-clause-bodies g c = λ d.
    set_told g.K.Shelf.kept c.args.digest.now d None c.self.inside.bodies.entries c.shift_remove.new.self.entries (c.shift_remove.ensures.updates.0 d)
    ∙ ap (λ (k : Kept). if same c.args.digest.now d then None else told_in k.bodies d) c.self.view_is
