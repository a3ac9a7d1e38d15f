use Rattle.std.proofs.Common.{Some, ap, subst, sym, ◌∙◌}
use Rattle.std.specs.Prelude.{if◌then◌else◌}
use Rattle.store_core.specs.State.{same}
use Rattle.blob_store.specs.Kept.{Kept, told_in}
use Rattle.blob_store.proofs.KeptBodies.{AreTold, inserted_told, set_told}
use Rattle.blob_store.proofs.bodies.Bodies.add.Goals as goal

pub invariant_of-self : goal.invariant_of-self
invariant_of-self g c = (
  c.insert.ensures.unique,
  subst (AreTold g.K.Shelf.kept) (sym c.in-Ok.ensures.entries) (inserted_told g.K.Shelf.kept c.args.digest c.args.body c.self.inside.bodies.entries c.requires.told c.self.invariant.1),
)

pub returns : goal.returns
returns g c = λ d.
    set_told g.K.Shelf.kept c.args.digest d (Some c.args.body) c.self.inside.bodies.entries c.insert.new.self.entries (c.in-Ok.ensures.updates.0 d)
    ∙ ap (λ (k : Kept). if same c.args.digest d then Some (g.K.Shelf.kept c.args.body) else told_in k.bodies d) c.self.view_is
