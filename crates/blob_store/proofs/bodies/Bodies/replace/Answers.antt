use Rattle.std.proofs.Common.{◌≡◌, true, false, Some, is_some, ap, subst, sym, ◌∙◌}
use Rattle.std.specs.Prelude.{if◌then◌else◌}
use Rattle.store_core.specs.State.{same}
use Rattle.blob_store.specs.Kept.{Kept, told_in}
use Rattle.blob_store.proofs.KeptBodies.{AreTold, telling, none_told, inserted_told, set_told}
use Rattle.blob_store.proofs.bodies.Bodies.replace.Goals as goal

pub unreachable-requires : goal.unreachable-requires
unreachable-requires g c =
    let there : is_some (told_in (telling g.K.Shelf.kept c.self.inside.bodies.entries) c.args.digest) ≡ true = ap (λ (k : Kept). is_some (told_in k.bodies c.args.digest)) c.self.view_is ∙ c.requires.there in
    let gone : is_some (told_in (telling g.K.Shelf.kept c.self.inside.bodies.entries) c.args.digest) ≡ false = none_told g.K.Shelf.kept c.args.digest c.self.inside.bodies.entries (sym c.in-Ok-None.ensures.old ∙ c.in-Ok-None.field-0-is) in
    cc

pub unreachable-requires-in-Err : goal.unreachable-requires-in-Err
unreachable-requires-in-Err g c =
    let there : is_some (told_in (telling g.K.Shelf.kept c.self.inside.bodies.entries) c.args.digest) ≡ true = ap (λ (k : Kept). is_some (told_in k.bodies c.args.digest)) c.self.view_is ∙ c.requires.there in
    let gone : is_some (told_in (telling g.K.Shelf.kept c.self.inside.bodies.entries) c.args.digest) ≡ false = none_told g.K.Shelf.kept c.args.digest c.self.inside.bodies.entries c.in-Err.ensures.absent in
    cc

pub invariant_of-self : goal.invariant_of-self
invariant_of-self g c = (
  c.insert.ensures.unique,
  subst (AreTold g.K.Shelf.kept) (sym c.in-Ok-Some.ensures.entries) (inserted_told g.K.Shelf.kept c.args.digest c.args.body c.self.inside.bodies.entries c.requires.told c.self.invariant.1),
)

pub returns-clause-bodies : goal.returns-clause-bodies
returns-clause-bodies g c = λ d.
    set_told g.K.Shelf.kept c.args.digest d (Some c.args.body) c.self.inside.bodies.entries c.insert.new.self.entries (c.in-Ok-Some.ensures.updates.0 d)
    ∙ ap (λ (k : Kept). if same c.args.digest d then Some (g.K.Shelf.kept c.args.body) else told_in k.bodies d) c.self.view_is
