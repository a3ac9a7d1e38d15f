use Rattle.std.proofs.Common.{ap, ◌∙◌}
use Rattle.blob_store.specs.Kept.{Kept, told_in}
use Rattle.blob_store.proofs.KeptBodies.{got_body, got_told}
use Rattle.blob_store.proofs.bodies.Bodies.get.Goals as goal

pub returns-clause-body : goal.returns-clause-body
returns-clause-body g c =
    got_body g.K.Shelf.kept c.args.digest.now c.self.inside.bodies.entries c.get.result c.get.ensures.value
    ∙ ap (λ (k : Kept). told_in k.bodies c.args.digest.now) c.self.view_is

pub returns-clause-told : goal.returns-clause-told
returns-clause-told g c = got_told g.K.Shelf.kept c.args.digest.now c.self.inside.bodies.entries c.get.result c.self.invariant.1 c.get.ensures.value
