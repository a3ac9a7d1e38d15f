use Rattle.std.proofs.Common.{◌∙◌}
use Rattle.cas_calls.proofs.UpdateLaws.{kept_other, differ}
use Rattle.cas_calls.proofs.put.judge.Goals as goal

pub returns-then-ne-clause-ok : goal.returns-then-ne-clause-ok
returns-then-ne-clause-ok g c = λ next.
    kept_other c.args.item.now c.digest-got.result (g.D.Door.view c.args.door.now) (g.K.Shelf.shelved c.args.shelf.now) (g.K.Shelf.shelved c.give_up.new.shelf) next
    (differ c.digest-got.result c.args.item.now.digest c.ne.result c.ne.ensures c.if-ne.true) (c.digest-got.ensures.value ∙ c.requires.sealed.digest) c.requires.is_in c.give_up.ensures
