use Rattle.std.proofs.Common.{refl, arith}
use Rattle.blob_store.proofs.KeptBodies.{one_more, still_there, gone_more}
use Rattle.blob_store.proofs.bodies.Bodies.give_up_all.Goals as goal

pub gone-init : goal.gone-init
gone-init g c = record {
  bodies = λ d. refl;
  room = λ h. h;
  shelf = refl;
}

pub give_up-requires : goal.give_up-requires
give_up-requires g c =
    still_there c.requires.0 c.args.self.now.bodies c.gone.self.bodies c.args.gone.now c.gone.digest-index c.digest-item.result c.requires.1 c.requires.2 c.gone-test.true c.digest-item.is
    (c.gone.invariant.bodies c.digest-item.result)

pub gone-preserved : goal.gone-preserved
gone-preserved g c = record {
  bodies = λ d. gone_more c.args.gone.now c.gone.digest-index c.digest-item.result d c.args.self.now.bodies c.gone.self.bodies c.give_up.new.self.bodies c.gone-test.true c.digest-item.is
      (c.gone.invariant.bodies d) (c.give_up.ensures.bodies d);
  room = λ h. let some = c.gone.invariant.room h in omega (arith, c.give_up.ensures.room);
  shelf = one_more c.gone.digest-index (g.K.Shelf.shelved c.gone.shelf) (g.K.Shelf.shelved c.give_up.new.shelf) (g.K.Shelf.shelved c.args.shelf.now) c.give_up.ensures.shelf c.gone.invariant.shelf;
}
