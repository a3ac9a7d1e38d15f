use Rattle.casd_connection.proofs.serve.run.Goals as goal

pub reads-preserved : goal.reads-preserved
reads-preserved g c = record {
  stands = λ v x a s. c.in-None-read.ensures.reads v (g.D.Door.view c.settle.new.door) x (g.K.Shelf.shelved c.settle.new.shelf) a (c.in-None.ensures.settles v x a (c.reads.invariant.stands v x a s));
  ready = c.read.ensures.ready (g.D.Door.view c.settle.new.door) (c.settle.ensures.ready c.in-None.is) c.in-None-read.is;
  buffer = c.read.ensures.buffer;
}
