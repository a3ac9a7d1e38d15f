use Rattle.std.proofs.Common.{◌≡◌, ◌-◌, ◌^◌, length}
use Rattle.blob_store.specs.View.{View}
use Rattle.blob_store.specs.Shelves.{Shelved}
use Rattle.casd_connection.specs.Linked.{Linked, linked}
use Rattle.casd_connection.specs.Stands.{state, Stands, IsReady}
use Rattle.casd_connection.proofs.serve.run.Given as goal

abbrev pub invariant-reads : goal.invariant-reads
invariant-reads g l = record {
  stands : (v : View) (x : Shelved) (a : Linked) → Stands v (g.D.Door.view l.fn.door) x (g.K.Shelf.shelved l.fn.shelf) a (linked (g.L.Link.left l.fn.link) (g.L.Link.written l.fn.link) (g.L.Link.read_faults l.fn.link) (g.L.Link.write_faults l.fn.link) (g.L.Link.sent l.fn.link) (g.L.Link.at_end l.fn.link)) (state l.fn.serving.connection.calls l.fn.serving.connection.live.items l.fn.serving.connection.over l.fn.serving.read l.fn.serving.written) → Stands v (g.D.Door.view l.door) x (g.K.Shelf.shelved l.shelf) a (linked (g.L.Link.left l.link) (g.L.Link.written l.link) (g.L.Link.read_faults l.link) (g.L.Link.write_faults l.link) (g.L.Link.sent l.link) (g.L.Link.at_end l.link)) (state l.serving.connection.calls l.serving.connection.live.items l.serving.connection.over l.serving.read l.serving.written);
  ready : IsReady (state l.serving.connection.calls l.serving.connection.live.items l.serving.connection.over l.serving.read l.serving.written) (g.D.Door.view l.door);
  buffer : length l.serving.buffer.items ≡ 65_536;
}

abbrev pub decreases-reads : goal.decreases-reads
decreases-reads g l = 2 ^ 50 - l.serving.read
