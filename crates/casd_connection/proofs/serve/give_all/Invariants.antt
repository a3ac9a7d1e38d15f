use Rattle.std.proofs.Common.{◌≡◌}
use Rattle.blob_store.specs.View.{View}
use Rattle.blob_store.specs.Shelves.{Shelved}
use Rattle.casd_connection.specs.Linked.{Linked, linked}
use Rattle.casd_connection.specs.Steps.{due_in}
use Rattle.casd_connection.specs.Stands.{state, IsTakenAt, IsReady}
use Rattle.casd_connection.proofs.serve.give_all.Given as goal

abbrev pub invariant-turns : goal.invariant-turns
invariant-turns g l = record {
  taken : (v : View) (x : Shelved) (a : Linked) → IsTakenAt v (g.D.Door.view l.fn.door) x (g.K.Shelf.shelved l.fn.shelf) a (linked (g.L.Link.left l.fn.link) (g.L.Link.written l.fn.link) (g.L.Link.read_faults l.fn.link) (g.L.Link.write_faults l.fn.link) (g.L.Link.sent l.fn.link) (g.L.Link.at_end l.fn.link)) (state l.fn.serving.connection.calls l.fn.serving.connection.live.items l.fn.serving.connection.over l.fn.serving.read l.fn.serving.written) → IsTakenAt v (g.D.Door.view l.door) x (g.K.Shelf.shelved l.shelf) a (linked (g.L.Link.left l.link) (g.L.Link.written l.link) (g.L.Link.read_faults l.link) (g.L.Link.write_faults l.link) (g.L.Link.sent l.link) (g.L.Link.at_end l.link)) (state l.serving.connection.calls l.serving.connection.live.items l.serving.connection.over l.serving.read l.serving.written);
  ready : IsReady (state l.serving.connection.calls l.serving.connection.live.items l.serving.connection.over l.serving.read l.serving.written) (g.D.Door.view l.door);
  buffer : l.serving.buffer.items ≡ l.fn.serving.buffer.items;
  read : l.serving.read ≡ l.fn.serving.read;
}

abbrev pub decreases-turns : goal.decreases-turns
decreases-turns g l = due_in l.serving.connection.live.items
