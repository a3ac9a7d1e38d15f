use Rattle.std.proofs.Common.{◌≡◌, ◌≤◌, ◌^◌, ℕ, true, [], length}
use Rattle.casd_connection.specs.Steps.{at, IsServing, Turned}
use Rattle.casd_connection.proofs.connection.Connection.on_events.Given as goal

abbrev pub invariant-events : goal.invariant-events
invariant-events g l = record {
  turns : ℕ;
  turned : Turned (g.D.Door.view l.fn.door) (g.D.Door.view l.door) (g.K.Shelf.shelved l.fn.shelf) (g.K.Shelf.shelved l.shelf) turns (at l.fn.self.calls l.fn.self.live.items l.fn.self.over []) (at l.self.calls l.self.live.items l.self.over []) l.fn.self.calls.session.output l.self.calls.session.output;
  serving : IsServing l.self.calls;
  reader : l.self.calls.reader ≡ l.fn.self.calls.reader;
  is_in : (g.D.Door.view l.door).entered ≡ true;
  left : 2 ^ 29 ≤ (g.D.Door.view l.door).left;
}

abbrev pub decreases-events : goal.decreases-events
decreases-events g l = length l.self.calls.pending
