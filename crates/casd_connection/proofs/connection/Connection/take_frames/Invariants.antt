use Rattle.std.proofs.Common.{◌≡◌, ◌+◌, ◌≤◌, ◌^◌, true, length}
use Rattle.casd_connection.specs.Steps.{RunsTo}
use Rattle.casd_connection.proofs.connection.Connection.take_frames.Given as goal

abbrev pub invariant-frames : goal.invariant-frames
invariant-frames g l = record {
  runs : RunsTo (g.D.Door.view l.fn.door) (g.D.Door.view l.door) (g.K.Shelf.shelved l.fn.shelf) (g.K.Shelf.shelved l.shelf) l.fn.self.calls l.self.calls l.fn.self.live.items l.self.live.items l.fn.self.over l.self.over;
  is_in : (g.D.Door.view l.door).entered ≡ true;
  left : 2 ^ 29 ≤ (g.D.Door.view l.door).left;
  fed : l.self.calls.reader.at + length l.self.calls.reader.rest ≡ l.fn.self.calls.reader.at + length l.fn.self.calls.reader.rest;
}

abbrev pub decreases-frames : goal.decreases-frames
decreases-frames g l = length l.self.calls.reader.rest
