use Rattle.std.proofs.Common.{◌≡◌}
use Rattle.h2_session.specs.Machine.{part_of}
use Rattle.h2_session.specs.Rows.{left_in}
use Rattle.h2_session.specs.Sent.{Writes}
use Rattle.h2_session.proofs.machine.Machine.pump.Given as goal

abbrev pub invariant-frames : goal.invariant-frames
invariant-frames l = record {
  writes : Writes (part_of l.initial.self) l.initial.out (part_of l.self) l.out;
  role : l.self.role ≡ l.initial.self.role;
  highest : l.self.highest ≡ l.initial.self.highest;
}

abbrev pub decreases-frames : goal.decreases-frames
decreases-frames l = left_in l.self.streams
