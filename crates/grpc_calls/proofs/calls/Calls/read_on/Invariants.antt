use Rattle.std.proofs.Common.{◌≡◌, ◌+◌, ℕ, List, [], length}
use Rattle.std.specs.Prelude.{None}
use Rattle.h2_frames.specs.declared.frame.Frame.{Frame}
use Rattle.grpc_calls.specs.Calls.{ReadsOn}
use Rattle.grpc_calls.proofs.calls.Calls.read_on.Given as goal

abbrev pub invariant-frames : goal.invariant-frames
invariant-frames l = record {
  frames : List (ℕ × Frame);
  reads : ReadsOn l.initial.self frames l.self;
  sound : l.self.session.fault ≡ None;
  empty : l.self.pending ≡ [];
  count : l.self.reader.at + length l.self.reader.rest ≡ l.initial.self.reader.at + length l.initial.self.reader.rest;
  role : l.self.session.part.role ≡ l.initial.self.session.part.role;
}

abbrev pub decreases-frames : goal.decreases-frames
decreases-frames l = length l.self.reader.rest
