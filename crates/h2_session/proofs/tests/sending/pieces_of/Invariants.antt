use Rattle.std.proofs.Common.{length}
use Rattle.h2_session.proofs.tests.sending.pieces_of.Given as goal

abbrev pub decreases-frames : goal.decreases-frames
decreases-frames l = length l.bytes
