use Rattle.std.proofs.Common.{length}
use Rattle.h2_frames.proofs.reader.+difference.Given as goal

abbrev pub decreases-difference : goal.decreases-difference
decreases-difference l = length l.wanted.now
