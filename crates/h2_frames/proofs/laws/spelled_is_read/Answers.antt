use Rattle.h2_frames.proofs.Again.{frame_again}
use Rattle.h2_frames.proofs.Found.{frame_found, frame_long}
use Rattle.h2_frames.proofs.laws.spelled_is_read.Goals as goal

pub returns-clause-read : goal.returns-clause-read
returns-clause-read c = frame_again

pub returns-clause-only : goal.returns-clause-only
returns-clause-only c = frame_found

pub returns-clause-within : goal.returns-clause-within
returns-clause-within c at text f n e = (frame_long at text f n e).1
