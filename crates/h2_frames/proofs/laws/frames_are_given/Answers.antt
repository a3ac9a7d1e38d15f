use Rattle.h2_frames.proofs.Streams.{starts, feeds, gives, waits, refuses}
use Rattle.h2_frames.proofs.laws.frames_are_given.Goals as goal

pub returns-clause-starts : goal.returns-clause-starts
returns-clause-starts c = starts

pub returns-clause-feeds : goal.returns-clause-feeds
returns-clause-feeds c = feeds

pub returns-clause-gives : goal.returns-clause-gives
returns-clause-gives c = gives

pub returns-clause-waits : goal.returns-clause-waits
returns-clause-waits c = waits

pub returns-clause-refuses : goal.returns-clause-refuses
returns-clause-refuses c = refuses
