use Rattle.h2_frames.proofs.Written.{spelled-spelling, read_again}
use Rattle.h2_frames.proofs.laws.written_is_read.Goals as goal

pub returns-clause-spells : goal.returns-clause-spells
returns-clause-spells c = spelled-spelling

pub returns-clause-read : goal.returns-clause-read
returns-clause-read c = read_again
