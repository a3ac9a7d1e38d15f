use Rattle.h2_frames.proofs.Written.{written, written_again}
use Rattle.h2_frames.proofs.write.write_frame.Goals as goal

pub returns-clause-spelling : goal.returns-clause-spelling
returns-clause-spelling c = written c.args.frame.now c.push_frame.result c.requires c.push_frame.ensures.typed

pub returns-clause-again : goal.returns-clause-again
returns-clause-again c = written_again c.args.frame.now c.push_frame.result c.requires c.push_frame.ensures.typed
