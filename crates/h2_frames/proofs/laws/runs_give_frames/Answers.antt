use Rattle.h2_frames.proofs.Streams.{runs, runs_wait, runs_refuse}
use Rattle.h2_frames.proofs.laws.runs_give_frames.Goals as goal

pub returns-clause-gives : goal.returns-clause-gives
returns-clause-gives c = runs

pub returns-clause-waits : goal.returns-clause-waits
returns-clause-waits c = runs_wait

pub returns-clause-refuses : goal.returns-clause-refuses
returns-clause-refuses c = runs_refuse
