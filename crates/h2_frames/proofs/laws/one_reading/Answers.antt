use Rattle.h2_frames.proofs.OneReading.{each_stream, one_stream, first_stream}
use Rattle.h2_frames.proofs.Streams.{stays}
use Rattle.h2_frames.proofs.laws.one_reading.Goals as goal

pub returns-clause-one : goal.returns-clause-one
returns-clause-one c = one_stream

pub returns-clause-first : goal.returns-clause-first
returns-clause-first c = first_stream

pub returns-clause-stays : goal.returns-clause-stays
returns-clause-stays c = stays

pub returns-clause-each : goal.returns-clause-each
returns-clause-each c = each_stream
