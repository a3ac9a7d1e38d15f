use Rattle.std.proofs.Common.{Some, None}
use Rattle.h2_frames.proofs.Rests.{rest_again, rest_found}
use Rattle.h2_frames.proofs.laws.rest_is_told.Goals as goal

pub returns-clause-part : goal.returns-clause-part
returns-clause-part c at text x = rest_again at text None x

pub returns-clause-part_only : goal.returns-clause-part_only
returns-clause-part_only c at text fits e = rest_found at text None fits e

pub returns-clause-offence : goal.returns-clause-offence
returns-clause-offence c at text e x = rest_again at text (Some e) x

pub returns-clause-offence_only : goal.returns-clause-offence_only
returns-clause-offence_only c at text e fits h = rest_found at text (Some e) fits h
