use Rattle.std.proofs.Common.{Some, None}
use Rattle.digest_types.proofs.PrintedText.{split_slash}
use Rattle.byte_stream.proofs.NameLaws.{segments_some, segments_none}
use Rattle.byte_stream.proofs.names.first_segment.Goals as goal

pub returns-in-Some-clause-segments : goal.returns-in-Some-clause-segments
returns-in-Some-clause-segments c =
    let cut = split_slash c.args.text.now (Some (c.in-Some.segment, c.in-Some.behind)) c.in-Some.ensures.cases in
    segments_some c.args.text.now c.in-Some.segment.now c.in-Some.behind.now cut.0 cut.1

pub returns-in-None-clause-segments : goal.returns-in-None-clause-segments
returns-in-None-clause-segments c =
    let cut = split_slash c.args.text.now None c.in-None.ensures.cases in
    segments_none c.args.text.now cut.0 cut.1
