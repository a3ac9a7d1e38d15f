use Rattle.std.proofs.Common.{◌≡◌, ◌∷◌, ◌∙◌, ap, List, ℕ, Option, Bor}
use Rattle.std.specs.Prelude.{option_map}
use Rattle.byte_stream.specs.Names.{segments_behind}
use Rattle.byte_stream.proofs.NameLaws.{two_more, behind_is, slash_is}
use Rattle.byte_stream.proofs.names.first_two.Goals as goal

pub returns-in-Some-rest : goal.returns-in-Some-rest
returns-in-Some-rest c =
    rw c.range.ensures.value
    (two_more c.args.text.now c.first_segment.result.0.now c.in-Some.behind.now c.first_segment-2.result.0.now c.in-Some-rest.field-0.now
    (behind_is c.args.text.now c.first_segment.result.0.now c.first_segment.result.1 c.in-Some.behind c.in-Some.is c.first_segment.ensures.segments)
    (behind_is c.in-Some.behind.now c.first_segment-2.result.0.now c.first_segment-2.result.1 c.in-Some-rest.field-0 c.in-Some-rest.is c.first_segment-2.ensures.segments)
    (slash_is c.args.text.now c.first_segment.result.0.now c.first_segment.result.1 c.in-Some.behind c.in-Some.is c.first_segment.ensures.slash)
    (slash_is c.in-Some.behind.now c.first_segment-2.result.0.now c.first_segment-2.result.1 c.in-Some-rest.field-0 c.in-Some-rest.is c.first_segment-2.ensures.slash))
