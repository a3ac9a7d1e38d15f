use Rattle.uuid.specs.Text.{parsed}
use Rattle.byte_stream.proofs.NameLaws.{ok_some}
use Rattle.byte_stream.proofs.names.is_uuid.Goals as goal

pub returns : goal.returns
returns c = ok_some c.try_parse.result (parsed c.args.text.now) c.is_ok.result c.is_ok.ensures.value c.try_parse.ensures.ok
