use Rattle.directory_canon.proofs.EntryLemmas.{no_target_in}
use Rattle.directory_canon.proofs.entry.target_in.Goals as goal

pub returns-in_default : goal.returns-in_default
returns-in_default c = no_target_in c.args.at c.args.fields.now c.content_in.result.now c.text.result c.content_in.ensures c.text.ensures.utf8 c.in_default.is
