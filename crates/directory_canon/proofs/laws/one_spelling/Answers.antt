use Rattle.directory_canon.proofs.CanonRead.{canon_unique}
use Rattle.directory_canon.proofs.laws.one_spelling.Goals as goal

pub returns : goal.returns
returns c = canon_unique
