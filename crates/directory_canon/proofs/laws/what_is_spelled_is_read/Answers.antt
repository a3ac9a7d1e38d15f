use Rattle.directory_canon.proofs.CanonRead.{canon_read}
use Rattle.directory_canon.proofs.CanonFound.{canon_found}
use Rattle.directory_canon.proofs.laws.what_is_spelled_is_read.Goals as goal

pub returns : goal.returns
returns c = λ dir bytes fits. (canon_read bytes dir, canon_found bytes dir fits)
