use Rattle.digest_types.proofs.Written.{spelled-read}
use Rattle.digest_types.proofs.laws.written_is_read.Goals as goal

pub returns : goal.returns
returns c = spelled-read
