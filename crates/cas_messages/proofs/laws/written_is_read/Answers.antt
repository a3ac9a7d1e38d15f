use Rattle.cas_messages.proofs.WrittenAgain.{written_again}
use Rattle.cas_messages.proofs.laws.written_is_read.Goals as goal

pub returns : goal.returns
returns c = written_again
