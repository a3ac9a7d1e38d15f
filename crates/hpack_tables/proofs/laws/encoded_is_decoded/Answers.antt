use Rattle.hpack_tables.proofs.LawEncoded.{encoded_again}
use Rattle.hpack_tables.proofs.laws.encoded_is_decoded.Goals as goal

pub returns : goal.returns
returns c = encoded_again
