use Rattle.digest_types.proofs.PrintedText.{printed-parsed}
use Rattle.digest_types.proofs.laws.printed_is_parsed.Goals as goal

pub returns : goal.returns
returns c = printed-parsed
