use Rattle.std.proofs.Common.{refl, arith}
use Rattle.hpack_tables.proofs.HuffmanWindow.{short, long}
use Rattle.hpack_tables.proofs.short_codes.short_code.Goals as goal

pub returns : goal.returns
returns c = short c.args.byte _ _ (omega arith) refl refl c.if-len-eq0.false

pub returns-then-len-eq0 : goal.returns-then-len-eq0
returns-then-len-eq0 c = long c.args.byte _ (omega arith) refl c.if-len-eq0.true
