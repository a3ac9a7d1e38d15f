use Rattle.std.proofs.Common.{refl, arith}
use Rattle.hpack_tables.proofs.HuffmanWindow.{short_front, ones_front}
use Rattle.hpack_tables.proofs.huffman.next_code.Goals as goal

pub returns-in-Some : goal.returns-in-Some
returns-in-Some c =
    let is = c.in-Some.ensures in
    let len = c.from.ensures in
    let symbol = c.from-in-Some.ensures in
    rw (len, symbol) (short_front c.args.window.len c.args.window.number _ c.in-Some.symbol c.in-Some.len c.if-window-lt-BYTE.false refl is, omega (arith, is.some, c.if-window-lt-BYTE.false))

pub walked_code-requires-clause-ones : goal.walked_code-requires-clause-ones
walked_code-requires-clause-ones c = ones_front c.args.window.len c.args.window.number c.if-window-lt-BYTE.false c.in_default.ensures
