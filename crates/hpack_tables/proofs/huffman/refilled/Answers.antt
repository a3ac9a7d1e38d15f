use Rattle.std.proofs.Common.{arith}
use Rattle.hpack_tables.proofs.HuffmanWindow.{one_refilled, four_refilled}
use Rattle.hpack_tables.proofs.huffman.refilled.Goals as goal

pub returns-in-len1-up-clause-bits : goal.returns-in-len1-up-clause-bits
returns-in-len1-up-clause-bits c =
    one_refilled c.args.window.len c.args.window.number c.from.result c.args.bytes.now c.requires (λ i. omega (arith, c.type_inv.bytes i)) c.in-len1-up.len_at_least c.from.ensures

pub returns-in-len4-up-clause-bits : goal.returns-in-len4-up-clause-bits
returns-in-len4-up-clause-bits c =
    four_refilled c.args.window.len c.args.window.number c.from-in-len4-up.result c.from-in-len4-up-2.result c.from-in-len4-up-3.result c.from-in-len4-up-4.result c.args.bytes.now c.requires (λ i. omega (arith, c.type_inv.bytes i)) c.in-len4-up.len_at_least
    c.from-in-len4-up.ensures c.from-in-len4-up-2.ensures c.from-in-len4-up-3.ensures c.from-in-len4-up-4.ensures
