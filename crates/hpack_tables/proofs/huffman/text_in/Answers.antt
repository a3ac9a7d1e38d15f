use Rattle.std.proofs.Common.{arith}
use Rattle.hpack_tables.proofs.HuffmanText.{text_begin}
use Rattle.hpack_tables.proofs.huffman.text_in.Goals as goal

pub bytes-init : goal.bytes-init
bytes-init c = record { few = omega arith; text = text_begin c.in_ok-text.text.items c.args.bytes.now c.in_ok-text.ensures.items }
