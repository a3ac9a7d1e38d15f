use Rattle.std.proofs.Common.{◌<◌, arith}
use Rattle.hpack_tables.proofs.HuffmanSteps.{more_bits}
use Rattle.hpack_tables.proofs.HuffmanWindow.{seven_ones, walked_on, walked_len, walked_front}
use Rattle.hpack_tables.proofs.huffman.walked_code.Goals as goal

pub bits-init : goal.bits-init
bits-init c = record { walk = seven_ones; len = omega (arith, c.requires.enough); parts = c.requires.ones }

pub bits-preserved : goal.bits-preserved
bits-preserved c =
    let some : 0 < c.bits.left = omega (arith, more_bits c.bits.walk c.bits.invariant.walk, c.bits.invariant.len, c.requires.enough) in
    record {
      walk = c.in-More.ensures.0;
      len = omega (arith, walked_len c.bits.walk c.bits.left c.args.window.number _ some c.bits.invariant.parts c.in-More.next c.in-More.ensures, c.bits.invariant.len, some);
      parts = walked_on c.bits.walk c.bits.left c.args.window.number _ some c.bits.invariant.parts c.in-More.next c.in-More.ensures;
    }

pub returns-in-Symbol-clause-front : goal.returns-in-Symbol-clause-front
returns-in-Symbol-clause-front c =
    walked_front c.bits.walk c.bits.left c.args.window.number _ (omega (arith, more_bits c.bits.walk c.bits.invariant.walk, c.bits.invariant.len, c.requires.enough)) c.bits.invariant.parts c.in-Symbol.symbol c.in-Symbol.ensures
