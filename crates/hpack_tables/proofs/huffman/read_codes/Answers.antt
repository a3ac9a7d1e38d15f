use Rattle.std.proofs.Common.{◌∙◌, arith}
use Rattle.hpack_tables.specs.HuffmanWalk.{bits_left}
use Rattle.hpack_tables.proofs.HuffmanText.{none_from_later}
use Rattle.hpack_tables.proofs.HuffmanWindow.{front_end, front_symbol, front_byte}
use Rattle.std.proofs.Common.{ap}
use Rattle.hpack_tables.specs.HuffmanWalk.{later}
use Rattle.hpack_tables.proofs.huffman.read_codes.Goals as goal

pub returns-then-symbol-eq-END : goal.returns-then-symbol-eq-END
returns-then-symbol-eq-END c = λ rest.
    none_from_later c.args.text.now.items _
    (c.codes.invariant.text rest ∙ ap (later c.codes.text.items) (front_end (bits_left c.codes.window) (bits_left c.in-Some.rest) c.in-Some.symbol c.in-Some.ensures.0 c.if-symbol-eq-END.true rest))

pub overflow_cast-symbol : goal.overflow_cast-symbol
overflow_cast-symbol c =
    omega (arith, front_byte (bits_left c.codes.window) (bits_left c.in-Some.rest) c.in-Some.symbol c.in-Some.ensures.0, c.if-symbol-eq-END.false)

pub codes-preserved : goal.codes-preserved
codes-preserved c = record {
  few = omega (arith, c.in-Some.ensures.1, c.codes.invariant.few);
  text = λ rest.
      rw c.in_ok-push.ensures.items
      (c.codes.invariant.text rest ∙ front_symbol c.codes.text.items (bits_left c.codes.window) (bits_left c.in-Some.rest) c.in-Some.symbol c.in-Some.ensures.0 c.if-symbol-eq-END.false rest);
}
