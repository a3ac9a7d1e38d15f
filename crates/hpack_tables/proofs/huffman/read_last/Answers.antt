use Rattle.std.proofs.Common.{[], ◌∙◌, ap, arith}
use Rattle.hpack_tables.specs.Huffman.{is_padding}
use Rattle.hpack_tables.specs.HuffmanWalk.{bits_left, later, taken}
use Rattle.hpack_tables.proofs.HuffmanText.{begin_walk, text_more, text_end, text_symbol}
use Rattle.hpack_tables.proofs.HuffmanWindow.{last_begin, last_end, last_padded}
use Rattle.hpack_tables.proofs.huffman.read_last.Goals as goal

pub bits-init : goal.bits-init
bits-init c = record { walk = begin_walk; left = omega arith; text = last_begin c.args.text.now.items (bits_left c.args.window) }

pub bits-preserved-in-More : goal.bits-preserved-in-More
bits-preserved-in-More c = record {
  walk = c.in-More.ensures.0;
  left = omega (arith, c.bits.invariant.left);
  text = c.bits.invariant.text ∙ ap (later c.bits.text.items) (text_more c.bits.walk c.bits.left c.args.window.number (omega arith) c.in-More.next c.in-More.ensures []);
}

pub returns-then-symbol-eq-END : goal.returns-then-symbol-eq-END
returns-then-symbol-eq-END c =
    c.bits.invariant.text ∙ ap (later c.bits.text.items) (text_end c.bits.walk c.bits.left c.args.window.number (omega arith) c.in-Symbol.symbol c.in-Symbol.ensures c.if-symbol-eq-END.true [])

pub bits-preserved : goal.bits-preserved
bits-preserved c = record {
  walk = begin_walk;
  left = omega (arith, c.bits.invariant.left);
  text =
      rw c.in_ok-push-in-Symbol.ensures.items
      (c.bits.invariant.text ∙ text_symbol c.bits.walk c.bits.left c.args.window.number (omega arith) c.in-Symbol.symbol c.in-Symbol.ensures c.if-symbol-eq-END.false c.bits.text.items []);
}

pub returns : goal.returns
returns c =
    last_end c.args.text.now.items c.bits.text.items (bits_left c.args.window) (taken c.bits.walk) c.bits.left c.args.window.number c.is_padded-2.result (omega arith) (c.is_padded-2.ensures ∙ ap is_padding c.walked.ensures) c.bits.invariant.text

pub returns-then-is_padded : goal.returns-then-is_padded
returns-then-is_padded c = last_padded c.args.text.now.items (bits_left c.args.window) c.if-is_padded.ensures
