use Rattle.std.proofs.Common.{arith, ◌∙◌}
use Rattle.std.proofs.lemmas.List.{drop_all, length-set}
use Rattle.hpack_tables.proofs.HuffmanEncode.{set_next}
use Rattle.hpack_tables.proofs.huffman.set_codes.Goals as goal

pub loop-symbol-preserved : goal.loop-symbol-preserved
loop-symbol-preserved c = record {
  enough = length-set _ _ _ ∙ c.loop-symbol.invariant.enough;
  number = omega (arith, c.loop-symbol.invariant.number);
  codes = λ rest h. set_next c.loop-symbol.codes c.args.len c.loop-symbol.number c.loop-symbol.symbol-index c.args.symbols.now rest c.loop-symbol-test.true (c.loop-symbol.invariant.codes rest h);
}

pub returns : goal.returns
returns c = λ rest h.
    let e = drop_all c.loop-symbol.symbol-index c.args.symbols.now c.loop-symbol-test.false in
    let s = c.loop-symbol.invariant.codes rest h in
    rw e at s
