use Rattle.hpack_tables.proofs.HuffmanSteps.{symbol_place, steps_to_symbol, steps_to_more}
use Rattle.hpack_tables.proofs.huffman.next_bit.Goals as goal

pub symbol_at-requires : goal.symbol_at-requires
symbol_at-requires c =
    symbol_place c.args.walk c.requires c.args.bit _ _ c.count_at-count.ensures c.number_of.ensures c.if-number-first.true

pub returns-then-number-first : goal.returns-then-number-first
returns-then-number-first c =
    steps_to_symbol c.args.walk c.requires c.args.bit _ _ c.count_at-count.ensures c.number_of.ensures _ c.if-number-first.true c.symbol_at.ensures

pub returns : goal.returns
returns c =
    steps_to_more c.args.walk c.requires c.args.bit _ _ c.count_at-count.ensures c.number_of.ensures c.if-number-first.false
