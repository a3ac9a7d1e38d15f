use Rattle.std.proofs.Common.{length, refl, arith, ap}
use Rattle.hpack_tables.proofs.HuffmanEncode.{set_none, next_room, next_first, next_symbols, next_at, length-next, next_small, next_codes}
use Rattle.hpack_tables.proofs.huffman.codes_by_symbol.Goals as goal

pub loop-len-init : goal.loop-len-init
loop-len-init c = record { room = refl; symbols = refl; codes = set_none }

pub overflow_mul-first : goal.overflow_mul-first
overflow_mul-first c =
    omega (arith, next_first c.loop-len.first c.loop-len.at c.loop-len.len c.count_at-count.result c.loop-len.invariant.room c.loop-len.invariant.symbols c.loop-len-test.true c.count_at-count.ensures)

pub symbols_at-requires : goal.symbols_at-requires
symbols_at-requires c =
    next_at c.loop-len.first c.loop-len.at c.loop-len.len c.count_at-count.result c.loop-len.invariant.room c.loop-len.invariant.symbols c.loop-len-test.true c.count_at-count.ensures

pub set_codes-requires-clause-symbols : goal.set_codes-requires-clause-symbols
set_codes-requires-clause-symbols c =
    rw c.symbols_at.ensures
    (next_small c.loop-len.first c.loop-len.at c.loop-len.len c.count_at-count.result c.loop-len.invariant.room c.loop-len.invariant.symbols c.loop-len-test.true c.count_at-count.ensures)

pub set_codes-requires-clause-fits : goal.set_codes-requires-clause-fits
set_codes-requires-clause-fits c =
    omega (
      arith,
      next_first c.loop-len.first c.loop-len.at c.loop-len.len c.count_at-count.result c.loop-len.invariant.room c.loop-len.invariant.symbols c.loop-len-test.true c.count_at-count.ensures,
      ap length c.symbols_at.ensures,
      length-next c.loop-len.first c.loop-len.at c.loop-len.len c.count_at-count.result c.loop-len.invariant.room c.loop-len.invariant.symbols c.loop-len-test.true c.count_at-count.ensures,
    )

pub overflow_add-first : goal.overflow_add-first
overflow_add-first c =
    omega (arith, next_first c.loop-len.first c.loop-len.at c.loop-len.len c.count_at-count.result c.loop-len.invariant.room c.loop-len.invariant.symbols c.loop-len-test.true c.count_at-count.ensures)

pub loop-len-preserved : goal.loop-len-preserved
loop-len-preserved c = record {
  room = next_room c.loop-len.first c.loop-len.at c.loop-len.len c.count_at-count.result c.loop-len.invariant.room c.loop-len.invariant.symbols c.loop-len-test.true c.count_at-count.ensures;
  symbols = next_symbols c.loop-len.first c.loop-len.at c.loop-len.len c.count_at-count.result c.loop-len.invariant.room c.loop-len.invariant.symbols c.loop-len-test.true c.count_at-count.ensures;
  codes = c.set_codes.ensures _
      (rw c.symbols_at.ensures
      (next_codes c.loop-len.first c.loop-len.at c.loop-len.len c.count_at-count.result c.loop-len.invariant.room c.loop-len.invariant.symbols c.loop-len-test.true c.count_at-count.ensures c.loop-len.codes c.loop-len.invariant.codes));
}
