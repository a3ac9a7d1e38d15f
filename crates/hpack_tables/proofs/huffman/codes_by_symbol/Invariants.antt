use Rattle.std.proofs.Common.{◌≡◌, ◌+◌, ◌^◌, drop, sum}
use Rattle.hpack_tables.specs.HuffmanWalk.{codes_from, end_of}
use Rattle.hpack_tables.specs.HuffmanSpelling.{IsSetBut}
use Rattle.hpack_tables.specs.declared.huffman.TheConstants.{COUNTS, SYMBOLS}
use Rattle.hpack_tables.proofs.huffman.codes_by_symbol.Given as goal

abbrev pub invariant-loop-len : goal.invariant-loop-len
invariant-loop-len l = record {
  room : end_of l.first (drop l.len COUNTS) ≡ 2 ^ 30;
  symbols : l.at + sum (drop l.len COUNTS) ≡ 257;
  codes : IsSetBut l.codes (codes_from l.len l.first (drop l.len COUNTS) (drop l.at SYMBOLS));
}
