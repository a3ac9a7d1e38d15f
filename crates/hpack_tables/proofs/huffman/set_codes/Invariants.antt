use Rattle.std.proofs.Common.{◌≡◌, ◌+◌, List, ◌++◌, drop, length}
use Rattle.hpack_tables.specs.Huffman.{Code, one_length}
use Rattle.hpack_tables.specs.HuffmanSpelling.{IsSetBut}
use Rattle.hpack_tables.proofs.huffman.set_codes.Given as goal

abbrev pub invariant-loop-symbol : goal.invariant-loop-symbol
invariant-loop-symbol l = record {
  enough : length l.codes ≡ 257;
  number : l.number ≡ l.first + l.symbol-index;
  codes : (rest : List Code) → IsSetBut l.initial.codes (one_length l.len l.first l.symbols ++ rest) → IsSetBut l.codes (one_length l.len l.number (drop l.symbol-index l.symbols) ++ rest);
}
