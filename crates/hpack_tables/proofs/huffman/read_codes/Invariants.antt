use Rattle.std.proofs.Common.{◌≡◌, ◌<◌, Bool, List, [], ◌++◌}
use Rattle.hpack_tables.specs.Huffman.{text_behind}
use Rattle.hpack_tables.specs.HuffmanWalk.{later, bits_left}
use Rattle.hpack_tables.proofs.huffman.read_codes.Given as goal

abbrev pub invariant-codes : goal.invariant-codes
invariant-codes l = record {
  few : l.window.len < 62;
  text : (rest : List Bool) → later l.initial.text.items (text_behind [] (bits_left l.fn.from ++ rest)) ≡ later l.text.items (text_behind [] (bits_left l.window ++ rest));
}

abbrev pub decreases-codes : goal.decreases-codes
decreases-codes l = l.window.len
