use Rattle.std.proofs.Common.{◌≡◌, ◌≤◌, [], ◌++◌}
use Rattle.hpack_tables.specs.Huffman.{number_bits, text_behind}
use Rattle.hpack_tables.specs.HuffmanWalk.{IsWalk, bits_left, later, taken}
use Rattle.hpack_tables.proofs.huffman.read_last.Given as goal

abbrev pub invariant-bits : goal.invariant-bits
invariant-bits l = record {
  walk : IsWalk l.walk;
  left : l.left ≤ l.window.len;
  text : later l.initial.text.items (text_behind [] (bits_left l.window)) ≡ later l.text.items (text_behind (taken l.walk) (number_bits l.left l.window.number ++ []));
}

abbrev pub decreases-bits : goal.decreases-bits
decreases-bits l = l.left
