use Rattle.std.proofs.Common.{◌≡◌, ◌+◌, ◌++◌}
use Rattle.hpack_tables.specs.Huffman.{number_bits}
use Rattle.hpack_tables.specs.HuffmanWalk.{IsWalk, taken, bits_left}
use Rattle.hpack_tables.proofs.huffman.walked_code.Given as goal

abbrev pub invariant-bits : goal.invariant-bits
invariant-bits l = record {
  walk : IsWalk l.walk;
  len : l.walk.len + l.left ≡ l.window.len;
  parts : bits_left l.window ≡ taken l.walk ++ number_bits l.left l.window.number;
}

abbrev pub decreases-bits : goal.decreases-bits
decreases-bits l = l.left
