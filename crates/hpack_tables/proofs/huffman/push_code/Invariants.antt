use Rattle.std.proofs.Common.{◌≡◌, ◌≤◌, ◌++◌}
use Rattle.hpack_tables.specs.Huffman.{bits_of, number_bits}
use Rattle.hpack_tables.proofs.huffman.push_code.Given as goal

abbrev pub invariant-bytes : goal.invariant-bytes
invariant-bytes l = record {
  left : l.left ≤ 37;
  bits : bits_of l.out.items ++ number_bits l.left l.number ≡ bits_of l.initial.out.items ++ number_bits l.initial.left l.number;
}

abbrev pub decreases-bytes : goal.decreases-bytes
decreases-bytes l = l.left
