use Rattle.std.proofs.Common.{◌≡◌, ◌++◌, take, flat_map}
use Rattle.hpack_tables.specs.Huffman.{bits_of, code_of}
use Rattle.hpack_tables.specs.HuffmanSpelling.{IsRest, bits_in}
use Rattle.hpack_tables.proofs.huffman.huffman_encode.Given as goal

abbrev pub invariant-loop-byte : goal.invariant-loop-byte
invariant-loop-byte l = record {
  rest : IsRest l.rest;
  bits : bits_of l.out.items ++ bits_in l.rest ≡ flat_map code_of (take l.byte-index l.bytes);
}
