use Rattle.std.proofs.Common.{◌≡◌, ◌<◌, [], ◌++◌, length}
use Rattle.hpack_tables.specs.Huffman.{bits_of, text_of, text_behind}
use Rattle.hpack_tables.specs.HuffmanWalk.{bits_left, later}
use Rattle.hpack_tables.proofs.huffman.text_in.Given as goal

abbrev pub invariant-bytes : goal.invariant-bytes
invariant-bytes l = record {
  few : l.window.len < 30;
  text : later l.text.items (text_behind [] (bits_left l.window ++ bits_of l.rest)) ≡ text_of l.bytes;
}

abbrev pub decreases-bytes : goal.decreases-bytes
decreases-bytes l = length l.rest
