use Rattle.std.proofs.Common.{arith}
use Rattle.hpack_tables.specs.Huffman.{bits_of}
use Rattle.hpack_tables.specs.HuffmanSpelling.{bits_in}
use Rattle.hpack_tables.proofs.HuffmanEncode.{code_is_set, next_text, coded}
use Rattle.hpack_tables.proofs.huffman.huffman_encode.Goals as goal

pub push_code-requires-clause-code : goal.push_code-requires-clause-code
push_code-requires-clause-code c =
    let small = c.type_inv.bytes c.loop-byte.byte-index in
    (code_is_set c.codes_by_symbol-codes.result _ _ c.codes_by_symbol-codes.ensures (omega arith)).0

pub loop-byte-preserved : goal.loop-byte-preserved
loop-byte-preserved c =
    let small = c.type_inv.bytes c.loop-byte.byte-index in
    record {
      rest = c.in_ok-rest.ensures.0;
      bits = next_text c.codes_by_symbol-codes.result c.args.bytes.now c.loop-byte.byte-index (record { number = 0; len = 0 })
          (bits_of c.loop-byte.out.items) (bits_of c.push_code.new.out.items) (bits_in c.loop-byte.rest) (bits_in c.in_ok-rest.rest)
          c.loop-byte-test.true
          (code_is_set c.codes_by_symbol-codes.result _ _ c.codes_by_symbol-codes.ensures (omega arith)).1
          c.loop-byte.invariant.bits
          c.in_ok-rest.ensures.1;
    }

pub returns : goal.returns
returns c =
    rw c.from_vec.ensures
    (coded c.args.bytes.now c.loop-byte.out.items c.loop-byte.rest c.loop-byte.byte-index c.push_rest.new.out.items (λ i. omega (arith, c.type_inv.bytes i)) c.loop-byte-test.false c.loop-byte.invariant.bits c.in_ok-push_rest.ensures)
