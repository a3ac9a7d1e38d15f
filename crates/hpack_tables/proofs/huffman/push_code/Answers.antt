use Rattle.std.proofs.Common.{◌++◌, ◌∙◌, refl, ap, arith}
use Rattle.hpack_tables.specs.Huffman.{bits_of}
use Rattle.hpack_tables.proofs.HuffmanEncode.{push_byte, joined, left_bits}
use Rattle.hpack_tables.proofs.huffman.push_code.Goals as goal

pub bytes-preserved : goal.bytes-preserved
bytes-preserved c = record {
  left = omega (arith, c.bytes.invariant.left);
  bits = rw c.in_ok-push.ensures.items (push_byte c.bytes.out.items c.bytes.left _ c.bytes-test.true ∙ c.bytes.invariant.bits);
}

pub returns : goal.returns
returns c =
    let l = left_bits c.bytes.left _ c.bytes-test.false in
    let less = c.bytes-test.false in (
      l.0,
      ap (λ bits. bits_of c.bytes.out.items ++ bits) l.1 ∙ c.bytes.invariant.bits
          ∙ ap (λ bits. bits_of c.args.out.now.items ++ bits) (joined c.args.before c.args.code c.requires.before c.requires.code _ (rw (c.from.ensures, c.from-2.ensures) refl)),
    )
