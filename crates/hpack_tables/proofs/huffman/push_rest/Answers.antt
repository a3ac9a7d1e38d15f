use Rattle.std.proofs.Common.{refl, arith}
use Rattle.hpack_tables.proofs.HuffmanEncode.{last_number, padded}
use Rattle.hpack_tables.proofs.huffman.push_rest.Goals as goal

pub overflow_cast-number : goal.overflow_cast-number
overflow_cast-number c = let l = last_number c.args.rest c.requires in omega (arith, l.0, l.1)

pub returns-in_ok-push : goal.returns-in_ok-push
returns-in_ok-push c = padded c.args.out.now.items c.args.rest _ c.push.new.self.items c.requires c.in_ok-push.ensures.items c.if-rest-gt0.true refl
