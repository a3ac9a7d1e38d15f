use Rattle.std.proofs.Common.{arith}
use Rattle.hpack_tables.specs.Encoding.{is_header}
use Rattle.hpack_tables.proofs.Places.{place_small}
use Rattle.hpack_tables.proofs.encode.push_header.Goals as goal

pub overflow_add-place : goal.overflow_add-place
overflow_add-place c = omega (arith, place_small (is_header c.args.header.now) c.in-Some.place c.in-Some.ensures)
