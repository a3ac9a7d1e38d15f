use Rattle.std.proofs.Common.{arith}
use Rattle.hpack_tables.specs.Encoding.{has_name}
use Rattle.hpack_tables.proofs.Places.{place_small}
use Rattle.hpack_tables.proofs.encode.push_name.Goals as goal

pub overflow_add-place : goal.overflow_add-place
overflow_add-place c = omega (arith, place_small (has_name c.args.name.now) c.in-Some.place c.in-Some.ensures)
