use Rattle.std.proofs.Common.{◌≡◌, ◌+◌, take}
use Rattle.hpack_tables.specs.Table.{list_size}
use Rattle.h2_session.specs.Codes.{max_list}
use Rattle.h2_session.proofs.sayable.are_small.Given as goal

abbrev pub invariant-headers : goal.invariant-headers
invariant-headers l = l.room + list_size (take l.header-index l.headers) ≡ max_list
