use Rattle.std.proofs.Common.{◌≡◌, ◌≤◌, length, take}
use Rattle.std.specs.Prelude.{filter}
use Rattle.hpack_tables.specs.Encoding.{has_name}
use Rattle.h2_session.proofs.request.count_of.Given as goal

abbrev pub invariant-headers : goal.invariant-headers
invariant-headers l = (l.count ≤ l.header-index) × (l.count ≡ length (filter (has_name l.name) (take l.header-index l.headers)))
