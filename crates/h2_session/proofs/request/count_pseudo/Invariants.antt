use Rattle.std.proofs.Common.{◌≡◌, ◌≤◌, length, take}
use Rattle.std.specs.Prelude.{filter}
use Rattle.h2_session.specs.Requests.{is_pseudo}
use Rattle.h2_session.proofs.request.count_pseudo.Given as goal

abbrev pub invariant-headers : goal.invariant-headers
invariant-headers l = (l.count ≤ l.header-index) × (l.count ≡ length (filter is_pseudo (take l.header-index l.headers)))
