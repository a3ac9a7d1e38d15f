use Rattle.std.proofs.Common.{◌≡◌, take}
use Rattle.lease_table.specs.Table.{without}
use Rattle.lease_table.proofs.index.Index.remove.Given as goal

abbrev pub invariant-gone : goal.invariant-gone
invariant-gone l = l.self ≡ without (take l.digest-index l.gone) l.fn.self
