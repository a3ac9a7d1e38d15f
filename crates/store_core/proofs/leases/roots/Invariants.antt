use Rattle.std.proofs.Common.{◌≡◌, take}
use Rattle.store_core.specs.State.{roots}
use Rattle.store_core.proofs.leases.roots.Given as goal

abbrev pub invariant-loop-lease : goal.invariant-loop-lease
invariant-loop-lease l = l.edges.items ≡ roots (take l.lease-index l.leases)
