-- The marks within as many steps as were done.
use Rattle.std.proofs.Common.{◌≡◌}
use Rattle.store_core.specs.Marks.{near}
use Rattle.store_core.specs.Reach.{blobs}
use Rattle.store_core.proofs.reach.near.Given as goal

abbrev pub invariant-steps : goal.invariant-steps
invariant-steps l = l.marks.items ≡ near (blobs l.rows) l.starts l.counter
