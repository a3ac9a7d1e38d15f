use Rattle.lease_table.proofs.DepthLaws.{IsNear}
use Rattle.lease_table.proofs.depth.near.Given as goal

abbrev pub invariant-steps : goal.invariant-steps
invariant-steps l = IsNear l.rows l.starts l.pairs l.counter l.from
