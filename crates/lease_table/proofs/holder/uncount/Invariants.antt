use Rattle.std.proofs.Common.{◌+◌, ◌≤◌, ◌^◌, ℕ, cond, drop}
use Rattle.digest_types.specs.Name.{HashAndSize}
use Rattle.store_core.specs.State.{is_among}
use Rattle.lease_table.specs.Table.{sizes}
use Rattle.lease_table.specs.Tallies.{IsTallied}
use Rattle.lease_table.specs.Holds.{held_by}
use Rattle.lease_table.proofs.holder.uncount.Given as goal

abbrev pub invariant-digests : goal.invariant-digests
invariant-digests l = (f : HashAndSize → ℕ) → sizes l.rows ≤ 2 ^ 62
    → IsTallied l.rows (λ d. f d + held_by l.holder d) l.fn.tally.counts.entries l.fn.tally.bytes
    → IsTallied l.rows (λ d. f d + cond (is_among (drop l.at l.holder.digests) d) 1 0) l.tally.counts.entries l.tally.bytes
