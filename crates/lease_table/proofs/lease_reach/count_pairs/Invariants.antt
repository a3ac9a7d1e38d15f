use Rattle.std.proofs.Common.{◌+◌, ◌-◌, ◌<◌, ◌≤◌, ◌^◌, ℕ, take}
use Rattle.indexmap.specs.IndexMap.{spare}
use Rattle.digest_types.specs.Name.{HashAndSize}
use Rattle.lease_table.specs.Table.{sizes}
use Rattle.lease_table.specs.Tallies.{touch, IsTallied}
use Rattle.lease_table.proofs.lease_reach.count_pairs.Given as goal

abbrev pub invariant-pairs : goal.invariant-pairs
invariant-pairs l = record {
  room : l.len - l.at ≤ spare l.tally.counts;
  used : spare l.fn.tally.counts + (l.len - l.at) ≤ spare l.tally.counts + (l.len - l.reach.len);
  tallied : (f : HashAndSize → ℕ) → ((d : HashAndSize) → f d < 2 ^ 64 - 1) → sizes l.rows ≤ 2 ^ 62
      → IsTallied l.rows (λ d. f d + touch (take l.reach.len l.reach.pairs) d) l.fn.tally.counts.entries l.fn.tally.bytes
      → IsTallied l.rows (λ d. f d + touch (take l.at l.reach.pairs) d) l.tally.counts.entries l.tally.bytes;
}
