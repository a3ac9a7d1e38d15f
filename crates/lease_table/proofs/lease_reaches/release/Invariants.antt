use Rattle.std.proofs.Common.{◌≡◌, ◌+◌, ℕ, length, true, not, take, filter}
use Rattle.std.specs.List.{AllByRecursion}
use Rattle.digest_types.specs.Name.{HashAndSize}
use Rattle.lease_table.specs.Table.{has_id}
use Rattle.lease_table.specs.Tallies.{IsTallied}
use Rattle.lease_table.specs.LeaseReaches.{shares, total_in}
use Rattle.lease_table.proofs.lease_reaches.release.Given as goal

abbrev pub invariant-kept : goal.invariant-kept
invariant-kept l = record {
  left : filter (λ reach. not (has_id l.id reach.lease)) l.kept.items ≡ filter (λ reach. not (has_id l.id reach.lease)) l.fn.kept.items;
  gone : AllByRecursion (λ reach. has_id l.id reach.lease ≡ true → reach.len ≡ 0) (take l.i l.kept.items);
  many : length l.kept.items ≡ length l.fn.kept.items;
  tallied : (others : HashAndSize → ℕ)
      → IsTallied l.rows (λ d. total_in (shares l.fn.kept.items) d + others d) l.fn.tally.counts.entries l.fn.tally.bytes
      → IsTallied l.rows (λ d. total_in (shares l.kept.items) d + others d) l.tally.counts.entries l.tally.bytes;
}
