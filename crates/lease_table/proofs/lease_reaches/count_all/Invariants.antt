use Rattle.std.proofs.Common.{◌≡◌, ◌+◌, ◌<◌, ◌≤◌, ◌^◌, ℕ, take, drop}
use Rattle.digest_types.specs.Name.{HashAndSize}
use Rattle.indexmap.specs.IndexMap.{spare}
use Rattle.lease_table.specs.Tallies.{IsTallied}
use Rattle.lease_table.specs.LeaseReaches.{shares, wholes, total_in, uncounted, AreFull}
use Rattle.lease_table.proofs.lease_reaches.count_all.Given as goal

abbrev pub invariant-kept : goal.invariant-kept
invariant-kept l = record {
  whole : wholes l.kept.items ≡ wholes l.fn.kept.items;
  full : AreFull (take l.i l.kept.items);
  room : uncounted (drop l.i l.kept.items) ≤ spare l.tally.counts;
  used : spare l.fn.tally.counts + uncounted (drop l.i l.kept.items) ≤ spare l.tally.counts + uncounted l.fn.kept.items;
  tallied : (others : HashAndSize → ℕ) → ((d : HashAndSize) → others d < 2 ^ 63)
      → IsTallied l.rows (λ d. total_in (shares l.fn.kept.items) d + others d) l.fn.tally.counts.entries l.fn.tally.bytes
      → IsTallied l.rows (λ d. total_in (shares l.kept.items) d + others d) l.tally.counts.entries l.tally.bytes;
}
