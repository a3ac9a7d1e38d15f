use Rattle.std.proofs.Common.{◌≡◌, filter, not, take}
use Rattle.store_core.specs.State.{is_among, total}
use Rattle.lease_table.specs.Table.{DistinctDigests}
use Rattle.indexed_core.specs.Joined.{told, kept_flags}
use Rattle.indexed_core.proofs.index.forget.Given as goal

abbrev pub invariant-gone : goal.invariant-gone
invariant-gone l = record {
  order_is : l.order ≡ filter (λ d. not (is_among (take l.digest-index l.gone) d)) l.initial.order;
  flags_are : told l.flags ≡ kept_flags (λ q. not (is_among (take l.digest-index l.gone) q)) (told l.initial.flags);
  distinct : DistinctDigests l.order;
  sum : l.left ≡ total l.order;
}
