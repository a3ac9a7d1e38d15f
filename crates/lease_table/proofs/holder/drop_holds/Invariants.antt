use Rattle.std.proofs.Common.{◌≡◌, ◌+◌, ℕ, [], length, true, take}
use Rattle.std.specs.List.{AllByRecursion}
use Rattle.digest_types.specs.Name.{HashAndSize}
use Rattle.store_core.specs.State.{is_holder, other_holds}
use Rattle.lease_table.specs.Tallies.{IsTallied}
use Rattle.lease_table.specs.Holds.{holders}
use Rattle.lease_table.proofs.holder.drop_holds.Given as goal

abbrev pub invariant-holds : goal.invariant-holds
invariant-holds l = record {
  left : other_holds l.owner l.holds.items ≡ other_holds l.owner l.fn.holds.items;
  gone : AllByRecursion (λ held. is_holder l.owner held ≡ true → held.digests ≡ []) (take l.i l.holds.items);
  many : length l.holds.items ≡ length l.fn.holds.items;
  tallied : (f : HashAndSize → ℕ)
      → IsTallied l.rows (λ d. f d + holders l.fn.holds.items d) l.fn.tally.counts.entries l.fn.tally.bytes
      → IsTallied l.rows (λ d. f d + holders l.holds.items d) l.tally.counts.entries l.tally.bytes;
}
