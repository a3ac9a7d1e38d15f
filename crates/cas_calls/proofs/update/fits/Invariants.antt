use Rattle.std.proofs.Common.{◌≡◌, ◌≤◌, length, take}
use Rattle.std.specs.List.{sum_by}
use Rattle.cas_calls.proofs.update.fits.Given as goal

abbrev pub invariant-loop-item : goal.invariant-loop-item
invariant-loop-item l = (l.size ≡ sum_by (λ item. length item.bytes) (take l.item-index l.items)) × (l.size ≤ 3_670_016)
