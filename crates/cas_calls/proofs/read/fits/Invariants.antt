use Rattle.std.proofs.Common.{◌≡◌, ◌≤◌, take}
use Rattle.std.specs.List.{sum_by}
use Rattle.cas_calls.proofs.read.fits.Given as goal

abbrev pub invariant-loop-digest : goal.invariant-loop-digest
invariant-loop-digest l = (l.size ≡ sum_by (λ d. d.size) (take l.digest-index l.digests)) × (l.size ≤ 3_670_016)
