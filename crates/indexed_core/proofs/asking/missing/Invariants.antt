use Rattle.std.proofs.Common.{◌≡◌, drop, not}
use Rattle.store_core.specs.Step.{is_here, missing}
use Rattle.store_core.proofs.FirstMentions.{so_far}
use Rattle.indexed_core.proofs.asking.missing.Given as goal

-- those so far, and the first mentions of the rest that aren't among them, are all
abbrev pub invariant-loop-digest : goal.invariant-loop-digest
invariant-loop-digest l = so_far (λ d. not (is_here l.index.rows d)) l.missing.keys (drop l.digest-index l.digests) ≡ missing l.index.rows l.digests
