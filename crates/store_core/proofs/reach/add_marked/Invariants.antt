-- The edges of the rows so far that are marked.
use Rattle.std.proofs.Common.{◌≡◌, cond, ◌++◌, []}
use Rattle.std.specs.Prelude.{flat_map, unwrap_or}
use Rattle.store_core.proofs.reach.add_marked.Given as goal

abbrev pub invariant-loop-row : goal.invariant-loop-row
invariant-loop-row l = l.pairs.items ≡ l.initial.pairs.items ++ flat_map (λ p. cond p.1.now (unwrap_or p.0.now.edges []) []) l.yielded
