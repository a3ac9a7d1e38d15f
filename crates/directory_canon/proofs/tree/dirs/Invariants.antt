-- The Directories are those of the rows so far.
use Rattle.std.proofs.Common.{◌≡◌}
use Rattle.directory_canon.proofs.tree.dirs.Given as goal

abbrev pub invariant-loop-row : goal.invariant-loop-row
invariant-loop-row l = l.dirs.items ≡ l.yielded
