-- The rows are the Directories so far.
use Rattle.std.proofs.Common.{◌≡◌, All}
use Rattle.directory_canon.specs.Canon.{IsDirectory}
use Rattle.directory_canon.proofs.tree.keyed.Given as goal

abbrev pub invariant-loop-dir : goal.invariant-loop-dir
invariant-loop-dir l = record { same : l.rows.items ≡ l.yielded; are : All IsDirectory l.rows.items }
