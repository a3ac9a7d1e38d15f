use Rattle.std.proofs.Common.{◌≡◌, take}
use Rattle.indexed_core.proofs.asking.add_all.Given as goal

-- the first rows were added
abbrev pub invariant-loop-row : goal.invariant-loop-row
invariant-loop-row l = l.index ≡ record l.fn.index { rows = take l.row-index l.rows }
